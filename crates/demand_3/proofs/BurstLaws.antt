-- Laws of bursts: two that touch no place in common commute, and what one byte of memory holds after a burst.
-- Assumes nothing.
use Rattle.std.specs.Prelude.{◌≡◌, refl, Bool, true, false, cond, ℕ, ◌+◌, ◌<◌, eqb, length, set, get_or}
use Rattle.std.proofs.Common.{ap, ◌∙◌, sym, arith, length-set, get_or-set_same, get_or-set_other, eqb-true}
use mathlib.Core.List.Memᴰ
use mathlib.Core.List.{List, [], ◌∷◌, Mem, mem-cons_self, mem-cons_of_mem, not-mem-nil}
use Rattle.std.proofs.Math.Logic.Or
use mathlib.Core.List.{eq-or-mem_of_mem-cons}
use Rattle.std.proofs.Math.Bridge.{le_prop}
use Rattle.std.proofs.lemmas.List.{set_comm}
use Rattle.std.proofs.lemmas.Bool.{eqb-false}
use Rattle.basis.specs.Truth.{cond_same}
use Rattle.basis.specs.Counting.{how_many, each_passes}
use Rattle.units.specs.declared.Bytes.{Bytes}
use Rattle.units.specs.Units.{bytes}
use Rattle.demand_3.specs.Bursts.{Burst, store_one, store_from, store, places_from, places_of, shut_all, last_from, left_at}

-- ---- two stores at two places
swap_two : (p q : Bool) (l : List ℕ) (i j x y : ℕ) → (i ≡ j → ⊥)
    → cond q (cond p l (set l i x)) (set (cond p l (set l i x)) j y) ≡ cond p (cond q l (set l j y)) (set (cond q l (set l j y)) i x)
swap_two true true l i j x y n = refl
swap_two true false l i j x y n = refl
swap_two false true l i j x y n = refl
swap_two false false l i j x y n = set_comm l i j x y n

-- one byte past a burst that does not touch its place
one_past : (b c : Burst) (i x j : ℕ) (ys l : List ℕ) → (Mem (b.place (bytes i)) (places_from c j ys) → ⊥)
    → store_from c j ys (store_one b i x l) ≡ store_one b i x (store_from c j ys l)
unfolding store_from places_from
one_past b c i x j [] l n = refl
one_past b c i x j (y ∷ ys) l n =
    ap (store_from c (j + 1) ys) (swap_two (b.shut (b.place (bytes i))) (c.shut (c.place (bytes j))) l (b.place (bytes i)) (c.place (bytes j)) x y (λ e. n ∣ Memᴰ.head e ∣₁))
    ∙ one_past b c i x (j + 1) ys (store_one c j y l) (λ m. n (mem-cons_of_mem _ m))

all_past : (b c : Burst) (i j : ℕ) (xs ys l : List ℕ) → ((a : ℕ) → Mem a (places_from b i xs) → Mem a (places_from c j ys) → ⊥)
    → store_from c j ys (store_from b i xs l) ≡ store_from b i xs (store_from c j ys l)
unfolding store_from places_from
all_past b c i j [] ys l n = refl
all_past b c i j (x ∷ xs) ys l n =
    all_past b c (i + 1) j xs ys (store_one b i x l) (λ a m. n a (mem-cons_of_mem _ m))
    ∙ ap (store_from b (i + 1) xs) (one_past b c i x j ys l (n (b.place (bytes i)) mem-cons_self))

-- BURSTS THAT TOUCH NO PLACE IN COMMON COMMUTE
pub bursts_commute : (b c : Burst) (l : List ℕ) → ((a : ℕ) → Mem a (places_of b) → Mem a (places_of c) → ⊥) → store c (store b l) ≡ store b (store c l)
bursts_commute b c l n = all_past b c 0 0 b.sent c.sent l n

-- ---- a memory keeps its length
one_length : (p : Bool) (l : List ℕ) (i x : ℕ) → length (cond p l (set l i x)) ≡ length l
one_length true l i x = refl
one_length false l i x = length-set l i x

from_length : (b : Burst) (i : ℕ) (xs l : List ℕ) → length (store_from b i xs l) ≡ length l
unfolding store_from
from_length b i [] l = refl
from_length b i (x ∷ xs) l = from_length b (i + 1) xs (store_one b i x l) ∙ one_length (b.shut (b.place (bytes i))) l (b.place (bytes i)) x

pub store_length : (b : Burst) (l : List ℕ) → length (store b l) ≡ length l
store_length b l = from_length b 0 b.sent l

-- ---- one byte of memory
-- one byte stored, seen at the place a
turn : (b : Burst) (l : List ℕ) (a p x : ℕ) (f : ℕ → ℕ) → a < length l → (t : Bool) → eqb p a ≡ t → (s : Bool) → b.shut p ≡ s
    → cond (b.shut a) (get_or (cond s l (set l p x)) a 0) (f (get_or (cond s l (set l p x)) a 0)) ≡ cond (b.shut a) (get_or l a 0) (f (cond t x (get_or l a 0)))
turn b l a p x f k true e true h = let i : b.shut a ≡ true = ap b.shut (sym (eqb-true p a e)) ∙ h in rw i
turn b l a p x f k true e false h =
    let i : b.shut a ≡ false = ap b.shut (sym (eqb-true p a e)) ∙ h in
    rw i (ap f (ap (λ (j : ℕ). get_or (set l j x) a 0) (eqb-true p a e) ∙ get_or-set_same l a x 0 k))
turn b l a p x f k false e true h = refl
turn b l a p x f k false e false h = rw (get_or-set_other l p a x 0 (λ q. eqb-false p a e (sym q)))

left_from : (b : Burst) (a i : ℕ) (xs l : List ℕ) → a < length l → get_or (store_from b i xs l) a 0 ≡ cond (b.shut a) (get_or l a 0) (last_from b a i xs (get_or l a 0))
unfolding store_from last_from
left_from b a i [] l h = sym (cond_same (b.shut a) (get_or l a 0))
left_from b a i (x ∷ xs) l h =
    let p = b.place (bytes i) in
    left_from b a (i + 1) xs (store_one b i x l) (rw (one_length (b.shut p) l p x) h) ∙ turn b l a p x (last_from b a (i + 1) xs) h (eqb p a) refl (b.shut p) refl

-- WHAT A BYTE HOLDS AFTER A BURST
pub store_left : (b : Burst) (l : List ℕ) (a : ℕ) → a < length l → get_or (store b l) a 0 ≡ left_at b a (get_or l a 0)
store_left b l a h = left_from b a 0 b.sent l h

-- a place that a burst does not touch keeps its byte
one_kept : (p : Bool) (l : List ℕ) (i x a : ℕ) → (a ≡ i → ⊥) → get_or (cond p l (set l i x)) a 0 ≡ get_or l a 0
one_kept true l i x a n = refl
one_kept false l i x a n = get_or-set_other l i a x 0 n

from_kept : (b : Burst) (a i : ℕ) (xs l : List ℕ) → (Mem a (places_from b i xs) → ⊥) → get_or (store_from b i xs l) a 0 ≡ get_or l a 0
unfolding store_from places_from
from_kept b a i [] l n = refl
from_kept b a i (x ∷ xs) l n =
    from_kept b a (i + 1) xs (store_one b i x l) (λ m. n (mem-cons_of_mem _ m)) ∙ one_kept (b.shut (b.place (bytes i))) l (b.place (bytes i)) x a (λ e. n ∣ Memᴰ.head e ∣₁)

pub store_kept : (b : Burst) (l : List ℕ) (a : ℕ) → (Mem a (places_of b) → ⊥) → get_or (store b l) a 0 ≡ get_or l a 0
store_kept b l a n = from_kept b a 0 b.sent l n

-- ---- a burst into protected places only stores nothing
shut_from : (b : Burst) (i : ℕ) (xs l : List ℕ) → ((j : ℕ) → j < i + length xs → b.shut (b.place (bytes j)) ≡ true) → store_from b i xs l ≡ l
unfolding store_from
shut_from b i [] l h = refl
shut_from b i (x ∷ xs) l h = rw (h i (omega arith)) (shut_from b (i + 1) xs l (λ j k. h j (omega arith)))

pub store_shut : (b : Burst) (l : List ℕ) → shut_all b ≡ true → store b l ≡ l
unfolding shut_all
store_shut b l e =
    let shut : ℕ → Bool = λ i. b.shut (b.place (bytes i)) in
    let n = length b.sent in
    let all = eqb-true (how_many shut n) n e in
    shut_from b 0 b.sent l (λ j h. each_passes shut n all j (omega arith))

-- ---- where every byte lies below an edge, so does every touched place
from_below : (b : Burst) (edge : ℕ) → ((i : Bytes) → b.place i < edge) → (a i : ℕ) (xs : List ℕ) → Mem a (places_from b i xs) → a < edge
unfolding places_from
from_below b edge h a i [] m = absurd (not-mem-nil m)
from_below b edge h a i (x ∷ xs) m =
    Or.elim le_prop (eq-or-mem_of_mem-cons m) (λ e. rw e (h (bytes i))) (λ k. from_below b edge h a (i + 1) xs k)

pub places_below : (b : Burst) (edge : ℕ) → ((i : Bytes) → b.place i < edge) → (a : ℕ) → Mem a (places_of b) → a < edge
places_below b edge h a m = from_below b edge h a 0 b.sent m
