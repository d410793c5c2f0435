-- A computed test that no two bursts of a list touch a place in common, for the examples.
-- Assumes nothing.
use Rattle.std.specs.Prelude.{◌≡◌, Bool, true, not, ◌&&◌, ℕ, eqb}
use Rattle.std.proofs.Common.{ap, ◌∙◌, sym, subst, eq-eqb}
use Rattle.std.proofs.Math.Logic.{∥∥₁_elim}
use mathlib.Core.HLevel.{Π_prop, ⊥_prop}
use mathlib.Core.List.{List, [], ◌∷◌, Mem, Memᴰ, Pairwise}
use Rattle.basis.specs.Truth.{both_true, untrue, or_left, or_right}
use Rattle.basis.specs.Rows.{among}
use Rattle.record.specs.declared.devices.Setting.{Setting}
use Rattle.demand_3.specs.Episodes.{touched, Apart}

-- none of the first is one of the second
abbrev pub disjoint : List ℕ → List ℕ → Bool
disjoint [] ys = true
disjoint (x ∷ xs) ys = not (among x ys) && disjoint xs ys

is_among : {a : ℕ} {xs : List ℕ} → Memᴰ a xs → among a xs ≡ true
is_among {a} (Memᴰ.head {x} {xs} e) = or_left (eqb a x) (among a xs) (eq-eqb a x e)
is_among {a} (Memᴰ.tail {x} {xs} m) = or_right (eqb a x) (among a xs) (is_among m)

none_among : {a : ℕ} (xs ys : List ℕ) → disjoint xs ys ≡ true → Memᴰ a xs → not (among a ys) ≡ true
none_among {a = a} [] ys d x = elim x [ ]
none_among (x ∷ xs) ys d (Memᴰ.head e) = ap (λ (z : ℕ). not (among z ys)) e ∙ (both_true (not (among x ys)) (disjoint xs ys) d).0
none_among (x ∷ xs) ys d (Memᴰ.tail m) = none_among xs ys (both_true (not (among x ys)) (disjoint xs ys) d).1 m

no_common : (xs ys : List ℕ) → disjoint xs ys ≡ true → (a : ℕ) → Mem a xs → Mem a ys → ⊥
no_common xs ys d a m n =
    ∥∥₁_elim m ⊥_prop (λ p. ∥∥₁_elim n ⊥_prop (λ q. untrue (sym (ap not (is_among q)) ∙ none_among xs ys d p)))

-- the touched places of each item, against those of the items after it
abbrev pub each_disjoint : Setting → List (List ℕ) → List (List (List ℕ)) → Bool
each_disjoint s e [] = true
each_disjoint s e (f ∷ l) = disjoint (touched s e) (touched s f) && each_disjoint s e l

abbrev pub all_disjoint : Setting → List (List (List ℕ)) → Bool
all_disjoint s [] = true
all_disjoint s (e ∷ l) = each_disjoint s e l && all_disjoint s l

each_apart : (s : Setting) (e : List (List ℕ)) (l : List (List (List ℕ))) → each_disjoint s e l ≡ true → {f : List (List ℕ)} → Memᴰ f l → Apart s e f
each_apart s e [] d {f = f} x = elim x [ ]
each_apart s e (g ∷ l) d (Memᴰ.head p) =
    subst (λ (z : List (List ℕ)). Apart s e z) (sym p) (no_common (touched s e) (touched s g) (both_true (disjoint (touched s e) (touched s g)) (each_disjoint s e l) d).0)
each_apart s e (g ∷ l) d (Memᴰ.tail m) = each_apart s e l (both_true (disjoint (touched s e) (touched s g)) (each_disjoint s e l) d).1 m

pub pairwise_apart : (s : Setting) (l : List (List (List ℕ))) → all_disjoint s l ≡ true → Pairwise (Apart s) l
pairwise_apart s [] d = Pairwise.nil
pairwise_apart s (e ∷ l) d =
    let q = both_true (each_disjoint s e l) (all_disjoint s l) d in
    Pairwise.cons (λ f m. ∥∥₁_elim m (Π_prop (λ a. Π_prop (λ x. Π_prop (λ y. ⊥_prop)))) (λ k. each_apart s e l q.0 k)) (pairwise_apart s l q.1)
