-- Laws of collecting: what each sample adds, and the bytes clock by clock.
-- Assumes nothing.
use Rattle.std.specs.Prelude.{◌≡◌, ℕ, suc, ◌+◌, ◌-◌, ◌/◌, ◌%◌, ◌<◌, ◌≤◌, Bool, true, false, cond, not, ◌&&◌, eqb, get_or, drop, count_by}
use Rattle.std.specs.List.{list_any}
use Rattle.std.proofs.Math.Path.{refl, ap}
use Rattle.std.proofs.Math.Numerals.{one-add}
use Rattle.std.proofs.Common.{sym, ◌∙◌, length-append, drop_of_length-le, take_at, drop_at}
use Rattle.std.proofs.Math.Nat.{div-eq_of_lt}
use Rattle.std.proofs.lemmas.Bool.{eqb-true, eqb-false}
use Rattle.std.proofs.lemmas.List.Recursion.{is_count_by}
use native.Mathlib.Omega.{arith}
use mathlib.Core.List.{List, [], ◌∷◌, ◌++◌, append-nil}
use Rattle.std.proofs.Math.ListN.{length}
use Rattle.std.proofs.Math.Seq.{append_snoc}
use borrow.Author.Tests.{eq-eqb, ne_eqb}
use Rattle.units.specs.declared.Clocks.{Clocks}
use Rattle.units.specs.declared.Wires.{Wires}
use Rattle.units.specs.declared.Wires.TheVariants.{One, Two, Four}
use Rattle.units.specs.Units.{clocks, next, per_byte, whole_of, unfinished_of}
use Rattle.units.specs.Laws.{per_byte_pos, per_byte_le}
use Rattle.wires.specs.Bits.{shift_of, gather_from, gather}
use Rattle.wires.proofs.Laws.{gather_append, gather_byte}
use Rattle.wires.specs.Levels.{seen_of, driven_of}
use Rattle.buffers.specs.Page.{Page, put_of}
use Rattle.buffers.specs.Laws.{Left, none_put, put_next, drop_one}
use Rattle.paper.specs.Reading.{bytes_in, data_bytes}
use Rattle.paper.specs.Laws.{bytes_many}
use Rattle.paper.specs.Building.{many_bytes}
use Rattle.paper.specs.Collecting.{seen_in, strange, collected}
use Rattle.host_gather.specs.Refusals.{count_of, driven_in}

-- ---- a sample
module _ (w : Wires) (xs : List ℕ) (i : ℕ) where
  abbrev x : ℕ
  x = get_or xs i 0

  -- not driven
  pub seen_skip : i < length xs → x ≡ 0 → seen_in w (drop i xs) ≡ seen_in w (drop (i + 1) xs)
  unfolding seen_in
  seen_skip h e = rw (drop_one xs i h, eq-eqb x 0 e)

  -- driven
  pub seen_more : i < length xs → (x ≡ 0 → ⊥) → seen_in w (drop i xs) ≡ seen_of w x ∷ seen_in w (drop (i + 1) xs)
  unfolding seen_in
  seen_more h n = rw (drop_one xs i h, ne_eqb x 0 n)

  pub seen_end : length xs ≤ i → seen_in w (drop i xs) ≡ []
  unfolding seen_in
  seen_end h = rw (drop_of_length-le xs h)

-- some sample is strange
pub strange_any : (w : Wires) (xs : List ℕ) → list_any (λ x. not (eqb x 0) && not (driven_of w x)) xs ≡ strange w xs
unfolding strange
strange_any w [] = refl
strange_any w (x ∷ xs) = rw (strange_any w xs)

-- ---- how many
-- the driven ones are those that are not silent
not_silent : (b : Bool) (n : ℕ) → cond b n (suc n) ≡ cond (not b) (1 + n) n
not_silent true n = refl
not_silent false n = sym (one-add n)

pub count_driven : (xs : List ℕ) → count_of xs ≡ count_by (λ x. not (eqb x 0)) xs
unfolding count_of
count_driven xs = is_count_by count_of (λ x. not (eqb x 0)) refl (λ y ys. not_silent (eqb y 0) (count_of ys)) xs

-- of all clocks the silent ones so far are taken off: the driven ones so far are left, and those that come
pub record Counted (xs : List ℕ) (count i : ℕ) : Type 0 where
  pub seen : i ≤ length xs
  pub some : length xs ≤ count + i
  pub left : count + i + count_of (drop i xs) ≡ length xs + count_of xs

pub none_counted : (xs : List ℕ) → Counted xs (length xs) 0
none_counted xs = record { seen = omega arith; some = omega arith; left = omega arith }

module _ {xs : List ℕ} {count i : ℕ} (f : Counted xs count i) where
  pub count_skip : i < length xs → get_or xs i 0 ≡ 0 → Counted xs (count - 1) (i + 1)
  unfolding count_of
  count_skip h e =
      let k = rw (drop_one xs i h, eq-eqb (get_or xs i 0) 0 e) at f.left in
      let l = f.some in
      record { seen = omega arith; some = omega arith; left = omega arith }

  pub count_more : i < length xs → (get_or xs i 0 ≡ 0 → ⊥) → Counted xs count (i + 1)
  unfolding count_of
  count_more h n =
      let k = rw (drop_one xs i h, ne_eqb (get_or xs i 0) 0 n) at f.left in
      let l = f.some in
      record { seen = omega arith; some = omega arith; left = omega arith }

  pub count_end : length xs ≤ i → count ≡ count_of xs
  unfolding count_of
  count_end h =
      let k = rw (drop_of_length-le xs {i = i} h) at f.left in
      let l = f.seen in
      omega arith

module _ (w : Wires) where
  count_step : (b : Bool) (v n : ℕ) (ys : List ℕ) → length ys ≡ n → length (cond b ys (v ∷ ys)) ≡ cond b n (suc n)
  count_step true v n ys e = e
  count_step false v n ys e = ap suc e

  seen_length : (xs : List ℕ) → length (seen_in w xs) ≡ count_of xs
  unfolding seen_in count_of
  seen_length [] = refl
  seen_length (x ∷ xs) = count_step (eqb x 0) (seen_of w x) (count_of xs) (seen_in w xs) (seen_length xs)

  -- the bytes are the whole ones of the driven clocks
  pub collected_many : (xs : List ℕ) {c : Clocks} → c ≡ driven_in xs → whole_of w c ≡ many_bytes (collected w xs)
  unfolding collected data_bytes
  collected_many xs e = rw (e, bytes_many w (length (seen_in w xs) / per_byte w) (seen_in w xs), seen_length xs)

-- ---- the bytes, clock by clock
module _ (w : Wires) where
  data_few : (ys : List ℕ) → length ys < per_byte w → data_bytes w ys ≡ []
  unfolding data_bytes bytes_in
  data_few ys h = rw (div-eq_of_lt h)

more : (w : Wires) (m : ℕ) → (per_byte w + m) / per_byte w ≡ suc (m / per_byte w)
more One m = omega arith
more Two m = omega arith
more Four m = omega arith

data_cons : (w : Wires) (ys zs : List ℕ) → length ys ≡ per_byte w → data_bytes w (ys ++ zs) ≡ gather w ys ∷ data_bytes w zs
unfolding data_bytes bytes_in
data_cons w ys zs h = rw (length-append ys zs, h, more w (length zs), take_at ys zs (per_byte w) h, drop_at ys zs (per_byte w) h)

-- one clock more: either it is the byte's last, or it is not and counts on
count_full : (w : Wires) (n : ℕ) → n < per_byte w → (n + 1) % per_byte w ≡ 0 → n + 1 ≡ per_byte w
count_full One n h e = omega arith
count_full Two n h e = omega arith
count_full Four n h e = omega arith

count_on : (w : Wires) (n : ℕ) → n < per_byte w → ((n + 1) % per_byte w ≡ 0 → ⊥) → ((n + 1) % per_byte w ≡ n + 1) × (n + 1 < per_byte w)
count_on One n h e = (omega arith, omega arith)
count_on Two n h e = (omega arith, omega arith)
count_on Four n h e = (omega arith, omega arith)

-- ON THE WAY: the bits of the byte that is begun, and what they come to with all that is left
pub record Begun (w : Wires) (xs : List ℕ) (before : Page) (number : ℕ) (had : Clocks) (i : ℕ) (p : Page) : Type 0 where
  pub begun : List ℕ
  pub many_begun : had.0 ≡ length begun
  pub few : length begun < per_byte w
  pub spelt : number ≡ gather w begun
  pub rest : Left (collected w xs) before (data_bytes w (begun ++ seen_in w (drop i xs))) p

pub none_begun : (w : Wires) (xs : List ℕ) (p : Page) → Begun w xs p 0 (clocks 0) 0 p
unfolding collected gather_from
none_begun w xs p = record { begun = []; many_begun = refl; few = per_byte_pos w; spelt = refl; rest = none_put (collected w xs) p }

module _ {w : Wires} {xs : List ℕ} {before : Page} {number : ℕ} {had : Clocks} {i : ℕ} {p : Page} (f : Begun w xs before number had i p) (h : i < length xs) where
  -- a clock that is not driven
  pub begun_skip : get_or xs i 0 ≡ 0 → Begun w xs before number had (i + 1) p
  begun_skip e =
      record {
        begun = f.begun;
        many_begun = f.many_begun;
        few = f.few;
        spelt = f.spelt;
        rest = rw (seen_skip w xs i h e) at f.rest;
      }

  -- one that is, with the bits v
  module _ {v m : ℕ} {c : Clocks} (n : get_or xs i 0 ≡ 0 → ⊥) (s : v ≡ seen_of w (get_or xs i 0)) (g : m ≡ shift_of w number v) (u : c ≡ unfinished_of w (next had)) where
    abbrev then : List ℕ
    then = f.begun ++ (v ∷ [])

    then_length : length then ≡ had.0 + 1
    then_length = length-append f.begun (v ∷ []) ∙ rw (← f.many_begun)

    then_spelt : m ≡ gather w then
    unfolding gather_from
    then_spelt = rw (g, gather_append w 0 f.begun (v ∷ [])) (ap (λ (k : ℕ). shift_of w k v) f.spelt)

    then_left : Left (collected w xs) before (data_bytes w (then ++ seen_in w (drop (i + 1) xs))) p
    then_left = rw (append_snoc f.begun v (seen_in w (drop (i + 1) xs)), s) (rw (seen_more w xs i h n) at f.rest)

    had_lt : had.0 < per_byte w
    had_lt = rw f.many_begun f.few

    -- and is not the last of its byte
    pub begun_more : eqb c.0 0 ≡ false → Begun w xs before m c (i + 1) p
    begun_more d =
        let z : c.0 ≡ 0 → ⊥ = eqb-false c.0 0 d in
        let k = count_on w had.0 had_lt (rw u at z) in
        record { begun = then; many_begun = rw u (k.0 ∙ sym then_length); few = rw then_length k.1; spelt = then_spelt; rest = then_left }

    -- and is the last
    pub begun_full : {q : Page} → eqb c.0 0 ≡ true → q ≡ put_of (m % 256) p → Begun w xs before 0 c (i + 1) q
    unfolding gather_from
    begun_full d e =
        let z : c.0 ≡ 0 = eqb-true c.0 0 d in
        let t : length then ≡ per_byte w = then_length ∙ count_full w had.0 had_lt (rw u at z) in
        let b : m % 256 ≡ gather w then = rw then_spelt (gather_byte w then (omega arith)) in
        record {
          begun = [];
          many_begun = z;
          few = per_byte_pos w;
          spelt = refl;
          rest = put_next then_left (data_cons w then (seen_in w (drop (i + 1) xs)) t) (rw b at e);
        }

pub begun_few : {w : Wires} {xs : List ℕ} {before : Page} {number : ℕ} {had : Clocks} {i : ℕ} {p : Page} → Begun w xs before number had i p → had.0 < 8
begun_few {w} f = omega (arith, f.many_begun, f.few, per_byte_le w)

pub begun_end : {w : Wires} {xs : List ℕ} {before : Page} {number : ℕ} {had : Clocks} {i : ℕ} {p : Page} → Begun w xs before number had i p → length xs ≤ i
    → Left (collected w xs) before [] p
begun_end {w} {xs} {i = i} f h =
    rw (data_few w f.begun f.few) at (rw (seen_end w xs i h, append-nil f.begun) at f.rest)
