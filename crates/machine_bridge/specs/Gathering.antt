-- Whole bytes, clock by clock: the last clock of a byte brings it, and the bytes come in their order.
-- Assumes nothing.
use Rattle.std.specs.Prelude.{◌≡◌, true, false, take}
use Rattle.std.proofs.Math.Path.{refl, ap}
use Rattle.std.proofs.Common.{sym, ◌∙◌, add-zero, zero-add, div-mul-le_self, take-append-drop, eq-eqb, ne_eqb}
use Prim.Native.Nat.{ℕ, zero, suc, ◌+◌, ◌*◌, ◌%◌, ◌/◌, ◌<◌, ◌≤◌}
use Rattle.std.proofs.Math.Nat.{zero-mul, suc-mul, lt-div-mul-add}
use native.Mathlib.Omega.{arith}
use mathlib.Core.List.{List, [], ◌∷◌, ◌++◌}
use Rattle.std.proofs.Math.ListN.{length, drop, length-take, length-drop}
use Rattle.std.proofs.Math.Seq.{drop-drop}
use Rattle.units.specs.declared.Clocks.{Clocks}
use Rattle.units.specs.declared.Wires.{Wires}
use Rattle.units.specs.declared.Wires.TheVariants.{One, Two, Four}
use Rattle.units.specs.Units.{clocks, bytes, per_byte}
use Rattle.units.specs.Laws.{per_byte_pos}
use Rattle.wires.specs.Bits.{shift_of, gather_from, gather}
use Rattle.wires.proofs.Laws.{gather_byte}
use Rattle.paper.specs.Reading.{bytes_in, data_bytes}
use Rattle.paper.specs.Storing.{take_each}
use Rattle.contract_words.specs.Words.{Taken, Take, Held}
use Rattle.machine_phases.specs.Machine.{last_at, held}
use Rattle.machine_bridge.specs.Stage.{carried}

-- clock i of byte j, counted from the first data clock
abbrev clock_of : Wires → ℕ → ℕ → ℕ
clock_of w j i = j * per_byte w + i

-- the last clock of a byte is its last one and no other, and it belongs to that byte
early : (w : Wires) (j i : ℕ) → i + 1 < per_byte w → last_at w (clocks (clock_of w j i)) ≡ false
early One j i h = ne_eqb _ 0 (λ (e : (j * 8 + i + 1) % 8 ≡ 0). omega arith)
early Two j i h = ne_eqb _ 0 (λ (e : (j * 4 + i + 1) % 4 ≡ 0). omega arith)
early Four j i h = ne_eqb _ 0 (λ (e : (j * 2 + i + 1) % 2 ≡ 0). omega arith)

late : (w : Wires) (j i : ℕ) → i + 1 ≡ per_byte w → (last_at w (clocks (clock_of w j i)) ≡ true) × (clock_of w j i / per_byte w ≡ j)
late One j i h = (eq-eqb ((j * 8 + i + 1) % 8) 0 (omega arith), omega arith)
late Two j i h = (eq-eqb ((j * 4 + i + 1) % 4) 0 (omega arith), omega arith)
late Four j i h = (eq-eqb ((j * 2 + i + 1) % 2) 0 (omega arith), omega arith)

next_clock : (w : Wires) (j i : ℕ) → clock_of w j i + 1 ≡ clock_of w j (i + 1)
next_clock w j i = omega arith

carried_append : {S : Type 0} (f : Clocks → S → ℕ → S) (xs ys : List ℕ) (t : ℕ) (s : S)
    → carried f t s (xs ++ ys) ≡ carried f (t + length xs) (carried f t s xs) ys
unfolding carried
carried_append f [] ys t s = rw add-zero
carried_append f (x ∷ xs) ys t s =
    let e : t + 1 + length xs ≡ t + suc (length xs) = omega arith in
    carried_append f xs ys (t + 1) (f (clocks t) s x) ∙ ap (λ (m : ℕ). carried f m (carried f (t + 1) (f (clocks t) s x) xs) ys) e

module _ (w : Wires) (f : Take) where
  abbrev from : ℕ → ℕ → ℕ → Taken → List ℕ → Held
  from j i number t xs = carried (held w f) (clock_of w j i) (record { number = number; taken = t }) xs

  -- clocks that leave the byte unfinished
  begun : (xs : List ℕ) (j i number : ℕ) (t : Taken) → i + length xs < per_byte w
      → from j i number t xs ≡ record { number = gather_from w number xs; taken = t }
  unfolding carried held gather_from
  begun [] j i number t h = refl
  begun (x ∷ xs) j i number t h =
      rw (early w j i (omega arith), next_clock w j i) (begun xs j (i + 1) (shift_of w number x) t (omega arith))

  -- clocks that finish it
  finished : (x : ℕ) (xs : List ℕ) (j i number : ℕ) (t : Taken) → i + suc (length xs) ≡ per_byte w
      → from j i number t (x ∷ xs) ≡ record { number = 0; taken = f (bytes j) (gather_from w number (x ∷ xs) % 256) t }
  unfolding carried held gather_from
  finished x [] j i number t h = let l = late w j i (omega arith) in rw (l.0, l.1)
  finished x (y ∷ ys) j i number t h =
      rw (early w j i (omega arith), next_clock w j i) (finished y ys j (i + 1) (shift_of w number x) t (omega arith))

  one : (xs : List ℕ) (j : ℕ) (t : Taken) → length xs ≡ per_byte w → from j 0 0 t xs ≡ record { number = 0; taken = f (bytes j) (gather w xs) t }
  one [] j t h = absurd (omega (arith, per_byte_pos w))
  one (x ∷ xs) j t h =
      finished x xs j 0 0 t (rw zero-add h)
      ∙ ap (λ (b : ℕ). record { number = 0; taken = f (bytes j) b t }) (gather_byte w (x ∷ xs) (omega arith))

  -- q whole bytes and an unfinished one
  several : (q : ℕ) (xs : List ℕ) (j : ℕ) (t : Taken) → q * per_byte w ≤ length xs → length xs < q * per_byte w + per_byte w
      → from j 0 0 t xs ≡ record { number = gather w (drop (q * per_byte w) xs); taken = take_each f j (bytes_in w q xs) t }
  unfolding take_each bytes_in
  several zero xs j t h g = let z = zero-mul (per_byte w) in begun xs j 0 0 t (omega arith) ∙ rw z
  several (suc q) xs j t h g =
      let n = per_byte w in
      let e = suc-mul q n in
      let k : length (take n xs) ≡ n = length-take n xs ∙ omega arith in
      let l = length-drop n xs in
      let b = gather w (take n xs) in
      let m : clock_of w j 0 + length (take n xs) ≡ clock_of w (j + 1) 0 = omega (arith, suc-mul j n) in
      let i : n + q * n ≡ suc q * n = omega arith in
      let r : drop (q * n) (drop n xs) ≡ drop (suc q * n) xs = drop-drop (q * n) n xs ∙ ap (λ (k : ℕ). drop k xs) i in
      ap (λ (ys : List ℕ). from j 0 0 t ys) (sym (take-append-drop n xs))
      ∙ carried_append (held w f) (take n xs) (drop n xs) (clock_of w j 0) (record { number = 0; taken = t })
      ∙ ap (λ (r : Held). carried (held w f) (clock_of w j 0 + length (take n xs)) r (drop n xs)) (one (take n xs) j t k)
      ∙ ap (λ (c : ℕ). carried (held w f) c (record { number = 0; taken = f (bytes j) b t }) (drop n xs)) m
      ∙ several q (drop n xs) (j + 1) (f (bytes j) b t) (omega arith) (omega arith)
      ∙ ap (λ (ys : List ℕ). record { number = gather w ys; taken = take_each f (j + 1) (bytes_in w q (drop n xs)) (f (bytes j) b t) }) r

  -- THE BYTES: data clocks leave what their whole bytes leave, and the number of the clocks past them
  pub whole_bytes : (xs : List ℕ) (t : Taken)
      → carried (held w f) 0 (record { number = 0; taken = t }) xs
      ≡ record { number = gather w (drop (length xs / per_byte w * per_byte w) xs); taken = take_each f 0 (data_bytes w xs) t }
  unfolding data_bytes
  whole_bytes xs t =
      ap (λ (c : ℕ). carried (held w f) c (record { number = 0; taken = t }) xs) (omega (arith, zero-mul (per_byte w)))
      ∙ several (length xs / per_byte w) xs 0 t (div-mul-le_self (length xs) (per_byte w)) (lt-div-mul-add (per_byte_pos w))
