-- What a read drives, as the host gathers it: the laws behind Understood.antt, for any wires and any bytes.
-- Assumes nothing.
use Rattle.std.specs.Prelude.{◌≡◌, Bool, cond, ◌&&◌, ◌||◌, eqb}
use Rattle.std.proofs.Math.Path.{refl, sym, ap}
use Rattle.std.proofs.Common.{◌∙◌, zero-mul, add-zero, mul-div_cancel, pow_pos}
use Prim.Native.Nat.{ℕ, zero, suc, ◌+◌, ◌*◌, ◌/◌, ◌%◌, ◌^◌, ◌-◌, ◌<◌, ◌≤◌}
use Rattle.std.proofs.Math.Nat.{suc-mul, mod-lt}
use native.Mathlib.Omega.{arith}
use Rattle.std.proofs.Math.Bool.{true, false, not}
use mathlib.Core.List.{List, [], ◌∷◌, ◌++◌}
use Rattle.std.proofs.Math.ListN.{length}
use Rattle.std.proofs.lemmas.List.{replicate-append-replicate}
use Rattle.std.proofs.Math.Seq.{take_at, drop_at}
use borrow.Author.Tests.{ne_eqb, le-ltb}
use Rattle.units.specs.declared.Clocks.{Clocks}
use Rattle.units.specs.declared.Bytes.{Bytes}
use Rattle.units.specs.declared.Wires.{Wires}
use Rattle.units.specs.declared.Wires.TheVariants.{One, Two, Four}
use Rattle.units.specs.Units.{clocks, bytes, wires_of, per_byte, whole_of}
use Rattle.units.specs.Laws.{per_byte_pos}
use Rattle.wires.specs.Bits.{above, spelled, group_of}
use Rattle.wires.proofs.Laws.{spread_length}
use Rattle.wires.specs.Levels.{level_of, seen_of, driven_of}
use Rattle.wires.proofs.LevelLaws.{seen_level, driven_level, level_not_zero}
use Rattle.record.specs.declared.answers.Answer.TheVariants.{Done}
use Rattle.record.specs.Devices.{mode_wires}
use Rattle.paper.specs.Reading.{bytes_in, data_bytes}
use Rattle.paper.specs.Driving.{along}
use Rattle.paper.specs.Collecting.{is_wires, seen_in, strange, collected, collect_of}
use Rattle.paper.specs.Transaction.{over}
use Rattle.demand_1_2.specs.Driven.{blank, blank_length}
use Rattle.paper.specs.Laws.{along_length}
use Rattle.demand_1_2.specs.Sent.{byte_read_lem}

-- so many bytes of f, from byte j on
unfoldable pub bytes_from : (Bytes → ℕ) → ℕ → ℕ → List ℕ
bytes_from f j zero = []
bytes_from f j (suc m) = f (bytes j) ∷ bytes_from f (j + 1) m

pub bytes_length : (f : Bytes → ℕ) (j m : ℕ) → length (bytes_from f j m) ≡ m
unfolding bytes_from
bytes_length f j zero = refl
bytes_length f j (suc m) = ap suc (bytes_length f (j + 1) m)

pub bytes_same : (f g : Bytes → ℕ) → ((i : Bytes) → f i ≡ g i) → (j m : ℕ) → bytes_from f j m ≡ bytes_from g j m
unfolding bytes_from
bytes_same f g e j zero = refl
bytes_same f g e j (suc m) = rw (e (bytes j), bytes_same f g e (j + 1) m)

along_append : (f : Clocks → ℕ) (t : ℕ) (xs ys : List ℕ) → along f t (xs ++ ys) ≡ along f t xs ++ along f (t + length xs) ys
unfolding along
along_append f t [] ys = rw add-zero
along_append f t (x ∷ xs) ys =
    let e : t + 1 + length xs ≡ t + suc (length xs) = omega arith in
    ap (λ (l : List ℕ). f (clocks t) ∷ l) (along_append f (t + 1) xs ys ∙ ap (λ (n : ℕ). along f (t + 1) xs ++ along f n ys) e)

-- the number of wires names the wires
mode_of : (w : Wires) → mode_wires (wires_of w) ≡ w
mode_of One = refl
mode_of Two = refl
mode_of Four = refl

is_wires_lem : (w : Wires) → is_wires (wires_of w) ≡ true
is_wires_lem One = refl
is_wires_lem Two = refl
is_wires_lem Four = refl

module _ (w : Wires) where
  -- clocks that drive nothing are skipped, wherever they stand
  seen_by : (b : Bool) (x : ℕ) (xs ys : List ℕ)
      → seen_in w (xs ++ ys) ≡ seen_in w xs ++ seen_in w ys
      → cond b (seen_in w (xs ++ ys)) (seen_of w x ∷ seen_in w (xs ++ ys)) ≡ cond b (seen_in w xs) (seen_of w x ∷ seen_in w xs) ++ seen_in w ys
  seen_by true x xs ys e = e
  seen_by false x xs ys e = ap (λ (l : List ℕ). seen_of w x ∷ l) e

  seen_append : (xs ys : List ℕ) → seen_in w (xs ++ ys) ≡ seen_in w xs ++ seen_in w ys
  unfolding seen_in
  seen_append [] ys = refl
  seen_append (x ∷ xs) ys = seen_by (eqb x 0) x xs ys (seen_append xs ys)

  seen_blank : (n : ℕ) → seen_in w (blank n) ≡ []
  unfolding seen_in
  seen_blank zero = refl
  seen_blank (suc n) = seen_blank n

  strange_by : (a : Bool) (xs ys : List ℕ) → strange w (xs ++ ys) ≡ (strange w xs || strange w ys) → (a || strange w (xs ++ ys)) ≡ ((a || strange w xs) || strange w ys)
  strange_by true xs ys e = refl
  strange_by false xs ys e = e

  strange_append : (xs ys : List ℕ) → strange w (xs ++ ys) ≡ (strange w xs || strange w ys)
  unfolding strange
  strange_append [] ys = refl
  strange_append (x ∷ xs) ys = strange_by (not (eqb x 0) && not (driven_of w x)) xs ys (strange_append xs ys)

  strange_blank : (n : ℕ) → strange w (blank n) ≡ false
  unfolding strange
  strange_blank zero = refl
  strange_blank (suc n) = strange_blank n

  abbrev pub leveled : (Clocks → ℕ) → Clocks → ℕ
  leveled g t = level_of w (g t)

  module _ (g : Clocks → ℕ) (few : (t : Clocks) → g t < 2 ^ wires_of w) where
    abbrev level : Clocks → ℕ
    level = leveled g

    -- what is driven is seen
    seen_along : (xs : List ℕ) (t : ℕ) → seen_in w (along level t xs) ≡ along g t xs
    unfolding seen_in along
    seen_along [] t = refl
    seen_along (x ∷ xs) t =
        rw (ne_eqb (level (clocks t)) 0 (level_not_zero w (g (clocks t))), seen_level w (g (clocks t)) (few (clocks t)), seen_along xs (t + 1))

    strange_along : (xs : List ℕ) (t : ℕ) → strange w (along level t xs) ≡ false
    unfolding strange along
    strange_along [] t = refl
    strange_along (x ∷ xs) t = rw (driven_level w (g (clocks t)) (few (clocks t)), strange_along xs (t + 1)) (by (eqb (level (clocks t)) 0))
      where
        by : (b : Bool) → ((not b && false) || false) ≡ false
        by true = refl
        by false = refl

  -- clock i of byte j
  clock_of_lem : (j i : ℕ) → i < per_byte w → ((j * per_byte w + i) % per_byte w ≡ i) × ((j * per_byte w + i) / per_byte w ≡ j)
  clock_of_lem j i h = by w h
    where
      by : (w : Wires) → i < per_byte w → ((j * per_byte w + i) % per_byte w ≡ i) × ((j * per_byte w + i) / per_byte w ≡ j)
      by One h = (omega arith, omega arith)
      by Two h = (omega arith, omega arith)
      by Four h = (omega arith, omega arith)

  module _ (f : Bytes → ℕ) where
    abbrev pub group : Clocks → ℕ
    group t = group_of w t (f (whole_of w t))

    group_few : (t : Clocks) → group t < 2 ^ wires_of w
    unfolding group_of
    group_few t = mod-lt _ (pow_pos (wires_of w))

    group_at : (j i n : ℕ) → i + suc n ≡ per_byte w → group (clocks (j * per_byte w + i)) ≡ above w n (f (bytes j))
    unfolding group_of
    group_at j i n h =
        let c = clock_of_lem j i (omega arith) in
        let e : per_byte w - 1 - i ≡ n = omega arith in
        rw (c.0, c.1, e)

    -- the clocks of byte j carry the samples that spell it
    byte_along : (n j i : ℕ) → i + n ≡ per_byte w → along group (j * per_byte w + i) (blank n) ≡ spelled w n (f (bytes j))
    unfolding along spelled
    byte_along zero j i h = refl
    byte_along (suc n) j i h =
        let e : j * per_byte w + i + 1 ≡ j * per_byte w + (i + 1) = omega arith in
        rw (group_at j i n h, e, byte_along n j (i + 1) (omega arith))

    module _ (small : (i : Bytes) → f i < 256) where
      bytes_along : (m j : ℕ) → bytes_in w m (along group (j * per_byte w) (blank (m * per_byte w))) ≡ bytes_from f j m
      unfolding bytes_in bytes_from
      bytes_along zero j = refl
      bytes_along (suc m) j =
          let n = per_byte w in
          let t = j * n in
          let more : suc m * n ≡ n + m * n = omega (arith, suc-mul m n) in
          let split : blank (suc m * n) ≡ blank n ++ blank (m * n) =
          ap blank more ∙ sym (replicate-append-replicate n (m * n) 0) in
          let here : along group t (blank n) ≡ spelled w n (f (bytes j)) =
          ap (λ (k : ℕ). along group k (blank n)) (sym (add-zero t)) ∙ byte_along n j 0 (omega arith) in
          let there : t + length (blank n) ≡ (j + 1) * n = omega (arith, blank_length n, suc-mul j n) in
          let whole : along group t (blank (suc m * n)) ≡ spelled w n (f (bytes j)) ++ along group ((j + 1) * n) (blank (m * n)) =
          ap (along group t) split
          ∙ along_append group t (blank n) (blank (m * n))
          ∙ ap (λ (l : List ℕ). l ++ along group (t + length (blank n)) (blank (m * n))) here
          ∙ ap (λ (k : ℕ). spelled w n (f (bytes j)) ++ along group k (blank (m * n))) there in
          let rest = along group ((j + 1) * n) (blank (m * n)) in
          let k = spread_length w n (f (bytes j)) in
          rw (
            whole,
            take_at (spelled w n (f (bytes j))) rest n k,
            drop_at (spelled w n (f (bytes j))) rest n k,
            byte_read_lem w (f (bytes j)) (small (bytes j)),
            bytes_along m (j + 1),
          )

      -- the output of a read of m bytes: nothing is driven before them and after
      abbrev pub driven : ℕ → ℕ → ℕ → List ℕ
      driven a m b = blank a ++ (along (leveled group) 0 (blank (m * per_byte w)) ++ blank b)

      -- WHAT IS DRIVEN IS HEARD
      pub heard : (a m b : ℕ) → collected w (driven a m b) ≡ bytes_from f 0 m
      unfolding collected data_bytes
      heard a m b =
          let zs = blank (m * per_byte w) in
          let seen : seen_in w (driven a m b) ≡ along group 0 zs =
          seen_append (blank a) (along (leveled group) 0 zs ++ blank b)
          ∙ rw (seen_blank a, seen_append (along (leveled group) 0 zs) (blank b), seen_blank b, seen_along group group_few zs 0) (nothing_after (along group 0 zs)) in
          let q : length (along group 0 zs) / per_byte w ≡ m =
          rw (along_length group 0 zs, blank_length (m * per_byte w)) (mul-div_cancel m (per_byte_pos w)) in
          ap (λ (l : List ℕ). bytes_in w (length l / per_byte w) l) seen
          ∙ ap (λ (n : ℕ). bytes_in w n (along group 0 zs)) q
          ∙ ap (λ (n : ℕ). bytes_in w m (along group n zs)) (sym (zero-mul (per_byte w)))
          ∙ bytes_along m 0
        where
          nothing_after : (xs : List ℕ) → [] ++ (xs ++ []) ≡ xs
          nothing_after [] = refl
          nothing_after (x ∷ xs) = ap (λ (l : List ℕ). x ∷ l) (nothing_after xs)

      pub none_strange : (a m b : ℕ) → strange w (driven a m b) ≡ false
      none_strange a m b =
          let zs = blank (m * per_byte w) in
          strange_append (blank a) (along (leveled group) 0 zs ++ blank b)
          ∙ rw (strange_blank a, strange_append (along (leveled group) 0 zs) (blank b), strange_blank b, strange_along group group_few zs 0)

      -- GATHERED: the host's other function gives the bytes
      pub gathered : (a m b : ℕ) (buffer : List ℕ) → m ≤ length buffer
          → collect_of (wires_of w) (driven a m b) buffer ≡ record { answer = Done; number = bytes m; buffer = over (bytes_from f 0 m) buffer }
      unfolding collect_of
      gathered a m b buffer h =
          let e = bytes_length f 0 m in
          rw (mode_of w, is_wires_lem w, none_strange a m b, heard a m b, e, le-ltb (length buffer) m h)
