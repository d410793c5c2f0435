-- Laws of gathering and spreading, each once for any number of wires.
-- Assumes nothing.
use Rattle.std.specs.Prelude.{◌≡◌, Bool, true, false, eqb, get_or}
use Rattle.std.proofs.Math.Path.{refl, ap}
use Rattle.std.proofs.Common.{sym, ◌∙◌, mul-zero, add-zero, zero-add, div-one, add_assoc, mod-lt, lt_of_lt_of_le, zero-mul, mul-le-mul_left, not-suc-le-zero, pow_pos, pow_mono}
use Prim.Native.Nat.{ℕ, zero, suc, ◌+◌, ◌*◌, ◌/◌, ◌%◌, ◌^◌, ◌-◌, ◌<◌, ◌≤◌}
use Rattle.std.proofs.Math.Nat.{mul-suc, mul-one, mod-one, mul_assoc, add-mul, mod-mod, mod-eq_of_lt, div-eq_of_lt, lt-div-mul-add}
use native.Mathlib.Omega.{arith}
use mathlib.Core.List.{List, [], ◌∷◌, ◌++◌, map}
use Rattle.std.proofs.Math.ListN.{length}
use borrow.Author.Tests.{ltb-true, lt-ltb, eqb-true, eq-eqb}
use Rattle.std.proofs.Math.Pow.{pow-add, mod-pow-add, high, low, shr-shr}
use Rattle.std.proofs.Math.Arith.{digits_lt}
use Rattle.units.specs.declared.Wires.{Wires}
use Rattle.units.specs.declared.Clocks.{Clocks}
use Rattle.units.specs.declared.Wires.TheVariants.{One, Two, Four}
use Rattle.basis.specs.Truth.{untrue}
use Rattle.units.specs.Units.{clocks, wires_of, per_byte, coming_of, bits_in}
use Rattle.units.specs.Laws.{bits_of_byte, per_byte_pos}
use Rattle.wires.specs.Bits.{bits_of, shift_of, gather_from, gather, fits_in, above, spelled, group_of}

-- fewer than eight bits of a byte come after a clock of it
pub below_byte : (w : Wires) (k : Clocks) → bits_in w (coming_of w k) < 8
below_byte One k = omega arith
below_byte Two k = omega arith
below_byte Four k = omega arith

-- every clock has a bit at least
pub bits_many : (w : Wires) (c : ℕ) → 32 ≤ c → 32 ≤ wires_of w * c
bits_many One c h = omega arith
bits_many Two c h = omega arith
bits_many Four c h = omega arith

-- ---- a number that fits its clocks
module _ (w : Wires) (c : Clocks) (v : ℕ) where
  pub fits_lt : fits_in w c v ≡ true → v < 2 ^ bits_in w c
  unfolding fits_in
  fits_lt e = ltb-true v (2 ^ bits_in w c) e

  pub lt_fits : v < 2 ^ bits_in w c → fits_in w c v ≡ true
  unfolding fits_in
  lt_fits h = lt-ltb v (2 ^ bits_in w c) h

  -- a number of 32 bits fits as many
  pub fits_all : v < 2 ^ 32 → 32 ≤ bits_in w c → true ≡ fits_in w c v
  fits_all h l = sym (lt_fits (lt_of_lt_of_le h (pow_mono {i = 32} {j = bits_in w c} l)))

  -- and of fewer, where nothing stands above them
  pub fits_by : (b : Bool) → eqb (v / 2 ^ bits_in w c) 0 ≡ b → b ≡ fits_in w c v
  fits_by true e =
      let z = eqb-true (v / 2 ^ bits_in w c) 0 e in
      let m : v < v / 2 ^ bits_in w c * 2 ^ bits_in w c + 2 ^ bits_in w c = lt-div-mul-add (pow_pos (bits_in w c)) in
      sym (lt_fits (rw (z, zero-mul, zero-add) at m))
  fits_by false e = sym (by (fits_in w c v) refl)
    where
      by : (t : Bool) → fits_in w c v ≡ t → fits_in w c v ≡ false
      by true h = let z = div-eq_of_lt (fits_lt h) in untrue (sym e ∙ eq-eqb _ 0 z)
      by false h = h

-- past its last bit a number has none
pub none_past : (w : Wires) (c : Clocks) (v : ℕ) → v < 2 ^ 32 → 32 ≤ bits_in w c → 0 ≡ v / 2 ^ bits_in w c
none_past w c v h l = sym (div-eq_of_lt (lt_of_lt_of_le h (pow_mono {i = 32} {j = bits_in w c} l)))

-- no clock brings no bit but those of 0
pub fits_none : (w : Wires) (v : ℕ) → fits_in w (clocks 0) v ≡ true → v ≡ 0
fits_none w v e = let h = rw mul-zero at (fits_lt w (clocks 0) v e) in omega arith

pub zero_fits : (w : Wires) (c : Clocks) → fits_in w c 0 ≡ true
zero_fits w c = lt_fits w c 0 (pow_pos (bits_in w c))

module _ (w : Wires) where
  -- gathering goes on where it stopped
  pub gather_append : (number : ℕ) (xs ys : List ℕ) → gather_from w number (xs ++ ys) ≡ gather_from w (gather_from w number xs) ys
  unfolding gather_from
  gather_append number [] ys = refl
  gather_append number (x ∷ xs) ys = gather_append (shift_of w number x) xs ys

  pub spread_length : (n v : ℕ) → length (spelled w n v) ≡ n
  unfolding spelled
  spread_length zero v = refl
  spread_length (suc n) v = ap suc (spread_length n v)

  -- each sample of a spread number stands for the bits above the samples that follow it
  pub spread_at : (n k v : ℕ) → k < n → get_or (spelled w n v) k 0 ≡ above w (n - 1 - k) v
  unfolding spelled
  spread_at zero k v h = absurd (not-suc-le-zero h)
  spread_at (suc n) zero v h = let e : suc n - 1 - 0 ≡ n = omega arith in rw e
  spread_at (suc n) (suc k) v h = let e : suc n - 1 - suc k ≡ n - 1 - k = omega arith in rw e (spread_at n k v (omega arith))

  -- a byte's clocks carry the samples that spell it, in their order
  pub group_spread : (k : Clocks) (b : ℕ) → group_of w k b ≡ get_or (spelled w (per_byte w) b) (k.0 % per_byte w) 0
  unfolding group_of
  group_spread k b = rw (spread_at (per_byte w) (k.0 % per_byte w) b (mod-lt k.0 (per_byte_pos w)))

  -- one clock more for a number of i bits: while there is room nothing leaves the register
  module _ (i number x : ℕ) (h : number < 2 ^ i) (r : i + wires_of w ≤ 24) where
    under_lt : number * 2 ^ wires_of w + bits_of w x < 2 ^ (i + wires_of w)
    under_lt = rw pow-add (digits_lt h (mod-lt x (pow_pos (wires_of w))))

    shift_is : shift_of w number x ≡ number * 2 ^ wires_of w + bits_of w x
    unfolding shift_of
    shift_is = mod-eq_of_lt (lt_of_lt_of_le under_lt (pow_mono {i = i + wires_of w} {j = 24} r))

    shift_lt : shift_of w number x < 2 ^ (i + wires_of w)
    shift_lt = rw shift_is under_lt

  room : (i n : ℕ) → i + wires_of w * suc n ≤ 24 → (i + wires_of w ≤ 24) × (i + wires_of w + wires_of w * n ≤ 24)
  room i n r = let r₁ : i + (wires_of w * n + wires_of w) ≤ 24 = rw mul-suc at r in (omega arith, omega arith)

  -- what is spread is gathered again, below what was gathered before
  gather_spread_from : (n i number v : ℕ) → number < 2 ^ i → i + wires_of w * n ≤ 24
      → gather_from w number (spelled w n v) ≡ number * 2 ^ (wires_of w * n) + v % 2 ^ (wires_of w * n)
  unfolding gather_from spelled
  gather_spread_from zero i number v h r = simp (mul-zero, mul-one, mod-one, add-zero)
  gather_spread_from (suc n) i number v h r =
      let k = wires_of w in
      let a = above w n v in
      let q = room i n r in
      let e : k * suc n ≡ k + k * n = rw mul-suc (omega arith) in
      gather_spread_from n (i + k) (shift_of w number a) v (shift_lt i number a h q.0) q.1
      ∙ rw (shift_is i number a h q.0, mod-mod, e, mod-pow-add v k (k * n), pow-add, add-mul, mul_assoc, add_assoc)

  -- a number has no more bits than its clocks brought, and those gathered before
  gather_lt_from : (i number : ℕ) (xs : List ℕ) → number < 2 ^ i → i + wires_of w * length xs ≤ 24 → gather_from w number xs < 2 ^ (i + wires_of w * length xs)
  unfolding gather_from
  gather_lt_from i number [] h r = rw (mul-zero, add-zero) h
  gather_lt_from i number (x ∷ xs) h r =
      let k = wires_of w in
      let q = room i (length xs) r in
      let e : i + k * suc (length xs) ≡ i + k + k * length xs = rw mul-suc (omega arith) in
      rw e (gather_lt_from (i + k) (shift_of w number x) xs (shift_lt i number x h q.0) q.1)

  pub gather_lt : (xs : List ℕ) → wires_of w * length xs ≤ 24 → gather w xs < 2 ^ (wires_of w * length xs)
  gather_lt xs r = rw (← zero-add (wires_of w * length xs)) (gather_lt_from 0 0 xs (pow_pos 0) (rw zero-add r))

  -- the clocks of one byte spell a byte, and fewer of them no more
  pub gather_byte : (xs : List ℕ) → length xs ≤ per_byte w → gather w xs % 2 ^ 8 ≡ gather w xs
  gather_byte xs h =
      let b : wires_of w * length xs ≤ wires_of w * per_byte w = mul-le-mul_left (wires_of w) h in
      let r : wires_of w * length xs ≤ 8 = rw bits_of_byte at b in
      mod-eq_of_lt (lt_of_lt_of_le (gather_lt xs (omega arith)) (pow_mono {i = wires_of w * length xs} {j = 8} r))

  -- what was gathered before stands above what the clocks bring
  gather_high : (i number : ℕ) (xs : List ℕ) → number < 2 ^ i → i + wires_of w * length xs ≤ 24 → gather_from w number xs / 2 ^ (wires_of w * length xs) ≡ number
  unfolding gather_from
  gather_high i number [] h r = rw (mul-zero, div-one)
  gather_high i number (x ∷ xs) h r =
      let k = wires_of w in
      let q = room i (length xs) r in
      rw (
        mul-suc k (length xs),
        ← shr-shr (gather_from w (shift_of w number x) xs) (k * length xs) k,
        gather_high (i + k) (shift_of w number x) xs (shift_lt i number x h q.0) q.1,
        shift_is i number x h q.0,
        high number k (mod-lt x (pow_pos k)),
      )

  spread_gather_from : (i number : ℕ) (xs : List ℕ) → number < 2 ^ i → i + wires_of w * length xs ≤ 24
      → spelled w (length xs) (gather_from w number xs) ≡ map (bits_of w) xs
  unfolding gather_from spelled
  spread_gather_from i number [] h r = refl
  spread_gather_from i number (x ∷ xs) h r =
      let k = wires_of w in
      let q = room i (length xs) r in
      let s = shift_lt i number x h q.0 in
      let first : above w (length xs) (gather_from w (shift_of w number x) xs) ≡ bits_of w x =
      rw (gather_high (i + k) (shift_of w number x) xs s q.1, shift_is i number x h q.0, low number k (mod-lt x (pow_pos k))) in
      rw (first, spread_gather_from (i + k) (shift_of w number x) xs s q.1)

  -- GATHERING UNDOES SPREADING: a number that fits its clocks, of up to 24 bits, is gathered from the samples that spell it (D19)
  pub gather_spread : (n v : ℕ) → wires_of w * n ≤ 24 → v < 2 ^ (wires_of w * n) → gather w (spelled w n v) ≡ v
  gather_spread n v r h = rw (gather_spread_from n 0 0 v (pow_pos 0) (rw zero-add r), zero-mul, zero-add, mod-eq_of_lt h)

  -- SPREADING UNDOES GATHERING: the samples of a number that was gathered are those it came from, wires that are not in use at 0
  pub spread_gather : (xs : List ℕ) → wires_of w * length xs ≤ 24 → spelled w (length xs) (gather w xs) ≡ map (bits_of w) xs
  spread_gather xs r = spread_gather_from 0 0 xs (pow_pos 0) (rw zero-add r)
