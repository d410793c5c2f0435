-- Every byte of a memory burst lies in memory: the group is a part of it, both are powers of two, and the smaller divides the larger.
-- Assumes nothing.
use Rattle.std.specs.Prelude.{◌≡◌, refl, ℕ, zero, suc, ◌+◌, ◌*◌, ◌-◌, ◌/◌, ◌%◌, ◌<◌, ◌≤◌, ◌^◌, Bool, true, false, get_or}
use Rattle.std.proofs.Common.{ap, ◌∙◌, sym, mod-lt, mul-le-mul_right, suc-mul, arith, shr_lt, pow_pos, pow-add}
use Rattle.units.specs.declared.Bytes.{Bytes}
use Rattle.parts.specs.declared.Family.{Family}
use Rattle.parts.specs.declared.Family.TheVariants.{Mram, Psram}
use Rattle.parts.specs.Parts.{family_of}
use Rattle.parts.specs.Lengths.{groups}
use Rattle.record.specs.declared.devices.Setting.{Setting}
use Rattle.places.specs.Addresses.{memory_size}
use Rattle.places.specs.Places.{group_in_force, write_span_for, write_span, place_in, write_place}

-- a group inside a store
group_in : (a k n : ℕ) → k ≤ n → a % 2 ^ n / 2 ^ k * 2 ^ k + 2 ^ k ≤ 2 ^ n
group_in a k n h =
    let e : n ≡ n - k + k = omega arith in
    let q : a % 2 ^ n / 2 ^ k < 2 ^ (n - k) = shr_lt (n - k) k (rw (← e) (mod-lt a (pow_pos n))) in
    let t : suc (a % 2 ^ n / 2 ^ k) * 2 ^ k ≤ 2 ^ (n - k) * 2 ^ k = mul-le-mul_right (2 ^ k) q in
    let z : 2 ^ (n - k) * 2 ^ k ≡ 2 ^ n = sym (pow-add 2 (n - k) k) ∙ ap (λ (i : ℕ). 2 ^ i) (sym e) in
    rw (suc-mul, z) at t

place_below : (k n : ℕ) → k ≤ n → (span : Bytes) → span.0 ≡ 2 ^ k → (address : ℕ) (i : Bytes) → place_in (memory_size n) span address i < 2 ^ n
unfolding place_in
place_below k n h span e address i = rw e (omega (arith, group_in address k n h, mod-lt (address % 2 ^ n + i.0) (pow_pos k)))

-- how often two is doubled for the PSRAM's groups
group_power : (code : ℕ) → code < 4 → (k : ℕ) × ((k ≤ 9) × (get_or groups code 0 ≡ 2 ^ k))
group_power zero h = (4, (omega arith, refl))
group_power (suc zero) h = (5, (omega arith, refl))
group_power (suc (suc zero)) h = (6, (omega arith, refl))
group_power (suc (suc (suc zero))) h = (9, (omega arith, refl))
group_power (suc (suc (suc (suc c)))) h = absurd (omega arith)

in_force : (mr0 : ℕ) (toggle : Bool) → (k : ℕ) × ((k ≤ 9) × ((group_in_force mr0 toggle).0 ≡ 2 ^ k))
in_force mr0 true = (5, (omega arith, refl))
in_force mr0 false = group_power (mr0 / 32 % 4) (omega arith)

pub write_below : (s : Setting) → 9 ≤ s.n → (address : ℕ) (i : Bytes) → write_place s address i < 2 ^ s.n
unfolding write_span
write_below s h address i = by (family_of s.part)
  where
    by : (f : Family) → place_in (memory_size s.n) (write_span_for f s) address i < 2 ^ s.n
    by Mram = place_below s.n s.n (omega arith) (memory_size s.n) refl address i
    by Psram = let g = in_force s.registers.mr0 s.toggle in place_below g.0 s.n (omega (arith, g.1.0)) (group_in_force s.registers.mr0 s.toggle) g.1.1 address i
