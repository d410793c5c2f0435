-- Laws of places and protection.
-- Assumes nothing.
use Rattle.std.specs.Prelude.{◌≡◌, ℕ, zero, suc, ◌/◌, ◌%◌, ◌^◌, ◌<◌, ◌≤◌, Bool, true, false, cond, eqb, get_or}
use Rattle.std.proofs.Common.{div-mul-le_self, mod-eq_of_lt, mul-le-mul_left, le_trans, lt_of_lt_of_le, lt_of_le_of_lt, mul-pos, arith, lit<, lit≤, pow_pos, pow_mono}
use Rattle.std.proofs.Math.Nat.{div-eq_of_lt}
use Rattle.units.specs.declared.Bytes.{Bytes}
use Rattle.parts.specs.declared.Family.{Family}
use Rattle.parts.specs.declared.Family.TheVariants.{Mram, Psram}
use Rattle.parts.specs.declared.Part.{Part}
use Rattle.parts.specs.declared.Part.TheVariants.{M, P, M32}
use Rattle.parts.specs.Parts.{family_of, area_of, section_of}
use Rattle.parts.specs.Lengths.{groups, wrap_length, share_at, share_of}
use Rattle.record.specs.declared.devices.Setting.{Setting}
use Rattle.places.specs.Addresses.{memory_size}
use Rattle.places.specs.Places.{group_in_force, wrap_in_force, read_span_for, write_span_for, read_span, write_span}
use Rattle.places.specs.Protection.{shut_bytes, section_shut}

-- a burst that can be placed: a store and a group that are not empty, and a byte that the clocks of a transaction can reach
pub record Placeable (size span i : Bytes) : Type 0 where
  pub store : 0 < size.0
  pub group : 0 < span.0
  pub few : i.0 ≤ 65535

-- a memory's size fits the machine's word
pub size_fits : (n : ℕ) → n ≤ 24 → 2 ^ n % 2 ^ 64 ≡ 2 ^ n
size_fits n h = mod-eq_of_lt (lt_of_le_of_lt (pow_mono {i = n} {j = 24} h) (lit< tt))

pub size_small : (n : ℕ) → n ≤ 24 → 2 ^ n ≤ 16777216
size_small n h = pow_mono {i = n} {j = 24} h

-- ---- the share that is protected is no more than the memory
share_at_lem : (code : ℕ) → code < 8 → share_at code ≤ 64
share_at_lem zero h = lit≤ tt
share_at_lem (suc k) h = pow_mono {i = k} {j = 6} (omega arith)

pub share_le : (status : ℕ) → share_of status ≤ 64
share_le status = share_at_lem (status / 4 % 8) (omega arith)

pub shut_le : (n status : ℕ) → (shut_bytes n status).0 ≤ (memory_size n).0
shut_le n status = le_trans (mul-le-mul_left (2 ^ n / 64) (share_le status)) (div-mul-le_self (2 ^ n) 64)

-- ---- a section past the eighth has no bit
pub section_past : (protection section : ℕ) → protection < 256 → 8 ≤ section → section_shut protection section ≡ false
unfolding section_shut
section_past protection section l h = rw (div-eq_of_lt (lt_of_lt_of_le l (pow_mono {i = 8} {j = section} h)))

-- ---- no group is empty
groups_pos : (k : ℕ) → k < 4 → 0 < get_or groups k 0
groups_pos zero h = lit< tt
groups_pos (suc zero) h = lit< tt
groups_pos (suc (suc zero)) h = lit< tt
groups_pos (suc (suc (suc zero))) h = lit< tt
groups_pos (suc (suc (suc (suc k)))) h = omega arith

group_pos : (mr0 : ℕ) (toggle : Bool) → 0 < (group_in_force mr0 toggle).0
group_pos mr0 true = lit< tt
group_pos mr0 false = groups_pos (mr0 / 32 % 4) (omega arith)

wrap_pos : (n cr3 : ℕ) → 0 < (wrap_in_force n cr3).0
wrap_pos n cr3 = by (eqb (cr3 / 16 % 2) 1)
  where
    by : (b : Bool) → 0 < (cond b (wrap_length cr3) (memory_size n)).0
    by true = mul-pos (lit< tt) (pow_pos (cr3 % 8))
    by false = pow_pos n

pub read_span_pos : (s : Setting) → 0 < (read_span s).0
unfolding read_span
read_span_pos s = by (family_of s.part)
  where
    by : (f : Family) → 0 < (read_span_for f s).0
    by Mram = wrap_pos s.n s.registers.cr3
    by Psram = group_pos s.registers.mr0 s.toggle

pub write_span_pos : (s : Setting) → 0 < (write_span s).0
unfolding write_span
write_span_pos s = by (family_of s.part)
  where
    by : (f : Family) → 0 < (write_span_for f s).0
    by Mram = pow_pos s.n
    by Psram = group_pos s.registers.mr0 s.toggle

-- ---- a part of the MRAM has an area, and sections in it
pub record Sectioned (p : Part) : Type 0 where
  pub area : 0 < (area_of p).0
  pub section : 0 < (section_of p).0

pub sectioned : (p : Part) → family_of p ≡ Mram → Sectioned p
sectioned M e = record { area = lit< tt; section = lit< tt }
sectioned P e = let z : ◌≡◌ {A = ℕ} 0 1 = cc in absurd (omega arith)
sectioned M32 e = record { area = lit< tt; section = lit< tt }
