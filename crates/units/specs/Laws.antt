-- Laws of clocks and bytes, for any wires.
-- Assumes nothing.
use Rattle.std.specs.Prelude.{◌≡◌, refl, ℕ, ◌+◌, ◌-◌, ◌*◌, ◌/◌, ◌%◌, ◌<◌, ◌≤◌}
use Rattle.std.proofs.Common.{ap, mul-div_cancel, div-add-mod', mod-lt, arith, lit<}
use Rattle.units.specs.declared.Clocks.{Clocks}
use Rattle.units.specs.declared.Bytes.{Bytes}
use Rattle.units.specs.declared.Wires.{Wires}
use Rattle.units.specs.declared.Wires.TheVariants.{One, Two, Four}
use Rattle.units.specs.Units.{clocks, bytes, wires_of, per_byte, clocks_of, whole_of, unfinished_of}

-- a byte is eight bits on any wires
pub bits_of_byte : (w : Wires) → wires_of w * per_byte w ≡ 8
bits_of_byte One = refl
bits_of_byte Two = refl
bits_of_byte Four = refl

pub per_byte_pos : (w : Wires) → 0 < per_byte w
per_byte_pos One = lit< tt
per_byte_pos Two = lit< tt
per_byte_pos Four = lit< tt

pub per_byte_le : (w : Wires) → per_byte w ≤ 8
per_byte_le One = omega arith
per_byte_le Two = omega arith
per_byte_le Four = omega arith

-- so few bytes take clocks that a machine's word holds
pub clocks_few : (w : Wires) (k : ℕ) → k ≤ 65535 → k * per_byte w ≤ 524280
clocks_few One k h = omega arith
clocks_few Two k h = omega arith
clocks_few Four k h = omega arith

-- and so few clocks carry bits that it holds
pub bits_few : (w : Wires) (k : ℕ) → k ≤ 65535 → wires_of w * k ≤ 262140
bits_few One k h = omega arith
bits_few Two k h = omega arith
bits_few Four k h = omega arith

-- clock k of its byte is not past the byte's last
pub coming_fits : (w : Wires) (k : Clocks) → k.0 % per_byte w ≤ per_byte w - 1
coming_fits w k = let h = mod-lt k.0 (per_byte_pos w) in omega arith

-- the clocks of whole bytes carry just these bytes
pub whole_of_clocks : (w : Wires) (b : Bytes) → whole_of w (clocks_of w b) ≡ b
whole_of_clocks w b = ap bytes (mul-div_cancel b.0 (per_byte_pos w))

-- clocks are those of their whole bytes and the unfinished ones
pub clocks_split : (w : Wires) (c : Clocks) → clocks ((clocks_of w (whole_of w c)).0 + (unfinished_of w c).0) ≡ c
clocks_split w c = ap clocks (div-add-mod' c.0 (per_byte w))

-- clocks carry fewer bytes than b just when they are fewer than b takes
pub whole_lt : (w : Wires) (t b : ℕ) → t < b * per_byte w → t / per_byte w < b
whole_lt One t b h = omega arith
whole_lt Two t b h = omega arith
whole_lt Four t b h = omega arith

pub lt_whole : (w : Wires) (t b : ℕ) → t / per_byte w < b → t < b * per_byte w
lt_whole One t b h = omega arith
lt_whole Two t b h = omega arith
lt_whole Four t b h = omega arith

-- bytes that the clocks carry take no more than these
pub within_le : (w : Wires) (t b : ℕ) → b ≤ t / per_byte w → b * per_byte w ≤ t
within_le One t b h = omega arith
within_le Two t b h = omega arith
within_le Four t b h = omega arith
