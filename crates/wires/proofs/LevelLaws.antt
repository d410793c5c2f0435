-- Laws of driven levels, for any wires.
-- Assumes nothing.
use Rattle.std.specs.Prelude.{◌≡◌, refl, ℕ, ◌^◌, ◌<◌, true}
use Rattle.std.proofs.Common.{arith, eq-eqb}
use Rattle.units.specs.declared.Wires.{Wires}
use Rattle.units.specs.declared.Wires.TheVariants.{One, Two, Four}
use Rattle.units.specs.Units.{wires_of}
use Rattle.wires.specs.Levels.{level_of, seen_of, driven_of}

-- the bits driven are the bits seen
pub seen_level : (w : Wires) (v : ℕ) → v < 2 ^ wires_of w → seen_of w (level_of w v) ≡ v
seen_level One v h = omega arith
seen_level Two v h = omega arith
seen_level Four v h = omega arith

-- what it drives for some bits is a byte that it drives
pub driven_level : (w : Wires) (v : ℕ) → v < 2 ^ wires_of w → driven_of w (level_of w v) ≡ true
driven_level w v h = rw (seen_level w v h) (eq-eqb (level_of w v) (level_of w v) refl)

-- a driven clock is not 00h
pub level_not_zero : (w : Wires) (v : ℕ) → level_of w v ≡ 0 → ⊥
level_not_zero One v e = omega arith
level_not_zero Two v e = omega arith
level_not_zero Four v e = omega arith
