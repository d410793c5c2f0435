-- What the device drives. Document 01, "Samples", second paragraph. The high half of an output byte marks the driven wires and the low half has their
-- levels. On a single wire the device answers on wire 1, which is bit 1; a clock in which it drives nothing is 00h.
use Rattle.std.specs.Prelude.{ℕ, ◌+◌, ◌*◌, ◌/◌, ◌%◌, Bool, eqb}
use Rattle.units.specs.declared.Wires.{Wires}
use Rattle.units.specs.declared.Wires.TheVariants.{One, Two, Four}

-- the output byte for the bits v of one clock
abbrev pub level_of : Wires → ℕ → ℕ
level_of One v = 0x20 + 2 * (v % 2)
level_of Two v = 0x30 + v % 4
level_of Four v = 0xF0 + v % 16

-- the bits that an output byte shows
abbrev pub seen_of : Wires → ℕ → ℕ
seen_of One x = x / 2 % 2
seen_of Two x = x % 4
seen_of Four x = x % 16

-- the device drives this byte for some bits; every other byte it never drives on these wires
abbrev pub driven_of : Wires → ℕ → Bool
driven_of w x = eqb x (level_of w (seen_of w x))
