-- Numbers on wires, worked out. Document 01, "Bench examples" (a), (b) and (d).
use Rattle.std.specs.Prelude.{List, [], ◌∷◌, map, Bool, not, ℕ, T, eqb}
use Rattle.basis.specs.Examples.{all, same}
use Rattle.units.specs.declared.Wires.{Wires}
use Rattle.units.specs.declared.Wires.TheVariants.{One, Two, Four}
use Rattle.units.specs.Units.{clocks, per_byte}
use Rattle.wires.specs.Bits.{shift_of, gather_from, gather, spelled, group_of}
use Rattle.wires.specs.Levels.{level_of, driven_of}

-- what a byte drives in its clocks
abbrev drives : Wires → ℕ → List ℕ
drives w b = map (level_of w) (spelled w (per_byte w) b)

unfoldable pub examples : List Bool
examples =
    -- 06 on two wires and on four
    same (spelled Two 4 0x06) (0x00 ∷ 0x00 ∷ 0x01 ∷ 0x02 ∷ [])
    ∷ same (spelled Four 2 0x06) (0x00 ∷ 0x06 ∷ [])
    -- A5 driven on four wires and on one
    ∷ same (drives Four 0xA5) (0xFA ∷ 0xF5 ∷ [])
    ∷ same (drives One 0xA5) (0x22 ∷ 0x20 ∷ 0x22 ∷ 0x20 ∷ 0x20 ∷ 0x22 ∷ 0x20 ∷ 0x22 ∷ [])
    -- wires that are not in use make no difference: 15 and 14 differ on wire 0 alone
    ∷ eqb (gather One (15 ∷ 14 ∷ 15 ∷ 14 ∷ 14 ∷ 15 ∷ 14 ∷ 15 ∷ [])) 0xA5
    ∷ eqb (gather Two (14 ∷ 14 ∷ 13 ∷ 13 ∷ [])) 0xA5
    -- an address, high nibble first
    ∷ eqb (gather Four (0x1 ∷ 0x2 ∷ 0x3 ∷ 0x4 ∷ 0x5 ∷ 0x6 ∷ [])) 0x123456
    -- the third clock of a byte on two wires, and the third on four, which is the first again
    ∷ eqb (group_of Two (clocks 2) 0x1B) 2
    ∷ eqb (group_of Four (clocks 2) 0xA5) 0xA
    -- 21h is never driven on one wire
    ∷ not (driven_of One 0x21)
    ∷ not (driven_of Two 0x20)
    ∷ []

pub examples_hold : T (all examples)
unfolding examples gather_from shift_of spelled group_of
examples_hold = tt
