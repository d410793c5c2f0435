-- Registers: sizes and addresses. Document 01, "Commands of part M" (the data column of the register commands, "Register addresses for 65") and
-- "Commands of part P" (B5, B1 and 9F). Document 02, P4 (part 3's addresses, from its Table 6).
use Rattle.std.specs.Prelude.{ℕ, List, [], ◌∷◌, Option, Some, None}
use Rattle.basis.specs.Rows.{look}
use Rattle.units.specs.declared.Bytes.{Bytes}
use Rattle.units.specs.Units.{bytes}
use Rattle.parts.specs.declared.Part.{Part}
use Rattle.parts.specs.declared.Part.TheVariants.{M, P, M32}
use Rattle.kinds.specs.declared.Register.{Register}
use Rattle.kinds.specs.declared.Register.TheVariants.{Status, AreaProtection, Configuration1, Configuration2, Configuration3, Configuration4, Configurations, Identity, Unique, Serial, ModeRegister, LongIdentity}

-- the fixed sizes; a device identity has four bytes on the MRAM and eight on the PSRAM (D7)
abbrev pub bytes_of : Register → Bytes
bytes_of Status = bytes 1
bytes_of AreaProtection = bytes 1
bytes_of Configuration1 = bytes 1
bytes_of Configuration2 = bytes 1
bytes_of Configuration3 = bytes 1
bytes_of Configuration4 = bytes 1
bytes_of Configurations = bytes 4
bytes_of Identity = bytes 4
bytes_of Unique = bytes 8
bytes_of Serial = bytes 8
bytes_of ModeRegister = bytes 1
bytes_of LongIdentity = bytes 8

-- the place of a register in the code's tables
abbrev pub table_place : Register → ℕ
table_place Status = 0
table_place AreaProtection = 1
table_place Configuration1 = 2
table_place Configuration2 = 3
table_place Configuration3 = 4
table_place Configuration4 = 5
table_place Configurations = 6
table_place Identity = 7
table_place Unique = 8
table_place Serial = 9
table_place ModeRegister = 10
table_place LongIdentity = 11

-- The register map: an address that no row has is not in it, and all 24 bits count. What all parts of the MRAM have there; area protection has no
-- address (D5).
abbrev pub mram_map : List (ℕ × Option Register)
mram_map =
    (0x00, Some Status)
    ∷ (0x02, Some Configuration1)
    ∷ (0x03, Some Configuration2)
    ∷ (0x04, Some Configuration3)
    ∷ (0x05, Some Configuration4)
    ∷ (0x30, Some Identity)
    ∷ (0x40, Some Unique)
    ∷ []

-- the serial number has an address on part M32 alone (D78)
abbrev pub map_of : Part → List (ℕ × Option Register)
map_of M = mram_map
map_of P = []
map_of M32 = (0x80, Some Serial) ∷ mram_map

unfoldable pub mapped_of : Part → ℕ → Option Register
mapped_of p address = look None (map_of p) address
