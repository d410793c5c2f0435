-- Which addresses are allowed, row 7 of document 01's "Answer numbers". The rules stand in "Commands of part M" (memory, area, the map of 65) and
-- "Commands of part P": the MRAM refuses an address that its memory has not, the PSRAM drops the bits that are too many.
use Rattle.std.specs.Prelude.{ℕ, ◌%◌, ◌^◌, Bool, true, false, eqb, ltb, Option, Some, None}
use Rattle.kinds.specs.declared.Register.{Register}
use Rattle.units.specs.declared.Bytes.{Bytes}
use Rattle.units.specs.Units.{bytes}
use Rattle.parts.specs.declared.Family.{Family}
use Rattle.parts.specs.declared.Family.TheVariants.{Mram, Psram}
use Rattle.parts.specs.Parts.{family_of, area_of}
use Rattle.commands.specs.declared.plans.Address.{Address}
use Rattle.commands.specs.declared.plans.Address.TheVariants.{Absent, InMemory, InArea, InMap, LowNibbleZero, Ignored}
use Rattle.commands.specs.Registers.{mapped_of}
use Rattle.record.specs.declared.devices.Setting.{Setting}

-- a memory has 2^n bytes
abbrev pub memory_size : ℕ → Bytes
memory_size n = bytes (2 ^ n)

abbrev pub is_mapped : Option Register → Bool
is_mapped (Some r) = true
is_mapped None = false

-- the PSRAM has every address, since it drops the bits that its memory has not (D15)
abbrev pub memory_allowed : Family → ℕ → ℕ → Bool
memory_allowed Mram n address = ltb address (memory_size n).0
memory_allowed Psram n address = true

-- an address that is ignored may be any (D16)
abbrev pub allowed_of : Setting → Address → ℕ → Bool
allowed_of s Absent address = true
allowed_of s InMemory address = memory_allowed (family_of s.part) s.n address
allowed_of s InArea address = ltb address (area_of s.part).0
allowed_of s InMap address = is_mapped (mapped_of s.part address)
allowed_of s LowNibbleZero address = eqb (address % 16) 0
allowed_of s Ignored address = true
