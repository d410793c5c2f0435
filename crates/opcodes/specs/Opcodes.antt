-- The opcode decision. Document 01, "Commands of part M" and "Commands of part P": the rows stand in the papers' order, each with its opcode, its
-- meaning and the bus modes in which the family has it. What no row has is unknown, answer 5 (D3).
use Rattle.std.specs.Prelude.{ℕ, Bool, true, false, cond, List, [], ◌∷◌, Option, Some, None}
use Rattle.basis.specs.Rows.{look}
use Rattle.units.specs.declared.Wires.{Wires}
use Rattle.units.specs.declared.Wires.TheVariants as On
use Rattle.parts.specs.declared.Family.{Family}
use Rattle.parts.specs.declared.Family.TheVariants.{Mram, Psram}
use Rattle.kinds.specs.declared.Control.TheVariants.{NoOperation, WriteEnable, WriteDisable, ToOne, ToTwo, ToFour, Sleep, Wake, ResetEnable, Reset, Toggle}
use Rattle.kinds.specs.declared.Register.TheVariants.{Status, AreaProtection, Configuration1, Configuration2, Configuration3, Configuration4, Configurations, Identity, Unique, Serial}
use Rattle.kinds.specs.declared.ReadForm.TheVariants as Reads
use Rattle.kinds.specs.declared.WriteForm.TheVariants as Writes
use Rattle.kinds.specs.declared.Source.TheVariants as Source
use Rattle.kinds.specs.declared.Target.TheVariants as Target
use Rattle.kinds.specs.declared.Kind.{Kind}
use Rattle.kinds.specs.declared.Kind.TheVariants.{Unknown, Plain, Read, Write}
use Rattle.opcodes.specs.declared.Modes.{Modes}
use Rattle.opcodes.specs.declared.Meaning.{Meaning}
use Rattle.opcodes.specs.declared.Row.{Row}
use Rattle.opcodes.specs.declared.Modes.TheVariants.{One, Four, OneTwo, OneFour, TwoFour, Always}

-- a row's meaning and the bus modes in which the family has it
abbrev pub entry : Kind → Modes → Option Meaning
entry k m = Some (record { kind = k; modes = m })

abbrev row : ℕ → Kind → Modes → ℕ × Option Meaning
row opcode k m = (opcode, entry k m)

-- The MRAM. The write commands' opcodes come from the makers' instruction tables (D1), and 02 works in every bus mode (D2).
abbrev pub mram_rows : List (ℕ × Option Meaning)
mram_rows =
    row 0x00 (Plain NoOperation) Always
    ∷ row 0x06 (Plain WriteEnable) Always
    ∷ row 0x04 (Plain WriteDisable) Always
    ∷ row 0x37 (Plain ToTwo) OneFour
    ∷ row 0x38 (Plain ToFour) OneTwo
    ∷ row 0xFF (Plain ToOne) TwoFour
    ∷ row 0xB9 (Plain Sleep) Always
    ∷ row 0xAB (Plain Wake) Always
    ∷ row 0x66 (Plain ResetEnable) Always
    ∷ row 0x99 (Plain Reset) Always
    ∷ row 0x05 (Read (Source.Register Status)) Always
    ∷ row 0x14 (Read (Source.Register AreaProtection)) Always
    ∷ row 0x35 (Read (Source.Register Configuration1)) Always
    ∷ row 0x3F (Read (Source.Register Configuration2)) Always
    ∷ row 0x44 (Read (Source.Register Configuration3)) Always
    ∷ row 0x45 (Read (Source.Register Configuration4)) Always
    ∷ row 0x46 (Read (Source.Register Configurations)) Always
    ∷ row 0x9F (Read (Source.Register Identity)) Always
    ∷ row 0x4C (Read (Source.Register Unique)) Always
    ∷ row 0xC3 (Read (Source.Register Serial)) Always
    ∷ row 0x65 (Read Source.Map) Always
    ∷ row 0x03 (Read (Source.Memory Reads.Plain)) One
    ∷ row 0x4B (Read Source.Area) One
    ∷ row 0x01 (Write (Target.Register Status)) Always
    ∷ row 0x87 (Write (Target.Register Configurations)) Always
    ∷ row 0xC2 (Write (Target.Register Serial)) Always
    ∷ row 0x1A (Write (Target.Register AreaProtection)) Always
    ∷ row 0x02 (Write (Target.Memory Writes.Plain)) Always
    ∷ row 0x42 (Write Target.Area) One
    ∷ []

-- The PSRAM, which has bus modes of one and of four wires.
abbrev pub psram_rows : List (ℕ × Option Meaning)
psram_rows =
    row 0x03 (Read (Source.Memory Reads.Plain)) One
    ∷ row 0x0B (Read (Source.Memory Reads.Fast)) OneFour
    ∷ row 0xEB (Read (Source.Memory Reads.Quad)) OneFour
    ∷ row 0x8B (Read (Source.Memory Reads.Wrapped)) OneFour
    ∷ row 0x02 (Write (Target.Memory Writes.Plain)) OneFour
    ∷ row 0x82 (Write (Target.Memory Writes.Plain)) OneFour
    ∷ row 0x38 (Write (Target.Memory Writes.Quad)) OneFour
    ∷ row 0xB5 (Read Source.Mode) OneFour
    ∷ row 0xB1 (Write Target.Mode) OneFour
    ∷ row 0x9F (Read Source.Identity) One
    ∷ row 0x35 (Plain ToFour) One
    ∷ row 0xF5 (Plain ToOne) Four
    ∷ row 0x66 (Plain ResetEnable) OneFour
    ∷ row 0x99 (Plain Reset) OneFour
    ∷ row 0xC0 (Plain Toggle) OneFour
    ∷ []

-- the rows go by the family (D57)
abbrev pub rows_of : Family → List (ℕ × Option Meaning)
rows_of Mram = mram_rows
rows_of Psram = psram_rows

-- an opcode that no row has means nothing (D3)
unfoldable pub meaning_of : Family → ℕ → Option Meaning
meaning_of f opcode = look None (rows_of f) opcode

-- the bus mode is one of the row's
abbrev pub in_modes : Modes → Wires → Bool
in_modes Always w = true
in_modes One On.One = true
in_modes One On.Two = false
in_modes One On.Four = false
in_modes Four On.One = false
in_modes Four On.Two = false
in_modes Four On.Four = true
in_modes OneTwo On.One = true
in_modes OneTwo On.Two = true
in_modes OneTwo On.Four = false
in_modes OneFour On.One = true
in_modes OneFour On.Two = false
in_modes OneFour On.Four = true
in_modes TwoFour On.One = false
in_modes TwoFour On.Two = true
in_modes TwoFour On.Four = true

-- and so it is one of an opcode's, if it has a row
abbrev pub has_mode : Option Meaning → Wires → Bool
has_mode None w = false
has_mode (Some m) w = in_modes m.modes w

abbrev pub kind_in : Option Meaning → Wires → Kind
kind_in None w = Unknown
kind_in (Some m) w = cond (in_modes m.modes w) m.kind Unknown

-- THE DECISION: the kind of a command for family, bus mode and opcode
abbrev pub kind_of : Family → Wires → ℕ → Kind
kind_of f w opcode = kind_in (meaning_of f opcode) w

-- both families' entries of an opcode, side by side
abbrev pub row_of : ℕ → Row
row_of opcode = record { mram = meaning_of Mram opcode; psram = meaning_of Psram opcode }
