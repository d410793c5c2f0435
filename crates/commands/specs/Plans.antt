-- The plan of a command: on which wires it travels, what its address names, how long it waits, what its data is. Document 01, the columns of the
-- two command tables and the paragraphs below them.
use Rattle.std.specs.Prelude.{ℕ, ◌+◌, ◌*◌, ◌%◌, Bool, true, false, cond, List, [], ◌∷◌, ◌++◌, eqb, get_or, Option, Some, None}
use Rattle.kinds.specs.declared.Register.{Register}
use Rattle.units.specs.declared.Clocks.{Clocks}
use Rattle.units.specs.declared.Wires.{Wires}
use Rattle.units.specs.declared.Wires.TheVariants as On
use Rattle.units.specs.Units.{clocks}
use Rattle.parts.specs.declared.Part.{Part}
use Rattle.kinds.specs.declared.Register.TheVariants.{ModeRegister, LongIdentity}
use Rattle.kinds.specs.declared.ReadForm.TheVariants as Reads
use Rattle.kinds.specs.declared.WriteForm.TheVariants as Writes
use Rattle.kinds.specs.declared.Source.{Source}
use Rattle.kinds.specs.declared.Source.TheVariants as From
use Rattle.kinds.specs.declared.Target.{Target}
use Rattle.kinds.specs.declared.Target.TheVariants as Into
use Rattle.kinds.specs.declared.Kind.{Kind}
use Rattle.kinds.specs.declared.Kind.TheVariants.{Unknown, Plain, Read, Write}
use Rattle.commands.specs.declared.plans.Address.{Address}
use Rattle.commands.specs.declared.plans.Address.TheVariants.{Absent, InMemory, InArea, InMap, LowNibbleZero, Ignored}
use Rattle.commands.specs.declared.plans.Body.{Body}
use Rattle.commands.specs.declared.plans.Body.TheVariants.{Nothing, FixedRead, AnyRead, FixedWrite, AnyWrite}
use Rattle.commands.specs.Registers.{bytes_of, mapped_of}

-- The waits that the papers name, in clocks: each row on one wire, on two, on four. The PSRAM has no bus mode of two wires, and its rows have 0 there.
abbrev pub fixed_waits : List ℕ
fixed_waits =
    -- row 0: every command that has no row of its own
    0 ∷ 0 ∷ 0
    -- row 1: 65
    ∷ 8 ∷ 4 ∷ 2
    -- row 2: 0B
    ∷ 8 ∷ 0 ∷ 4
    -- row 3: EB
    ∷ 6 ∷ 0 ∷ 6
    -- row 4: 8B and B5
    ∷ 8 ∷ 0 ∷ 6
    ∷ []

-- after them, row 5: 4B, whose wait stands in CR2[3:0], a number of clocks too
abbrev pub wait_table : ℕ → List ℕ
wait_table cr2 = fixed_waits ++ (cr2 % 16 ∷ cr2 % 16 ∷ cr2 % 16 ∷ [])

abbrev pub wait_row : Kind → ℕ
wait_row Unknown = 0
wait_row (Plain c) = 0
wait_row (Read (From.Register r)) = 0
wait_row (Read From.Map) = 1
wait_row (Read From.Mode) = 4
wait_row (Read From.Identity) = 0
wait_row (Read (From.Memory Reads.Plain)) = 0
wait_row (Read (From.Memory Reads.Fast)) = 2
wait_row (Read (From.Memory Reads.Quad)) = 3
wait_row (Read (From.Memory Reads.Wrapped)) = 4
wait_row (Read From.Area) = 5
wait_row (Write t) = 0

abbrev pub waits_by_register : Kind → Bool
waits_by_register k = eqb (wait_row k) 5

-- the row of a wait that is fixed, and none of 4B's
abbrev pub fixed_row : Kind → Option ℕ
fixed_row k = cond (waits_by_register k) None (Some (wait_row k))

abbrev pub column_of : Wires → ℕ
column_of On.One = 0
column_of On.Two = 1
column_of On.Four = 2

abbrev pub wait_of : Kind → Wires → ℕ → Clocks
wait_of k w cr2 = clocks (get_or (wait_table cr2) (3 * wait_row k + column_of w) 0)

-- the PSRAM's EB and 38 have all but their command on four wires; every other command keeps to the bus mode
abbrev pub later_wires : Kind → Wires → Wires
later_wires Unknown w = w
later_wires (Plain c) w = w
later_wires (Read (From.Register r)) w = w
later_wires (Read From.Map) w = w
later_wires (Read From.Mode) w = w
later_wires (Read From.Identity) w = w
later_wires (Read (From.Memory Reads.Plain)) w = w
later_wires (Read (From.Memory Reads.Fast)) w = w
later_wires (Read (From.Memory Reads.Quad)) w = On.Four
later_wires (Read (From.Memory Reads.Wrapped)) w = w
later_wires (Read From.Area) w = w
later_wires (Write (Into.Register r)) w = w
later_wires (Write Into.Mode) w = w
later_wires (Write (Into.Memory Writes.Plain)) w = w
later_wires (Write (Into.Memory Writes.Quad)) w = On.Four
later_wires (Write Into.Area) w = w

-- what the 24 bits of an address name; the PSRAM's 9F has an address that it ignores (D16)
abbrev pub address_of : Kind → Address
address_of Unknown = Absent
address_of (Plain c) = Absent
address_of (Read (From.Register r)) = Absent
address_of (Read From.Map) = InMap
address_of (Read From.Mode) = LowNibbleZero
address_of (Read From.Identity) = Ignored
address_of (Read (From.Memory r)) = InMemory
address_of (Read From.Area) = InArea
address_of (Write (Into.Register r)) = Absent
address_of (Write Into.Mode) = LowNibbleZero
address_of (Write (Into.Memory r)) = InMemory
address_of (Write Into.Area) = InArea

-- 65 reads as many bytes as the register at its address has
abbrev pub mapped_body : Option Register → Body
mapped_body (Some r) = FixedRead (bytes_of r)
mapped_body None = Nothing

abbrev pub read_body : Part → Source → ℕ → Body
read_body p (From.Register r) address = FixedRead (bytes_of r)
read_body p From.Map address = mapped_body (mapped_of p address)
read_body p From.Mode address = FixedRead (bytes_of ModeRegister)
read_body p From.Identity address = FixedRead (bytes_of LongIdentity)
read_body p (From.Memory r) address = AnyRead
read_body p From.Area address = AnyRead

abbrev pub write_body : Target → Body
write_body (Into.Register r) = FixedWrite (bytes_of r)
write_body Into.Mode = FixedWrite (bytes_of ModeRegister)
write_body (Into.Memory r) = AnyWrite
write_body Into.Area = AnyWrite

abbrev pub body_of : Part → Kind → ℕ → Body
body_of p Unknown address = Nothing
body_of p (Plain c) address = Nothing
body_of p (Read s) address = read_body p s address
body_of p (Write t) address = write_body t

-- the data is read, or written
abbrev pub reads : Body → Bool
reads Nothing = false
reads (FixedRead b) = true
reads AnyRead = true
reads (FixedWrite b) = false
reads AnyWrite = false

abbrev pub writes : Body → Bool
writes Nothing = false
writes (FixedRead b) = false
writes AnyRead = false
writes (FixedWrite b) = true
writes AnyWrite = true
