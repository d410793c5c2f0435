-- KEPT: a call on a valid record, with memory and area of its size, leaves a valid record and the same sizes; and a fresh chip is valid. So whoever starts from a fresh chip and makes any
-- transactions and power cycles never meets answer 3, and meets answer 1 only for his clocks or his output; for `open`, `feed` and `close` `chunks: Promises` says it.
--
-- A command reaches only fields that its family has, because each row of the family's table is a command of that family: one computed test over the rows.
-- The definitions stand here, the theorems in proofs/Kept.antt.
-- Assumes nothing.
use Rattle.std.specs.Prelude.{◌≡◌, Bool, true, false, not, List, [], ◌∷◌, ℕ, ◌/◌, ◌%◌, eqb, length, drop}
use Rattle.parts.specs.declared.Family.{Family}
use Rattle.parts.specs.declared.Family.TheVariants.{Mram, Psram}
use Rattle.parts.specs.declared.Part.{Part}
use Rattle.parts.specs.Parts.{part_of, family_of}
use Rattle.kinds.specs.declared.Control.{Control}
use Rattle.kinds.specs.declared.Control.TheVariants.{NoOperation, WriteEnable, WriteDisable, ToOne, ToTwo, ToFour, Sleep, Wake, ResetEnable, Reset, Toggle}
use Rattle.kinds.specs.declared.Register.{Register}
use Rattle.kinds.specs.declared.Register.TheVariants as At
use Rattle.kinds.specs.declared.Target.{Target}
use Rattle.kinds.specs.declared.Target.TheVariants as Into
use Rattle.kinds.specs.declared.Kind.{Kind}
use Rattle.kinds.specs.declared.Kind.TheVariants.{Unknown, Plain, Read, Write}
use Rattle.record.specs.declared.devices.Registers.{Registers}
use Rattle.record.specs.declared.devices.Identities.{Identities}
use Rattle.record.specs.declared.devices.Make.{Make}
use Rattle.record.specs.declared.devices.Underway.{Underway}
use Rattle.record.specs.declared.devices.Device.{Device}
use Rattle.state_check.specs.Values.{status_allowed, configurations_allowed, mode_register_allowed}
use Rattle.state_check.specs.States.{mode_allowed, zeros, psram_identity}
use Rattle.paper.specs.Underway.{valid_of}
use Rattle.paper.specs.Storing.{Lent}
use Rattle.paper.specs.Transaction.{World, sized_for}

-- ---- the commands of a family
-- what a command without data, and a write, may move
abbrev pub controls : Family → Control → Bool
controls Mram NoOperation = true
controls Mram WriteEnable = true
controls Mram WriteDisable = true
controls Mram ToOne = true
controls Mram ToTwo = true
controls Mram ToFour = true
controls Mram Sleep = true
controls Mram Wake = true
controls Mram ResetEnable = true
controls Mram Reset = true
controls Mram Toggle = false
controls Psram NoOperation = true
controls Psram WriteEnable = false
controls Psram WriteDisable = false
controls Psram ToOne = true
controls Psram ToTwo = false
controls Psram ToFour = true
controls Psram Sleep = false
controls Psram Wake = false
controls Psram ResetEnable = true
controls Psram Reset = true
controls Psram Toggle = true

-- the MRAM writes the registers that it has, the PSRAM its mode register
abbrev pub registers : Register → Bool
registers At.Status = true
registers At.AreaProtection = true
registers At.Configuration1 = true
registers At.Configuration2 = true
registers At.Configuration3 = true
registers At.Configuration4 = true
registers At.Configurations = true
registers At.Identity = true
registers At.Unique = true
registers At.Serial = true
registers At.ModeRegister = false
registers At.LongIdentity = true

abbrev pub targets : Family → Target → Bool
targets Mram (Into.Register r) = registers r
targets Mram Into.Mode = false
targets Mram (Into.Memory z) = true
targets Mram Into.Area = true
targets Psram (Into.Register r) = false
targets Psram Into.Mode = true
targets Psram (Into.Memory z) = true
targets Psram Into.Area = false

abbrev pub has : Family → Kind → Bool
has f Unknown = true
has f (Plain c) = controls f c
has f (Read s) = true
has f (Write t) = targets f t

-- ---- a valid record of each family, by the fields that its check looks at
pub record OfMram (p : Part) (status cr1 cr2 cr3 cr4 mr0 mode : ℕ) (toggle : Bool) (device : List ℕ) : Type 0 where
  pub allowed : status_allowed status ≡ true
  pub unshown : eqb (status / 2 % 2) 0 ≡ true
  pub configured : configurations_allowed p cr1 cr2 cr3 cr4 ≡ true
  pub modeless : eqb mr0 0 ≡ true
  pub untoggled : not toggle ≡ true
  pub wired : mode_allowed Mram mode ≡ true
  pub identity : zeros (drop 4 device) ≡ true

pub record OfPsram (r : Registers) (latch asleep : Bool) (mode : ℕ) (i : Identities) : Type 0 where
  pub others : zeros (r.status ∷ r.protection ∷ r.cr1 ∷ r.cr2 ∷ r.cr3 ∷ r.cr4 ∷ []) ≡ true
  pub register : mode_register_allowed r.mr0 ≡ true
  pub unlatched : not latch ≡ true
  pub awake : not asleep ≡ true
  pub wired : mode_allowed Psram mode ≡ true
  pub identity : psram_identity i ≡ true

abbrev pub Fields : Family → Part → Device → Type 0
Fields Mram p d =
    let r = d.registers in
    OfMram p r.status r.cr1 r.cr2 r.cr3 r.cr4 r.mr0 d.volatile.mode d.volatile.toggle d.identity.device
Fields Psram p d = OfPsram d.registers d.volatile.latch d.volatile.asleep d.volatile.mode d.identity

-- of the same make, which no call changes, and with the same transaction open, which no command touches
abbrev pub Of : Family → Part → Make → Underway → Device → Type 0
Of f p m u d = ((d.make ≡ m) × (d.underway ≡ u)) × Fields f p d

-- ---- a record of the make that was valid, and is
abbrev pub Good : Make → Underway → Device → Type 0
Good m u d = Of (family_of (part_of m.part)) (part_of m.part) m u d

-- ---- memory and area keep their sizes
abbrev pub SameSize : Lent → Lent → Type 0
SameSize l k = (length k.memory ≡ length l.memory) × (length k.area ≡ length l.area)

-- ---- THE PROMISE: after the call the record is valid, of the same make, and everything that was lent has its old size (D68)
pub record Kept (d : Device) (l : Lent) (out : List ℕ) (w : World) : Type 0 where
  pub valid : valid_of w.device ≡ true
  pub sized : sized_for w.device w.lent ≡ true
  pub make : w.device.make ≡ d.make
  pub memory : length w.lent.memory ≡ length l.memory
  pub area : length w.lent.area ≡ length l.area
  pub output : length w.output ≡ length out
