-- Fresh chips. Document 01, "Commands of part M" (the sentence on fresh values) and "Commands of part P" (the sentence after MR0's bits: what a reset
-- leaves is also what a new chip has). Document 02, P4 (what is not named of part 3 is as for part 1).
use Rattle.std.specs.Prelude.{ℕ, false, List, ◌∷◌, get_or, replicate}
use Rattle.parts.specs.declared.Family.{Family}
use Rattle.parts.specs.declared.Family.TheVariants.{Mram, Psram}
use Rattle.parts.specs.declared.Part.{Part}
use Rattle.parts.specs.declared.Part.TheVariants.{M, P, M32}
use Rattle.parts.specs.Parts.{part_number, part_of, family_of}
use Rattle.record.specs.declared.devices.Registers.{Registers}
use Rattle.record.specs.declared.devices.Volatile.{Volatile}
use Rattle.record.specs.declared.devices.Identities.{Identities}
use Rattle.record.specs.declared.devices.Make.{Make}
use Rattle.record.specs.declared.devices.Device.{Device}
use Rattle.record.specs.Fields.{no_underway}

-- mode 1, latch down, disarmed, awake, toggle off
abbrev pub fresh_volatile : Volatile
fresh_volatile = record { mode = 1; latch = false; armed = false; asleep = false; toggle = false }

-- the PSRAM's mode register when it is new or reset
abbrev pub fresh_mode_register : ℕ
fresh_mode_register = 0x60

-- the registers of a fresh MRAM
abbrev pub fresh_mram : Registers
fresh_mram = record { status = 0; protection = 0; cr1 = 0; cr2 = 0x08; cr3 = 0; cr4 = 0x05; mr0 = 0 }

-- fresh registers go by the part (D57); part M32's are part M's (D81)
abbrev pub fresh_registers : Part → Registers
fresh_registers M = fresh_mram
fresh_registers P = record { status = 0; protection = 0; cr1 = 0; cr2 = 0; cr3 = 0; cr4 = 0; mr0 = fresh_mode_register }
fresh_registers M32 = fresh_mram

-- The serial number is 0. The MRAM has four bytes of device identity and a unique number, the PSRAM eight bytes of device identity (D7).
abbrev pub fresh_identity : Family → List ℕ → List ℕ → Identities
fresh_identity Mram device unique =
    record { device = get_or device 0 0 ∷ get_or device 1 0 ∷ get_or device 2 0 ∷ get_or device 3 0 ∷ replicate 4 0; unique = unique; serial = replicate 8 0 }
fresh_identity Psram device unique = record { device = device; unique = replicate 8 0; serial = replicate 8 0 }

-- the make of a part and a size (D57)
abbrev pub make_of : Part → ℕ → Make
make_of p n = record { part = part_number p; n = n }

-- A FRESH CHIP of a make, with its eight places of device identity and its unique number
abbrev pub fresh_of : Make → List ℕ → List ℕ → Device
fresh_of m device unique =
    let p = part_of m.part in
    record { make = m; registers = fresh_registers p; volatile = fresh_volatile; identity = fresh_identity (family_of p) device unique; underway = no_underway }
