-- The state check, row 3 of document 01's "Answer numbers": whether each field of a record is in its range, and those that only the other family has are
-- clear. Part and n are checked before it, by row 1 (D10); what is in range but out of reach passes (D9). An open transaction is checked in `paper: Underway`.
use Rattle.std.specs.Prelude.{ℕ, ◌/◌, ◌%◌, Bool, true, not, ◌&&◌, ◌||◌, List, [], ◌∷◌, eqb, drop}
use Rattle.parts.specs.declared.Family.{Family}
use Rattle.parts.specs.declared.Family.TheVariants.{Mram, Psram}
use Rattle.parts.specs.declared.Part.{Part}
use Rattle.parts.specs.Parts.{part_of, family_of}
use Rattle.record.specs.declared.devices.Registers.{Registers}
use Rattle.record.specs.declared.devices.Volatile.{Volatile}
use Rattle.record.specs.declared.devices.Identities.{Identities}
use Rattle.record.specs.declared.devices.Device.{Device}
use Rattle.state_check.specs.Values.{status_allowed, configurations_allowed, mode_register_allowed}

-- the MRAM has bus modes 1, 2 and 4, the PSRAM 1 and 4 (D38)
unfoldable pub mode_allowed : Family → ℕ → Bool
mode_allowed Mram mode = eqb mode 1 || (eqb mode 2 || eqb mode 4)
mode_allowed Psram mode = eqb mode 1 || eqb mode 4

unfoldable pub zeros : List ℕ → Bool
zeros [] = true
zeros (x ∷ xs) = eqb x 0 && zeros xs

-- the MRAM: no write leaves status bit 1 set (D8), any area protection is good, the part tells which codes name a group, and there is no mode register
unfoldable pub mram_registers : Part → Registers → Bool
mram_registers p r =
    status_allowed r.status
    && (eqb (r.status / 2 % 2) 0
    && (configurations_allowed p r.cr1 r.cr2 r.cr3 r.cr4
    && eqb r.mr0 0))

-- it has no toggle; latch, arming and sleep are as they may
unfoldable pub mram_volatile : Volatile → Bool
mram_volatile v = not v.toggle && mode_allowed Mram v.mode

-- its device identity has four bytes; unique and serial number are as they may (D7)
unfoldable pub mram_identity : Identities → Bool
mram_identity i = zeros (drop 4 i.device)

-- the PSRAM: of the registers it has the mode register alone
unfoldable pub psram_registers : Registers → Bool
psram_registers r =
    zeros (r.status ∷ r.protection ∷ r.cr1 ∷ r.cr2 ∷ r.cr3 ∷ r.cr4 ∷ []) && mode_register_allowed r.mr0

-- it has no latch and never sleeps; arming and toggle are as they may
unfoldable pub psram_volatile : Volatile → Bool
psram_volatile v = not v.latch && (not v.asleep && mode_allowed Psram v.mode)

-- it has no unique and no serial number (D7)
unfoldable pub psram_identity : Identities → Bool
psram_identity i = zeros i.unique && zeros i.serial

abbrev pub mram_valid : Part → Device → Bool
mram_valid p d = mram_registers p d.registers && (mram_volatile d.volatile && mram_identity d.identity)

abbrev pub psram_valid : Device → Bool
psram_valid d = psram_registers d.registers && (psram_volatile d.volatile && psram_identity d.identity)

-- the fields by their family's rules, within their part's limits (D57)
abbrev pub valid_for : Family → Part → Device → Bool
valid_for Mram p d = mram_valid p d
valid_for Psram p d = psram_valid d

-- all of them are: what the state check asks of every field but the open transaction
unfoldable pub in_range : Device → Bool
in_range d =
    let p = part_of d.make.part in
    valid_for (family_of p) p d
