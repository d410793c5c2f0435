-- The image of a record, and the record of an image. Document 02, P8: numbers are little-endian, a flag is 0 or 1, spare bytes are 0 (D94).
use Rattle.std.specs.Prelude.{ℕ, ◌+◌, ◌*◌, ◌/◌, ◌%◌, Bool, true, false, ◌&&◌, List, [], ◌∷◌, ◌++◌, eqb, leb, length, get_or, take, drop, replicate}
use Rattle.units.specs.Units.{clocks}
use Rattle.record.specs.declared.devices.Registers.{Registers}
use Rattle.record.specs.declared.devices.Volatile.{Volatile}
use Rattle.record.specs.declared.devices.Identities.{Identities}
use Rattle.record.specs.declared.devices.Underway.{Underway}
use Rattle.record.specs.declared.devices.Device.{Device}
use Rattle.state_check.specs.States.{zeros}
use Rattle.image.specs.declared.fields.Field.{Field}
use Rattle.image.specs.declared.fields.Field.TheVariants as At
use Rattle.image.specs.Layout.{image_size, offset_of, size_of, layout}

-- ---- from a record to bytes
-- a flag
abbrev pub bit_of : Bool → ℕ
bit_of true = 1
bit_of false = 0

-- a number in four bytes, the lowest first
abbrev pub four_of : ℕ → List ℕ
four_of n = n % 256 ∷ n / 256 % 256 ∷ n / 256 / 256 % 256 ∷ n / 256 / 256 / 256 % 256 ∷ []

-- eight bytes from a place on
abbrev pub eight_from : ℕ → List ℕ → List ℕ
eight_from at bs =
    get_or bs at 0 ∷ get_or bs (at + 1) 0 ∷ get_or bs (at + 2) 0 ∷ get_or bs (at + 3) 0 ∷ get_or bs (at + 4) 0 ∷ get_or bs (at + 5) 0 ∷ get_or bs (at + 6) 0 ∷ get_or bs (at + 7) 0 ∷ []

abbrev pub eight_of : List ℕ → List ℕ
eight_of bs = eight_from 0 bs

-- WHAT A FIELD HOLDS
abbrev pub field_of : Device → Field → List ℕ
field_of d At.Part = d.make.part ∷ []
field_of d At.N = d.make.n ∷ []
field_of d At.BesideMake = replicate (size_of At.BesideMake) 0
field_of d At.Status = d.registers.status ∷ []
field_of d At.AreaProtection = d.registers.protection ∷ []
field_of d At.Configuration1 = d.registers.cr1 ∷ []
field_of d At.Configuration2 = d.registers.cr2 ∷ []
field_of d At.Configuration3 = d.registers.cr3 ∷ []
field_of d At.Configuration4 = d.registers.cr4 ∷ []
field_of d At.ModeRegister = d.registers.mr0 ∷ []
field_of d At.BusMode = d.volatile.mode ∷ []
field_of d At.Latch = bit_of d.volatile.latch ∷ []
field_of d At.Armed = bit_of d.volatile.armed ∷ []
field_of d At.Asleep = bit_of d.volatile.asleep ∷ []
field_of d At.Toggle = bit_of d.volatile.toggle ∷ []
field_of d At.DeviceIdentity = eight_of d.identity.device
field_of d At.UniqueNumber = eight_of d.identity.unique
field_of d At.SerialNumber = eight_of d.identity.serial
field_of d At.BesideIdentities = replicate (size_of At.BesideIdentities) 0
field_of d At.Selected = bit_of d.underway.selected ∷ []
field_of d At.Opcode = d.underway.opcode ∷ []
field_of d At.BesideOpcode = replicate (size_of At.BesideOpcode) 0
field_of d At.Clocks = four_of d.underway.clocks.0
field_of d At.Address = four_of d.underway.address
field_of d At.Number = four_of d.underway.number
field_of d At.Value = eight_of d.underway.value
field_of d At.BesideValue = replicate (size_of At.BesideValue) 0

-- the bytes of all fields, one field after the other
abbrev pub joined : (Field → List ℕ) → List Field → List ℕ
joined bytes [] = []
joined bytes (f ∷ fs) = bytes f ++ joined bytes fs

-- THE IMAGE
unfoldable pub image_of : Device → List ℕ
image_of d = joined (field_of d) layout

-- ---- from bytes to a record
abbrev pub byte_at : Field → List ℕ → ℕ
byte_at f bs = get_or bs (offset_of f) 0

abbrev pub flag_at : Field → List ℕ → Bool
flag_at f bs = eqb (byte_at f bs) 1

abbrev pub four_from : ℕ → List ℕ → ℕ
four_from at bs = get_or bs at 0 + 256 * get_or bs (at + 1) 0 + 65536 * (get_or bs (at + 2) 0 + 256 * get_or bs (at + 3) 0)

abbrev pub four_at : Field → List ℕ → ℕ
four_at f bs = four_from (offset_of f) bs

abbrev pub eight_at : Field → List ℕ → List ℕ
eight_at f bs = eight_from (offset_of f) bs

abbrev pub registers_at : List ℕ → Registers
registers_at bs =
    record {
      status = byte_at At.Status bs;
      protection = byte_at At.AreaProtection bs;
      cr1 = byte_at At.Configuration1 bs;
      cr2 = byte_at At.Configuration2 bs;
      cr3 = byte_at At.Configuration3 bs;
      cr4 = byte_at At.Configuration4 bs;
      mr0 = byte_at At.ModeRegister bs;
    }

abbrev pub volatile_at : List ℕ → Volatile
volatile_at bs =
    record {
      mode = byte_at At.BusMode bs;
      latch = flag_at At.Latch bs;
      armed = flag_at At.Armed bs;
      asleep = flag_at At.Asleep bs;
      toggle = flag_at At.Toggle bs;
    }

abbrev pub identities_at : List ℕ → Identities
identities_at bs = record { device = eight_at At.DeviceIdentity bs; unique = eight_at At.UniqueNumber bs; serial = eight_at At.SerialNumber bs }

abbrev pub underway_at : List ℕ → Underway
underway_at bs =
    record {
      selected = flag_at At.Selected bs;
      clocks = clocks (four_at At.Clocks bs);
      opcode = byte_at At.Opcode bs;
      address = four_at At.Address bs;
      number = four_at At.Number bs;
      value = eight_at At.Value bs;
    }

-- THE RECORD that bytes are read as
unfoldable pub record_of : List ℕ → Device
record_of bs =
    record {
      make = record { part = byte_at At.Part bs; n = byte_at At.N bs };
      registers = registers_at bs;
      volatile = volatile_at bs;
      identity = identities_at bs;
      underway = underway_at bs;
    }

-- ---- the shape of an image
-- the bytes where a field stands
abbrev pub piece_at : List ℕ → Field → List ℕ
piece_at bs f = take (size_of f) (drop (offset_of f) bs)

abbrev pub is_flag : Field → List ℕ → Bool
is_flag f bs = leb (byte_at f bs) 1

-- each flag is 0 or 1
unfoldable pub flagged : List ℕ → Bool
flagged bs = is_flag At.Latch bs && (is_flag At.Armed bs && (is_flag At.Asleep bs && (is_flag At.Toggle bs && is_flag At.Selected bs)))

-- each spare byte is 0
unfoldable pub spared : List ℕ → Bool
spared bs =
    zeros (piece_at bs At.BesideMake)
    && (zeros (piece_at bs At.BesideIdentities)
    && (zeros (piece_at bs At.BesideOpcode)
    && zeros (piece_at bs At.BesideValue)))

-- SHAPED: an image's length, and no flag and no spare byte out of its shape. Whether the record is a chip's is another question
unfoldable pub shaped : List ℕ → Bool
shaped bs = eqb (length bs) image_size && (flagged bs && spared bs)
