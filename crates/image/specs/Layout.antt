-- The table of the image: 128 bytes, each field at its place. Document 02, P8 (D94). The fields named `Beside..` are spare, and stand where the record may grow.
use Rattle.std.specs.Prelude.{ℕ, List, [], ◌∷◌}
use Rattle.image.specs.declared.fields.Place.{Place}
use Rattle.image.specs.declared.fields.Field.{Field}
use Rattle.image.specs.declared.fields.Field.TheVariants as At

abbrev pub image_size : ℕ
image_size = 128

-- a place: where it begins, and how many bytes it has
abbrev pub place_as : ℕ → ℕ → Place
place_as offset size = record { offset = offset; size = size }

-- THE TABLE
abbrev pub place_of : Field → Place
place_of At.Part = place_as 0 1
place_of At.N = place_as 1 1
place_of At.BesideMake = place_as 2 2
place_of At.Status = place_as 4 1
place_of At.AreaProtection = place_as 5 1
place_of At.Configuration1 = place_as 6 1
place_of At.Configuration2 = place_as 7 1
place_of At.Configuration3 = place_as 8 1
place_of At.Configuration4 = place_as 9 1
place_of At.ModeRegister = place_as 10 1
place_of At.BusMode = place_as 11 1
place_of At.Latch = place_as 12 1
place_of At.Armed = place_as 13 1
place_of At.Asleep = place_as 14 1
place_of At.Toggle = place_as 15 1
place_of At.DeviceIdentity = place_as 16 8
place_of At.UniqueNumber = place_as 24 8
place_of At.SerialNumber = place_as 32 8
place_of At.BesideIdentities = place_as 40 24
place_of At.Selected = place_as 64 1
place_of At.Opcode = place_as 65 1
place_of At.BesideOpcode = place_as 66 2
place_of At.Clocks = place_as 68 4
place_of At.Address = place_as 72 4
place_of At.Number = place_as 76 4
place_of At.Value = place_as 80 8
place_of At.BesideValue = place_as 88 40

abbrev pub offset_of : Field → ℕ
offset_of f = (place_of f).offset

abbrev pub size_of : Field → ℕ
size_of f = (place_of f).size

-- the fields in the order of their places: each begins where the one before it ends
abbrev pub layout : List Field
layout =
    At.Part
    ∷ At.N
    ∷ At.BesideMake
    ∷ At.Status
    ∷ At.AreaProtection
    ∷ At.Configuration1
    ∷ At.Configuration2
    ∷ At.Configuration3
    ∷ At.Configuration4
    ∷ At.ModeRegister
    ∷ At.BusMode
    ∷ At.Latch
    ∷ At.Armed
    ∷ At.Asleep
    ∷ At.Toggle
    ∷ At.DeviceIdentity
    ∷ At.UniqueNumber
    ∷ At.SerialNumber
    ∷ At.BesideIdentities
    ∷ At.Selected
    ∷ At.Opcode
    ∷ At.BesideOpcode
    ∷ At.Clocks
    ∷ At.Address
    ∷ At.Number
    ∷ At.Value
    ∷ At.BesideValue
    ∷ []
