-- Which bytes are the image of a valid record; all others are answered 3. Document 02, P8.
use Rattle.std.specs.Prelude.{ℕ, Bool, ◌&&◌, List}
use Rattle.parts.specs.Parts.{part_of, known_part, offered}
use Rattle.record.specs.declared.devices.Device.{Device}
use Rattle.paper.specs.Underway.{valid_of}
use Rattle.image.specs.Image.{record_of, shaped}

-- A VALID RECORD: there is such a part, it has such an n, and the state check is passed. A part or n out of range is 1 to a call over a record and 3 to one
-- over an image, since no valid record has it
unfoldable pub valid_record : Device → Bool
valid_record d =
    let m = d.make in
    known_part m.part && (offered (part_of m.part) m.n && valid_of d)

-- AN IMAGE
unfoldable pub accepted : List ℕ → Bool
accepted bs = shaped bs && valid_record (record_of bs)
