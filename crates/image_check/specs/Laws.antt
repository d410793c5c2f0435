-- ACCEPTED EXACTLY: bytes are accepted where they are the image of a valid record, and nowhere else; each valid record has one image, and each image one record. Document 02, P8.
-- The definitions stand here, the theorems in proofs/Laws.antt.
-- Assumes nothing.
use Rattle.std.specs.Prelude.{◌≡◌, ℕ, true, List}
use Rattle.record.specs.declared.devices.Device.{Device}
use Rattle.image.specs.Image.{image_of}
use Rattle.image.specs.Back.{InTypes}
use Rattle.image_check.specs.Accepted.{valid_record}

-- EXACTLY: bytes that are the image of a valid record
pub record ImageOfChip (bs : List ℕ) : Type 0 where
  pub chip : Device
  pub typed : InTypes chip
  pub valid : valid_record chip ≡ true
  pub image : image_of chip ≡ bs
