-- UNIQUE for the record of an image: the contract of `accepted` speaks of both cases, and leaves one result.
-- Assumes nothing.
use Rattle.std.specs.Prelude.{◌≡◌, true, false, List, ℕ, Option, MatchOption}
use Rattle.basis.specs.Unique.{value_unique}
use Rattle.record.specs.declared.devices.Device.{Device}
use Rattle.image.specs.Image.{record_of}
use Rattle.image_check.specs.Accepted.{accepted}

abbrev pub Taken : List ℕ → Option Device → Type 0
Taken image r = MatchOption r (accepted image ≡ false) (λ d. (accepted image ≡ true) × (d ≡ record_of image))

pub accepted_unique : (image : List ℕ) (r s : Option Device) → Taken image r → Taken image s → r ≡ s
accepted_unique image = value_unique (accepted image) (record_of image)
