-- UNIQUE for bytes taken as an image: the contract of `shaped` speaks of both cases, and leaves one result.
-- Assumes nothing.
use Rattle.std.specs.Prelude.{◌≡◌, true, false, List, ℕ, Option, MatchOption}
use Rattle.basis.specs.Unique.{value_unique}
use Rattle.image.specs.Image.{shaped}

-- the bytes that a result lends, where it lends any
abbrev pub Taken : List ℕ → Option (List ℕ) → Type 0
Taken image r = MatchOption r (shaped image ≡ false) (λ a. (shaped image ≡ true) × (a ≡ image))

pub shaped_unique : (image : List ℕ) (r s : Option (List ℕ)) → Taken image r → Taken image s → r ≡ s
shaped_unique image = value_unique (shaped image) image
