-- Laws of the parts.
-- Assumes nothing.
use Rattle.std.specs.Prelude.{◌≡◌, refl}
use Rattle.parts.specs.declared.Part.{Part}
use Rattle.parts.specs.declared.Part.TheVariants.{M, P, M32}
use Rattle.parts.specs.Parts.{part_number, part_of}

-- no two parts have one number
pub part_back : (p : Part) → part_of (part_number p) ≡ p
part_back M = refl
part_back P = refl
part_back M32 = refl
