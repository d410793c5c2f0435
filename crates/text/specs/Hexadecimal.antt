-- Bytes in hexadecimal, in upper case, with so many digits each at least: whole images, outputs and samples are printed so. The papers do not ask for it.
-- Assumes nothing.
use Rattle.std.specs.Prelude.{cond, List, [], ◌∷◌, ◌++◌, ℕ, ◌-◌, ◌/◌, ◌%◌, ◌||◌, ltb, get_or, replicate}

-- 0 to 9, and A to F
abbrev pub hex_digit : ℕ → ℕ
hex_digit d = get_or (48 ∷ 49 ∷ 50 ∷ 51 ∷ 52 ∷ 53 ∷ 54 ∷ 55 ∷ 56 ∷ 57 ∷ 65 ∷ 66 ∷ 67 ∷ 68 ∷ 69 ∷ 70 ∷ []) d 0

-- the last digit; before it the one in front of it, where the byte or the width has two; and zeros where the width has more
unfoldable pub hex_of : ℕ → ℕ → List ℕ
hex_of width b = replicate (width - 2) 48 ++ (cond (ltb 1 width || ltb 15 b) (hex_digit (b / 16) ∷ []) [] ++ (hex_digit (b % 16) ∷ []))

-- one byte after the other
unfoldable pub hexes_of : ℕ → List ℕ → List ℕ
hexes_of width [] = []
hexes_of width (b ∷ bs) = hex_of width b ++ hexes_of width bs
