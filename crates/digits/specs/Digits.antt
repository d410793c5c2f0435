-- Digits, numbers in a base, and bytes as pairs of hexadecimal digits.
use Rattle.std.specs.Prelude.{ℕ, ◌+◌, ◌*◌, ◌-◌, ◌%◌, Bool, cond, ◌&&◌, List, [], ◌∷◌, eqb, ltb, leb, length, Option, Some, None, is_some, unwrap_or, option_and_then}
use Rattle.std.specs.List.{list_all}

-- the value of a digit, 0 to 9, A to F or a to f
unfoldable pub digit_of : ℕ → Option ℕ
digit_of b =
    cond (ltb b 48) None (cond (leb b 57) (Some (b - 48))
    (cond (ltb b 65) None (cond (leb b 70) (Some (b - 55))
    (cond (ltb b 97) None (cond (leb b 102) (Some (b - 87)) None)))))

-- a digit behind those that came to a sum: it must be below the base, and the new sum not above the most
abbrev pub digit_behind : ℕ → ℕ → ℕ → ℕ → Option ℕ
digit_behind base most sum d = cond (leb base d) None (cond (ltb most (sum * base + d)) None (Some (sum * base + d)))

unfoldable pub behind : ℕ → ℕ → ℕ → ℕ → Option ℕ
behind base most sum b = option_and_then (digit_behind base most sum) (digit_of b)

-- the digits that are left, behind those that came to a sum
unfoldable pub number_from : ℕ → ℕ → ℕ → List ℕ → Option ℕ
number_from base most sum [] = Some sum
number_from base most sum (b ∷ bs) = option_and_then (λ next. number_from base most next bs) (behind base most sum b)

-- a word has a digit at least
unfoldable pub number_of : ℕ → ℕ → List ℕ → Option ℕ
number_of base most word = cond (eqb (length word) 0) None (number_from base most 0 word)

abbrev pub are_digits : List ℕ → Bool
are_digits = list_all (λ b. is_some (digit_of b))

unfoldable pub is_paired : List ℕ → Bool
is_paired word = eqb (length word % 2) 0 && are_digits word

-- what is no digit stands for fifteen
abbrev pub pair_of : ℕ → ℕ → ℕ
pair_of high low = 16 * unwrap_or (digit_of high) 15 + unwrap_or (digit_of low) 15

unfoldable pub pairs_of : List ℕ → List ℕ
pairs_of [] = []
pairs_of (a ∷ []) = []
pairs_of (a ∷ b ∷ bs) = pair_of a b ∷ pairs_of bs
