-- A number in decimal: its digits, the most significant first, and no zero in front of another digit. Document 01, "Bench tape": offsets and counts are printed so.
-- The definitions stand here, the theorems in proofs/Decimal.antt.
-- Assumes nothing.
use Rattle.std.specs.Prelude.{cond, List, [], ◌∷◌, ◌++◌, ℕ, zero, suc, ◌+◌, ◌/◌, ◌%◌, ltb}

-- the last digit, 0 being 48, behind those of the number without it; a number below 10 has one digit, and so many more at most are looked at
unfoldable pub decimal_in : ℕ → ℕ → List ℕ
decimal_in zero n = (48 + n % 10) ∷ []
decimal_in (suc k) n = cond (ltb n 10) ((48 + n % 10) ∷ []) (decimal_in k (n / 10) ++ ((48 + n % 10) ∷ []))

-- a machine's word has twenty digits at most
abbrev pub decimal_of : ℕ → List ℕ
decimal_of n = decimal_in 19 n
