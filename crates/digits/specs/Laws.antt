-- Laws of digits and of their pairs.
-- Assumes nothing.
use Rattle.std.specs.Prelude.{◌≡◌, refl, ℕ, ◌<◌, ◌≤◌, List, [], ◌∷◌, ◌++◌, length, get_or, unwrap_or}
use Rattle.std.proofs.Common.{arith}
use Rattle.digits.specs.Digits.{digit_of, pair_of, pairs_of}

-- a digit, or what stands for one that is none, is no more than fifteen
pub digit_small : (b : ℕ) → unwrap_or (digit_of b) 15 ≤ 15
unfolding digit_of
digit_small b = grind arith

-- less than two digits are no pair
pub pairs_short : (xs : List ℕ) → length xs < 2 → pairs_of xs ≡ []
unfolding pairs_of
pairs_short [] h = refl
pairs_short (x ∷ []) h = refl
pairs_short (x ∷ y ∷ ys) h = absurd (omega arith)

-- two digits before others are the first pair
pub pairs_next : (two rest : List ℕ) {all : List ℕ} {b : ℕ} → all ≡ two ++ rest → length two ≡ 2 → b ≡ pair_of (get_or two 0 0) (get_or two 1 0)
    → pairs_of all ≡ b ∷ pairs_of rest
unfolding pairs_of
pairs_next [] rest e h d = absurd (omega arith)
pairs_next (x ∷ []) rest e h d = absurd (omega arith)
pairs_next (x ∷ y ∷ []) rest e h d = rw (e, d) refl
pairs_next (x ∷ y ∷ z ∷ zs) rest e h d = absurd (omega arith)
