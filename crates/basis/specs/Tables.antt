-- The rule of a constant table, proved at all of its entries by one test that is computed over the whole table.
-- Assumes nothing.
use Rattle.std.specs.Prelude.{◌≡◌, Bool, true, ◌&&◌, List, [], ◌∷◌, ℕ, zero, suc, ◌+◌, ◌<◌, T, eqb, length, get_or}
use Rattle.std.proofs.Common.{◌∙◌, subst, sym, zero-add, add-zero, add-suc, suc-add, le_of_suc-le-suc, not-suc-le-zero, eqb→eq}
use Rattle.basis.specs.Truth.{both}

-- the entries, the first of which stands at i, are what the rule says
abbrev pub ruled : (ℕ → ℕ) → ℕ → List ℕ → Bool
ruled f i [] = true
ruled f i (x ∷ xs) = eqb x (f i) && ruled f (suc i) xs

from : (f : ℕ → ℕ) (xs : List ℕ) (i : ℕ) → T (ruled f i xs) → (k : ℕ) → k < length xs → get_or xs k 0 ≡ f (i + k)
from f [] i t k h = absurd (not-suc-le-zero h)
from f (x ∷ xs) i t zero h = rw add-zero (eqb→eq x (f i) (both (eqb x (f i)) (ruled f (suc i) xs) t).0)
from f (x ∷ xs) i t (suc k) h =
    subst (λ (m : ℕ). get_or xs k 0 ≡ f m) (suc-add i k ∙ sym (add-suc i k))
    (from f xs (suc i) (both (eqb x (f i)) (ruled f (suc i) xs) t).1 k (le_of_suc-le-suc h))

pub table_is : (f : ℕ → ℕ) (xs : List ℕ) → T (ruled f 0 xs) → (k : ℕ) → k < length xs → get_or xs k 0 ≡ f k
table_is f xs t k h = subst (λ (m : ℕ). get_or xs k 0 ≡ f m) (zero-add k) (from f xs 0 t k h)
