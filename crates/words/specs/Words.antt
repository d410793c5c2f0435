-- Numbers in lent words. Words of another number than is due are left as they are (D47).
use Rattle.std.specs.Prelude.{ℕ, Bool, cond, List, [], ◌∷◌, eqb, length}
use Rattle.counts.specs.declared.Counts.{Counts}

-- the five counts in the papers' order
abbrev pub counts_of : Counts → List ℕ
counts_of c = c.command.0 ∷ c.address.0 ∷ c.wait.0 ∷ c.body.0 ∷ c.rest.0 ∷ []

abbrev pub has_counts : List ℕ → Bool
has_counts words = eqb (length words) 5

unfoldable pub counts_over : Counts → List ℕ → List ℕ
counts_over c words = cond (has_counts words) (counts_of c) words

abbrev pub has_number : List ℕ → Bool
has_number words = eqb (length words) 1

unfoldable pub number_over : ℕ → List ℕ → List ℕ
number_over n words = cond (has_number words) (n ∷ []) words
