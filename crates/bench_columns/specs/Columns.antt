-- The columns of the bench's lines. Document 01, "Bench tape": the line of a record has its number, the answer and the five counts, in the papers' order, with a space between them.
use Rattle.std.specs.Prelude.{List, ◌∷◌, ◌++◌, ℕ}
use Rattle.counts.specs.declared.Counts.{Counts}
use Rattle.text.specs.Decimal.{decimal_of}

-- a number behind a space
abbrev pub column_of : ℕ → List ℕ
column_of v = 32 ∷ decimal_of v

-- the five counts
unfoldable pub five_of : Counts → List ℕ
five_of c = column_of c.command.0 ++ (column_of c.address.0 ++ (column_of c.wait.0 ++ (column_of c.body.0 ++ column_of c.rest.0)))
