-- What is looked at before anything is written.
use Rattle.std.specs.Prelude.{ℕ, suc, cond, List, [], ◌∷◌, eqb}
use Rattle.units.specs.declared.Clocks.{Clocks}
use Rattle.units.specs.Units.{clocks}
use Rattle.record.specs.declared.answers.Answer.{Answer}
use Rattle.paper.specs.Collecting.{collect_answer}

-- how many clocks are driven, on any wires
unfoldable pub count_of : List ℕ → ℕ
count_of [] = 0
count_of (x ∷ xs) = cond (eqb x 0) (count_of xs) (suc (count_of xs))

abbrev pub driven_in : List ℕ → Clocks
driven_in xs = clocks (count_of xs)

-- the answer
unfoldable pub refusal_of : ℕ → List ℕ → List ℕ → Answer
refusal_of wires xs out = collect_answer wires xs out
