-- What a call gives and leaves in its buffer, as the paper tells it (D61): what was made is told with 0, and a refusal tells its answer and makes nothing.
use Rattle.std.specs.Prelude.{◌≡◌, ℕ, false, List, Ok, Err}
use Rattle.std.specs.declared.result.Result.{Result}
use Rattle.std.specs.Result.{IfErr}
use Rattle.units.specs.declared.Clocks.{Clocks}
use Rattle.units.specs.declared.Bytes.{Bytes}
use Rattle.units.specs.Units.{clocks, bytes}
use Rattle.record.specs.declared.answers.Answer.{Answer}
use Rattle.record.specs.declared.answers.Answer.TheVariants.{Done}
use Rattle.record.specs.Answers.{is_done}
use Rattle.paper.specs.Building.{Told}

abbrev pub result_as : {U : Type 0} → (ℕ → U) → Result U Answer → List ℕ → Told U
result_as unit (Ok u) buffer = record { answer = Done; number = u; buffer = buffer }
result_as unit (Err v) buffer = record { answer = v; number = unit 0; buffer = buffer }

abbrev pub built_as : Result Clocks Answer → List ℕ → Told Clocks
built_as r buffer = result_as clocks r buffer

abbrev pub gathered_as : Result Bytes Answer → List ℕ → Told Bytes
gathered_as r buffer = result_as bytes r buffer

-- an error is a refusal, and never the answer of what was done
abbrev pub NeverDone : {U : Type 0} → Result U Answer → Type 0
NeverDone r = IfErr r (λ v. is_done v ≡ false)
