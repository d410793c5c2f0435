-- What checks come to, as a value: passed, or the answer of the first that fails.
use Rattle.std.specs.Prelude.{Result, Ok, Err}
use Rattle.record.specs.declared.answers.Answer.{Answer}
use Rattle.record.specs.declared.answers.Answer.TheVariants.{Done}

-- the answer that it tells: 0 where all are passed
abbrev pub told : Result (Unit {0}) Answer → Answer
told (Ok u) = Done
told (Err v) = v
