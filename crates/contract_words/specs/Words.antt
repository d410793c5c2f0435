-- The words of contracts: what the code has in its hands, values and lent slices, as the paper and the machine take them (D61).
use Rattle.std.specs.Prelude.{ℕ, List}
use Rattle.units.specs.declared.Bytes.{Bytes}
use Rattle.progress.specs.declared.Progress.{Progress}
use Rattle.progress.specs.Progress.{nothing_yet, begin_of}
use Rattle.record.specs.declared.devices.Outcome.{Outcome}
use Rattle.paper.specs.Storing.{Lent}
use Rattle.paper.specs.Transaction.{World}

-- what is lent to a call
abbrev pub lends : List ℕ → List ℕ → Lent
lends memory area = record { memory = memory; area = area }

-- what the whole bytes so far leave: memory and area, and the eight places of a register write
pub record Taken : Type 0 where
  pub lent : Lent
  pub value : List ℕ

abbrev pub taken_as : List ℕ → List ℕ → List ℕ → Taken
taken_as value memory area = record { lent = lends memory area; value = value }

abbrev pub nothing_taken : Lent → Taken
nothing_taken l = record { lent = l; value = nothing_yet.value }

-- what a whole byte does to that, by its number in the data
abbrev pub Take : Type 0
Take = Bytes → ℕ → Taken → Taken

-- in the middle of a byte: the number gathered of it, and what the bytes before it leave
pub record Held : Type 0 where
  pub number : ℕ
  pub taken : Taken

abbrev pub held_as : ℕ → List ℕ → List ℕ → List ℕ → Held
held_as number value memory area = record { number = number; taken = taken_as value memory area }

-- an unfinished transaction, and what is lent to it
pub record Run : Type 0 where
  pub progress : Progress
  pub lent : Lent

abbrev pub run_as : Progress → List ℕ → List ℕ → Run
run_as p memory area = record { progress = p; lent = lends memory area }

abbrev pub begun : Lent → Run
begun l = record { progress = begin_of; lent = l }

-- what a call answers, and what it leaves in what is lent
abbrev pub world_of : Outcome → List ℕ → List ℕ → List ℕ → World
world_of o memory area out = record { answer = o.answer; counts = o.counts; device = o.device; lent = lends memory area; output = out }

-- what of that it answers
abbrev pub outcome_in : World → Outcome
outcome_in w = record { answer = w.answer; counts = w.counts; device = w.device }
