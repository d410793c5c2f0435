-- The end of a transaction, by the facts of its progress. The table is the paper's.
use Rattle.std.specs.Prelude.{ℕ, List}
use Rattle.progress.specs.declared.Progress.{Progress}
use Rattle.record.specs.declared.devices.Device.{Device}
use Rattle.record.specs.declared.devices.Outcome.{Outcome}
use Rattle.changes.specs.Changes.{settled_of}
use Rattle.paper.specs.Answers.{Facts, judge}
use Rattle.paper.specs.Transaction.{World}
use Rattle.contract_words.specs.Words.{Run}

abbrev pub facts_in : Progress → Facts
facts_in p = record { kind = p.kind; address = p.address; tally = p.tally }

-- what a call answers at the end
unfoldable pub outcome_of : Device → Progress → Outcome
outcome_of d p =
    let v = judge d (facts_in p) in
    record { answer = v; counts = p.tally.counts; device = settled_of p.kind p.tally.value v d }

-- and all that the transaction leaves
unfoldable pub finish_of : Device → Run → List ℕ → World
finish_of d r out =
    let o = outcome_of d r.progress in
    record { answer = o.answer; counts = o.counts; device = o.device; lent = r.lent; output = out }
