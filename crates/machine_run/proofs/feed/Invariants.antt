-- `machine_run::feed` meets its contract. The invariant: what is left of the samples, done from here, comes to the whole.
-- Assumes nothing.
use Rattle.machine_run.specs.Laws.{Running}
use Rattle.machine_run.proofs.feed.Given as goal

abbrev pub invariant-loop-i : goal.invariant-loop-i
invariant-loop-i l = Running l.d l.initial.memory l.initial.area l.samples l.initial.output l.initial.q l.memory l.area l.output l.q l.i
