-- `machine_run::feed` meets its contract. The invariant: what is left of the samples, done from here, comes to the whole.
-- Assumes nothing.
use Rattle.machine_run.specs.Laws.{run_turn, run_end}
use Rattle.machine_run.proofs.feed.Goals as goal

pub loop-i-preserved : goal.loop-i-preserved
loop-i-preserved c = run_turn c.loop-i.invariant c.loop-i-test.true c.drive.ensures (rw c.terms_of-h.ensures at c.step-q.ensures) c.step-q.auto.memory c.step-q.auto.area

pub returns : goal.returns
returns c = run_end c.loop-i.invariant c.loop-i-test.false c.requires.room
