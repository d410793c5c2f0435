-- `host_gather::driven_clocks` meets its contract. The invariant: the clocks that are left of all of them are the driven ones so far, and those that come.
-- Assumes nothing.
use Rattle.std.proofs.Common.{◌∙◌, ap}
use Rattle.units.specs.Units.{clocks}
use Rattle.host_gather.specs.Laws.{none_counted, count_skip, count_more, count_end}
use Rattle.host_gather.proofs.driven_clocks.Goals as goal
use Rattle.host_gather.proofs.driven_clocks.Goals.{then-x-eq0, else-x-eq0}

pub loop-x-init : goal.loop-x-init
loop-x-init c = none_counted _

pub loop-x-preserved : goal.loop-x-preserved
loop-x-preserved c =
    elim c.if-x-eq0.branch [
      | then-x-eq0 w ↦ rw w.count-is (count_skip c.loop-x.invariant c.loop-x-test.true w.if-x-eq0.true)
      | else-x-eq0 w ↦ rw w.count-is (count_more c.loop-x.invariant c.loop-x-test.true w.if-x-eq0.false)
    ]

pub returns : goal.returns
returns c = c.stated.ensures ∙ ap clocks (count_end c.loop-x.invariant c.loop-x-test.false)
