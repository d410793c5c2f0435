-- `host_gather::driven_clocks` meets its contract. The invariant: the clocks that are left of all of them are the driven ones so far, and those that come.
-- Assumes nothing.
use Rattle.host_gather.specs.Laws.{Counted}
use Rattle.host_gather.proofs.driven_clocks.Given as goal

abbrev pub invariant-loop-x : goal.invariant-loop-x
invariant-loop-x l = Counted l.driven l.count l.x-index
