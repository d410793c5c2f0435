-- `cabi::tondravik_power_cycle` meets its contract: a power cycle over the image, and its answer as a number.
-- Assumes nothing.
use Rattle.cabi.specs.Calls.{power_from}
use Rattle.cabi.specs.Laws.{plain}
use Rattle.cabi.proofs.tondravik_power_cycle.Goals as goal

pub returns : goal.returns
unfolding power_from
returns c = plain _ _ _ _ _ c.from.ensures c.power_cycle.ensures
