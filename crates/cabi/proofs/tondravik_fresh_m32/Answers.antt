-- `cabi::tondravik_fresh_m32` meets its contract: the fresh chip of part M32, and its answer as a number.
-- Assumes nothing.
use Rattle.cabi.specs.Calls.{fresh_m32_from}
use Rattle.cabi.specs.Laws.{made_told}
use Rattle.cabi.proofs.tondravik_fresh_m32.Goals as goal

pub returns : goal.returns
unfolding fresh_m32_from
returns c = made_told c.fresh_m32.result _ c.number_of.ensures c.fresh_m32.ensures.told
