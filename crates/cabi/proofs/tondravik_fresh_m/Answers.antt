-- `cabi::tondravik_fresh_m` meets its contract: the fresh chip of part M, and its answer as a number.
-- Assumes nothing.
use Rattle.cabi.specs.Calls.{fresh_m_from}
use Rattle.cabi.specs.Laws.{made_told}
use Rattle.cabi.proofs.tondravik_fresh_m.Goals as goal

pub returns : goal.returns
unfolding fresh_m_from
returns c = made_told c.fresh_m.result _ c.number_of.ensures c.fresh_m.ensures.told
