-- `cabi::tondravik_fresh_p` meets its contract: the fresh chip of part P, and its answer as a number.
-- Assumes nothing.
use Rattle.cabi.specs.Calls.{fresh_p_from}
use Rattle.cabi.specs.Laws.{made_told}
use Rattle.cabi.proofs.tondravik_fresh_p.Goals as goal

pub returns : goal.returns
unfolding fresh_p_from
returns c = made_told c.fresh_p.result _ c.number_of.ensures c.fresh_p.ensures.told
