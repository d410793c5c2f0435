-- `cabi::tondravik_open` meets its contract: an open over the image, and its answer as a number.
-- Assumes nothing.
use Rattle.cabi.specs.Calls.{open_from}
use Rattle.cabi.specs.Laws.{plain}
use Rattle.cabi.proofs.tondravik_open.Goals as goal

pub returns : goal.returns
unfolding open_from
returns c = plain _ _ _ _ _ c.from.ensures c.open.ensures
