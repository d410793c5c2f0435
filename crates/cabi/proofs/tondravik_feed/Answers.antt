-- `cabi::tondravik_feed` meets its contract: a chunk over the image, and its answer as a number.
-- Assumes nothing.
use Rattle.cabi.specs.Calls.{feed_from}
use Rattle.cabi.specs.Laws.{plain}
use Rattle.cabi.proofs.tondravik_feed.Goals as goal

pub returns : goal.returns
unfolding feed_from
returns c = plain _ _ _ _ _ c.from.ensures c.feed.ensures
