-- `image_calls::feed` meets its contract: bytes that are no image, or a chunk over the record.
-- Assumes nothing.
use Rattle.image_check.proofs.Laws.{accepted_long}
use Rattle.image_calls.specs.Calls.{feed_in}
use Rattle.image_calls.specs.Laws.{turned_away, carried}
use Rattle.image_calls.proofs.feed.Goals as goal

pub returns-in_default : goal.returns-in_default
unfolding feed_in
returns-in_default c = turned_away c.args.image.now c.args.memory.now c.args.area.now c.args.output.now _ c.in_default.ensures c.strange.ensures

pub leave-requires : goal.leave-requires
leave-requires c = accepted_long _ c.in-Some.ensures.0

pub returns : goal.returns
unfolding feed_in
returns c = carried c.args.image.now _ c.args.output.now _ _ _ _ c.in-Some.ensures.0 c.leave.ensures (rw c.in-Some.ensures.1 at c.feed.ensures)
