-- `image_calls::close` meets its contract: bytes that are no image, or a close over the record.
-- Assumes nothing.
use mathlib.Core.List.{[]}
use Rattle.image_check.proofs.Laws.{accepted_long}
use Rattle.image_calls.specs.Calls.{close_in}
use Rattle.image_calls.specs.Laws.{turned_away, carried}
use Rattle.image_calls.proofs.close.Goals as goal

pub returns-in_default : goal.returns-in_default
unfolding close_in
returns-in_default c = turned_away c.args.image.now c.args.memory.now c.args.area.now [] _ c.in_default.ensures c.strange.ensures

pub leave-requires : goal.leave-requires
leave-requires c = accepted_long _ c.in-Some.ensures.0

pub returns : goal.returns
unfolding close_in
returns c = carried c.args.image.now _ [] _ _ _ _ c.in-Some.ensures.0 c.leave.ensures (rw c.in-Some.ensures.1 at c.close.ensures)
