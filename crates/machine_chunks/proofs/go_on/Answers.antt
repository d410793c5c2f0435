-- `machine_chunks::go_on` meets its contract: taken up, fed, put down.
-- Assumes nothing.
use Rattle.machine_chunks.specs.Laws.{feedable, fed_few}
use Rattle.machine_chunks.proofs.go_on.Goals as goal

pub feed-q-requires : goal.feed-q-requires
feed-q-requires c = feedable c.args.d c.args.samples.now c.args.output.now c.requires c.closed.ensures (rw c.setting-s.ensures at c.resume-p.ensures)

pub pause-requires : goal.pause-requires
pause-requires c = fed_few c.args.d c.args.samples.now c.args.output.now c.requires c.closed.ensures (rw c.setting-s.ensures at c.resume-p.ensures) c.feed-q.ensures
