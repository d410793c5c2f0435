-- `host_samples::put_silent` meets its contract. The invariant: the clocks that are left, put from here, come to the whole, in the same buffer.
-- Assumes nothing.
use Rattle.std.proofs.Common.{◌∙◌}
use Rattle.buffers.specs.Laws.{put_next, all_put}
use Rattle.host_samples.specs.Laws.{silent_next, silent_none}
use Rattle.host_samples.proofs.put_silent.Goals as goal

pub loop-preserved : goal.loop-preserved
loop-preserved c = (c.put.ensures.same_buffer ∙ c.loop.invariant.0, put_next c.loop.invariant.1 (silent_next _ _ c.loop-test.true) c.put.ensures.put)

pub returns-clause-put : goal.returns-clause-put
returns-clause-put c = rw c.in_clocks-end.ensures at (all_put c.loop.invariant.1 (silent_none _ _ c.loop-test.false))
