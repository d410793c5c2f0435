-- `host_samples::put_number` meets its contract. The invariant: the clocks that are left, put from here, come to the whole, in the same buffer.
-- Assumes nothing.
use Rattle.std.proofs.Common.{◌∙◌}
use Rattle.buffers.specs.Laws.{put_next, all_put}
use Rattle.host_samples.specs.Laws.{spread_next, spread_none}
use Rattle.host_samples.proofs.put_number.Goals as goal

pub loop-below-preserved : goal.loop-below-preserved
loop-below-preserved c = (
  c.put.ensures.same_buffer ∙ c.loop-below.invariant.0,
  put_next c.loop-below.invariant.1 (spread_next _ _ _ c.loop-below-test.true) (rw (c.bits_above.ensures, c.stated.ensures) at c.put.ensures.put),
)

pub returns-clause-put : goal.returns-clause-put
returns-clause-put c = rw c.in_clocks-below.ensures at (all_put c.loop-below.invariant.1 (spread_none _ _ _ c.loop-below-test.false))
