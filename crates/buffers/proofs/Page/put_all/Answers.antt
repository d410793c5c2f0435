-- `Page::put_all` meets its contract. The invariant: what is left of the bytes, put from here, comes to the whole, in the same buffer.
-- Assumes nothing.
use Rattle.std.proofs.Common.{◌∙◌, drop_of_length-le}
use Rattle.buffers.specs.Laws.{put_next, all_put, drop_one}
use Rattle.buffers.proofs.Page.put_all.Goals as goal

pub loop-b-preserved : goal.loop-b-preserved
loop-b-preserved c = (
  c.put.ensures.same_buffer ∙ c.loop-b.invariant.0,
  put_next c.loop-b.invariant.1 (drop_one _ _ c.loop-b-test.true) c.put.ensures.put,
)

pub returns-clause-put : goal.returns-clause-put
returns-clause-put c = all_put c.loop-b.invariant.1 (drop_of_length-le _ c.loop-b-test.false)
