-- `digits::put_pairs` meets its contract. The invariant: the pairs that are left, put from here, come to the whole, in the same buffer.
-- Assumes nothing.
use Rattle.std.proofs.Common.{◌∙◌, arith}
use Rattle.buffers.specs.Laws.{put_next, all_put}
use Rattle.digits.specs.Laws.{pairs_short, pairs_next}
use Rattle.digits.proofs.put_pairs.Goals as goal

pub loop-two-preserved : goal.loop-two-preserved
loop-two-preserved c = (
  c.put.ensures.same_buffer ∙ c.loop-two.invariant.0,
  c.in-Some.ensures.steps.0 ∙ c.loop-two.invariant.1,
  put_next
      c.loop-two.invariant.2
      (pairs_next _ _ c.in-Some.ensures.steps.1.0 (c.in-Some.ensures.steps.1.1 ∙ c.loop-two.invariant.1) c.pair.ensures)
      c.put.ensures.put,
)

pub returns-clause-put : goal.returns-clause-put
returns-clause-put c = all_put c.loop-two.invariant.2 (pairs_short _ (omega (arith, c.in-None.ensures.steps.1.0, c.loop-two.invariant.1)))
