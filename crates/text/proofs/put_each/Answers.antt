-- `text::put_each` meets its contract. The invariant: the bytes that are left, put from here, come to the whole, in the same buffer.
-- Assumes nothing.
use Rattle.std.proofs.Common.{◌∙◌}
use Rattle.buffers.specs.Laws.{put_on, all_put}
use Rattle.text.proofs.Hexadecimal.{byte_next, byte_none}
use Rattle.text.proofs.put_each.Goals as goal

pub loop-b-preserved : goal.loop-b-preserved
loop-b-preserved c = (c.put_hex.ensures.same_buffer ∙ c.loop-b.invariant.0, put_on c.loop-b.invariant.1 _ (byte_next _ _ _ c.loop-b-test.true) c.put_hex.ensures.put)

pub returns-clause-put : goal.returns-clause-put
returns-clause-put c = all_put c.loop-b.invariant.1 (byte_none _ _ _ c.loop-b-test.false)
