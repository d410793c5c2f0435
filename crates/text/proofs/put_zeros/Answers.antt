-- `text::put_zeros` meets its contract. The invariant: so many zeros stand behind what stood there, in the same buffer.
-- Assumes nothing.
use Rattle.std.proofs.Common.{refl, ◌∙◌}
use Rattle.buffers.specs.Page.{puts_of}
use Rattle.text.proofs.Hexadecimal.{zeros_more}
use Rattle.text.proofs.put_zeros.Goals as goal

pub loop-init : goal.loop-init
unfolding puts_of
loop-init c = (refl, refl)

pub loop-preserved : goal.loop-preserved
loop-preserved c = (c.put.ensures.same_buffer ∙ c.loop.invariant.0, zeros_more _ _ c.loop.invariant.1 c.put.ensures.put)
