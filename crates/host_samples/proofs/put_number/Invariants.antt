-- `host_samples::put_number` meets its contract. The invariant: the clocks that are left, put from here, come to the whole, in the same buffer.
-- Assumes nothing.
use Rattle.std.proofs.Common.{◌≡◌}
use Rattle.buffers.specs.Laws.{Left}
use Rattle.buffers.specs.Shown.{shown}
use Rattle.wires.specs.Bits.{spelled}
use Rattle.host_samples.proofs.put_number.Given as goal

abbrev pub invariant-loop-below : goal.invariant-loop-below
invariant-loop-below l =
    (l.page.bytes.ghost_name ≡ l.initial.page.bytes.ghost_name)
    × Left (spelled l.w l.initial.below l.v) (shown l.initial.page) (spelled l.w l.below l.v) (shown l.page)
