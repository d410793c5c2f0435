-- `host_samples::put_written` meets its contract. The invariant: the bytes that are left, put from here, come to the whole, in the same buffer.
-- Assumes nothing.
use Rattle.std.proofs.Common.{◌≡◌, drop}
use Rattle.buffers.specs.Laws.{Left}
use Rattle.buffers.specs.Shown.{shown}
use Rattle.paper.specs.Building.{spread_all}
use Rattle.host_samples.proofs.put_written.Given as goal

abbrev pub invariant-loop-b : goal.invariant-loop-b
invariant-loop-b l =
    (l.page.bytes.ghost_name ≡ l.initial.page.bytes.ghost_name)
    × Left (spread_all l.w l.written) (shown l.initial.page) (spread_all l.w (drop l.b-index l.written)) (shown l.page)
