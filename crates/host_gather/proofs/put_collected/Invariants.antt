-- `host_gather::put_collected` meets its contract. The invariant: the byte that is begun, with all that is left, comes to the whole.
-- Assumes nothing.
use Rattle.std.proofs.Common.{◌≡◌}
use Rattle.buffers.specs.Shown.{shown}
use Rattle.host_gather.specs.Laws.{Begun}
use Rattle.host_gather.proofs.put_collected.Given as goal

abbrev pub invariant-loop-x : goal.invariant-loop-x
invariant-loop-x l =
    (l.page.bytes.ghost_name ≡ l.initial.page.bytes.ghost_name)
    × Begun l.w l.driven (shown l.initial.page) l.number l.had l.x-index (shown l.page)
