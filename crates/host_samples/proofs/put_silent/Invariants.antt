-- `host_samples::put_silent` meets its contract. The invariant: the clocks that are left, put from here, come to the whole, in the same buffer.
-- Assumes nothing.
use Rattle.std.proofs.Common.{◌≡◌, ◌-◌, replicate}
use Rattle.buffers.specs.Laws.{Left}
use Rattle.buffers.specs.Shown.{shown}
use Rattle.host_samples.proofs.put_silent.Given as goal

abbrev pub invariant-loop : goal.invariant-loop
invariant-loop l =
    (l.page.bytes.ghost_name ≡ l.initial.page.bytes.ghost_name)
    × Left (replicate l.end 0) (shown l.initial.page) (replicate (l.end - l.counter) 0) (shown l.page)
