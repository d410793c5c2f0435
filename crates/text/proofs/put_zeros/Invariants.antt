-- `text::put_zeros` meets its contract. The invariant: so many zeros stand behind what stood there, in the same buffer.
-- Assumes nothing.
use Rattle.std.proofs.Common.{◌≡◌, replicate}
use Rattle.buffers.specs.Page.{puts_of}
use Rattle.buffers.specs.Shown.{shown}
use Rattle.text.proofs.put_zeros.Given as goal

abbrev pub invariant-loop : goal.invariant-loop
invariant-loop l =
    (l.page.bytes.ghost_name ≡ l.initial.page.bytes.ghost_name)
    × (shown l.page ≡ puts_of (replicate l.counter 48) (shown l.initial.page))
