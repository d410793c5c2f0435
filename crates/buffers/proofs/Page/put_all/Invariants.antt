-- `Page::put_all` meets its contract. The invariant: what is left of the bytes, put from here, comes to the whole, in the same buffer.
-- Assumes nothing.
use Rattle.std.proofs.Common.{◌≡◌, drop}
use Rattle.buffers.specs.Laws.{Left}
use Rattle.buffers.specs.Shown.{shown}
use Rattle.buffers.proofs.Page.put_all.Given as goal

abbrev pub invariant-loop-b : goal.invariant-loop-b
invariant-loop-b l =
    (l.self.bytes.ghost_name ≡ l.initial.self.bytes.ghost_name)
    × Left l.bytes (shown l.initial.self) (drop l.b-index l.bytes) (shown l.self)
