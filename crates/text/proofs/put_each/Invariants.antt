-- `text::put_each` meets its contract. The invariant: the bytes that are left, put from here, come to the whole, in the same buffer.
-- Assumes nothing.
use Rattle.std.proofs.Common.{◌≡◌, drop}
use Rattle.buffers.specs.Laws.{Left}
use Rattle.buffers.specs.Shown.{shown}
use Rattle.text.specs.Hexadecimal.{hexes_of}
use Rattle.text.proofs.put_each.Given as goal

abbrev pub invariant-loop-b : goal.invariant-loop-b
invariant-loop-b l =
    (l.page.bytes.ghost_name ≡ l.initial.page.bytes.ghost_name)
    × Left (hexes_of l.width l.bytes) (shown l.initial.page) (hexes_of l.width (drop l.b-index l.bytes)) (shown l.page)
