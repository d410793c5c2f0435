-- `digits::put_pairs` meets its contract. The invariant: the pairs that are left, put from here, come to the whole, in the same buffer.
-- Assumes nothing.
use Rattle.std.proofs.Common.{◌≡◌}
use Rattle.std.specs.Slice.Iter.{chunks_exact_rest, chunks_exact_size}
use Rattle.buffers.specs.Laws.{Left}
use Rattle.buffers.specs.Shown.{shown}
use Rattle.digits.specs.Digits.{pairs_of}
use Rattle.digits.proofs.put_pairs.Given as goal

abbrev pub invariant-loop-two : goal.invariant-loop-two
invariant-loop-two l =
    (l.page.bytes.ghost_name ≡ l.initial.page.bytes.ghost_name)
    × (chunks_exact_size l.two-iterator ≡ 2)
    × Left (pairs_of l.word) (shown l.initial.page) (pairs_of (chunks_exact_rest l.two-iterator)) (shown l.page)
