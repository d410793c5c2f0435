-- `places::shut_memory` meets its contract: the share is no more than the memory, and bit 5 decides its end.
-- Assumes nothing.
use borrow.Author.Tests.{ne_eqb}
use Prim.Native.Nat.{◌/◌, ◌%◌}
use Rattle.places.specs.Protection.{shut_memory}
use Rattle.places.specs.Laws.{shut_le}
use Rattle.places.proofs.shut_memory.Goals as goal

pub returns-then-status-eq1 : goal.returns-then-status-eq1
unfolding shut_memory
returns-then-status-eq1 c = rw (c.in_bytes-size.ensures, c.memory_size.ensures, c.share.ensures, c.if-status-eq1.true)

pub overflow_sub-result : goal.overflow_sub-result
unfolding shut_memory
overflow_sub-result c = rw (c.in_bytes-size.ensures, c.memory_size.ensures, c.share.ensures) (shut_le c.args.n c.args.status)

pub returns-else-status-eq1 : goal.returns-else-status-eq1
unfolding shut_memory
returns-else-status-eq1 c = rw (c.in_bytes-size.ensures, c.memory_size.ensures, c.share.ensures, ne_eqb (c.args.status / 32 % 2) 1 c.if-status-eq1.false)
