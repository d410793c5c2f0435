-- `host_build::refusal` meets its contract: each way is the first row that holds.
-- Assumes nothing.
use Rattle.std.proofs.Common.{refl}
use Rattle.host_build.specs.Sizes.{refusal_of}
use Rattle.host_build.proofs.refusal.Goals as goal

pub returns-then-is_unknown : goal.returns-then-is_unknown
unfolding refusal_of
returns-then-is_unknown c = (rw (← c.is_unknown.ensures, c.if-is_unknown.true), refl)

pub returns-then-is_beyond : goal.returns-then-is_beyond
unfolding refusal_of
returns-then-is_beyond c = (rw (← c.is_unknown.ensures, c.if-is_unknown.false, ← c.is_beyond.ensures, c.if-is_beyond.true), refl)

pub returns-then-is_overlong_wait : goal.returns-then-is_overlong_wait
unfolding refusal_of
returns-then-is_overlong_wait c = (rw (← c.is_unknown.ensures, c.if-is_unknown.false, ← c.is_beyond.ensures, c.if-is_beyond.false, ← c.is_overlong_wait.ensures, c.if-is_overlong_wait.true), refl)

pub returns-then-is_few : goal.returns-then-is_few
unfolding refusal_of
returns-then-is_few c = (rw (← c.is_unknown.ensures, c.if-is_unknown.false, ← c.is_beyond.ensures, c.if-is_beyond.false, ← c.is_overlong_wait.ensures, c.if-is_overlong_wait.false, ← c.body_asked-b.ensures, ← rw c.of_store-n.ensures at c.is_few.ensures, c.if-is_few.true), refl)

pub returns-then-is_many : goal.returns-then-is_many
unfolding refusal_of
returns-then-is_many c = (rw (← c.is_unknown.ensures, c.if-is_unknown.false, ← c.is_beyond.ensures, c.if-is_beyond.false, ← c.is_overlong_wait.ensures, c.if-is_overlong_wait.false, ← c.body_asked-b.ensures, ← rw c.of_store-n.ensures at c.is_few.ensures, c.if-is_few.false, ← rw c.of_store-n.ensures at c.is_many.ensures, c.if-is_many.true), refl)

pub returns-then-is_oversized : goal.returns-then-is_oversized
unfolding refusal_of
returns-then-is_oversized c = (rw (← c.is_unknown.ensures, c.if-is_unknown.false, ← c.is_beyond.ensures, c.if-is_beyond.false, ← c.is_overlong_wait.ensures, c.if-is_overlong_wait.false, ← c.body_asked-b.ensures, ← rw c.of_store-n.ensures at c.is_few.ensures, c.if-is_few.false, ← rw c.of_store-n.ensures at c.is_many.ensures, c.if-is_many.false, ← c.is_oversized.ensures, c.if-is_oversized.true), refl)

pub returns : goal.returns
unfolding refusal_of
returns c = rw (← c.is_unknown.ensures, c.if-is_unknown.false, ← c.is_beyond.ensures, c.if-is_beyond.false, ← c.is_overlong_wait.ensures, c.if-is_overlong_wait.false, ← c.body_asked-b.ensures, ← rw c.of_store-n.ensures at c.is_few.ensures, c.if-is_few.false, ← rw c.of_store-n.ensures at c.is_many.ensures, c.if-is_many.false, ← c.is_oversized.ensures, c.if-is_oversized.false)
