-- `pace_calls::answered` meets its contract: no more calls are answered 0 than there were.
-- Assumes nothing.
use Rattle.std.proofs.Common.{◌≤◌}
use Rattle.pace_calls.proofs.answered.Given as goal

abbrev pub invariant-loop-call : goal.invariant-loop-call
invariant-loop-call g l = goal.F-IsAlwaysCallable g l.is_done × (l.done ≤ l.call)
