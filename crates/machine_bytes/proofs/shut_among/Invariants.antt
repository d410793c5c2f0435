-- `machine_bytes::shut_among` meets its contract. The invariant: those so far are counted.
-- Assumes nothing.
use Rattle.std.specs.Prelude.{◌≡◌, ℕ, Bool}
use Rattle.basis.specs.Counting.{how_many}
use Rattle.units.specs.Units.{bytes}
use Rattle.record.specs.declared.devices.Aim.{Aim}
use Rattle.paper.specs.Storing.{protected_at}
use Rattle.machine_bytes.proofs.shut_among.Given as goal

abbrev pub shut : Aim → ℕ → Bool
shut a i = protected_at a (bytes i)

abbrev pub invariant-loop-i : goal.invariant-loop-i
invariant-loop-i l = l.shut ≡ bytes (how_many (shut l.a) l.i)
