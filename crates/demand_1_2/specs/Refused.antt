-- REFUSED (demand 1): a call that is refused, by 1, 2, 3 or 13, changes nothing. The record, memory, area and the whole output buffer are what came in, and no
-- clock is counted. The law is stated once for any list of checks (`paper: CallLaws`, `refused_by`); a check more is a line more in a call's list.
-- Assumes nothing.
use Rattle.std.specs.Prelude.{◌≡◌, ℕ, true, List, []}
use Rattle.record.specs.declared.devices.Device.{Device}
use Rattle.record.specs.Answers.{refuses}
use Rattle.paper.specs.Storing.{Lent}
use Rattle.paper.specs.Transaction.{transact_of, power_of}
use Rattle.paper.specs.CallLaws.{Untouched}
use Rattle.paper.proofs.CallLaws.{transact_refused, power_refused_so}

pub refused : (d : Device) (l : Lent) (xs out : List ℕ) → refuses (transact_of d l xs out).answer ≡ true → Untouched d l out (transact_of d l xs out)
refused d l xs out = transact_refused d l xs out

pub power_refused : (d : Device) (l : Lent) → refuses (power_of d l).answer ≡ true → Untouched d l [] (power_of d l)
power_refused d l = power_refused_so d l
