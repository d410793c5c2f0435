-- `device::transact` meets its contract: it is refused as the checks say, or its clocks are run.
-- Assumes nothing.
use Rattle.std.proofs.Common.{refl}
use Rattle.device.specs.Laws.{transact_by, transact_passed}
use Rattle.device.proofs.transact.Goals as goal

pub returns-in-Err : goal.returns-in-Err
returns-in-Err c =
    let e = c.in-Err.ensures in
    rw c.unclocked.ensures ((transact_by _ _ _ _ (rw c.has_room-fits.ensures at e.verdict)).refused e.refused)

pub clocked-requires-2 : goal.clocked-requires-2
clocked-requires-2 c = transact_passed _ _ refl _ _ (rw c.has_room-fits.ensures at c.in_default.ensures.verdict)

pub returns : goal.returns
returns c = rw c.clocked-2.ensures ((transact_by _ _ _ _ (rw c.has_room-fits.ensures at c.in_default.ensures.verdict)).passed refl)
