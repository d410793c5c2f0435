-- `device::open` meets its contract: it is refused as the checks say, or the record has one open.
-- Assumes nothing.
use Rattle.std.proofs.Common.{refl}
use Rattle.device.specs.Laws.{open_by}
use Rattle.device.proofs.open.Goals as goal

pub returns-in-Err : goal.returns-in-Err
returns-in-Err c = let e = c.in-Err.ensures in rw c.unclocked.ensures ((open_by _ _ e.verdict).refused e.refused)

pub returns : goal.returns
returns c = rw (c.unclocked-2.ensures, c.opened.ensures) ((open_by _ _ c.in_default.ensures.verdict).passed refl)
