-- `device::close` meets its contract: it is refused as the checks say, or the open transaction comes to its end.
-- Assumes nothing.
use Rattle.std.proofs.Common.{refl}
use Rattle.machine_end.specs.Finish.{finish_of}
use Rattle.device.specs.Laws.{close_by, close_reach, close_passed}
use Rattle.device.proofs.close.Goals as goal

pub returns-in-Err : goal.returns-in-Err
returns-in-Err c = let e = c.in-Err.ensures in rw c.unclocked.ensures ((close_by _ _ e.verdict).refused e.refused)

pub resume-p-requires : goal.resume-p-requires
resume-p-requires c = rw c.setting.ensures (close_reach _ _ refl c.in_default.ensures.verdict)

pub finish-requires : goal.finish-requires
finish-requires c = close_passed _ _ refl c.in_default.ensures.verdict c.closed.ensures (rw c.setting.ensures at c.resume-p.ensures)

pub returns : goal.returns
unfolding finish_of
returns c = rw (c.finish.ensures, c.closed.ensures, c.resume-p.ensures, c.setting.ensures) ((close_by _ _ c.in_default.ensures.verdict).passed refl)
