-- `device::feed` meets its contract: it is refused as the checks say, or the clocks of the chunk are run.
-- Assumes nothing.
use Rattle.std.proofs.Common.{refl, ◌∙◌}
use Rattle.device.specs.Laws.{feed_by, feed_passed, fed_world_lem}
use Rattle.device.proofs.feed.Goals as goal

pub returns-in-Err : goal.returns-in-Err
returns-in-Err c =
    let e = c.in-Err.ensures in
    rw c.unclocked.ensures ((feed_by _ _ _ _ (rw c.has_room_after-fits.ensures at e.verdict)).refused e.refused)

pub go_on-e-requires : goal.go_on-e-requires
go_on-e-requires c = feed_passed _ _ refl _ _ (rw c.has_room_after-fits.ensures at c.in_default.ensures.verdict)

pub returns : goal.returns
returns c =
    let e = rw c.has_room_after-fits.ensures at c.in_default.ensures.verdict in
    rw c.unclocked-2.ensures (fed_world_lem c.go_on-e.ensures ∙ (feed_by _ _ _ _ e).passed refl)
