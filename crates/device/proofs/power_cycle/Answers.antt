-- `device::power_cycle` meets its contract: it is refused as the checks say, or what comes back is its family's.
-- Assumes nothing.
use Rattle.std.proofs.Common.{refl, sym, ap, ◌∙◌}
use Rattle.parts.specs.declared.Family.TheVariants.{Mram, Psram}
use Rattle.parts.specs.Parts.{family_of}
use Rattle.device.specs.Laws.{power_by, powered_so}
use Rattle.device.proofs.power_cycle.Goals.{in-Mram, in-Psram}
use Rattle.device.proofs.power_cycle.Goals as goal

pub returns-in-Err : goal.returns-in-Err
returns-in-Err c = let e = c.in-Err.ensures in rw c.unclocked.ensures ((power_by _ _ e.verdict).refused e.refused)

pub returns : goal.returns
returns c =
    let known = sym (c.family.ensures ∙ ap family_of c.of.ensures) in
    let e = (power_by _ _ c.in_default.ensures.verdict).passed refl in
    elim c.match-family.branch [
      | in-Mram w ↦ rw (c.unclocked-2.ensures, c.powered.ensures, w.memory-is) (powered_so _ _ Mram (known ∙ w.in-Mram.is) e)
      | in-Psram w ↦ rw (c.unclocked-2.ensures, c.powered.ensures, w.memory-is, w.wipe.ensures) (powered_so _ _ Psram (known ∙ w.in-Psram.is) e)
    ]
