-- What the state check tells of a record that passes it.
-- Assumes nothing.
use Rattle.std.specs.Prelude.{◌≡◌, Bool, true, false, cond}
use Rattle.std.proofs.Math.Path.{sym}
use Rattle.std.proofs.Common.{ap, ◌∙◌}
use Rattle.basis.specs.Truth.{both_true}
use Rattle.record.specs.declared.devices.Underway.{Underway}
use Rattle.record.specs.declared.devices.Device.{Device}
use Rattle.record.specs.Devices.{setting_of}
use Rattle.state_check.specs.States.{in_range}
use Rattle.paper.specs.Underway.{reached, factless, underway_valid, valid_of}

-- what is asked of the open transaction, whether one is open or not
abbrev asked : Device → Bool → Bool
asked d b = cond b (reached (setting_of d) d.underway) (factless d.underway)

module _ (d : Device) (v : valid_of d ≡ true) where
  pub valid_range : in_range d ≡ true
  unfolding valid_of
  valid_range = (both_true (in_range d) (underway_valid (setting_of d) d.underway) v).0

  as_asked : {b : Bool} → d.underway.selected ≡ b → asked d b ≡ true
  unfolding valid_of underway_valid
  as_asked e = sym (ap (asked d) e) ∙ (both_true (in_range d) (underway_valid (setting_of d) d.underway) v).1

  -- some clocks reach the transaction that is open
  pub open_reached : d.underway.selected ≡ true → reached (setting_of d) d.underway ≡ true
  open_reached e = as_asked e

  -- and with none open there are no facts
  pub idle_facts : d.underway.selected ≡ false → factless d.underway ≡ true
  idle_facts e = as_asked e

pub idle_valid : (u : Underway) (d : Device) → d.underway ≡ u → u.selected ≡ false → factless u ≡ true → in_range d ≡ true → valid_of d ≡ true
unfolding valid_of underway_valid
idle_valid u d e n f r = rw r (ap (asked d) (ap (λ (v : Underway). v.selected) e ∙ n) ∙ ap factless e ∙ f)
