-- What a probe begins with and leaves to the next one, and whether it can be called.
use Rattle.std.specs.Prelude.{ℕ, ◌-◌, Bool, true, cond, ◌&&◌, eqb, leb, Option, Some, option_and_then}
use Rattle.std.specs.Bool.{then_some}
use Rattle.image.specs.Layout.{image_size}
use Rattle.against_probes.specs.declared.Call.{Call}
use Rattle.against_probes.specs.declared.Call.TheVariants.{OverRecord, OverImage, Fresh}
use Rattle.against_probes.specs.declared.Left.{Left}
use Rattle.against_probes.specs.declared.Lengths.{Lengths}
use Rattle.against_probes.specs.declared.Probe.{Probe}

-- what its own lengths say
abbrev pub left_by : Lengths → Left
left_by l = record { image = l.image; memory = l.memory; area = l.area }

-- whether a probe may go on from what was left: it brings no image of its own, and is lent no more than there is
abbrev pub may_go_on : Lengths → Left → Bool
may_go_on l f = eqb l.image 0 && (leb l.memory f.memory && leb l.area f.area)

-- what a probe begins with and leaves: its own, or what was left, where it goes on and may
unfoldable pub begins : Probe → Option Left → Option Left
begins p left = cond p.is_next (option_and_then (λ f. then_some (may_go_on p.lengths f) f) left) (Some (left_by p.lengths))

-- whether there is its call over an image of such a length
abbrev pub callable : Call → Lengths → ℕ → Bool
callable (OverRecord s) l image = eqb image image_size
callable (OverImage s) l image = true
callable (Fresh part) l image = leb l.device l.samples && leb l.unique (l.samples - l.device)

-- the same, where there is its call
unfoldable pub admits : Probe → Option Left → Option Left
admits p left = option_and_then (λ from. then_some (callable p.call p.lengths from.image) from) (begins p left)
