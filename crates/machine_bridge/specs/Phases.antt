-- The five phases, the last one first: what the machine shows from the start of each on is what the paper reads from there.
-- The definitions stand here, the theorems in proofs/Phases.antt.
-- Assumes nothing.
use Rattle.std.specs.Prelude.{◌≡◌}
use Prim.Native.Nat.{ℕ}
use mathlib.Core.List.{List, [], ◌++◌}
use Rattle.units.specs.declared.Clocks.{Clocks}
use Rattle.units.specs.declared.Wires.{Wires}
use Rattle.units.specs.Units.{clocks}
use Rattle.kinds.specs.declared.Kind.{Kind}
use Rattle.kinds.specs.declared.Kind.TheVariants.{Unknown}
use Rattle.commands.specs.declared.plans.Body.{Body}
use Rattle.counts.specs.declared.Counts.{Counts}
use Rattle.counts.specs.Counts.{counted}
use Rattle.progress.specs.declared.Tally.{Tally}
use Rattle.progress.specs.declared.Progress.{Progress}
use Rattle.progress.specs.Progress.{nothing_yet}
use Rattle.record.specs.declared.devices.Device.{Device}
use Rattle.record.specs.declared.devices.Setting.{Setting}
use Rattle.record.specs.declared.devices.Aim.{Aim}
use Rattle.record.specs.Devices.{setting_of, aim_of}
use Rattle.paper.specs.InForce.{command_clocks, wires_for, address_clocks, wait_clocks, body_for}
use Rattle.paper.specs.Reading.{first, after, many, kind_read, address_read, data_part, rest_part}
use Rattle.paper.specs.Storing.{Lent}
use Rattle.paper.specs.Driving.{driven_at, along}
use Rattle.paper.specs.Answers.{Facts}
use Rattle.paper.specs.Transaction.{undriven}
use Rattle.contract_words.specs.Words.{Held, Run}
use Rattle.machine_phases.specs.Machine.{terms_of, holds}
use Rattle.machine_bridge.specs.Stage.{Seen, behind, carried}
use Rattle.machine_bridge.specs.Taking.{tick_for}

abbrev pub none : Clocks
none = clocks 0

-- what has been read at the start of a phase, and what is lent
pub record Point : Type 0 where
  pub facts : Facts
  pub lent : Lent

-- the point with the clocks of a phase, and what the phase has told
abbrev pub counts : Point → Counts
counts q = q.facts.tally.counts

abbrev pub point : Kind → ℕ → Counts → Point → Point
point k a c q = record { facts = record { kind = k; address = a; tally = record { counts = c; value = q.facts.tally.value } }; lent = q.lent }

abbrev pub named : Kind → Clocks → Point → Point
named k c q = point k 0 (counted c none none none none) q

abbrev pub placed : ℕ → Clocks → Point → Point
placed a c q = point q.facts.kind a (counted (counts q).command c none none none) q

abbrev pub waited : Clocks → Point → Point
waited c q = point q.facts.kind q.facts.address (counted (counts q).command (counts q).address c none none) q

-- the machine, with a progress made from the kind, the address and the tally of a point
abbrev pub entering : (Kind → ℕ → Tally → Progress) → Point → Run
entering f q = record { progress = f q.facts.kind q.facts.address q.facts.tally; lent = q.lent }

-- nothing more comes
abbrev pub ends : Point → Seen
ends q = record { facts = q.facts; lent = q.lent; out = [] }

-- ---- what the paper reads from the start of each phase on
module _ (d : Device) where
  abbrev pub s : Setting
  s = setting_of d

  abbrev pub aim : Point → Aim
  aim q = aim_of s q.facts.kind q.facts.address

  abbrev pub body : Point → Body
  body q = body_for s q.facts.kind q.facts.address

  abbrev pub wires : Point → Wires
  wires q = wires_for s q.facts.kind

  abbrev pub starting : Point → Held
  starting q = record { number = 0; taken = record { lent = q.lent; value = q.facts.tally.value } }

  abbrev pub tick : Point → Clocks → Held → ℕ → Held
  tick q = tick_for (body q) (wires q) (holds (terms_of d) q.facts.kind) (aim q)

  -- what is seen after so many data clocks, and then so many of the rest
  abbrev pub past : Point → Clocks → Held → Clocks → List ℕ → Seen
  past q c h r o =
      record {
        facts = record {
          kind = q.facts.kind;
          address = q.facts.address;
          tally = record { counts = counted (counts q).command (counts q).address (counts q).wait c r; value = h.taken.value };
        };
        lent = h.taken.lent;
        out = o;
      }

  unfoldable pub data_on : Point → List ℕ → Seen
  data_on q xs =
      let p = data_part (body q) (wires q) xs in
      let r = rest_part (body q) (wires q) xs in
      past q (many p) (carried (tick q) 0 (starting q) p) (many r) (along (driven_at (body q) d q.facts.kind q.facts.address q.lent) 0 p ++ undriven r)

  unfoldable pub wait_on : Point → List ℕ → Seen
  wait_on q xs =
      let c = wait_clocks s q.facts.kind q.facts.address in
      behind (undriven (first c xs)) (data_on (waited (many (first c xs)) q) (after c xs))

  unfoldable pub address_on : Point → List ℕ → Seen
  address_on q xs =
      let c = address_clocks s q.facts.kind in
      behind (undriven (first c xs)) (wait_on (placed (address_read s q.facts.kind (first c xs)) (many (first c xs)) q) (after c xs))

  unfoldable pub command_on : Point → List ℕ → Seen
  command_on q xs =
      let c = command_clocks s in
      behind (undriven (first c xs)) (address_on (named (kind_read s (first c xs)) (many (first c xs)) q) (after c xs))

-- what is known while it goes on: a read drives the same
abbrev pub Steady : Device → Point → Held → Type 0
Steady d q h = (u : Clocks) → driven_at (body d q) d q.facts.kind q.facts.address h.taken.lent u ≡ driven_at (body d q) d q.facts.kind q.facts.address q.lent u

-- before the first clock
abbrev pub outset : Lent → Point
outset l = record { facts = record { kind = Unknown; address = 0; tally = nothing_yet }; lent = l }
