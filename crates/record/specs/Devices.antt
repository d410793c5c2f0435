-- The device record and its setting. Document 01, "Commands of part M", first sentence (bus modes).
use Rattle.std.specs.Prelude.{ℕ, cond, eqb}
use Rattle.units.specs.declared.Wires.{Wires}
use Rattle.units.specs.declared.Wires.TheVariants.{One, Two, Four}
use Rattle.parts.specs.Parts.{part_of}
use Rattle.counts.specs.Counts.{no_counts}
use Rattle.kinds.specs.declared.Kind.{Kind}
use Rattle.record.specs.declared.answers.Answer.{Answer}
use Rattle.record.specs.declared.devices.Device.{Device}
use Rattle.record.specs.declared.devices.Setting.{Setting}
use Rattle.record.specs.declared.devices.Aim.{Aim}
use Rattle.record.specs.declared.devices.Outcome.{Outcome}

-- the wires of a bus mode, 1, 2 or 4; the state check refuses any other number before it comes to more (D10)
abbrev pub mode_wires : ℕ → Wires
mode_wires mode = cond (eqb mode 2) Two (cond (eqb mode 4) Four One)

-- All that the rules of clocks, addresses and places ask of a record. Latch and arming have no part in it, so whatever is said of a setting
-- holds whatever they are (D21).
abbrev pub setting_of : Device → Setting
setting_of d =
    record {
      part = part_of d.make.part;
      wires = mode_wires d.volatile.mode;
      n = d.make.n;
      asleep = d.volatile.asleep;
      toggle = d.volatile.toggle;
      registers = d.registers;
    }

-- what a command is aimed at (D59)
abbrev pub aim_of : Setting → Kind → ℕ → Aim
aim_of s k a = record { setting = s; kind = k; address = a }

-- what a call without clocks answers
abbrev pub unclocked_of : Answer → Device → Outcome
unclocked_of v d = record { answer = v; counts = no_counts; device = d }
