-- The tests of the answer table (Table.antt), from what was read. Document 01, "Answer numbers", from row 4 on.
use Rattle.std.specs.Prelude.{ℕ, Bool, true, false, not, ◌&&◌, List}
use Rattle.units.specs.declared.Clocks.{Clocks}
use Rattle.units.specs.declared.Bytes.{Bytes}
use Rattle.units.specs.declared.Wires.{Wires}
use Rattle.units.specs.Units.{bytes, clocks, fewer, fewer_bytes, whole_of}
use Rattle.kinds.specs.declared.Control.{Control}
use Rattle.kinds.specs.declared.Control.TheVariants as Controls
use Rattle.kinds.specs.declared.Register.TheVariants.{ModeRegister}
use Rattle.kinds.specs.declared.Target.TheVariants as Into
use Rattle.kinds.specs.declared.Kind.{Kind}
use Rattle.kinds.specs.declared.Kind.TheVariants as Kinds
use Rattle.kinds.specs.Tests.{unknown}
use Rattle.commands.specs.declared.plans.Body.{Body}
use Rattle.commands.specs.declared.plans.Body.TheVariants.{Nothing, FixedRead, AnyRead, FixedWrite, AnyWrite}
use Rattle.progress.specs.declared.Tally.{Tally}
use Rattle.parts.specs.declared.Part.{Part}
use Rattle.parts.specs.Parts.{family_of}
use Rattle.record.specs.declared.answers.Answer.{Answer}
use Rattle.record.specs.declared.devices.Device.{Device}
use Rattle.record.specs.declared.devices.Setting.{Setting}
use Rattle.record.specs.declared.devices.Aim.{Aim}
use Rattle.record.specs.Devices.{setting_of, aim_of}
use Rattle.changes.specs.Latches.{latch_missing}
use Rattle.state_check.specs.Values.{reserved_of}
use Rattle.paper.specs.InForce.{asleep_for, refused_at, command_clocks, address_clocks, body_for, wires_for}
use Rattle.paper.specs.Storing.{all_shut}
use Rattle.paper.specs.Table.{Table, answer_by}

-- what was read, as the checks see it (D55)
pub record Facts : Type 0 where
  pub kind : Kind
  pub address : ℕ
  pub tally : Tally

-- 4, for want of data, asked in bytes (D22): a burst has brought no whole byte, or a register write not all of its own. Reads never want data.
abbrev pub short_data : Body → Wires → Clocks → Bool
short_data Nothing w t = false
short_data (FixedRead b) w t = false
short_data AnyRead w t = false
short_data (FixedWrite b) w t = fewer_bytes (whole_of w t) b
short_data AnyWrite w t = fewer_bytes (whole_of w t) (bytes 1)

-- 11: clocks go on where nothing more is expected
abbrev pub long_rest : Body → Clocks → Bool
long_rest Nothing t = fewer (clocks 0) t
long_rest (FixedRead b) t = false
long_rest AnyRead t = false
long_rest (FixedWrite b) t = fewer (clocks 0) t
long_rest AnyWrite t = false

-- 12: a reset, and the chip is not armed
abbrev resets : Control → Bool
resets Controls.NoOperation = false
resets Controls.WriteEnable = false
resets Controls.WriteDisable = false
resets Controls.ToOne = false
resets Controls.ToTwo = false
resets Controls.ToFour = false
resets Controls.Sleep = false
resets Controls.Wake = false
resets Controls.ResetEnable = false
resets Controls.Reset = true
resets Controls.Toggle = false

abbrev pub resetting : Kind → Bool
resetting Kinds.Unknown = false
resetting (Kinds.Plain c) = resets c
resetting (Kinds.Read s) = false
resetting (Kinds.Write t) = false

unfoldable pub unarmed : Bool → Kind → Bool
unarmed armed k = resetting k && not armed

-- 10: the value of a register write is not allowed
abbrev pub reserved_for : Part → Kind → List ℕ → Bool
reserved_for p Kinds.Unknown v = false
reserved_for p (Kinds.Plain c) v = false
reserved_for p (Kinds.Read s) v = false
reserved_for p (Kinds.Write (Into.Register r)) v = reserved_of p r v
reserved_for p (Kinds.Write Into.Mode) v = reserved_of p ModeRegister v
reserved_for p (Kinds.Write (Into.Memory r)) v = false
reserved_for p (Kinds.Write Into.Area) v = false

-- 9: all of the whole bytes of a burst lie at protected places
abbrev pub shut_data : Body → Aim → Bytes → Bool
shut_data Nothing a m = false
shut_data (FixedRead b) a m = false
shut_data AnyRead a m = false
shut_data (FixedWrite b) a m = false
shut_data AnyWrite a m = all_shut a m

-- THE TESTS
abbrev pub table_of : Setting → Bool → Bool → Facts → Table
table_of s armed latch f =
    let k = f.kind in
    let w = wires_for s k in
    let b = body_for s k f.address in
    let c = f.tally.counts in
    record {
      cut_command = fewer c.command (command_clocks s);
      asleep = asleep_for s k;
      unknown = unknown k;
      cut_address = fewer c.address (address_clocks s k);
      refused = refused_at s k f.address;
      cut_data = short_data b w c.body;
      long = long_rest b c.rest;
      unarmed = unarmed armed k;
      latch = latch_missing (family_of s.part) s.registers.cr4 latch k;
      reserved = reserved_for s.part k f.tally.value;
      shut = shut_data b (aim_of s k f.address) (whole_of w c.body);
    }

abbrev pub table_for : Device → Facts → Table
table_for d f = table_of (setting_of d) d.volatile.armed d.volatile.latch f

unfoldable pub judge : Device → Facts → Answer
judge d f = answer_by (table_for d f)
