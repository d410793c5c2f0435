-- What a transaction leaves that is not done: the machine stores and drives on the way, before the answer is known, and where the answer turns out not to be 0 it
-- has stored nothing and driven nothing. The rows of the table say why, one by one.
-- Assumes nothing.
use Rattle.std.specs.Prelude.{◌≡◌, refl, ℕ, ◌/◌, Bool, cond, ◌||◌, List, [], length}
use Rattle.std.proofs.Common.{sym, ap, ◌∙◌, arith, ltb-true}
use Rattle.std.proofs.Math.Nat.{div-eq_of_lt}
use Rattle.std.proofs.Math.Bool.{true, false}
use Rattle.basis.specs.Truth.{untrue, never, cond_same, or_left, or_right}
use Rattle.units.specs.declared.Wires.{Wires}
use Rattle.units.specs.Units.{per_byte, fewer, whole_of}
use Rattle.units.specs.Laws.{per_byte_pos}
use Rattle.parts.specs.declared.Part.{Part}
use Rattle.parts.specs.Parts.{family_of}
use Rattle.kinds.specs.declared.Target.TheVariants as Into
use Rattle.kinds.specs.declared.Kind.{Kind}
use Rattle.kinds.specs.declared.Kind.TheVariants.{Unknown, Plain, Read, Write}
use Rattle.kinds.specs.Tests.{unknown}
use Rattle.commands.specs.declared.plans.Body.{Body}
use Rattle.commands.specs.declared.plans.Body.TheVariants.{Nothing, FixedRead, AnyRead, FixedWrite, AnyWrite}
use Rattle.commands.specs.Plans.{read_body, body_of}
use Rattle.record.specs.declared.devices.Device.{Device}
use Rattle.record.specs.declared.devices.Setting.{Setting}
use Rattle.record.specs.declared.devices.Aim.{Aim}
use Rattle.record.specs.Devices.{setting_of, aim_of}
use Rattle.changes.specs.Latches.{kind_needs}
use Rattle.changes.specs.Laws.{no_latch}
use Rattle.record.specs.Answers.{is_done}
use Rattle.paper.specs.InForce.{asleep_for, refused_at, stopped, decided, command_clocks, address_clocks, body_for, wires_for}
use Rattle.paper.specs.Reading.{Reading, many, bytes_in, data_bytes}
use Rattle.paper.specs.Storing.{Lent, store_byte, take_each}
use Rattle.paper.specs.Driving.{driven_at, along}
use Rattle.paper.specs.Table.{clear, by_row}
use Rattle.paper.specs.Answers.{Facts, short_data, long_rest, resetting, unarmed, reserved_for, shut_data, table_for, judge}
use Rattle.paper.specs.Transaction.{sent_bytes, body_in, facts_of, stored_by, undriven}
use Rattle.paper.specs.Laws.{data_many, along_zero, still}
use Rattle.machine_phases.specs.Machine.{terms_of, holds}
use Rattle.machine_bridge.specs.Taking.{shut_burst}

-- ---- rows that say nothing of a command with this data: a read needs no latch, and neither it nor a burst is a reset or a register write
abbrev Apart : Part → List ℕ → Kind → Type 0
Apart p v k = (resetting k ≡ false) × (reserved_for p k v ≡ false)

abbrev Quiet : Body → Part → ℕ → List ℕ → Kind → Type 0
Quiet Nothing p cr4 v k = Unit {0}
Quiet (FixedRead m) p cr4 v k = Apart p v k × (kind_needs cr4 k ≡ false)
Quiet AnyRead p cr4 v k = Apart p v k × (kind_needs cr4 k ≡ false)
Quiet (FixedWrite m) p cr4 v k = Unit {0}
Quiet AnyWrite p cr4 v k = Apart p v k

module _ (p : Part) (cr4 : ℕ) (v : List ℕ) where
  -- a command of which all of that is so may have any data
  any_data : (b : Body) (k : Kind) → Apart p v k × (kind_needs cr4 k ≡ false) → Quiet b p cr4 v k
  any_data Nothing k q = tt
  any_data (FixedRead m) k q = q
  any_data AnyRead k q = q
  any_data (FixedWrite m) k q = tt
  any_data AnyWrite k q = q.0

  quiet : (k : Kind) (a : ℕ) → Quiet (body_of p k a) p cr4 v k
  quiet Unknown a = tt
  quiet (Plain c) a = tt
  quiet (Read s) a = any_data (read_body p s a) (Read s) ((refl, refl), refl)
  quiet (Write (Into.Register r)) a = tt
  quiet (Write Into.Mode) a = tt
  quiet (Write (Into.Memory r)) a = (refl, refl)
  quiet (Write Into.Area) a = (refl, refl)

quiet_for : (s : Setting) (k : Kind) (a : ℕ) (v : List ℕ) → Quiet (body_for s k a) s.part s.registers.cr4 v k
unfolding body_for
quiet_for s k a v = by (decided s k a)
  where
    by : (b : Bool) → Quiet (cond b Nothing (body_of s.part k a)) s.part s.registers.cr4 v k
    by true = tt
    by false = quiet s.part s.registers.cr4 v k a

-- ---- once 6, 5 or 7 is decided there is no data
module _ (s : Setting) (k : Kind) (a : ℕ) where
  no_data : decided s k a ≡ true → body_for s k a ≡ Nothing
  unfolding body_for
  no_data e = rw e

  if_asleep : asleep_for s k ≡ true → body_for s k a ≡ Nothing
  unfolding decided stopped
  if_asleep e = no_data (or_left (asleep_for s k || unknown k) (refused_at s k a) (or_left (asleep_for s k) (unknown k) e))

  if_unknown : unknown k ≡ true → body_for s k a ≡ Nothing
  unfolding decided stopped
  if_unknown e = no_data (or_left (asleep_for s k || unknown k) (refused_at s k a) (or_right (asleep_for s k) (unknown k) e))

  if_refused : refused_at s k a ≡ true → body_for s k a ≡ Nothing
  unfolding decided
  if_refused e = no_data (or_right (stopped s k) (refused_at s k a) e)

-- ---- what was stored and driven on the way, whatever the data is
module _ (d : Device) (l : Lent) (p : Reading)
    (cut_command_lem : fewer (many p.command_part) (command_clocks (setting_of d)) ≡ true → p.kind ≡ Unknown)
    (cut_address_lem : fewer (many p.address_part) (address_clocks (setting_of d) p.kind) ≡ true → p.data_part ≡ []) where
  abbrev s : Setting
  s = setting_of d

  abbrev w : Wires
  w = wires_for s p.kind

  abbrev aim : Aim
  aim = aim_of s p.kind p.address

  abbrev hold : Bool
  hold = holds (terms_of d) p.kind

  abbrev facts : Facts
  facts = facts_of s p

  abbrev stored_as : Body → Lent
  stored_as b = take_each (store_byte b aim) 0 (sent_bytes s p) l

  abbrev driven_by : Body → List ℕ
  driven_by b = along (driven_at b d p.kind p.address l) 0 p.data_part

  -- nothing was
  record Silent (b : Body) : Type 0 where
    keeps : cond hold l (stored_as b) ≡ l
    mute : driven_by b ≡ undriven p.data_part

  same : (b : Body) → stored_as b ≡ l → cond hold l (stored_as b) ≡ l
  same b e = rw e (cond_same hold l)

  -- too few clocks for a byte
  few : (b : Body) → length p.data_part / per_byte w ≡ 0 → stored_as b ≡ l
  unfolding sent_bytes data_bytes bytes_in take_each
  few b e = rw e

  empty : (b : Body) → p.data_part ≡ [] → Silent b
  unfolding along
  empty b e = record { keeps = same b (few b (rw e (div-eq_of_lt (per_byte_pos w)))); mute = rw e }

  nothing : Silent Nothing
  nothing = record { keeps = same Nothing (still (store_byte Nothing aim) (λ i x t. refl) (sent_bytes s p) 0 l); mute = along_zero p.data_part 0 }

  -- EVERY ROW: the five before the data, for any data; and the six after it, as the data has them
  module _ (b : Body) (is : body_in s p ≡ b) where
    unfit : body_in s p ≡ Nothing → Silent b
    unfit e = rw (sym is ∙ e) nothing

    each :
        (short_data b w (many p.data_part) ≡ true → Silent b)
        → long_rest b (many p.rest_part) ≡ false
        → unarmed d.volatile.armed p.kind ≡ false
        → (hold ≡ true → Silent b)
        → reserved_for s.part p.kind facts.tally.value ≡ false
        → (shut_data b aim (whole_of w (many p.data_part)) ≡ true → Silent b)
        → is_done (judge d facts) ≡ false → Silent b
    unfolding judge facts_of
    each short long arm latch free shut =
        by_row (table_for d facts) (λ v. is_done v ≡ false → Silent b)
        (record {
          cut_command = λ e n. unfit (if_unknown s p.kind p.address (rw (cut_command_lem e)));
          asleep = λ e n. unfit (if_asleep s p.kind p.address e);
          unknown = λ e n. unfit (if_unknown s p.kind p.address e);
          cut_address = λ e n. empty b (cut_address_lem e);
          refused = λ e n. unfit (if_refused s p.kind p.address e);
          cut_data = λ e n. short (sym (ap (λ (c : Body). short_data c w (many p.data_part)) is) ∙ e);
          long = λ e n. never (long_rest b (many p.rest_part)) long (sym (ap (λ (c : Body). long_rest c (many p.rest_part)) is) ∙ e);
          unarmed = λ e n. never (unarmed d.volatile.armed p.kind) arm e;
          latch = λ e n. latch e;
          reserved = λ e n. never (reserved_for s.part p.kind facts.tally.value) free e;
          shut = λ e n. shut (sym (ap (λ (c : Body). shut_data c aim (whole_of w (many p.data_part))) is) ∙ e);
          none = λ c n. untrue (sym n);
        })

  unarmed_not : resetting p.kind ≡ false → unarmed d.volatile.armed p.kind ≡ false
  unfolding unarmed
  unarmed_not e = rw e

  -- ---- by what the data is
  reading : (b : Body) → body_in s p ≡ b
      → short_data b w (many p.data_part) ≡ false → long_rest b (many p.rest_part) ≡ false → shut_data b aim (whole_of w (many p.data_part)) ≡ false
      → Apart s.part facts.tally.value p.kind × (kind_needs s.registers.cr4 p.kind ≡ false)
      → is_done (judge d facts) ≡ false → Silent b
  reading b is short long shut q =
      each b is
      (never (short_data b w (many p.data_part)) short)
      long
      (unarmed_not q.0.0)
      (never hold (no_latch (family_of s.part) s.registers.cr4 d.volatile.latch p.kind q.1))
      q.0.1
      (never (shut_data b aim (whole_of w (many p.data_part))) shut)

  sent_length : length (sent_bytes s p) ≡ length p.data_part / per_byte w
  unfolding sent_bytes
  sent_length = data_many w p.data_part

  burst : body_in s p ≡ AnyWrite → Apart s.part facts.tally.value p.kind → is_done (judge d facts) ≡ false → Silent AnyWrite
  burst is q =
      each AnyWrite is
      (λ e. let h = ltb-true (length p.data_part / per_byte w) 1 e in kept (few AnyWrite (omega arith)))
      refl
      (unarmed_not q.0)
      (λ e. record { keeps = rw e; mute = along_zero p.data_part 0 })
      q.1
      (λ e. kept (shut_burst aim (sent_bytes s p) (length p.data_part / per_byte w) l sent_length e))
    where
      kept : stored_as AnyWrite ≡ l → Silent AnyWrite
      kept e = record { keeps = same AnyWrite e; mute = along_zero p.data_part 0 }

  silent_by : is_done (judge d facts) ≡ false → (b : Body) → body_in s p ≡ b → Quiet b s.part s.registers.cr4 facts.tally.value p.kind → Silent b
  silent_by e Nothing is q = nothing
  silent_by e (FixedRead m) is q = reading (FixedRead m) is refl refl refl q e
  silent_by e AnyRead is q = reading AnyRead is refl refl refl q e
  silent_by e (FixedWrite m) is q =
      record { keeps = same (FixedWrite m) (still (store_byte (FixedWrite m) aim) (λ i x t. refl) (sent_bytes s p) 0 l); mute = along_zero p.data_part 0 }
  silent_by e AnyWrite is q = burst is q e

  silent : is_done (judge d facts) ≡ false → Silent (body_in s p)
  silent e = silent_by e (body_in s p) refl (quiet_for s p.kind p.address facts.tally.value)

  -- a transaction that is done had its latch
  latched : is_done (judge d facts) ≡ true → hold ≡ false
  unfolding judge facts_of
  latched e = (clear (table_for d facts) e).latch

  -- AT THE END: what the machine stored and drove on the way is what the paper stores and drives once the answer is known
  pub at_end : (b : Bool) → is_done (judge d facts) ≡ b
      → (cond hold l (stored_by s p l) ≡ cond b (stored_by s p l) l) × (driven_by (body_in s p) ≡ cond b (driven_by (body_in s p)) (undriven p.data_part))
  unfolding stored_by
  at_end true e = (rw (latched e), refl)
  at_end false e = let q = silent e in (q.keeps, q.mute)
