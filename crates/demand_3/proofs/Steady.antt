-- A command that is no write and no reset looks at neither latch nor arming: answered 0 once, it is answered 0 again whatever they and memory are. A write enable is one (D33).
-- Assumes nothing.
use Rattle.std.specs.Prelude.{◌≡◌, refl, ℕ, Bool, true, false}
use Rattle.std.proofs.Math.Path.{ap, sym}
use Rattle.std.proofs.Common.{◌∙◌}
use Rattle.basis.specs.Truth.{both_true, cond_same}
use Rattle.units.specs.Units.{at_most, longest}
use Rattle.parts.specs.declared.Family.{Family}
use Rattle.parts.specs.declared.Family.TheVariants.{Mram, Psram}
use Rattle.parts.specs.Parts.{family_of}
use Rattle.kinds.specs.declared.Control.TheVariants.{WriteEnable}
use Rattle.kinds.specs.declared.Kind.{Kind}
use Rattle.kinds.specs.declared.Kind.TheVariants.{Plain}
use Rattle.commands.specs.declared.plans.Body.{Body}
use Rattle.commands.specs.declared.plans.Body.TheVariants.{Nothing}
use Rattle.commands.specs.Plans.{reads}
use Rattle.record.specs.declared.answers.Answer.TheVariants.{Done}
use Rattle.record.specs.declared.devices.Device.{Device}
use Rattle.record.specs.declared.devices.Setting.{Setting}
use Rattle.record.specs.Devices.{setting_of, aim_of}
use Rattle.changes.specs.Latches.{latch_needed, latch_missing}
use Rattle.changes.specs.Changes.{settled_of}
use Rattle.record.specs.Answers.{is_done, refuses}
use Rattle.paper.specs.Underway.{valid_of}
use Rattle.paper.specs.InForce.{decided, body_for}
use Rattle.paper.specs.Reading.{many, Reading, reading_of}
use Rattle.paper.specs.Storing.{Lent, store_byte}
use Rattle.paper.specs.Table.{Clear, clear, done_when_clear}
use Rattle.paper.specs.Answers.{resetting, unarmed, reserved_for, shut_data, table_for, judge}
use Rattle.paper.specs.Transaction.{World, sized_for, room_for, sent_bytes, facts_of, stored_by, undriven, clocked_of, transact_of}
use Rattle.paper.specs.CallLaws.{Accepted}
use Rattle.paper.proofs.CallLaws.{accepted, when_accepted, not_refused}
use Rattle.paper.specs.Laws.{still}
use Rattle.demand_3.specs.Episodes.{Call, Roomy}
use Rattle.demand_3.specs.Calls.{quietly, relatch, world_at}
use Rattle.demand_3.proofs.Calls.{roomy_for, quiet}
use Rattle.demand_3.specs.Steady.{Steady}

-- the same samples on the same device with another latch, arming and memory, and another buffer of enough room
module _ (d : Device) (l : Lent) (x : Call) (done : (transact_of d l x.samples (undriven x.samples)).answer ≡ Done) (roomy : Roomy x) (latch armed : Bool) (l' : Lent)
    (sized : sized_for (relatch d latch armed) l' ≡ true) (valid : valid_of (relatch d latch armed) ≡ true)
    (y : Steady (setting_of d) (reading_of (setting_of d) x.samples).kind (reading_of (setting_of d) x.samples).address) where
  abbrev s : Setting
  s = setting_of d

  abbrev p : Reading
  p = reading_of s x.samples

  abbrev d' : Device
  d' = relatch d latch armed

  passed : Accepted d l x.samples (undriven x.samples)
  passed = accepted d l x.samples (undriven x.samples) (ap refuses done)

  room : room_for x.samples x.room ≡ true
  unfolding room_for
  room = roomy_for x (both_true (at_most (many x.samples) longest) _ passed.room).0 roomy

  no_row_holds : Clear (table_for d (facts_of s p))
  unfolding clocked_of judge
  no_row_holds = clear (table_for d (facts_of s p)) (ap is_done (sym (ap (λ (w : World). w.answer) (when_accepted d l x.samples (undriven x.samples) passed)) ∙ done))

  steady_reset : unarmed armed p.kind ≡ false
  unfolding unarmed
  steady_reset = rw y.reset

  steady_latch : latch_missing (family_of s.part) s.registers.cr4 latch p.kind ≡ false
  unfolding latch_missing
  steady_latch = rw y.latch

  -- no row holds this time either
  pub again : (transact_of d' l' x.samples x.room).answer ≡ Done
  unfolding clocked_of judge facts_of
  again =
      let c = no_row_holds in
      ap (λ (w : World). w.answer) (when_accepted d' l' x.samples x.room (record { sized = sized; room = room; levels = passed.levels; valid = valid; turn = passed.turn }))
      ∙ done_when_clear (table_for d' (facts_of s p))
      (record {
        cut_command = c.cut_command;
        asleep = c.asleep;
        unknown = c.unknown;
        cut_address = c.cut_address;
        refused = c.refused;
        cut_data = c.cut_data;
        long = c.long;
        unarmed = steady_reset;
        latch = steady_latch;
        reserved = y.value _;
        shut = y.burst _;
      })

-- ---- a write enable
module _ (s : Setting) (k : Kind) (a : ℕ) (kind : k ≡ Plain WriteEnable) where
  pub enable_body : body_for s k a ≡ Nothing
  unfolding body_for
  enable_body = rw kind (cond_same (decided s (Plain WriteEnable) a) Nothing)

  no_need : (f : Family) (cr4 : ℕ) → latch_needed f cr4 (Plain WriteEnable) ≡ false
  no_need Mram cr4 = refl
  no_need Psram cr4 = refl

  pub enable_steady : Steady s k a
  enable_steady =
      record {
        reset = ap resetting kind;
        latch = ap (latch_needed (family_of s.part) s.registers.cr4) kind ∙ no_need (family_of s.part) s.registers.cr4;
        value = λ v. ap (λ (q : Kind). reserved_for s.part q v) kind;
        burst = λ m. ap (λ (b : Body). shut_data b (aim_of s k a) m) enable_body;
      }

module _ (d : Device) (l : Lent) (x : Call) (kind : (reading_of (setting_of d) x.samples).kind ≡ Plain WriteEnable)
    (done : (transact_of d l x.samples (undriven x.samples)).answer ≡ Done) (roomy : Roomy x) (latch armed : Bool) (l' : Lent)
    (sized : sized_for (relatch d latch armed) l' ≡ true) (valid : valid_of (relatch d latch armed) ≡ true) where
  abbrev t : Setting
  t = setting_of d

  abbrev q : Reading
  q = reading_of t x.samples

  abbrev e : Device
  e = relatch d latch armed

  body : body_for t q.kind q.address ≡ Nothing
  body = enable_body t q.kind q.address kind

  enabled : (transact_of e l' x.samples x.room).answer ≡ Done
  enabled = again d l x done roomy latch armed l' sized valid (enable_steady t q.kind q.address kind)

  clocked : transact_of e l' x.samples x.room ≡ clocked_of e l' x.samples x.room
  clocked = not_refused e l' x.samples x.room (ap refuses enabled)

  judged : judge e (facts_of t q) ≡ Done
  unfolding clocked_of
  judged = sym (ap (λ (w : World). w.answer) clocked) ∙ enabled

  kept : stored_by t q l' ≡ l'
  unfolding stored_by
  kept = rw body (still (store_byte Nothing (aim_of t q.kind q.address)) (λ i x m. refl) (sent_bytes t q) 0 l')

  -- A WRITE ENABLE, whole: the latch is up, the arming down, and nothing else moves
  pub enable_call : transact_of e l' x.samples x.room ≡ world_at (quietly t x Done) (relatch d true false) l'
  unfolding clocked_of facts_of
  enable_call = clocked ∙ rw (judged, kept, quiet e l' x.samples Done (ap reads body)) (ap (λ (k : Kind). world_at (quietly t x Done) (settled_of k (facts_of t q).tally.value Done e) l') kind)
