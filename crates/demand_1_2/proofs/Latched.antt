-- LATCH (demand 2): what a write leaves of the write latch, whatever comes in. Document 01, "Commands of part M", the paragraph "Latch", with document 02's P3 in
-- place of what it says of register writes in write mode 2. A write that is refused leaves it, too, as it was (Refused.antt).
-- Assumes nothing.
use Rattle.std.specs.Prelude.{◌≡◌, ℕ, Bool, true, cond, List}
use Rattle.std.proofs.Math.Path.{refl, ap}
use Rattle.std.proofs.Common.{sym, ◌∙◌}
use Rattle.std.proofs.Math.Bool.{false}
use Rattle.basis.specs.Truth.{never}
use Rattle.units.specs.declared.Bytes.{Bytes}
use Rattle.units.specs.Units.{whole_of}
use Rattle.kinds.specs.declared.Register.{Register}
use Rattle.kinds.specs.declared.Register.TheVariants.{ModeRegister}
use Rattle.kinds.specs.declared.Target.{Target}
use Rattle.kinds.specs.declared.Target.TheVariants as Into
use Rattle.kinds.specs.declared.Kind.{Kind}
use Rattle.kinds.specs.declared.Kind.TheVariants.{Write}
use Rattle.commands.specs.declared.plans.Body.TheVariants.{Nothing, FixedWrite}
use Rattle.commands.specs.Registers.{bytes_of}
use Rattle.commands.specs.Plans.{write_body}
use Rattle.record.specs.declared.answers.Answer.{Answer}
use Rattle.record.specs.declared.answers.Answer.TheVariants.{Done, Short, Unknown, Asleep, Address, Latch, Protected, Reserved, Long, Unarmed}
use Rattle.record.specs.declared.devices.Device.{Device}
use Rattle.record.specs.declared.devices.Aim.{Aim}
use Rattle.record.specs.Devices.{setting_of, aim_of}
use Rattle.record.specs.Answers.{is_done, refuses, is_protected}
use Rattle.changes.specs.Changes.{settled_of}
use Rattle.paper.specs.InForce.{decided, wires_for, body_for}
use Rattle.paper.specs.Reading.{reading_of}
use Rattle.paper.specs.Storing.{Lent}
use Rattle.paper.specs.Table.{by_row}
use Rattle.paper.specs.Answers.{shut_data, table_for, judge}
use Rattle.paper.specs.Transaction.{facts_of, clocked_of, transact_of}
use Rattle.paper.proofs.CallLaws.{not_refused}
use Rattle.demand_1_2.specs.Latched.{latch_left}

-- an answer that is neither 0 nor 9 leaves it
module _ (cr4 : ℕ) (latch : Bool) where
  alone : (t : Target) (v : Answer) → is_done v ≡ false → is_protected v ≡ false → latch ≡ latch_left t v cr4 latch
  alone (Into.Register r) v a b = rw a
  alone Into.Mode v a b = refl
  alone (Into.Memory r) v a b = rw (a, b)
  alone Into.Area v a b = rw (a, b)

-- what is written whole lies at no places, so that 9 is never its answer
fixed_open : (stopped : Bool) (b : Bytes) (a : Aim) (m : Bytes) → shut_data (cond stopped Nothing (FixedWrite b)) a m ≡ false
fixed_open true b a m = refl
fixed_open false b a m = refl

module _ (d : Device) (value : List ℕ) where
  -- the latch after a command of this kind, answered so, is what `latch_left` says
  abbrev Leaves : Target → Kind → Answer → Type 0
  Leaves t k v = (settled_of k value v d).volatile.latch ≡ latch_left t v d.registers.cr4 d.volatile.latch

  when_done : (t : Target) → Leaves t (Write t) Done
  when_done (Into.Register r) = refl
  when_done Into.Mode = refl
  when_done (Into.Memory r) = refl
  when_done Into.Area = refl

  when_shut : (t : Target) (stopped : Bool) (a : Aim) (m : Bytes) → shut_data (cond stopped Nothing (write_body t)) a m ≡ true → Leaves t (Write t) Protected
  when_shut (Into.Register r) stopped a m e = never _ (fixed_open stopped (bytes_of r) a m) e
  when_shut Into.Mode stopped a m e = never _ (fixed_open stopped (bytes_of ModeRegister) a m) e
  when_shut (Into.Memory r) stopped a m e = refl
  when_shut Into.Area stopped a m e = refl

module _ (d : Device) (l : Lent) (xs out : List ℕ) where
  -- THE LATCH AFTER A WRITE
  pub latch_left_lem : (t : Target) → (reading_of (setting_of d) xs).kind ≡ Write t → refuses (transact_of d l xs out).answer ≡ false
      → (transact_of d l xs out).device.volatile.latch ≡ latch_left t (transact_of d l xs out).answer d.registers.cr4 d.volatile.latch
  unfolding clocked_of facts_of judge body_for
  latch_left_lem t e n =
      let s = setting_of d in
      let p = reading_of s xs in
      let f = facts_of s p in
      let value = f.tally.value in
      let a = aim_of s p.kind p.address in
      let m = whole_of (wires_for s p.kind) f.tally.counts.body in
      let left : (v : Answer) → is_done v ≡ false → is_protected v ≡ false → d.volatile.latch ≡ latch_left t v d.registers.cr4 d.volatile.latch =
      alone d.registers.cr4 d.volatile.latch t in
      let told : Leaves d value t p.kind (judge d f) =
      by_row (table_for d f) (Leaves d value t p.kind)
      (record {
        cut_command = λ h. left Short refl refl;
        asleep = λ h. left Asleep refl refl;
        unknown = λ h. left Unknown refl refl;
        cut_address = λ h. left Short refl refl;
        refused = λ h. left Address refl refl;
        cut_data = λ h. left Short refl refl;
        long = λ h. left Long refl refl;
        unarmed = λ h. left Unarmed refl refl;
        latch = λ h. left Latch refl refl;
        reserved = λ h. left Reserved refl refl;
        shut = λ h. when_shut d value t (decided s (Write t) p.address) a m (sym (ap (λ (k : Kind). shut_data (body_for s k p.address) a m) e) ∙ h);
        none = λ c. ap (λ (k : Kind). (settled_of k value Done d).volatile.latch) e ∙ when_done d value t;
      }) in
      rw (not_refused d l xs out n) told

  -- P3 by itself: a register write that is done leaves it down
  pub register_write : (r : Register) → (reading_of (setting_of d) xs).kind ≡ Write (Into.Register r) → (transact_of d l xs out).answer ≡ Done → (transact_of d l xs out).device.volatile.latch ≡ false
  register_write r e v = latch_left_lem (Into.Register r) e (ap refuses v) ∙ ap (λ (a : Answer). cond (is_done a) false d.volatile.latch) v
