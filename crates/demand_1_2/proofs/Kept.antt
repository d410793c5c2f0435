-- KEPT: a call on a valid record, with memory and area of its size, leaves a valid record and the same sizes; and a fresh chip is valid. So whoever starts from a fresh chip and makes any
-- transactions and power cycles never meets answer 3, and meets answer 1 only for his clocks or his output; for `open`, `feed` and `close` `chunks: Promises` says it.
--
-- A command reaches only fields that its family has, because each row of the family's table is a command of that family: one computed test over the rows.
-- Assumes nothing.
use Rattle.std.specs.Prelude.{◌≡◌, refl, Bool, true, false, cond, not, ◌&&◌, List, [], ◌∷◌, ℕ, ◌+◌, ◌/◌, ◌%◌, eqb, ltb, length, get_or, set, drop, Option, Some, None}
use Rattle.std.proofs.Common.{◌∙◌, sym, subst, arith, length-set, length-append, length-drop, lt-ltb, ltb-true, leb-true, eqb-true, eq-eqb}
use Rattle.std.proofs.lemmas.List.{length-replicate}
use Rattle.basis.specs.Truth.{both_true, untrue, not_untrue}
use Rattle.basis.specs.Decisions.{NoneHolds}
use Rattle.basis.specs.Rows.{each_row, either_passes, look_passes}
use Rattle.units.specs.declared.Bytes.{Bytes}
use Rattle.units.specs.declared.Wires.{Wires}
use Rattle.units.specs.Units.{bytes, at_most, longest}
use Rattle.wires.specs.Bits.{gather}
use Rattle.parts.specs.declared.Family.{Family}
use Rattle.parts.specs.declared.Family.TheVariants.{Mram, Psram}
use Rattle.parts.specs.declared.Part.{Part}
use Rattle.parts.specs.declared.Part.TheVariants.{M, P, M32}
use Rattle.parts.specs.Parts.{part_of, family_of}
use Rattle.kinds.specs.declared.Control.{Control}
use Rattle.kinds.specs.declared.Control.TheVariants.{NoOperation, WriteEnable, WriteDisable, ToOne, ToTwo, ToFour, Sleep, Wake, ResetEnable, Reset, Toggle}
use Rattle.kinds.specs.declared.Register.{Register}
use Rattle.kinds.specs.declared.Register.TheVariants as At
use Rattle.kinds.specs.declared.Target.TheVariants as Into
use Rattle.kinds.specs.declared.Kind.{Kind}
use Rattle.kinds.specs.declared.Kind.TheVariants.{Unknown, Plain, Read, Write}
use Rattle.opcodes.specs.declared.Meaning.{Meaning}
use Rattle.opcodes.specs.Opcodes.{rows_of, meaning_of, in_modes, kind_in, kind_of}
use Rattle.commands.specs.declared.plans.Body.{Body}
use Rattle.commands.specs.declared.plans.Body.TheVariants.{Nothing, FixedRead, AnyRead, FixedWrite, AnyWrite}
use Rattle.record.specs.declared.answers.Answer.{Answer}
use Rattle.record.specs.declared.devices.Make.{Make}
use Rattle.record.specs.declared.devices.Underway.{Underway}
use Rattle.record.specs.declared.devices.Device.{Device}
use Rattle.record.specs.declared.devices.Setting.{Setting}
use Rattle.record.specs.declared.devices.Aim.{Aim}
use Rattle.record.specs.Answers.{is_done}
use Rattle.record.specs.Devices.{setting_of, aim_of}
use Rattle.record.specs.Fields.{arm_to, mode_to, sleep_to, no_underway}
use Rattle.record.specs.Fresh.{fresh_volatile, fresh_mode_register, fresh_registers, fresh_identity, fresh_of}
use Rattle.record.specs.Resets.{mode_register_to, reset_for, powered_of}
use Rattle.record.specs.Shows.{without_latch}
use Rattle.changes.specs.Latches.{write_mode, after_burst}
use Rattle.changes.specs.Changes.{controlled, written_to, burst_done, effect_of, settled_of}
use Rattle.state_check.specs.Values.{status_allowed, cr3_allowed, cr4_allowed, configurations_allowed, mode_register_allowed, reserved_of}
use Rattle.state_check.specs.States.{mode_allowed, zeros, mram_registers, mram_volatile, mram_identity, psram_registers, psram_volatile, psram_identity, valid_for, in_range}
use Rattle.paper.specs.Underway.{factless, underway_valid, valid_of}
use Rattle.paper.specs.UnderwayLaws.{valid_range, idle_facts, idle_valid}
use Rattle.paper.specs.InForce.{command_clocks}
use Rattle.paper.specs.Reading.{first, many, full, kind_read, Reading, reading_of}
use Rattle.paper.specs.Storing.{Lent, into_area, protected_at, put_at, store_byte, take_each}
use Rattle.paper.specs.Table.{by_row}
use Rattle.paper.specs.Answers.{Facts, reserved_for, table_for, judge}
use Rattle.paper.specs.Transaction.{World, sized_for, room_for, sent_bytes, body_in, facts_of, stored_by, output_of, over, memory_after, refusal, guarded, transact_checks, power_checks, powered_up, clocked_of, transact_of, power_of}
use Rattle.paper.proofs.CallLaws.{accepting, by_checks}
use Rattle.demand_1_2.specs.Driven.{driven_length}
use Rattle.demand_1_2.specs.Kept.{Fields, Good, Kept, Of, SameSize, controls, has, registers}

-- every row is a command of its family, and so is what any opcode is read as
abbrev has_meaning : Family → Option Meaning → Bool
has_meaning f None = true
has_meaning f (Some m) = has f m.kind

has_rows : (f : Family) → each_row (has_meaning f) (rows_of f) ≡ true
has_rows Mram = refl
has_rows Psram = refl

has_kind_in : (f : Family) (w : Wires) (m : Option Meaning) → has_meaning f m ≡ true → has f (kind_in m w) ≡ true
has_kind_in f w None h = refl
has_kind_in f w (Some m) h = either_passes (has f) m.kind Unknown (in_modes m.modes w) h refl

has_kind : (f : Family) (w : Wires) (opcode : ℕ) → has f (kind_of f w opcode) ≡ true
unfolding meaning_of
has_kind f w opcode = has_kind_in f w (meaning_of f opcode) (look_passes (has_meaning f) None (rows_of f) opcode (has_rows f) refl)

has_read : (s : Setting) (xs : List ℕ) → has (family_of s.part) (kind_read s xs) ≡ true
unfolding kind_read
has_read s xs =
    let k = kind_of (family_of s.part) s.wires (gather s.wires xs) in
    either_passes (has (family_of s.part)) k Unknown (full (command_clocks s) xs) (has_kind (family_of s.part) s.wires (gather s.wires xs)) refl

fields : (f : Family) (p : Part) (d : Device) → valid_for f p d ≡ true → Fields f p d
unfolding mram_registers mram_volatile mram_identity psram_registers psram_volatile
fields Mram p d v =
    let r = d.registers in
    let x = both_true (mram_registers p r) _ v in
    let y = both_true (mram_volatile d.volatile) (mram_identity d.identity) x.1 in
    let z = both_true (not d.volatile.toggle) (mode_allowed Mram d.volatile.mode) y.0 in
    let a = both_true (status_allowed r.status) _ x.0 in
    let b = both_true (eqb (r.status / 2 % 2) 0) _ a.1 in
    let c = both_true (configurations_allowed p r.cr1 r.cr2 r.cr3 r.cr4) (eqb r.mr0 0) b.1 in
    record { allowed = a.0; unshown = b.0; configured = c.0; modeless = c.1; untoggled = z.0; wired = z.1; identity = y.1 }
fields Psram p d v =
    let r = d.registers in
    let x = both_true (psram_registers r) _ v in
    let y = both_true (psram_volatile d.volatile) (psram_identity d.identity) x.1 in
    let z = both_true (not d.volatile.latch) (not d.volatile.asleep && mode_allowed Psram d.volatile.mode) y.0 in
    let q = both_true (not d.volatile.asleep) (mode_allowed Psram d.volatile.mode) z.1 in
    let a = both_true (zeros (r.status ∷ r.protection ∷ r.cr1 ∷ r.cr2 ∷ r.cr3 ∷ r.cr4 ∷ [])) (mode_register_allowed r.mr0) x.0 in
    record { others = a.0; register = a.1; unlatched = z.0; awake = q.0; wired = q.1; identity = y.1 }

whole : (f : Family) (p : Part) (d : Device) → Fields f p d → valid_for f p d ≡ true
unfolding mram_registers mram_volatile mram_identity psram_registers psram_volatile
whole Mram p d o = rw (o.allowed, o.unshown, o.configured, o.modeless, o.untoggled, o.wired, o.identity)
whole Psram p d o = rw (o.others, o.register, o.unlatched, o.awake, o.wired, o.identity)

modes : (f : Family) → (mode_allowed f 1 ≡ true) × (mode_allowed f 4 ≡ true)
unfolding mode_allowed
modes Mram = (refl, refl)
modes Psram = (refl, refl)

mode_two : mode_allowed Mram 2 ≡ true
unfolding mode_allowed
mode_two = refl

fresh_register : mode_register_allowed fresh_mode_register ≡ true
unfolding mode_register_allowed
fresh_register = refl

-- bit 1 of a status that is written is dropped, so that the record's check does not find it
status_kept : (v : ℕ) → status_allowed v ≡ true → (status_allowed (without_latch v) ≡ true) × (eqb (without_latch v / 2 % 2) 0 ≡ true)
unfolding status_allowed
status_kept v e =
    let b = both_true (ltb v 64) (eqb (v % 2) 0) e in
    let l = ltb-true v 64 b.0 in
    let h = eqb-true (v % 2) 0 b.1 in
    (rw (lt-ltb (without_latch v) 64 (omega arith), eq-eqb (without_latch v % 2) 0 (omega arith)), eq-eqb (without_latch v / 2 % 2) 0 (omega arith))

-- a latch that is down stays down
down_stays : (cr4 : ℕ) (latch : Bool) → not latch ≡ true → not (after_burst cr4 latch) ≡ true
down_stays cr4 latch e = by (eqb (write_mode cr4) 0)
  where
    by : (b : Bool) → not (cond b false latch) ≡ true
    by true = refl
    by false = e

module _ (p : Part) (m : Make) (u : Underway) where
  -- another bus mode that the family has
  in_mode : (f : Family) (d : Device) (mode : ℕ) → mode_allowed f mode ≡ true → Of f p m u d → Of f p m u (mode_to mode d)
  in_mode Mram d mode e (g, o) = (
    g,
    record {
      allowed = o.allowed;
      unshown = o.unshown;
      configured = o.configured;
      modeless = o.modeless;
      untoggled = o.untoggled;
      wired = e;
      identity = o.identity;
    },
  )
  in_mode Psram d mode e (g, o) = (g, record { others = o.others; register = o.register; unlatched = o.unlatched; awake = o.awake; wired = e; identity = o.identity })

  -- another mode register that the PSRAM may have
  with_register : (d : Device) (v : ℕ) → mode_register_allowed v ≡ true → Of Psram p m u d → Of Psram p m u (mode_register_to v d)
  with_register d v e (g, o) = (g, record { others = o.others; register = e; unlatched = o.unlatched; awake = o.awake; wired = o.wired; identity = o.identity })

  -- ---- what each command leaves
  reset_kept : (f : Family) (d : Device) → Of f p m u d → Of f p m u (reset_for f d)
  reset_kept Mram d o = in_mode Mram d 1 (modes Mram).0 o
  reset_kept Psram d o = with_register (mode_to 1 d) fresh_mode_register fresh_register (in_mode Psram d 1 (modes Psram).0 o)

  -- a command without data
  control_kept : (f : Family) (d : Device) (c : Control) → family_of (part_of d.make.part) ≡ f → controls f c ≡ true → Of f p m u d → Of f p m u (controlled c d)
  control_kept f d NoOperation e h o = o
  control_kept Mram d WriteEnable e h o = o
  control_kept Psram d WriteEnable e h o = untrue h
  control_kept Mram d WriteDisable e h o = o
  control_kept Psram d WriteDisable e h o = untrue h
  control_kept f d ToOne e h o = in_mode f d 1 (modes f).0 o
  control_kept Mram d ToTwo e h o = in_mode Mram d 2 mode_two o
  control_kept Psram d ToTwo e h o = untrue h
  control_kept f d ToFour e h o = in_mode f d 4 (modes f).1 o
  control_kept Mram d Sleep e h o = o
  control_kept Psram d Sleep e h o = untrue h
  control_kept Mram d Wake e h o = o
  control_kept Psram d Wake e h o = untrue h
  control_kept Mram d ResetEnable e h o = o
  control_kept Psram d ResetEnable e h o = o
  control_kept f d Reset e h o = subst (λ (g : Family). Of f p m u (reset_for g d)) (sym e) (reset_kept f d o)
  control_kept Mram d Toggle e h o = untrue h
  control_kept Psram d Toggle e h o = o

  -- a register write of the MRAM that row 10 lets pass
  register_kept : (d : Device) (r : Register) (v : List ℕ) → registers r ≡ true → reserved_of p r v ≡ false → Of Mram p m u d → Of Mram p m u (written_to r v d)
  register_kept d At.Status v h n (g, o) =
      let s = status_kept (get_or v 0 0) (not_untrue _ n) in (
        g,
        record {
          allowed = s.0;
          unshown = s.1;
          configured = o.configured;
          modeless = o.modeless;
          untoggled = o.untoggled;
          wired = o.wired;
          identity = o.identity;
        },
      )
  register_kept d At.Configurations v h n (g, o) = (
    g,
    record {
      allowed = o.allowed;
      unshown = o.unshown;
      configured = not_untrue _ n;
      modeless = o.modeless;
      untoggled = o.untoggled;
      wired = o.wired;
      identity = o.identity;
    },
  )
  register_kept d At.AreaProtection v h n (g, o) = (g, o)
  register_kept d At.Serial v h n (g, o) = (g, o)
  register_kept d At.Configuration1 v h n o = o
  register_kept d At.Configuration2 v h n o = o
  register_kept d At.Configuration3 v h n o = o
  register_kept d At.Configuration4 v h n o = o
  register_kept d At.Identity v h n o = o
  register_kept d At.Unique v h n o = o
  register_kept d At.ModeRegister v h n o = untrue h
  register_kept d At.LongIdentity v h n o = o

  -- a burst: the latch goes down, or stays as it is
  burst_kept : (f : Family) (d : Device) → Of f p m u d → Of f p m u (burst_done d)
  burst_kept Mram d o = o
  burst_kept Psram d (g, o) = (
    g,
    record {
      others = o.others;
      register = o.register;
      unlatched = down_stays d.registers.cr4 d.volatile.latch o.unlatched;
      awake = o.awake;
      wired = o.wired;
      identity = o.identity;
    },
  )

  -- any command of the family that is done
  effect_kept : (f : Family) (d : Device) (k : Kind) (v : List ℕ) → family_of (part_of d.make.part) ≡ f → has f k ≡ true → reserved_for p k v ≡ false
      → Of f p m u d → Of f p m u (effect_of k v d)
  effect_kept f d Unknown v e h n o = o
  effect_kept f d (Plain c) v e h n o = control_kept f d c e h o
  effect_kept f d (Read s) v e h n o = o
  effect_kept Mram d (Write (Into.Register r)) v e h n o = register_kept d r v h n o
  effect_kept Psram d (Write (Into.Register r)) v e h n o = untrue h
  effect_kept Mram d (Write Into.Mode) v e h n o = untrue h
  effect_kept Psram d (Write Into.Mode) v e h n o = with_register d (get_or v 0 0) (not_untrue _ n) o
  effect_kept f d (Write (Into.Memory z)) v e h n o = burst_kept f d o
  effect_kept f d (Write Into.Area) v e h n o = burst_kept f d o

  -- the arming is as it may be, and so are sleep and waking
  disarmed : (f : Family) (d : Device) → Of f p m u d → Of f p m u (arm_to false d)
  disarmed Mram d o = o
  disarmed Psram d o = o

good : (d : Device) → valid_of d ≡ true → Good d.make d.underway d
unfolding in_range
good d v = ((refl, refl), fields (family_of (part_of d.make.part)) (part_of d.make.part) d (valid_range d v))

still_ranged : (m : Make) (u : Underway) (d : Device) → Good m u d → in_range d ≡ true
unfolding in_range
still_ranged m u d (g, o) =
    subst (λ (n : Make). valid_for (family_of (part_of n.part)) (part_of n.part) d ≡ true) (sym g.0) (whole (family_of (part_of m.part)) (part_of m.part) d o)

still_valid : (d e : Device) → valid_of d ≡ true → d.underway.selected ≡ false → Good d.make d.underway e → valid_of e ≡ true
still_valid d e v n g = idle_valid d.underway e g.0.1 n (idle_facts d v n) (still_ranged d.make d.underway e g)

-- THE RECORD after a transaction that was clocked, whatever its answer
settled_kept : (d : Device) (x : Facts) → has (family_of (part_of d.make.part)) x.kind ≡ true → Good d.make d.underway d
    → Good d.make d.underway (settled_of x.kind x.tally.value (judge d x) d)
unfolding judge
settled_kept d x h o =
    let m = d.make in
    let p = part_of m.part in
    let f = family_of p in
    let u = d.underway in
    let q : Good m u (arm_to false d) = disarmed p m u f d o in
    by_row (table_for d x) (λ a. Good m u (settled_of x.kind x.tally.value a d))
    (record {
      cut_command = λ e. q;
      asleep = λ e. q;
      unknown = λ e. q;
      cut_address = λ e. q;
      refused = λ e. q;
      cut_data = λ e. q;
      long = λ e. q;
      unarmed = λ e. q;
      latch = λ e. q;
      reserved = λ e. q;
      shut = λ e. burst_kept p m u f (arm_to false d) q;
      none = λ c. effect_kept p m u f (arm_to false d) x.kind x.tally.value refl h c.reserved q;
    })

put_size : (a : Aim) (i : Bytes) (b : ℕ) (l : Lent) → SameSize l (put_at a i b l)
unfolding put_at
put_size a i b l = by (into_area a.kind) _ _
  where
    by : (q : Bool) (x y : ℕ) → SameSize l (cond q (record { memory = l.memory; area = set l.area x b }) (record { memory = set l.memory y b; area = l.area }))
    by true x y = (refl, length-set l.area x b)
    by false x y = (length-set l.memory y b, refl)

pub byte_size : (y : Body) (a : Aim) (i : Bytes) (b : ℕ) (l : Lent) → SameSize l (store_byte y a i b l)
byte_size Nothing a i b l = (refl, refl)
byte_size (FixedRead m) a i b l = (refl, refl)
byte_size AnyRead a i b l = (refl, refl)
byte_size (FixedWrite m) a i b l = (refl, refl)
byte_size AnyWrite a i b l = by (protected_at a i)
  where
    by : (q : Bool) → SameSize l (cond q l (put_at a i b l))
    by true = (refl, refl)
    by false = put_size a i b l

taken_size : (y : Body) (a : Aim) (i : ℕ) (bs : List ℕ) (l : Lent) → SameSize l (take_each (store_byte y a) i bs l)
unfolding take_each
taken_size y a i [] l = (refl, refl)
taken_size y a i (b ∷ bs) l =
    let one = byte_size y a (bytes i) b l in
    let all = taken_size y a (i + 1) bs (store_byte y a (bytes i) b l) in
    (all.0 ∙ one.0, all.1 ∙ one.1)

stored_size : (s : Setting) (p : Reading) (l : Lent) (done : Bool) → SameSize l (cond done (stored_by s p l) l)
unfolding stored_by
stored_size s p l true = taken_size (body_in s p) (aim_of s p.kind p.address) 0 (sent_bytes s p) l
stored_size s p l false = (refl, refl)

-- the sizes that row 1 asks for go by the make alone
sized_again : (d e : Device) (l k : Lent) → sized_for d l ≡ true → e.make ≡ d.make → SameSize l k → sized_for e k ≡ true
unfolding sized_for
sized_again d e l k h g (a, b) = rw (g, a, b) h

-- what the clocks drive has room in the output
pub output_size : (xs ys out : List ℕ) → length ys ≡ length xs → at_most (many xs) (many out) ≡ true → length (over ys out) ≡ length out
unfolding over
output_size xs ys out e r =
    let h = leb-true (length xs) (length out) r in
    let a = length-append ys (drop (length ys) out) in
    let b = length-drop (length ys) out in
    omega arith

module _ (d : Device) (l : Lent) (v : valid_of d ≡ true) (sized : sized_for d l ≡ true) where
  -- of any call behind checks: a refusal leaves everything as it was
  pub kept_by : (out : List ℕ) (cs : List (Bool × Answer)) (w : World) → (NoneHolds cs → Kept d l out w) → Kept d l out (guarded cs (refusal d l out) w)
  kept_by out cs w =
      by_checks d l out cs w (Kept d l out) (λ a. record { valid = v; sized = sized; make = refl; memory = refl; area = refl; output = refl })

  clocked_kept : (xs out : List ℕ) → d.underway.selected ≡ false → room_for xs out ≡ true → Kept d l out (clocked_of d l xs out)
  unfolding clocked_of room_for facts_of reading_of
  clocked_kept xs out n r =
      let s = setting_of d in
      let p = reading_of s xs in
      let x = facts_of s p in
      let g = settled_kept d x (has_read s (first (command_clocks s) xs)) (good d v) in
      let k = stored_size s p l (is_done (judge d x)) in
      record {
        valid = still_valid d _ v n g;
        sized = sized_again d _ l _ sized g.0.0 k;
        make = g.0.0;
        memory = k.0;
        area = k.1;
        output = output_size xs (output_of d l p (judge d x)) out (driven_length d l xs (judge d x)) (both_true (at_most (many xs) longest) _ r).1;
      }

  pub transact_kept : (xs out : List ℕ) → Kept d l out (transact_of d l xs out)
  unfolding transact_of
  transact_kept xs out =
      kept_by out (transact_checks d l xs out) (clocked_of d l xs out) (λ c. let a = accepting d l xs out c in clocked_kept xs out a.turn a.room)

-- and no transaction is opened by it, or closed
pub transact_underway : (d : Device) (l : Lent) (xs out : List ℕ) → valid_of d ≡ true → (transact_of d l xs out).device.underway ≡ d.underway
unfolding transact_of clocked_of facts_of reading_of
transact_underway d l xs out v =
    let s = setting_of d in
    by_checks d l out (transact_checks d l xs out) (clocked_of d l xs out) (λ w. w.device.underway ≡ d.underway) (λ a. refl)
    (λ c. (settled_kept d (facts_of s (reading_of s xs)) (has_read s (first (command_clocks s) xs)) (good d v)).0.1)

-- ---- a power cycle
powered_kept : (p : Part) (m : Make) (u : Underway) (f : Family) (d : Device) → family_of (part_of d.make.part) ≡ f → Of f p m u d → Of f p m u (powered_of d)
powered_kept p m u f d e o = subst (λ (g : Family). Of f p m u (arm_to false (sleep_to false (reset_for g d)))) (sym e) (by f (reset_for f d) (reset_kept p m u f d o))
  where
    by : (g : Family) (c : Device) → Of g p m u c → Of g p m u (arm_to false (sleep_to false c))
    by Mram c q = q
    by Psram c (g, q) = (g, record { others = q.others; register = q.register; unlatched = q.unlatched; awake = refl; wired = q.wired; identity = q.identity })

memory_size_lem : (f : Family) (xs : List ℕ) → length (memory_after f xs) ≡ length xs
memory_size_lem Mram xs = refl
memory_size_lem Psram xs = length-replicate (length xs) 0

up_kept : (d : Device) (l : Lent) → valid_of d ≡ true → sized_for d l ≡ true → d.underway.selected ≡ false → Kept d l [] (powered_up d l)
up_kept d l v sized n =
    let p = part_of d.make.part in
    let g = powered_kept p d.make d.underway (family_of p) d refl (good d v) in
    let k : SameSize l (powered_up d l).lent = (memory_size_lem (family_of p) l.memory, refl) in
    record { valid = still_valid d _ v n g; sized = sized_again d _ l _ sized g.0.0 k; make = g.0.0; memory = k.0; area = k.1; output = refl }

pub power_kept : (d : Device) (l : Lent) → valid_of d ≡ true → sized_for d l ≡ true → Kept d l [] (power_of d l)
unfolding power_of
power_kept d l v sized = kept_by d l v sized [] (power_checks d l) (powered_up d l) (λ c. up_kept d l v sized c.1.1.0)

pub power_underway : (d : Device) (l : Lent) → valid_of d ≡ true → (power_of d l).device.underway ≡ d.underway
unfolding power_of
power_underway d l v =
    let p = part_of d.make.part in
    by_checks d l [] (power_checks d l) (powered_up d l) (λ w. w.device.underway ≡ d.underway) (λ a. refl)
    (λ c. (powered_kept p d.make d.underway (family_of p) d refl (good d v)).0.1)

-- ---- a fresh chip is valid, whatever its make
pub fresh_kept : (m : Make) (device unique : List ℕ) → valid_of (fresh_of m device unique) ≡ true
unfolding valid_of in_range underway_valid factless status_allowed cr3_allowed cr4_allowed configurations_allowed mode_register_allowed mode_allowed zeros mram_registers mram_volatile mram_identity psram_registers psram_volatile psram_identity
fresh_kept m device unique = rw (by (part_of m.part))
  where
    by : (p : Part) → valid_for (family_of p) p (record { make = m; registers = fresh_registers p; volatile = fresh_volatile; identity = fresh_identity (family_of p) device unique; underway = no_underway }) ≡ true
    by M = refl
    by P = refl
    by M32 = refl
