-- The proof of Understood.antt: what the host answered 0 to is read as it was given, no row of the table before the last four holds, and what a read drives is heard.
-- Assumes nothing.
use Rattle.std.specs.Prelude.{◌≡◌, ℕ, ◌+◌, ◌*◌, ◌<◌, ◌≤◌, Bool, true, false, cond, List, ◌++◌, ltb, length, drop}
use Rattle.std.proofs.Math.Path.{refl, sym, ap}
use Rattle.std.proofs.Common.{◌∙◌, arith, take_at}
use borrow.Author.Tests.{le-leb, le-ltb, ltb-false}
use Rattle.basis.specs.Truth.{untrue, never, neither}
use Rattle.units.specs.declared.Clocks.{Clocks}
use Rattle.units.specs.declared.Bytes.{Bytes}
use Rattle.units.specs.declared.Wires.{Wires}
use Rattle.units.specs.Units.{bytes, wires_of, per_byte, fewer}
use Rattle.parts.specs.Parts.{part_of, family_of}
use Rattle.kinds.specs.declared.Kind.{Kind}
use Rattle.kinds.specs.Tests.{unknown}
use Rattle.commands.specs.declared.plans.Body.{Body}
use Rattle.commands.specs.declared.plans.Body.TheVariants as Bodies
use Rattle.commands.specs.Plans.{address_of, wait_of, body_of, reads}
use Rattle.record.specs.declared.answers.Answer.{Answer}
use Rattle.record.specs.declared.answers.Answer.TheVariants.{Done}
use Rattle.record.specs.declared.devices.Device.{Device}
use Rattle.record.specs.Devices.{mode_wires, setting_of}
use Rattle.record.specs.declared.devices.Setting.{Setting}
use Rattle.record.specs.declared.devices.Aim.{Aim}
use Rattle.changes.specs.Latches.{latch_missing}
use Rattle.record.specs.Answers.{is_done}
use Rattle.paper.specs.InForce.{asleep_for, command_clocks, address_length, address_clocks, wires_for}
use Rattle.paper.specs.Reading.{first, many, data_part, rest_part, Reading, reading_of}
use Rattle.paper.specs.Storing.{Lent}
use Rattle.paper.specs.Driving.{byte_read, level_at, driven_at, along}
use Rattle.paper.specs.Table.{Table, answer_by, done_when_clear, by_row}
use Rattle.paper.specs.Answers.{shut_data, unarmed, reserved_for, table_for, judge}
use Rattle.paper.proofs.CallLaws.{when_accepted}
use Rattle.paper.specs.Laws.{Unrefused, unrefused_when}
use Rattle.paper.specs.Transaction as tx
use Rattle.paper.specs.Transaction.{World, clocked_of, room_for, sampled, facts_of, over, transact_of}
use Rattle.paper.specs.Building.{Order, kind_asked, asked, built_of, refusals_of, build_answer, Told, build_of}
use Rattle.paper.specs.Collecting.{collect_of}
use Rattle.demand_1_2.specs.Driven.{blank, three, driven_length}
use Rattle.demand_1_2.specs.Sent.{sampled_all, sampled_silent, sampled_spread}
use Rattle.demand_1_2.specs.Bytewise.{read_at}
use Rattle.demand_1_2.specs.Heard.{bytes_from, bytes_same, leveled, group, driven, gathered}
use Rattle.demand_1_2.specs.Planned.{address_in, read_in, alike, Calm, calm}
use Rattle.demand_1_2.specs.Built.{Suits, allowed, unrefused, body_same, sent_command, sent_address, sent_wait, sent_data, built_so, command_full, address_full, wait_full, command_spelled, address_spelled, parts_built, bytes_driven, Carried, carried}
use Rattle.demand_1_2.specs.Meant.{Spelled, Meant, Lendable, sent, faultless}

-- ---- what the host answered 0 to
either_answer : {U : Type 0} (b : Bool) (r t : Told U) (v : Answer) → r.answer ≡ v → t.answer ≡ v → (cond b r t).answer ≡ v
either_answer true r t v e f = e
either_answer false r t v e f = f

module _ (o : Order) (room : List ℕ) (done : (build_of o room).answer ≡ Done) where
  abbrev pub k : Kind
  k = kind_asked o

  abbrev pub built : List ℕ
  built = built_of o k

  host_answer : build_answer o k room ≡ Done
  unfolding build_of
  host_answer = sym (either_answer (is_done (build_answer o k room)) _ _ (build_answer o k room) refl refl) ∙ done

  pub no_refusal : Unrefused (refusals_of o k room)
  no_refusal = unrefused_when (refusals_of o k room) (ap is_done host_answer)

  -- what the call left is what is built
  pub sent_is : sent (build_of o room) ≡ built
  unfolding build_of over
  sent_is = rw host_answer (take_at built (drop (length built) room) (length built) refl)

  -- they are as many as it tells
  pub sent_told : many (sent (build_of o room)) ≡ (build_of o room).number
  unfolding build_of over
  sent_told = rw sent_is (rw host_answer)

  module _ (sp : Spelled o) (d : Device) (m : Meant o d) where
    abbrev pub s : Setting
    s = setting_of d

    pub suits : Suits o s
    suits = record { part = ap part_of m.part; wires = ap mode_wires m.mode; awake = m.awake; waits = m.waits; allows = m.allows }

    pub known : unknown k ≡ false
    known = no_refusal.unknown

    abbrev pub n : ℕ
    n = address_in (address_of k) o.address

    abbrev pub body : Body
    body = body_of s.part k o.address

    abbrev pub v : Wires
    v = wires_for s k

    abbrev pub command : List ℕ
    command = sent_command o s suits known

    abbrev pub address : List ℕ
    address = sent_address o s suits known

    abbrev pub wait : List ℕ
    wait = sent_wait o s suits known

    abbrev pub carries : List ℕ
    carries = sent_data o s suits known

    pub carried_data : Carried body v o carries
    carried_data =
        carried v o sp.written body (asked k body) (alike s k o.address (allowed o s suits known)) (rw suits.part no_refusal.too_few) (rw suits.part no_refusal.too_many)

    abbrev pub reading : Reading
    reading =
        record {
          kind = k;
          address = n;
          command_part = command;
          address_part = address;
          wait_part = wait;
          data_part = data_part body v carries;
          rest_part = rest_part body v carries;
        }

    -- THE READING of what is built
    pub read_so : reading_of s built ≡ reading
    read_so =
        ap (reading_of s) (built_so o s suits known)
        ∙ parts_built s command address wait carries k n (command_spelled o s suits known sp.opcode) (command_full o s suits known)
        (address_spelled o s suits known no_refusal.beyond) (address_full o s suits known) (wait_full o s suits known)
        ∙ rw (body_same o s suits known)

    module _ (l : Lent) (out : List ℕ) (r : Lendable d l built out) where
      short_enough : length built ≤ 65535
      short_enough = ltb-false 65535 (length built) (neither (ltb 65535 (length built)) (ltb (length room) (length built)) no_refusal.no_room).0

      all_samples : sampled built ≡ true
      all_samples =
          rw (built_so o s suits known)
          (sampled_all command address wait carries (sampled_spread s.wires (per_byte s.wires) o.opcode)
          (sampled_spread v (address_length (address_of k) v).0 o.address) (sampled_silent (wait_of k s.wires o.cr2).0) carried_data.samples)

      -- the checks are passed
      clocked : transact_of d l built out ≡ clocked_of d l built out
      unfolding room_for
      clocked =
          when_accepted d l built out
          (record { sized = r.sized; room = rw (le-leb (length built) 65535 short_enough, le-leb (length built) (length out) r.room); levels = all_samples; valid = m.valid; turn = m.idle })

      abbrev tests : Table
      tests = table_for d (facts_of s (reading_of s built))

      judged : (transact_of d l built out).answer ≡ answer_by tests
      unfolding clocked_of judge
      judged = ap (λ (w : World). w.answer) clocked

      full_count : (xs : List ℕ) (c : Clocks) → length xs ≡ c.0 → fewer (many xs) c ≡ false
      full_count xs c e = le-ltb (length xs) c.0 (omega arith)

      -- nothing is wrong with the clocks
      record Sound (t : Table) : Type 0 where
        cut_command : t.cut_command ≡ false
        asleep : t.asleep ≡ false
        unknown : t.unknown ≡ false
        cut_address : t.cut_address ≡ false
        refused : t.refused ≡ false
        cut_data : t.cut_data ≡ false
        long : t.long ≡ false

      sound : Sound tests
      unfolding facts_of asleep_for
      sound =
          rw (read_so, body_same o s suits known)
          (record {
            cut_command = full_count command (command_clocks s) (command_full o s suits known);
            asleep = rw m.awake refl;
            unknown = known;
            cut_address = full_count address (address_clocks s k) (address_full o s suits known);
            refused = unrefused o s suits known;
            cut_data = carried_data.enough;
            long = carried_data.ended;
          })

      -- none of 1 to 7 and 11
      pub no_early : faultless (transact_of d l built out).answer ≡ true
      no_early =
          ap faultless judged
          ∙ by_row tests (λ a. faultless a ≡ true)
          (record {
            cut_command = never tests.cut_command sound.cut_command;
            asleep = never tests.asleep sound.asleep;
            unknown = never tests.unknown sound.unknown;
            cut_address = never tests.cut_address sound.cut_address;
            refused = never tests.refused sound.refused;
            cut_data = never tests.cut_data sound.cut_data;
            long = never tests.long sound.long;
            unarmed = λ e. refl;
            latch = λ e. refl;
            reserved = λ e. refl;
            shut = λ e. refl;
            none = λ c. refl;
          })

      module _ (e : reads body ≡ true) where
        abbrev pub number : ℕ
        number = (bytes_driven body o.wanted).0

        no_burst : (b : Body) (a : Aim) (i : Bytes) → reads b ≡ true → shut_data b a i ≡ false
        no_burst Bodies.Nothing a i e = refl
        no_burst (Bodies.FixedRead c) a i e = refl
        no_burst Bodies.AnyRead a i e = refl
        no_burst (Bodies.FixedWrite c) a i e = refl
        no_burst Bodies.AnyWrite a i e = untrue e

        -- the rows that are left say nothing of a read
        idle : Calm s d.volatile.latch d.volatile.armed (facts_of s (reading_of s built)).tally.value k
        idle = calm s d.volatile.latch d.volatile.armed _ k o.address e

        shut_not : tests.shut ≡ false
        unfolding facts_of
        shut_not = rw (read_so, body_same o s suits known) (no_burst body _ _ e)

        kind_so : (facts_of s (reading_of s built)).kind ≡ k
        unfolding facts_of
        kind_so = ap (λ (p : Reading). p.kind) read_so

        pub read_done : (transact_of d l built out).answer ≡ Done
        read_done =
            judged
            ∙ done_when_clear tests
            (record {
              cut_command = sound.cut_command;
              asleep = sound.asleep;
              unknown = sound.unknown;
              cut_address = sound.cut_address;
              refused = sound.refused;
              cut_data = sound.cut_data;
              long = sound.long;
              unarmed = ap (unarmed d.volatile.armed) kind_so ∙ idle.armed;
              latch = ap (latch_missing (family_of s.part) s.registers.cr4 d.volatile.latch) kind_so ∙ idle.latch;
              reserved = ap (λ (q : Kind). reserved_for s.part q (facts_of s (reading_of s built)).tally.value) kind_so ∙ idle.value;
              shut = shut_not;
            })

        abbrev f : Bytes → ℕ
        f i = byte_read d k n l i

        small : (i : Bytes) → f i < 256
        small i = read_at d l r.whole k n i

        answer_so : judge d (facts_of s (reading_of s built)) ≡ Done
        unfolding judge
        answer_so = sym judged ∙ read_done

        -- the clocks of a read, one after the other
        level_along : (b : Body) → reads b ≡ true → (xs : List ℕ) → along (driven_at b d k n l) 0 xs ≡ along (leveled v (group v f)) 0 xs
        unfolding level_at
        level_along Bodies.Nothing e xs = untrue e
        level_along (Bodies.FixedRead c) e xs = refl
        level_along Bodies.AnyRead e xs = refl
        level_along (Bodies.FixedWrite c) e xs = untrue e
        level_along Bodies.AnyWrite e xs = untrue e

        abbrev drove : List ℕ
        drove =
            driven v f small (length command + length address + length wait) number (length (rest_part body v carries))

        driven_so : tx.output_of d l (reading_of s built) Done ≡ drove
        unfolding tx.output_of
        driven_so =
            rw (read_so, body_same o s suits known, level_along body e (data_part body v carries), carried_data.wanted e)
            (three (length command) (length address) (length wait) (along (leveled v (group v f)) 0 (blank (number * per_byte v)) ++ blank (length (rest_part body v carries))))

        output_so : first (many built) (transact_of d l built out).output ≡ drove
        unfolding clocked_of over
        output_so =
            let ys = tx.output_of d l (reading_of s built) Done in
            rw (clocked, answer_so) (take_at ys (drop (length ys) out) (length built) (driven_length d l built Done)) ∙ driven_so

        pub heard_so : (buffer : List ℕ) → number ≤ length buffer
            → collect_of (wires_of v) (first (many built) (transact_of d l built out).output) buffer
            ≡ record { answer = Done; number = bytes number; buffer = over (bytes_from (byte_read d k o.address l) 0 number) buffer }
        heard_so buffer h =
            ap (λ (xs : List ℕ). collect_of (wires_of v) xs buffer) output_so
            ∙ gathered v f small (length command + length address + length wait) number (length (rest_part body v carries)) buffer h
            ∙ rw (bytes_same f (byte_read d k o.address l) (read_in d k o.address l) 0 number)
