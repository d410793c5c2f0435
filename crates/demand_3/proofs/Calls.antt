-- One call of an episode: what a memory write and a write enable say and leave, whatever the latch, the arming and memory are. What an episode does to the record and
-- what it does to memory are two laws here, `write_moves` and `write_stores`.
-- Assumes nothing.
use Rattle.std.specs.Prelude.{◌≡◌, ℕ, ◌/◌, ◌≤◌, Bool, leb, take, drop}
use Rattle.std.proofs.Math.Path.{refl, ap}
use Rattle.std.proofs.Common.{◌∙◌, sym, div-le_self, arith, length-take, length-drop}
use Rattle.std.proofs.Math.Bool.{true, false, cond}
use mathlib.Core.List.{List, []}
use Rattle.std.proofs.Math.ListN.{length}
use borrow.Author.Tests.{le-ltb, leb-true}
use Rattle.basis.specs.Truth.{untrue, never}
use Rattle.units.specs.Units.{per_byte, fewer, at_most, longest, whole_of}
use Rattle.parts.specs.Parts.{family_of}
use Rattle.kinds.specs.declared.Target.TheVariants as Into
use Rattle.kinds.specs.declared.Kind.{Kind}
use Rattle.kinds.specs.declared.Kind.TheVariants.{Unknown, Write}
use Rattle.kinds.specs.Tests.{unknown}
use Rattle.commands.specs.declared.plans.Body.{Body}
use Rattle.commands.specs.declared.plans.Body.TheVariants.{Nothing, FixedRead, AnyRead, FixedWrite, AnyWrite}
use Rattle.commands.specs.Plans.{reads}
use Rattle.record.specs.declared.answers.Answer.{Answer}
use Rattle.record.specs.declared.answers.Answer.TheVariants.{Done, Protected}
use Rattle.record.specs.declared.devices.Device.{Device}
use Rattle.record.specs.declared.devices.Setting.{Setting}
use Rattle.record.specs.Devices.{setting_of, aim_of}
use Rattle.changes.specs.Latches.{latch_missing, after_burst}
use Rattle.changes.specs.Changes.{settled_of}
use Rattle.record.specs.Answers.{is_done}
use Rattle.paper.specs.Underway.{valid_of}
use Rattle.paper.specs.InForce.{asleep_for, stopped, decided, command_clocks, address_clocks, wait_clocks, wires_for, body_for}
use Rattle.paper.specs.Reading.{many, kind_read, data_part, Reading, reading_of, data_bytes}
use Rattle.paper.specs.Laws.{data_many, along_zero}
use Rattle.paper.specs.Storing.{Lent, all_shut, store_byte, take_each}
use Rattle.paper.specs.Driving.{driven_at, along}
use Rattle.paper.specs.Table.{by_row}
use Rattle.paper.specs.Answers.{Facts, short_data, long_rest, unarmed, reserved_for, shut_data, table_for, judge}
use Rattle.paper.specs.Transaction.{sized_for, room_for, sent_bytes, body_in, facts_of, stored_by, undriven, around, output_of, clocked_of, transact_of}
use Rattle.paper.specs.ReadingLaws.{none_driven}
use Rattle.paper.proofs.CallLaws.{when_accepted}
use Rattle.demand_3.specs.Bursts.{Burst, store_from, store, shut_all, landed}
use Rattle.demand_3.proofs.Bytes.{taken_so, shut_so}
use Rattle.demand_3.specs.Episodes.{Call, Roomy, aimed, MemoryWrite}
use Rattle.demand_3.specs.Calls.{quietly, relatch, world_at}

-- few enough clocks, and a buffer for them, are what row 1 asks of samples and output
pub roomy_for : (x : Call) → at_most (many x.samples) longest ≡ true → Roomy x → room_for x.samples x.room ≡ true
unfolding room_for
roomy_for x few roomy = rw (few, roomy)

-- what is not a read drives nothing
pub quiet : (d : Device) (l : Lent) (xs : List ℕ) (v : Answer) → reads (body_in (setting_of d) (reading_of (setting_of d) xs)) ≡ false
    → output_of d l (reading_of (setting_of d) xs) v ≡ undriven xs
unfolding output_of
quiet d l xs v e =
    ap (around (reading_of (setting_of d) xs)) (by (reading_of (setting_of d) xs) (is_done v) (body_in (setting_of d) (reading_of (setting_of d) xs)) e)
    ∙ none_driven (setting_of d) xs
  where
    by : (p : Reading) (done : Bool) (b : Body) → reads b ≡ false → cond done (along (driven_at b d p.kind p.address l) 0 p.data_part) (undriven p.data_part) ≡ undriven p.data_part
    by p false b e = refl
    by p true Nothing e = along_zero p.data_part 0
    by p true (FixedRead m) e = untrue (sym e)
    by p true AnyRead e = untrue (sym e)
    by p true (FixedWrite m) e = along_zero p.data_part 0
    by p true AnyWrite e = along_zero p.data_part 0

-- ---- a command that is known has all its clocks
cond_known : (b : Bool) (k : Kind) → unknown (cond b k Unknown) ≡ false → b ≡ true
cond_known true k e = refl
cond_known false k e = untrue (sym e)

command_full : (s : Setting) (xs : List ℕ) → unknown (reading_of s xs).kind ≡ false → fewer (many (reading_of s xs).command_part) (command_clocks s) ≡ false
unfolding reading_of kind_read
command_full s xs e =
    let c = (command_clocks s).0 in
    le-ltb (length (take c xs)) c (leb-true c (length (take c xs)) (cond_known (leb c (length (take c xs))) _ e))

-- ---- the data of a memory write comes after a whole address
some_left : (n m : ℕ) (xs : List ℕ) → 1 ≤ length (drop m (drop n xs)) → n ≤ length (take n xs)
some_left n m xs h =
    let e = length-drop m (drop n xs) in
    let f = length-drop n xs in
    let g = length-take n xs in
    omega arith

whole_pos : (n m : ℕ) → 1 ≤ n / m → 1 ≤ n
whole_pos n m h = omega (arith, div-le_self n m)

-- ---- a memory write
module _ (d : Device) (l : Lent) (x : Call) (awake : d.volatile.asleep ≡ false) (w : MemoryWrite (setting_of d) x.samples) where
  abbrev s : Setting
  s = setting_of d

  abbrev p : Reading
  p = reading_of s x.samples

  abbrev b : Burst
  b = aimed s x.samples

  known : unknown p.kind ≡ false
  known = ap unknown w.kind

  goes : asleep_for s p.kind ≡ false
  unfolding asleep_for
  goes = rw awake

  body_any : body_for s p.kind p.address ≡ AnyWrite
  unfolding body_for decided stopped
  body_any = rw (goes, known, w.reach, w.kind)

  data_some : 1 ≤ length p.data_part / per_byte (wires_for s p.kind)
  unfolding aimed
  data_some = rw (← data_many (wires_for s p.kind) p.data_part) w.some

  -- the samples after the command, and those after the address
  abbrev rest : List ℕ
  rest = drop (command_clocks s).0 x.samples

  data_is : p.data_part ≡ drop (wait_clocks s p.kind p.address).0 (drop (address_clocks s p.kind).0 rest)
  unfolding reading_of
  data_is = ap (λ (y : Body). data_part y (wires_for s p.kind) (drop (wait_clocks s p.kind p.address).0 (drop (address_clocks s p.kind).0 rest))) body_any

  address_full : fewer (many p.address_part) (address_clocks s p.kind) ≡ false
  unfolding reading_of
  address_full =
      let n = (address_clocks s p.kind).0 in
      let m = (wait_clocks s p.kind p.address).0 in
      let some : 1 ≤ length p.data_part = whole_pos (length p.data_part) (per_byte (wires_for s p.kind)) data_some in
      let h : 1 ≤ length (drop m (drop n rest)) = rw (← data_is) some in
      le-ltb (length (take n rest)) n (some_left n m rest h)

  -- what its bytes leave
  abbrev facts : Facts
  facts = facts_of s p

  stored_is : stored_by s p l ≡ record { memory = store b l.memory; area = l.area }
  unfolding stored_by sent_bytes aimed
  stored_is =
      let f : Body → Kind → Lent = λ y k. take_each (store_byte y (aim_of s k p.address)) 0 (data_bytes (wires_for s p.kind) p.data_part) l in
      ap (λ (y : Body). f y p.kind) body_any ∙ ap (f AnyWrite) w.kind ∙ taken_so s w.way p.address (data_bytes (wires_for s p.kind) p.data_part) l

  -- ---- the answer: 9 where every place is protected, and 0 otherwise
  abbrev answers : Answer
  answers = cond (shut_all b) Protected Done

  shut_is : (table_for d facts).shut ≡ shut_all b
  unfolding facts_of aimed
  shut_is =
      let m = whole_of (wires_for s p.kind) (many p.data_part) in
      ap (λ (y : Body). shut_data y (aim_of s p.kind p.address) m) body_any
      ∙ ap (λ (k : Kind). all_shut (aim_of s k p.address) m) w.kind
      ∙ shut_so s w.way p.address (data_bytes (wires_for s p.kind) p.data_part) (data_many (wires_for s p.kind) p.data_part)

  module _ (free : latch_missing (family_of s.part) s.registers.cr4 d.volatile.latch (Write (Into.Memory w.way)) ≡ false) where
    answer_is : judge d facts ≡ answers
    unfolding judge facts_of unarmed
    answer_is =
        by_row (table_for d facts) (λ v. v ≡ answers)
        (record {
          cut_command = never (table_for d facts).cut_command (command_full s x.samples known);
          asleep = never (table_for d facts).asleep goes;
          unknown = never (table_for d facts).unknown known;
          cut_address = never (table_for d facts).cut_address address_full;
          refused = never (table_for d facts).refused w.reach;
          cut_data =
              never (table_for d facts).cut_data
              (ap (λ (y : Body). short_data y (wires_for s p.kind) (many p.data_part)) body_any ∙ le-ltb (length p.data_part / per_byte (wires_for s p.kind)) 1 data_some);
          long = never (table_for d facts).long (ap (λ (y : Body). long_rest y (many p.rest_part)) body_any);
          unarmed = never (table_for d facts).unarmed (ap (unarmed d.volatile.armed) w.kind);
          latch = never (table_for d facts).latch (ap (latch_missing (family_of s.part) s.registers.cr4 d.volatile.latch) w.kind ∙ free);
          reserved = never (table_for d facts).reserved (ap (λ (k : Kind). reserved_for s.part k facts.tally.value) w.kind);
          shut = λ e. rw (sym shut_is ∙ e);
          none = λ c. rw (sym shut_is ∙ c.shut);
        })

    -- THE RECORD after it: disarmed, and the latch as the write mode says, whether it is answered 0 or 9
    write_moves : settled_of p.kind facts.tally.value answers d ≡ relatch d (after_burst d.registers.cr4 d.volatile.latch) false
    write_moves = by (shut_all b)
      where
        by : (q : Bool) → settled_of p.kind facts.tally.value (cond q Protected Done) d ≡ relatch d (after_burst d.registers.cr4 d.volatile.latch) false
        by true = refl
        by false = ap (λ (k : Kind). settled_of k facts.tally.value Done d) w.kind

    -- MEMORY AND AREA after it
    write_stores : cond (is_done answers) (stored_by s p l) l ≡ record { memory = store (landed b) l.memory; area = l.area }
    unfolding store_from
    write_stores = by (shut_all b)
      where
        by : (q : Bool) → cond (is_done (cond q Protected Done)) (stored_by s p l) l
            ≡ record { memory = store (record { place = b.place; shut = b.shut; sent = cond q [] b.sent }) l.memory; area = l.area }
        by true = refl
        by false = stored_is

    -- A MEMORY WRITE, whole
    pub write_call : Roomy x → sized_for d l ≡ true → valid_of d ≡ true → d.underway.selected ≡ false
        → transact_of d l x.samples x.room
        ≡ world_at (quietly s x answers) (relatch d (after_burst d.registers.cr4 d.volatile.latch) false) (record { memory = store (landed b) l.memory; area = l.area })
    unfolding clocked_of facts_of
    write_call roomy sized valid idle =
        when_accepted d l x.samples x.room (record { sized = sized; room = roomy_for x w.few roomy; levels = w.levels; valid = valid; turn = idle })
        ∙ rw answer_is (rw (write_moves, write_stores, quiet d l x.samples answers (ap reads body_any)))
