-- KEPT, REACHED, REFUSED and EXACT ORDER for `open`, `feed` and `close`, and 13 exactly when it is said. Document 02, P1; document 01, "Answer numbers".
-- Assumes nothing.
use Rattle.std.specs.Prelude.{◌≡◌, ℕ, ◌+◌, ◌≤◌, Bool, true, false, cond, not, ◌&&◌, eqb}
use Rattle.std.proofs.Math.Path.{refl, sym, ap, subst}
use Rattle.std.proofs.Common.{◌∙◌, le_refl}
use native.Mathlib.Omega.{arith}
use mathlib.Core.List.{List, [], ◌∷◌, ◌++◌, map}
use Rattle.std.proofs.Math.ListN.{length, length-append, length-replicate}
use borrow.Author.Tests.{leb-true, le-leb}
use Rattle.basis.specs.Truth.{not_untrue, untrue}
use Rattle.basis.specs.Decisions.{first_of, NoneHolds, Among, no_row, none_holds, first_append}
use Rattle.units.specs.declared.Clocks.{Clocks}
use Rattle.units.specs.Units.{clocks}
use Rattle.progress.specs.declared.Progress.{Progress}
use Rattle.record.specs.declared.answers.Answer.{Answer}
use Rattle.record.specs.declared.answers.Answer.TheVariants.{Done, Size, Sample, State, Turn}
use Rattle.record.specs.declared.devices.Underway.{Underway}
use Rattle.record.specs.declared.devices.Device.{Device}
use Rattle.record.specs.Answers.{answer_number, refuses}
use Rattle.record.specs.Devices.{setting_of}
use Rattle.record.specs.Fields.{no_underway, just_open, underway_to, closed_of}
use Rattle.paper.specs.Underway.{valid_of}
use Rattle.paper.specs.UnderwayLaws.{valid_range, open_reached}
use Rattle.paper.specs.Storing.{Lent}
use Rattle.paper.specs.Table.{listed}
use Rattle.paper.specs.Answers.{table_for, judge}
use Rattle.paper.specs.Transaction.{World, sized_for, room_for, so_far, room_after, sampled, undriven, clock_checks, bare_checks, open_checks, feed_checks, close_checks, transact_checks, clocked_of, transact_of, power_of}
use Rattle.paper.specs.CallLaws.{Untouched, ChunkAccepted}
use Rattle.paper.proofs.CallLaws.{by_checks, refused_by, made_by, answer_by_lem, chunk_accepting, when_accepted, judge_refuses_none}
use Rattle.paper.specs.Meanwhile.{underway_of}
use Rattle.contract_words.specs.Words.{begun}
use Rattle.machine_phases.specs.Machine.{run_of}
use Rattle.machine_phases.specs.RunLaws.{outs_length}
use Rattle.machine_end.specs.Finish.{facts_in, outcome_of, finish_of}
use Rattle.machine_bridge.proofs.Bridge.{bridge}
use Rattle.machine_chunks.specs.Chunks.{resume_of, resumed, opcode_after, paused_of, fed_to, run_on, outs_on, opened_world, open_of, fed_world, feed_of, closed_world, close_of}
use Rattle.demand_1_2.specs.ExactOrder.{power_order}
use Rattle.demand_1_2.specs.Kept.{Kept}
use Rattle.demand_1_2.proofs.Kept.{kept_by, output_size, transact_kept, transact_underway, power_underway}
use Rattle.demand_3.specs.Episodes.{Chip, Call}
use Rattle.chunks.specs.Standing.{standing}
use Rattle.chunks.specs.Feeding.{after, fed_on, none_yet}
use Rattle.chunks.specs.Typed.{Typed, none_typed, facts_typed}
use Rattle.chunks.specs.Rebuilt.{Reach, reach}
use Rattle.chunks.specs.Runs.{run_known, run_size}
use Rattle.chunks.specs.Chunks.{fed, after_feeds, Unrefused, Idle, opened, opened_at, facts_valid, closed_valid, sized_same}

-- ---- REFUSED: a call that is refused leaves everything as it was, and no clock of it counts
module _ (d : Device) (l : Lent) where
  pub open_refused : refuses (open_of d l).answer ≡ true → Untouched d l [] (open_of d l)
  unfolding open_of
  open_refused = refused_by d l [] (open_checks d l) (opened_world d l) refl

  pub feed_refused : (xs out : List ℕ) → refuses (feed_of d l xs out).answer ≡ true → Untouched d l out (feed_of d l xs out)
  unfolding feed_of
  feed_refused xs out = refused_by d l out (feed_checks d l xs out) (fed_world d l xs out) refl

  pub close_refused : refuses (close_of d l).answer ≡ true → Untouched d l [] (close_of d l)
  unfolding close_of finish_of outcome_of
  close_refused = refused_by d l [] (close_checks d l) (closed_world d l) (judge_refuses_none (closed_of d) _)

  -- ---- EXACT ORDER: the answer is that of the first check that fails, and where none does 0, or of a close the answer table's
  pub open_order : (open_of d l).answer ≡ first_of Done (open_checks d l)
  unfolding open_of
  open_order = answer_by_lem d l [] (open_checks d l) (opened_world d l)

  pub feed_order : (xs out : List ℕ) → (feed_of d l xs out).answer ≡ first_of Done (feed_checks d l xs out)
  unfolding feed_of
  feed_order xs out = answer_by_lem d l out (feed_checks d l xs out) (fed_world d l xs out)

  abbrev pub close_table : List (Bool × Answer)
  close_table = close_checks d l ++ listed (table_for (closed_of d) (facts_in (resume_of (setting_of d) d.underway)))

  pub close_order : (close_of d l).answer ≡ first_of Done close_table
  unfolding close_of finish_of outcome_of judge
  close_order =
      answer_by_lem d l [] (close_checks d l) (closed_world d l)
      ∙ sym (first_append Done (close_checks d l) (listed (table_for (closed_of d) (facts_in (resume_of (setting_of d) d.underway)))))

  pub in_order : (xs out : List ℕ)
      → (map (λ r. answer_number r.1) (open_checks d l) ≡ 1 ∷ 3 ∷ 13 ∷ [])
      × ((map (λ r. answer_number r.1) (feed_checks d l xs out) ≡ 1 ∷ 2 ∷ 3 ∷ 13 ∷ [])
      × (map (λ r. answer_number r.1) close_table ≡ 1 ∷ 3 ∷ 13 ∷ 4 ∷ 6 ∷ 5 ∷ 4 ∷ 7 ∷ 4 ∷ 11 ∷ 12 ∷ 8 ∷ 10 ∷ 9 ∷ []))
  in_order xs out = (refl, (refl, refl))

-- ---- 13 EXACTLY WHEN IT IS SAID: the checks before it are passed, and the call is out of turn
abbrev says_turn : Answer → Bool
says_turn v = eqb (answer_number v) 13

-- of any checks that lead to other answers, and then 13 where `t` holds; `v` is what is answered where none fails
module _ (cs : List (Bool × Answer)) (others : Among (λ a. says_turn a ≡ false) cs) (v : Answer) (calm : refuses v ≡ false) (t : Bool) where
  abbrev verdict : Answer
  verdict = first_of v (cs ++ ((t, Turn) ∷ []))

  by_turn : (b : Bool) → cond b Turn v ≡ Turn → b ≡ true
  by_turn true e = refl
  by_turn false e = untrue (sym calm ∙ ap refuses e)

  turn_said : verdict ≡ Turn → NoneHolds cs × (t ≡ true)
  turn_said e =
      let h : first_of (cond t Turn v) cs ≡ Turn = sym (first_append v cs ((t, Turn) ∷ [])) ∙ e in
      let c = none_holds (cond t Turn v) says_turn cs others (ap says_turn h) in
      (c, by_turn t (sym (no_row (cond t Turn v) cs c) ∙ h))

  turn_says : NoneHolds cs → t ≡ true → verdict ≡ Turn
  turn_says c e = first_append v cs ((t, Turn) ∷ []) ∙ no_row (cond t Turn v) cs c ∙ ap (λ (b : Bool). cond b Turn v) e

-- so of each of the five calls: 13 just when its other checks are passed and it is out of turn
abbrev pub Just : Answer → Type 0 → Type 0
Just v Q = (v ≡ Turn → Q) × (Q → v ≡ Turn)

abbrev pub Bare : Device → Lent → Bool → Type 0
Bare d l untimely = (sized_for d l ≡ true) × ((valid_of d ≡ true) × (untimely ≡ true))

abbrev pub Clocked : Device → Lent → List ℕ → Bool → Bool → Type 0
Clocked d l xs fits untimely = ((sized_for d l && fits) ≡ true) × ((sampled xs ≡ true) × ((valid_of d ≡ true) × (untimely ≡ true)))

-- by the two lists that they share
module _ (d : Device) (l : Lent) (a v : Answer) (calm : refuses v ≡ false) (t : Bool) where
  bare_just : a ≡ first_of v (bare_checks d l t) → Just a (Bare d l t)
  bare_just e =
      let cs : List (Bool × Answer) = (not (sized_for d l), Size) ∷ (not (valid_of d), State) ∷ [] in (
        λ f. let q = turn_said cs (refl, (refl, tt)) v calm t (sym e ∙ f) in (not_untrue _ q.0.0, (not_untrue _ q.0.1.0, q.1)),
        λ q. e ∙ turn_says cs (refl, (refl, tt)) v calm t (ap not q.0, (ap not q.1.0, tt)) q.1.1,
      )

  clock_just : (xs : List ℕ) (fits : Bool) → a ≡ first_of v (clock_checks d l xs fits t) → Just a (Clocked d l xs fits t)
  clock_just xs fits e =
      let cs : List (Bool × Answer) = (not (sized_for d l && fits), Size) ∷ (not (sampled xs), Sample) ∷ (not (valid_of d), State) ∷ [] in (
        λ f.
            let q = turn_said cs (refl, (refl, (refl, tt))) v calm t (sym e ∙ f) in
            (not_untrue _ q.0.0, (not_untrue _ q.0.1.0, (not_untrue _ q.0.1.1.0, q.1))),
        λ q. e ∙ turn_says cs (refl, (refl, (refl, tt))) v calm t (ap not q.0, (ap not q.1.0, (ap not q.1.1.0, tt))) q.1.1.1,
      )

module _ (d : Device) (l : Lent) where
  pub open_turn : Just (open_of d l).answer (Bare d l d.underway.selected)
  open_turn = bare_just d l _ Done refl d.underway.selected (open_order d l)

  pub power_turn : Just (power_of d l).answer (Bare d l d.underway.selected)
  power_turn = bare_just d l _ Done refl d.underway.selected (power_order d l)

  pub close_turn : Just (close_of d l).answer (Bare d l (not d.underway.selected))
  unfolding close_of finish_of outcome_of
  close_turn =
      bare_just d l _ (judge (closed_of d) (facts_in (resume_of (setting_of d) d.underway))) (judge_refuses_none (closed_of d) _) (not d.underway.selected)
      (answer_by_lem d l [] (close_checks d l) (closed_world d l))

  pub feed_turn : (xs out : List ℕ) → Just (feed_of d l xs out).answer (Clocked d l xs (room_after d.underway xs out) (not d.underway.selected))
  feed_turn xs out = clock_just d l _ Done refl (not d.underway.selected) xs (room_after d.underway xs out) (feed_order d l xs out)

  pub transact_turn : (xs out : List ℕ) → Just (transact_of d l xs out).answer (Clocked d l xs (room_for xs out) d.underway.selected)
  unfolding transact_of clocked_of
  transact_turn xs out =
      clock_just d l _ (clocked_of d l xs out).answer (judge_refuses_none d _) d.underway.selected xs (room_for xs out)
      (answer_by_lem d l out (transact_checks d l xs out) (clocked_of d l xs out))

-- ---- KEPT: after each call the record is valid, of the same make, and everything that was lent has its old size
-- before the first clock
just_open_lem : (d : Device) (l : Lent) → just_open ≡ underway_of (setting_of d) []
just_open_lem d l = ap (λ (e : Device). e.underway) (none_yet (closed_of d) refl l)

-- a valid record with a transaction open is one that some samples reach
module _ (d : Device) (typed : Typed d.underway) (v : valid_of d ≡ true) (busy : d.underway.selected ≡ true) where
  samples_for : Reach (setting_of d) d.underway
  samples_for = reach (setting_of d) d.underway typed busy (open_reached d v busy)

-- the record of a chunk more
fed_known : (d : Device) (l l' : Lent) (xs : List ℕ) → fed_to d xs (run_on d l xs) ≡ fed_to d xs (run_on d l' xs)
fed_known d l l' xs =
    ap (λ (p : Progress). underway_to (paused_of (opcode_after (setting_of d) d.underway xs) p) d) (run_known (closed_of d) (resume_of (setting_of d) d.underway) l l' xs)

module _ (d : Device) (l : Lent) (v : valid_of d ≡ true) (sized : sized_for d l ≡ true) where
  pub open_kept : Kept d l [] (open_of d l)
  unfolding open_of
  open_kept =
      kept_by d l v sized [] (open_checks d l) (opened_world d l)
      (λ c. record {
        valid = rw (just_open_lem d l) (facts_valid d [] (valid_range d v) (omega arith));
        sized = sized_same just_open d l l (refl, refl) sized;
        make = refl;
        memory = refl;
        area = refl;
        output = refl;
      })

-- ALSO KEPT: the value is as the types of the code have it, which KEPT asks of the record before a feed and before a close
abbrev TypedAfter : World → Type 0
TypedAfter w = Typed w.device.underway

pub open_typed : (d : Device) (l : Lent) → Typed d.underway → TypedAfter (open_of d l)
unfolding open_of
open_typed d l t = by_checks d l [] (open_checks d l) (opened_world d l) TypedAfter (λ a. t) (λ c. none_typed)

pub transact_typed : (d : Device) (l : Lent) (xs out : List ℕ) → valid_of d ≡ true → Typed d.underway → TypedAfter (transact_of d l xs out)
transact_typed d l xs out v t = rw (transact_underway d l xs out v) t

pub power_typed : (d : Device) (l : Lent) → valid_of d ≡ true → Typed d.underway → TypedAfter (power_of d l)
power_typed d l v t = rw (power_underway d l v) t

-- of a record that holds a transaction: its facts are as the types of the code have them
module _ (d : Device) (l : Lent) (typed : Typed d.underway) (v : valid_of d ≡ true) (sized : sized_for d l ≡ true) where
  module _ (xs out : List ℕ) (a : ChunkAccepted d l xs out) where
    abbrev z : Reach (setting_of d) d.underway
    z = samples_for d typed v a.turn

    -- the record is one that the samples so far, and those of the chunk, reach
    record_so : fed_to d xs (run_on d l xs) ≡ underway_to (underway_of (setting_of d) (z.samples ++ xs)) (closed_of d)
    record_so =
        let m = (run_of (closed_of d) (begun l) z.samples).lent in
        fed_known d l m xs
        ∙ ap (λ (u : Underway). fed_to (underway_to u (closed_of d)) xs (run_on (underway_to u (closed_of d)) m xs)) (sym z.facts)
        ∙ ap (λ (w : World). w.device) (fed_on (closed_of d) refl l z.samples xs out)

    -- and they are few enough
    counted_so : so_far d.underway ≡ d.underway.clocks
    counted_so = ap (λ (b : Bool). cond b d.underway.clocks (clocks 0)) a.turn

    few_so : length (z.samples ++ xs) ≤ 65535
    unfolding underway_of
    few_so =
        let h : length z.samples ≡ (so_far d.underway).0 = ap (λ (u : Underway). u.clocks.0) z.facts ∙ ap (λ (c : Clocks). c.0) (sym counted_so) in
        let b = leb-true ((so_far d.underway).0 + length xs) 65535 a.few in
        let n = length-append z.samples xs in
        omega arith

    feeds : Kept d l out (fed_world d l xs out)
    feeds =
        let k = run_size (closed_of d) (resumed d l) xs in
        record {
          valid = rw record_so (facts_valid (closed_of d) (z.samples ++ xs) (valid_range (closed_of d) (closed_valid d v)) few_so);
          sized = rw record_so (sized_same (underway_of (setting_of d) (z.samples ++ xs)) (closed_of d) l (run_on d l xs).lent k (sized_same no_underway d l l (refl, refl) sized));
          make = refl;
          memory = k.0;
          area = k.1;
          output = output_size xs (outs_on d l xs) out (outs_length (closed_of d) (resumed d l) xs) a.room;
        }

  pub feed_kept : (xs out : List ℕ) → Kept d l out (feed_of d l xs out)
  unfolding feed_of
  feed_kept xs out = kept_by d l v sized out (feed_checks d l xs out) (fed_world d l xs out) (λ c. feeds xs out (chunk_accepting d l xs out c))

  pub feed_typed : (xs out : List ℕ) → TypedAfter (feed_of d l xs out)
  unfolding feed_of
  feed_typed xs out =
      by_checks d l out (feed_checks d l xs out) (fed_world d l xs out) TypedAfter (λ w. typed)
      (λ c.
      let a = chunk_accepting d l xs out c in
      subst (λ (f : Device). Typed f.underway) (sym (record_so xs out a)) (facts_typed (setting_of d) ((z xs out a).samples ++ xs)))

  -- a close leaves the record that the whole transaction leaves
  module _ (busy : d.underway.selected ≡ true) where
    abbrev y : Reach (setting_of d) d.underway
    y = samples_for d typed v busy

    base_sized : sized_for (closed_of d) l ≡ true
    base_sized = sized_same no_underway d l l (refl, refl) sized

    whole_so : transact_of (closed_of d) l y.samples (undriven y.samples) ≡ clocked_of (closed_of d) l y.samples (undriven y.samples)
    unfolding room_for
    whole_so =
        when_accepted (closed_of d) l y.samples (undriven y.samples)
        (record {
          sized = base_sized;
          room = rw (le-leb (length y.samples) 65535 y.few, length-replicate {A = ℕ} (length y.samples) 0, le-leb (length y.samples) (length y.samples) (le_refl (length y.samples)));
          levels = y.levels;
          valid = closed_valid d v;
          turn = refl;
        })

    close_device : (closed_world d l).device ≡ (transact_of (closed_of d) l y.samples (undriven y.samples)).device
    unfolding finish_of
    close_device =
        let s = setting_of d in
        ap (λ (u : Underway). (outcome_of (closed_of d) (resume_of s u)).device) (sym y.facts)
        ∙ ap (λ (p : Progress). (outcome_of (closed_of d) p).device) (sym (standing (closed_of d) l y.samples))
        ∙ ap (λ (w : World). w.device) (bridge (closed_of d) l y.samples (undriven y.samples) ∙ sym whole_so)

    closes : Kept d l [] (closed_world d l)
    unfolding finish_of sized_for
    closes =
        let k = transact_kept (closed_of d) l (closed_valid d v) base_sized y.samples (undriven y.samples) in
        let m = ap (λ (e : Device). e.make) close_device ∙ k.make in
        record {
          valid = ap valid_of close_device ∙ k.valid;
          sized = rw m sized;
          make = m;
          memory = refl;
          area = refl;
          output = refl;
        }

  pub close_kept : Kept d l [] (close_of d l)
  unfolding close_of
  close_kept = kept_by d l v sized [] (close_checks d l) (closed_world d l) (λ c. closes (not_untrue _ c.1.1.0))

  pub close_typed : TypedAfter (close_of d l)
  unfolding close_of
  close_typed =
      by_checks d l [] (close_checks d l) (closed_world d l) TypedAfter (λ a. typed)
      (λ c.
      let b = not_untrue _ c.1.1.0 in
      let xs = (y b).samples in
      rw (close_device b, transact_underway (closed_of d) l xs (undriven xs) (closed_valid d v)) none_typed)

-- ---- REACHED: every valid record with a transaction open is left by a chunk fed to the same record with none open, and so by some chunks
pub record ReachedBy (d : Device) (l : Lent) : Type 0 where
  pub samples : List ℕ
  pub left : (out : List ℕ) → length samples ≤ length out
      → let c : Chip = record { device = closed_of d; lent = l } in
      let k : List Call = record { samples = samples; room = out } ∷ [] in
      Unrefused (opened c) k × ((after_feeds (opened c) k).device ≡ d)

-- a feed that nothing stands against is made
feed_makes : (d : Device) (l : Lent) (xs out : List ℕ) → sized_for d l ≡ true → room_after d.underway xs out ≡ true → sampled xs ≡ true → valid_of d ≡ true
    → d.underway.selected ≡ true → feed_of d l xs out ≡ fed_world d l xs out
unfolding feed_of
feed_makes d l xs out s r i v t = made_by d l out (feed_checks d l xs out) (fed_world d l xs out) (rw (s, r), (rw i, (rw v, (ap not t, tt))))

module _ (d : Device) (l : Lent) (typed : Typed d.underway) (v : valid_of d ≡ true) (sized : sized_for d l ≡ true) (busy : d.underway.selected ≡ true) where
  abbrev begin : Chip
  begin = record { device = closed_of d; lent = l }

  abbrev from : Reach (setting_of d) d.underway
  from = samples_for d typed v busy

  begin_idle : Idle begin
  begin_idle = record { sized = sized_same no_underway d l l (refl, refl) sized; valid = closed_valid d v; none = refl }

  module _ (out : List ℕ) (room : length from.samples ≤ length out) where
    abbrev chunk : Call
    chunk = record { samples = from.samples; room = out }

    room_from : room_after (underway_of (setting_of d) []) from.samples out ≡ true
    unfolding room_after underway_of
    room_from =
        let h = from.few in
        rw (le-leb (0 + length from.samples) 65535 (omega arith), le-leb (length from.samples) (length out) room)

    made : fed (after (closed_of d) refl l []) chunk ≡ fed_world (after (closed_of d) refl l []).device l from.samples out
    unfolding run_of underway_of
    made =
        feed_makes (after (closed_of d) refl l []).device l from.samples out
        (sized_same (underway_of (setting_of d) []) (closed_of d) l l (refl, refl) begin_idle.sized) room_from from.levels
        (facts_valid (closed_of d) [] (valid_range (closed_of d) (closed_valid d v)) (omega arith)) refl

    left_so : Unrefused (opened begin) (chunk ∷ []) × ((after_feeds (opened begin) (chunk ∷ [])).device ≡ d)
    unfolding after_feeds run_of
    left_so = (
      (ap (λ (z : Chip). refuses (fed z chunk).answer) (opened_at begin begin_idle) ∙ ap (λ (w : World). refuses w.answer) made, tt),
      ap (λ (z : Chip). (fed z chunk).device) (opened_at begin begin_idle)
          ∙ ap (λ (w : World). w.device) (made ∙ fed_on (closed_of d) refl l [] from.samples out)
          ∙ ap (λ (u : Underway). underway_to u (closed_of d)) from.facts,
    )

  pub every_open : ReachedBy d l
  every_open = record { samples = from.samples; left = left_so }
