-- A call that is refused, and one that passes its checks: once for any list of checks, and then in the words of each call (D54).
-- Assumes nothing.
use Rattle.std.specs.Prelude.{◌≡◌, refl, ℕ, Bool, true, false, not, List, [], ◌∷◌}
use Rattle.std.proofs.Common.{sym, ap, ◌∙◌}
use Rattle.basis.specs.Truth.{untrue, both_true, not_untrue}
use Rattle.basis.specs.Decisions.{first_of, leading_to, NoneHolds, Among, no_row, by_rows, none_holds, first_map, first_told, ways_to, same_tests, tests_same, leading_back, among_all}
use Rattle.units.specs.Units.{plus, at_most, longest}
use Rattle.record.specs.declared.answers.Answer.{Answer}
use Rattle.record.specs.declared.answers.Answer.TheVariants.{Done}
use Rattle.record.specs.declared.devices.Device.{Device}
use Rattle.record.specs.Answers.{refuses}
use Rattle.paper.specs.Reading.{many}
use Rattle.paper.specs.Storing.{Lent}
use Rattle.paper.specs.Table.{by_row}
use Rattle.paper.specs.Answers.{Facts, table_for, judge}
use Rattle.paper.specs.Transaction.{World, sized_for, room_for, so_far, room_after, refusal, guarded, clock_checks, bare_checks, transact_checks, power_checks, feed_checks, powered_up, clocked_of, transact_of, power_of}
use Rattle.paper.specs.CallLaws.{Accepted, ChunkAccepted, Decided, Refusing, Untouched}

-- of both lists
module _ (d : Device) (l : Lent) (untimely : Bool) where
  pub clock_refusing : (xs : List ℕ) (fits : Bool) → Refusing (clock_checks d l xs fits untimely)
  clock_refusing xs fits = (refl, (refl, (refl, (refl, tt))))

  pub bare_refusing : Refusing (bare_checks d l untimely)
  bare_refusing = (refl, (refl, (refl, tt)))

-- where a decision among them refuses nothing, none of them holds
barred : (cs : List (Bool × Answer)) → Refusing cs → Among (λ v. not (refuses v) ≡ false) cs
barred [] h = tt
barred (c ∷ cs) h = (ap not h.0, barred cs h.1)

none_refuses : (none : Answer) (cs : List (Bool × Answer)) → Refusing cs → refuses (first_of none cs) ≡ false → NoneHolds cs
none_refuses none cs h e = none_holds none (λ v. not (refuses v)) cs (barred cs h) (ap not e)

pub checks_passed : (cs : List (Bool × Answer)) → Refusing cs → {v : Answer} → v ≡ first_of Done cs → refuses v ≡ false → NoneHolds cs
checks_passed cs h e r = none_refuses Done cs h (sym (ap refuses e) ∙ r)

-- ---- for any list of checks
module _ (d : Device) (l : Lent) (out : List ℕ) (cs : List (Bool × Answer)) (w : World) where
  abbrev call : World
  call = guarded cs (refusal d l out) w

  -- what is so of every refusal, and of what is made where no check fails, is so of the call
  pub by_checks : (Q : World → Type 0) → ((v : Answer) → Q (refusal d l out v)) → (NoneHolds cs → Q w) → Q call
  by_checks Q r m =
      by_rows w Q (leading_to (refusal d l out) cs) (ways_to (refusal d l out) (λ v. Unit {0}) Q (λ v t. r v) cs (among_all cs))
      (λ c. m (same_tests (refusal d l out) cs c))

  -- REFUSED: a call that is refused leaves everything as it was
  pub refused_by : refuses w.answer ≡ false → refuses call.answer ≡ true → Untouched d l out call
  refused_by n =
      by_checks (λ u. refuses u.answer ≡ true → Untouched d l out u) (λ v e. record { counts = refl; device = refl; lent = refl; output = refl })
      (λ c e. untrue (sym n ∙ e))

  -- PASSED: where no check fails the call is made
  pub made_by : NoneHolds cs → call ≡ w
  made_by c = no_row w (leading_to (refusal d l out) cs) (tests_same (refusal d l out) cs c)

  -- EXACT ORDER: the answer is that of the first check that fails, or the call's own
  pub answer_by_lem : call.answer ≡ first_of w.answer cs
  answer_by_lem =
      first_map (λ (u : World). u.answer) w (leading_to (refusal d l out) cs)
      ∙ ap (first_of w.answer) (leading_back (refusal d l out) (λ u. u.answer) (λ v. refl) cs)

  -- a call that is not refused has passed
  pub passed_by : Refusing cs → refuses call.answer ≡ false → NoneHolds cs
  passed_by h e = none_refuses w.answer cs h (sym (ap refuses answer_by_lem) ∙ e)

  -- THE CHECKS BY THEMSELVES: where `v` is the answer of the first that fails, or 0
  pub decided_by : Refusing cs → {v : Answer} → v ≡ first_of Done cs → Decided d l out v w call
  decided_by h e =
      record {
        refused = λ r. ap (refusal d l out) e ∙ sym (first_told (refusal d l out) Done w refuses refl cs (sym (ap refuses e) ∙ r));
        passed = λ r. sym (made_by (checks_passed cs h e r));
      }

-- ---- a transaction
-- the answer table refuses nothing
pub judge_refuses_none : (d : Device) (f : Facts) → refuses (judge d f) ≡ false
unfolding judge
judge_refuses_none d f =
    by_row (table_for d f) (λ v. refuses v ≡ false)
    (record {
      cut_command = λ e. refl;
      asleep = λ e. refl;
      unknown = λ e. refl;
      cut_address = λ e. refl;
      refused = λ e. refl;
      cut_data = λ e. refl;
      long = λ e. refl;
      unarmed = λ e. refl;
      latch = λ e. refl;
      reserved = λ e. refl;
      shut = λ e. refl;
      none = λ c. refl;
    })

pub accepting : (d : Device) (l : Lent) (xs out : List ℕ) → NoneHolds (transact_checks d l xs out) → Accepted d l xs out
accepting d l xs out (sizes, (levels, (state, (turn, z)))) =
    let b = both_true (sized_for d l) (room_for xs out) (not_untrue _ sizes) in
    record { sized = b.0; room = b.1; levels = not_untrue _ levels; valid = not_untrue _ state; turn = turn }

module _ (d : Device) (l : Lent) (xs out : List ℕ) where
  pub transact_refused : refuses (transact_of d l xs out).answer ≡ true → Untouched d l out (transact_of d l xs out)
  unfolding transact_of clocked_of
  transact_refused = refused_by d l out (transact_checks d l xs out) (clocked_of d l xs out) (judge_refuses_none d _)

  pub accepted : refuses (transact_of d l xs out).answer ≡ false → Accepted d l xs out
  unfolding transact_of
  accepted e =
      accepting d l xs out
      (passed_by d l out (transact_checks d l xs out) (clocked_of d l xs out) (clock_refusing d l d.underway.selected xs (room_for xs out)) e)

  pub when_accepted : Accepted d l xs out → transact_of d l xs out ≡ clocked_of d l xs out
  unfolding transact_of
  when_accepted a =
      made_by d l out (transact_checks d l xs out) (clocked_of d l xs out)
      (rw (a.sized, a.room), (rw a.levels, (rw a.valid, (a.turn, tt))))

  -- what a transaction that is not refused leaves is what its clocks leave
  pub not_refused : refuses (transact_of d l xs out).answer ≡ false → transact_of d l xs out ≡ clocked_of d l xs out
  not_refused e = when_accepted (accepted e)

pub chunk_accepting : (d : Device) (l : Lent) (xs out : List ℕ) → NoneHolds (feed_checks d l xs out) → ChunkAccepted d l xs out
unfolding room_after
chunk_accepting d l xs out (sizes, (levels, (state, (turn, z)))) =
    let b = both_true (sized_for d l) (room_after d.underway xs out) (not_untrue _ sizes) in
    let r = both_true (at_most (plus (so_far d.underway) (many xs)) longest) (at_most (many xs) (many out)) b.1 in
    record { sized = b.0; few = r.0; room = r.1; levels = not_untrue _ levels; valid = not_untrue _ state; turn = not_untrue _ turn }

-- ---- a power cycle
pub power_refused_so : (d : Device) (l : Lent) → refuses (power_of d l).answer ≡ true → Untouched d l [] (power_of d l)
unfolding power_of
power_refused_so d l = refused_by d l [] (power_checks d l) (powered_up d l) refl
