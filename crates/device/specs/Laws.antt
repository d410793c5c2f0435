-- Each call by the answer of its checks, and what the checks, passed, give to the clocks of a transaction, to those of a chunk and to a close.
-- Assumes nothing.
use Rattle.std.specs.Prelude.{◌≡◌, ℕ, ◌+◌, ◌≤◌, false, not, leb, length}
use Rattle.std.proofs.Common.{arith}
use mathlib.Core.List.{List, []}
use borrow.Author.Tests.{leb-true}
use Rattle.basis.specs.Truth.{both_true, not_untrue}
use Rattle.basis.specs.Decisions.{first_of, NoneHolds}
use Rattle.units.specs.Units.{at_most, longest}
use Rattle.parts.specs.declared.Family.{Family}
use Rattle.parts.specs.Parts.{part_of, family_of}
use Rattle.counts.specs.Counts.{no_counts, total}
use Rattle.progress.specs.declared.Progress.{Progress}
use Rattle.record.specs.declared.answers.Answer.{Answer}
use Rattle.record.specs.declared.answers.Answer.TheVariants.{Done}
use Rattle.record.specs.declared.devices.Device.{Device}
use Rattle.record.specs.Answers.{refuses}
use Rattle.record.specs.Devices.{setting_of}
use Rattle.record.specs.Fields.{closed_of}
use Rattle.record.specs.Resets.{powered_of}
use Rattle.paper.specs.Underway.{reached}
use Rattle.paper.specs.UnderwayLaws.{open_reached}
use Rattle.paper.specs.Storing.{Lent}
use Rattle.paper.specs.Transaction.{room_for, so_far, room_after, transact_checks, power_checks, open_checks, feed_checks, close_checks, memory_after, powered_up, clocked_of, transact_of, power_of}
use Rattle.paper.specs.CallLaws.{Decided}
use Rattle.paper.proofs.CallLaws.{clock_refusing, bare_refusing, checks_passed, decided_by, accepting, chunk_accepting}
use Rattle.machine_stretches.specs.Stretches.{Passed}
use Rattle.machine_chunks.specs.Chunks.{resume_of, Continued, opened_world, open_of, fed_world, feed_of, closed_world, close_of}
use Rattle.machine_chunks.specs.Laws.{split_total}
use Rattle.device_checks.specs.Laws.{sized_reach}

-- ---- each call by `v`, the answer of its checks
module _ (d : Device) (l : Lent) {v : Answer} where
  pub transact_by : (xs out : List ℕ) → v ≡ first_of Done (transact_checks d l xs out) → Decided d l out v (clocked_of d l xs out) (transact_of d l xs out)
  unfolding transact_of
  transact_by xs out = decided_by d l out (transact_checks d l xs out) (clocked_of d l xs out) (clock_refusing d l d.underway.selected xs (room_for xs out))

  pub power_by : v ≡ first_of Done (power_checks d l) → Decided d l [] v (powered_up d l) (power_of d l)
  unfolding power_of
  power_by = decided_by d l [] (power_checks d l) (powered_up d l) (bare_refusing d l d.underway.selected)

  pub open_by : v ≡ first_of Done (open_checks d l) → Decided d l [] v (opened_world d l) (open_of d l)
  unfolding open_of
  open_by = decided_by d l [] (open_checks d l) (opened_world d l) (bare_refusing d l d.underway.selected)

  pub feed_by : (xs out : List ℕ) → v ≡ first_of Done (feed_checks d l xs out) → Decided d l out v (fed_world d l xs out) (feed_of d l xs out)
  unfolding feed_of
  feed_by xs out =
      decided_by d l out (feed_checks d l xs out) (fed_world d l xs out) (clock_refusing d l (not d.underway.selected) xs (room_after d.underway xs out))

  pub close_by : v ≡ first_of Done (close_checks d l) → Decided d l [] v (closed_world d l) (close_of d l)
  unfolding close_of
  close_by = decided_by d l [] (close_checks d l) (closed_world d l) (bare_refusing d l (not d.underway.selected))

-- a power cycle, where the family is known
pub powered_so : (d : Device) (l : Lent) (f : Family) → family_of (part_of d.make.part) ≡ f → powered_up d l ≡ power_of d l
    → record { answer = Done; counts = no_counts; device = powered_of d; lent = record { memory = memory_after f l.memory; area = l.area }; output = [] }
    ≡ power_of d l
powered_so d l f k e = rw (← k) e

-- ---- what the clocks ask, where the answer of the checks refuses nothing
module _ (d : Device) (l : Lent) {v : Answer} (calm : refuses v ≡ false) where
  pub transact_passed : (xs out : List ℕ) → v ≡ first_of Done (transact_checks d l xs out) → Passed d xs out
  unfolding room_for
  transact_passed xs out e =
      let c = checks_passed (transact_checks d l xs out) (clock_refusing d l d.underway.selected xs (room_for xs out)) e calm in
      let a = accepting d l xs out c in
      let r = both_true (leb (length xs) 65535) (leb (length xs) (length out)) a.room in
      record { reach = sized_reach d l a.sized; few = leb-true (length xs) 65535 r.0; room = leb-true (length xs) (length out) r.1 }

  pub feed_passed : (xs out : List ℕ) → v ≡ first_of Done (feed_checks d l xs out)
      → (d.make.n ≤ 24) × ((d.underway.clocks.0 + length xs ≤ 65535) × (length xs ≤ length out))
  feed_passed xs out e =
      let u = d.underway in
      let c = checks_passed (feed_checks d l xs out) (clock_refusing d l (not u.selected) xs (room_after u xs out)) e calm in
      let a = chunk_accepting d l xs out c in
      let f = leb-true ((so_far u).0 + length xs) 65535 a.few in
      (sized_reach d l a.sized, (rw a.turn at f, leb-true (length xs) (length out) a.room))

  -- a valid record has few enough clocks of the transaction that it holds
  module _ (e : v ≡ first_of Done (close_checks d l)) where
    close_clear : NoneHolds (close_checks d l)
    close_clear = checks_passed (close_checks d l) (bare_refusing d l (not d.underway.selected)) e calm

    pub close_reach : d.make.n ≤ 24
    close_reach = sized_reach d l (not_untrue _ close_clear.0)

    close_few : d.underway.clocks.0 ≤ 65535
    unfolding reached
    close_few =
        let b = open_reached d (not_untrue _ close_clear.1.0) (not_untrue _ close_clear.1.1.0) in
        leb-true d.underway.clocks.0 65535 (both_true (at_most d.underway.clocks longest) _ b).0

    pub close_passed : {c : Device} {p : Progress} → c ≡ closed_of d → p ≡ resume_of (setting_of d) d.underway
        → (c.make.n ≤ 24) × ((total p.tally.counts).0 ≤ 65535)
    unfolding resume_of
    close_passed c r =
        let h = close_few in
        let k = split_total (setting_of d) d.underway in
        (rw c close_reach, rw r (omega arith))

-- ---- what a chunk leaves
pub fed_world_lem : {d : Device} {l : Lent} {xs out : List ℕ} {d' : Device} {l' : Lent} {out' : List ℕ} → Continued d l xs out d' l' out'
    → record { answer = Done; counts = no_counts; device = d'; lent = l'; output = out' } ≡ fed_world d l xs out
fed_world_lem c = rw (c.device, c.lent, c.output)
