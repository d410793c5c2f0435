-- DECLINED (demand 1): a transaction that is declined, answered 4 to 12, leaves memory and area as they came in; of the record only the arming goes, and with 9 the latch moves as
-- the write mode says; every clock drives 00h, the room past the clocks is kept, and the five counts add up to the clocks. So it is for every list of samples,
-- and in particular for every cut of every longer one.
-- Assumes nothing.
use Rattle.std.specs.Prelude.{◌≡◌, refl, ℕ, true, false, cond, List, length, replicate}
use Rattle.std.proofs.Common.{ap}
use Rattle.basis.specs.Truth.{untrue}
use Rattle.kinds.specs.declared.Kind.{Kind}
use Rattle.counts.specs.Counts.{total}
use Rattle.record.specs.declared.answers.Answer.{Answer}
use Rattle.record.specs.declared.answers.Class.{Class}
use Rattle.record.specs.declared.answers.Class.TheVariants as Of
use Rattle.record.specs.Laws.{declined_only}
use Rattle.record.specs.declared.devices.Device.{Device}
use Rattle.record.specs.Devices.{setting_of}
use Rattle.changes.specs.Latches.{after_burst}
use Rattle.record.specs.Fields.{latch_to, arm_to}
use Rattle.changes.specs.Changes.{settled_in, settled_of}
use Rattle.record.specs.Answers.{class_of, declined_in, is_done, refuses, declines, is_protected}
use Rattle.paper.specs.Reading.{many, reading_of}
use Rattle.paper.specs.Storing.{Lent}
use Rattle.paper.specs.Answers.{judge}
use Rattle.paper.specs.Transaction.{World, facts_of, output_of, over, clocked_of, transact_of}
use Rattle.paper.proofs.CallLaws.{not_refused}
use Rattle.paper.specs.ReadingLaws.{none_driven}
use Rattle.demand_1_2.specs.Counted.{counts_add_up}

-- The record after such an answer: no longer armed, and else as it was. 9 takes the latch down in write mode 0 and leaves it in every other.
abbrev pub left_by : Answer → Device → Device
left_by v d = cond (is_protected v) (latch_to (after_burst d.registers.cr4 d.volatile.latch) (arm_to false d)) (arm_to false d)

pub record Declined (d : Device) (l : Lent) (xs out : List ℕ) (w : World) : Type 0 where
  pub lent : w.lent ≡ l
  pub device : w.device ≡ left_by w.answer d
  pub output : w.output ≡ over (replicate (length xs) 0) out
  pub counts : total w.counts ≡ many xs

-- ---- what is not done drives nothing
mute : (d : Device) (l : Lent) (xs : List ℕ) (v : Answer) → is_done v ≡ false → output_of d l (reading_of (setting_of d) xs) v ≡ replicate (length xs) 0
unfolding output_of
mute d l xs v e = rw e (none_driven (setting_of d) xs)

-- ---- by the answer
-- an answer that declines does not refuse, is not 0, and leaves the record as said
record Leaves (k : Kind) (value : List ℕ) (d : Device) (v : Answer) : Type 0 where
  undone : is_done v ≡ false
  unrefused : refuses v ≡ false
  leaves : settled_of k value v d ≡ left_by v d

leaves_by : (c : Class) (k : Kind) (value : List ℕ) (v : Answer) (d : Device) → declined_in c ≡ true → settled_in c k value v d ≡ left_by v d
leaves_by Of.Done k value v d e = untrue e
leaves_by Of.Refused k value v d e = untrue e
leaves_by Of.Declined k value v d e = refl

of : (k : Kind) (value : List ℕ) (d : Device) (v : Answer) → declines v ≡ true → Leaves k value d v
of k value d v e =
    let n = declined_only (class_of v) e in
    record { undone = n.0; unrefused = n.1; leaves = leaves_by (class_of v) k value v d e }

pub declined : (d : Device) (l : Lent) (xs out : List ℕ) → declines (transact_of d l xs out).answer ≡ true → Declined d l xs out (transact_of d l xs out)
unfolding clocked_of
declined d l xs out e =
    let f = facts_of (setting_of d) (reading_of (setting_of d) xs) in
    let v = judge d f in
    let unrefused = (of f.kind f.tally.value d (transact_of d l xs out).answer e).unrefused in
    let same = not_refused d l xs out unrefused in
    let o = of f.kind f.tally.value d v (rw same at e) in
    let sum = counts_add_up d l xs out unrefused in
    let clocked : (c : total (clocked_of d l xs out).counts ≡ many xs) → Declined d l xs out (clocked_of d l xs out) =
    λ c. record { lent = rw o.undone; device = o.leaves; output = ap (λ (ys : List ℕ). over ys out) (mute d l xs v o.undone); counts = c } in
    rw same (clocked (rw same at sum))
