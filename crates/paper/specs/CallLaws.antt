-- A call that is refused, and one that passes its checks: once for any list of checks, and then in the words of each call (D54).
-- The definitions stand here, the theorems in proofs/CallLaws.antt.
-- Assumes nothing.
use Rattle.std.specs.Prelude.{◌≡◌, ℕ, Bool, true, false, List}
use Rattle.basis.specs.Decisions.{Among}
use Rattle.units.specs.Units.{plus, at_most, longest}
use Rattle.counts.specs.Counts.{no_counts}
use Rattle.record.specs.declared.answers.Answer.{Answer}
use Rattle.record.specs.declared.devices.Device.{Device}
use Rattle.record.specs.Answers.{refuses}
use Rattle.paper.specs.Reading.{many}
use Rattle.paper.specs.Underway.{valid_of}
use Rattle.paper.specs.Storing.{Lent}
use Rattle.paper.specs.Transaction.{World, sized_for, room_for, so_far, sampled, refusal}

-- nothing has changed, and no clock is counted
pub record Untouched (d : Device) (l : Lent) (out : List ℕ) (w : World) : Type 0 where
  pub counts : w.counts ≡ no_counts
  pub device : w.device ≡ d
  pub lent : w.lent ≡ l
  pub output : w.output ≡ out

-- a call by `v`, the answer of its checks: it is refused where that answer refuses, and else it is `made`
pub record Decided (d : Device) (l : Lent) (out : List ℕ) (v : Answer) (made call : World) : Type 0 where
  pub refused : refuses v ≡ true → refusal d l out v ≡ call
  pub passed : refuses v ≡ false → made ≡ call

-- every check of a list leads to a refusal
abbrev pub Refusing : List (Bool × Answer) → Type 0
Refusing cs = Among (λ v. refuses v ≡ true) cs

-- the checks, passed
pub record Accepted (d : Device) (l : Lent) (xs out : List ℕ) : Type 0 where
  pub sized : sized_for d l ≡ true
  pub room : room_for xs out ≡ true
  pub levels : sampled xs ≡ true
  pub valid : valid_of d ≡ true
  pub turn : d.underway.selected ≡ false

-- ---- a chunk
pub record ChunkAccepted (d : Device) (l : Lent) (xs out : List ℕ) : Type 0 where
  pub sized : sized_for d l ≡ true
  pub few : at_most (plus (so_far d.underway) (many xs)) longest ≡ true
  pub room : at_most (many xs) (many out) ≡ true
  pub levels : sampled xs ≡ true
  pub valid : valid_of d ≡ true
  pub turn : d.underway.selected ≡ true
