-- Laws of the tape.
-- Assumes nothing.
use Rattle.std.specs.Prelude.{◌≡◌, ℕ, ◌+◌, ◌-◌, ◌≤◌, Bool, true, false, cond, List, leb, ltb, length, Option, Some, None, is_some, Result, Ok, Err}
use Rattle.std.proofs.Math.Path.{refl}
use Rattle.std.proofs.Common.{ap, arith, leb-false, ltb-false}
use Rattle.paper.specs.Transaction.{World}
use Rattle.tape.specs.declared.Chip.{Chip}
use Rattle.tape.specs.declared.Entry.{Entry}
use Rattle.tape.specs.declared.Entry.TheVariants.{Transaction, PowerCycle, Fresh}
use Rattle.tape.specs.declared.Fault.{Fault}
use Rattle.tape.specs.declared.Fault.TheVariants.{Cut}
use Rattle.tape.specs.declared.Found.{Found}
use Rattle.tape.specs.Tape.{word_at, entry_for, found, between, found_of}
use Rattle.tape.specs.Play.{is_good, chip_for, showing}

-- a payload lies within the tape
record Within (tape : List ℕ) (f : Found) : Type 0 where
  first : f.from ≤ f.next
  last : f.next ≤ length tape

-- what stands there, by the three tests
abbrev stands : Result Entry Fault → ℕ → ℕ → Bool → Bool → Bool → Result (Option Found) Fault
stands e from next a b c = cond a (Ok None) (cond b (Err Cut) (cond c (Err Cut) (Ok (Some (found e from next)))))

within_by : (tape : List ℕ) (at long : ℕ) (e : Result Entry Fault) (f : Found) (a b c : Bool)
    → leb (length tape) at ≡ a → ltb (length tape - at) 4 ≡ b → ltb (length tape - at - 4) long ≡ c
    → stands e (at + 4) (at + 4 + long) a b c ≡ Ok (Some f)
    → Within tape f
within_by tape at long e f true b c p q r h = cc
within_by tape at long e f false true c p q r h = cc
within_by tape at long e f false false true p q r h = cc
within_by tape at long e f false false false p q r h =
    let i = leb-false (length tape) at p in
    let k = ltb-false (length tape - at) 4 q in
    let l = ltb-false (length tape - at - 4) long r in
    let m : f ≡ found e (at + 4) (at + 4 + long) = cc in
    rw m (record { first = omega arith; last = omega arith })

module _ (tape : List ℕ) (at : ℕ) (f : Found) (h : found_of tape at ≡ Ok (Some f)) where
  within : Within tape f
  unfolding found_of
  within =
      within_by tape at (word_at tape at) (entry_for (word_at tape (at + 2)) (between tape (at + 4) (at + 4 + word_at tape at))) f
      (leb (length tape) at) (ltb (length tape - at) 4) (ltb (length tape - at - 4) (word_at tape at)) refl refl refl h

  pub found_first : f.from ≤ f.next
  found_first = within.first

  pub found_last : f.next ≤ length tape
  found_last = within.last

-- there is a chip to play a record on where the record can be played
pub good_is : (e : Entry) (now : Option Chip) → is_some (chip_for e now) ≡ is_good (is_some now) e
good_is Transaction now = refl
good_is PowerCycle now = refl
good_is (Fresh m) now = refl

-- a world shown with an output
pub show_same : {v w : World} (out : List ℕ) → v ≡ w → showing out v ≡ showing out w
show_same out e = ap (showing out) e
