-- UNIQUE for a record of the tape, played: its contract shows what the device's does. And for the number of a kind, which its contract takes back to the kind.
-- Assumes nothing.
use Rattle.std.specs.Prelude.{◌≡◌, refl, ℕ, Bool, true, false, cond, eqb, List, Result, Ok, Err, is_ok}
use Rattle.std.proofs.Common.{sym, ap, ◌∙◌, true≢false}
use borrow.Author.Tests.{eqb-true}
use Rattle.record.specs.declared.devices.Device.{Device}
use Rattle.paper.specs.Storing.{Lent}
use Rattle.device.specs.Unique.{Ended, shows, one_end}
use Rattle.tape.specs.declared.Entry.{Entry}
use Rattle.tape.specs.declared.Fault.{Fault}
use Rattle.tape.specs.declared.Fault.TheVariants.{Strange}
use Rattle.tape.specs.declared.Kind.{Kind}
use Rattle.tape.specs.declared.Kind.TheVariants as kinds
use Rattle.tape.specs.Tape.{kind_named}
use Rattle.tape.specs.Play.{play_of, played_at}

module _ (d : Device) (l : Lent) {x y : Ended} where
  pub play_unique : (e : Result Entry Fault) (xs out : List ℕ) → shows x ≡ play_of e d l xs out → shows y ≡ play_of e d l xs out → x ≡ y
  play_unique e xs out = one_end

  pub play_at_unique : (tape : List ℕ) (at : ℕ) (out : List ℕ) → shows x ≡ played_at tape at d l out → shows y ≡ played_at tape at d l out → x ≡ y
  play_at_unique tape at out = one_end

-- the number that a kind has
abbrev pub kind_number : Kind → ℕ
kind_number kinds.Transaction = 1
kind_number kinds.PowerCycle = 2
kind_number kinds.Fresh = 3

abbrev number_in : Result Kind Fault → ℕ
number_in (Ok k) = kind_number k
number_in (Err f) = 0

numbered_by : (n : ℕ) (k : Kind) (a b c : Bool) → eqb n 1 ≡ a → eqb n 2 ≡ b → eqb n 3 ≡ c
    → cond a (Ok kinds.Transaction) (cond b (Ok kinds.PowerCycle) (cond c (Ok kinds.Fresh) (Err Strange))) ≡ Ok k → n ≡ kind_number k
numbered_by n k true b c p q r e = eqb-true n 1 p ∙ ap number_in e
numbered_by n k false true c p q r e = eqb-true n 2 q ∙ ap number_in e
numbered_by n k false false true p q r e = eqb-true n 3 r ∙ ap number_in e
numbered_by n k false false false p q r e = absurd (true≢false (sym (ap is_ok e)))

pub numbered : (n : ℕ) (k : Kind) → kind_named n ≡ Ok k → n ≡ kind_number k
numbered n k = numbered_by n k (eqb n 1) (eqb n 2) (eqb n 3) refl refl refl

pub number_unique : (k : Kind) (n m : ℕ) → kind_named n ≡ Ok k → kind_named m ≡ Ok k → n ≡ m
number_unique k n m e f = numbered n k e ∙ sym (numbered m k f)
