-- EXACT ORDER (demand 1): the answer is that of the first row of document 01's table that holds, and 0 where none does. What "first that holds" means stands in `basis: Decisions`
-- (`first_row`, `no_row`), and the law for any list of checks in `paper: CallLaws` (`answer_by_lem`).
-- Assumes nothing.
use Rattle.std.specs.Prelude.{◌≡◌, refl, ℕ, Bool, List, [], ◌∷◌, ◌++◌, map}
use Rattle.std.proofs.Common.{sym, ◌∙◌}
use Rattle.basis.specs.Decisions.{first_of, first_append}
use Rattle.record.specs.declared.answers.Answer.{Answer}
use Rattle.record.specs.declared.answers.Answer.TheVariants.{Done}
use Rattle.record.specs.declared.devices.Device.{Device}
use Rattle.record.specs.Devices.{setting_of}
use Rattle.record.specs.Answers.{answer_number}
use Rattle.paper.specs.Reading.{reading_of}
use Rattle.paper.specs.Storing.{Lent}
use Rattle.paper.specs.Table.{listed}
use Rattle.paper.specs.Answers.{table_for, judge}
use Rattle.paper.specs.Transaction.{facts_of, transact_checks, power_checks, powered_up, clocked_of, transact_of, power_of}
use Rattle.paper.proofs.CallLaws.{answer_by_lem}

-- THE WHOLE TABLE, one test a row: the checks before a transaction, and then the rows of `paper`
abbrev pub whole_table : Device → Lent → List ℕ → List ℕ → List (Bool × Answer)
whole_table d l xs out = transact_checks d l xs out ++ listed (table_for d (facts_of (setting_of d) (reading_of (setting_of d) xs)))

-- its rows stand in document 01's order, with 13 after 3 (document 02, P1)
pub in_order : (d : Device) (l : Lent) (xs out : List ℕ)
    → map (λ r. answer_number r.1) (whole_table d l xs out) ≡ 1 ∷ 2 ∷ 3 ∷ 13 ∷ 4 ∷ 6 ∷ 5 ∷ 4 ∷ 7 ∷ 4 ∷ 11 ∷ 12 ∷ 8 ∷ 10 ∷ 9 ∷ []
in_order d l xs out = refl

-- THE ANSWER OF A TRANSACTION is the first row's that holds
pub exact_order : (d : Device) (l : Lent) (xs out : List ℕ) → (transact_of d l xs out).answer ≡ first_of Done (whole_table d l xs out)
unfolding transact_of clocked_of judge
exact_order d l xs out =
    answer_by_lem d l out (transact_checks d l xs out) (clocked_of d l xs out)
    ∙ sym (first_append Done (transact_checks d l xs out) (listed (table_for d (facts_of (setting_of d) (reading_of (setting_of d) xs)))))

-- and of a power cycle that of the first check that fails, in the same order
pub power_in_order : (d : Device) (l : Lent) → map (λ r. answer_number r.1) (power_checks d l) ≡ 1 ∷ 3 ∷ 13 ∷ []
power_in_order d l = refl

pub power_order : (d : Device) (l : Lent) → (power_of d l).answer ≡ first_of Done (power_checks d l)
unfolding power_of
power_order d l = answer_by_lem d l [] (power_checks d l) (powered_up d l)
