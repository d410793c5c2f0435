-- UNIQUE for the two lists of checks: a list passes or refuses, and its contract leaves one result.
-- Assumes nothing.
use Rattle.std.specs.Prelude.{◌≡◌, ℕ, Bool, true, List, Result, Ok, Err, IfErr, MatchResult}
use Rattle.std.proofs.Common.{sym, true≢false}
use Rattle.basis.specs.Decisions.{first_of}
use Rattle.basis.specs.Unique.{check_unique}
use Rattle.record.specs.declared.answers.Answer.{Answer}
use Rattle.record.specs.declared.answers.Answer.TheVariants.{Done}
use Rattle.record.specs.declared.devices.Device.{Device}
use Rattle.record.specs.Answers.{refuses}
use Rattle.paper.specs.Storing.{Lent}
use Rattle.paper.specs.Transaction.{clock_checks, bare_checks}
use Rattle.device_checks.specs.Verdict.{told}

abbrev pub Refused : Result (Unit {0}) Answer → Type 0
Refused r = IfErr r (λ v. refuses v ≡ true)

-- both clauses, by cases
in_cases : (r : Result (Unit {0}) Answer) (v : Answer) → Refused r → told r ≡ v → MatchResult r (λ u. v ≡ Done) (λ w. (w ≡ v) × (refuses w ≡ true))
in_cases (Ok u) v h e = sym e
in_cases (Err w) v h e = (e, h)

one_verdict : (v : Answer) (r s : Result (Unit {0}) Answer) → Refused r → Refused s → told r ≡ v → told s ≡ v → r ≡ s
one_verdict v r s g h e f = check_unique (λ w. refuses w ≡ true) Done v (λ n. absurd (true≢false (sym n))) r s (in_cases r v g e) (in_cases s v h f)

module _ (d : Device) (l : Lent) (untimely : Bool) (r s : Result (Unit {0}) Answer) where
  pub bare_unique : Refused r → Refused s → told r ≡ first_of Done (bare_checks d l untimely) → told s ≡ first_of Done (bare_checks d l untimely) → r ≡ s
  bare_unique = one_verdict (first_of Done (bare_checks d l untimely)) r s

  pub clocked_unique : (xs : List ℕ) (fits : Bool) → Refused r → Refused s → told r ≡ first_of Done (clock_checks d l xs fits untimely)
      → told s ≡ first_of Done (clock_checks d l xs fits untimely) → r ≡ s
  clocked_unique xs fits = one_verdict (first_of Done (clock_checks d l xs fits untimely)) r s
