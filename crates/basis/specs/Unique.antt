-- UNIQUE, once for every function. A contract is an equation between what a call shows, its result with all that it leaves in what is lent, and a definition.
-- Where all of that is found again in what is shown, any two that meet the contract for the same inputs are equal. `device`, `image_calls`, `host`, `tape`,
-- `tape_session` and `cabi` have a line for each function that leaves something in what is lent.
-- A contract whose result has cases speaks of each. Two lemmas are for these: a check that passes or refuses, and a value that there is or not.
-- Assumes nothing.
use Rattle.std.specs.Prelude.{◌≡◌, refl, Bool, true, false, Option, None, Some, Result, Ok, Err, MatchOption, MatchResult}
use Rattle.std.proofs.Common.{sym, ap, subst, ◌∙◌, true≢false}

pub unique : {L S : Type 0} (shows : L → S) (finds : S → L) → ((x : L) → finds (shows x) ≡ x) → {x y : L} {v : S} → shows x ≡ v → shows y ≡ v → x ≡ y
unique shows finds back {x} {y} e f = sym (back x) ∙ (ap finds (e ∙ sym f) ∙ back y)

-- a check: it passes where the definition says that all is done, and else its error is what the definition says, which is never that
module _ {E : Type 0} (P : E → Type 0) (done v : E) (never : P done → ⊥) where
  pub check_unique : (r s : Result (Unit {0}) E) → MatchResult r (λ u. v ≡ done) (λ w. (w ≡ v) × P w) → MatchResult s (λ u. v ≡ done) (λ w. (w ≡ v) × P w) → r ≡ s
  check_unique (Ok a) (Ok b) e f = refl
  check_unique (Ok a) (Err w) e f = absurd (never (subst P (f.0 ∙ e) f.1))
  check_unique (Err w) (Ok b) e f = absurd (never (subst P (e.0 ∙ f) e.1))
  check_unique (Err w) (Err u) e f = ap (λ (x : E). Err x) (e.0 ∙ sym f.0)

-- a value that there is where a test holds
module _ {A : Type 0} (b : Bool) (v : A) where
  pub value_unique : (r s : Option A) → MatchOption r (b ≡ false) (λ x. (b ≡ true) × (x ≡ v)) → MatchOption s (b ≡ false) (λ x. (b ≡ true) × (x ≡ v)) → r ≡ s
  value_unique None None e f = refl
  value_unique None (Some y) e f = absurd (true≢false (sym f.0 ∙ e))
  value_unique (Some x) None e f = absurd (true≢false (sym e.0 ∙ f))
  value_unique (Some x) (Some y) e f = ap (λ (z : A). Some z) (e.1 ∙ sym f.1)
