-- A decision as an ordered list of tests, each with what it leads to: the first test that holds decides, and where none does there is a default. The answer
-- table, the checks before a call and the refusals of the host half are such lists.
-- Assumes nothing.
use Rattle.std.specs.Prelude.{◌≡◌, refl, Bool, true, false, cond, List, [], ◌∷◌, ◌++◌}
use Rattle.std.proofs.Common.{sym, ◌∙◌}
use Rattle.basis.specs.Truth.{untrue}

abbrev pub first_of : {A : Type 0} → A → List (Bool × A) → A
first_of none [] = none
first_of none (r ∷ rs) = cond r.0 r.1 (first_of none rs)

-- the same tests, which lead to what f makes of each
abbrev pub leading_to : {A B : Type 0} → (A → B) → List (Bool × A) → List (Bool × B)
leading_to f [] = []
leading_to f (r ∷ rs) = (r.0, f r.1) ∷ leading_to f rs

-- ---- what is said of every row
-- no test holds
abbrev pub NoneHolds : {A : Type 0} → List (Bool × A) → Type 0
NoneHolds [] = Unit {0}
NoneHolds (r ∷ rs) = (r.0 ≡ false) × NoneHolds rs

-- Q of all that the tests lead to
abbrev pub Among : {A : Type 0} → (A → Type 0) → List (Bool × A) → Type 0
Among Q [] = Unit {0}
Among Q (r ∷ rs) = Q r.1 × Among Q rs

-- Q of what a test leads to, where it holds
abbrev pub Ways : {A : Type 0} → (A → Type 0) → List (Bool × A) → Type 0
Ways Q [] = Unit {0}
Ways Q (r ∷ rs) = (r.0 ≡ true → Q r.1) × Ways Q rs

-- ---- what "first that holds" means
module _ {A : Type 0} (none : A) where
  pub first_row : (before after : List (Bool × A)) (v : A) → NoneHolds before → first_of none (before ++ ((true, v) ∷ after)) ≡ v
  first_row [] after v c = refl
  first_row (r ∷ rs) after v c = rw c.0 (first_row rs after v c.1)

  pub no_row : (rs : List (Bool × A)) → NoneHolds rs → first_of none rs ≡ none
  no_row [] c = refl
  no_row (r ∷ rs) c = rw c.0 (no_row rs c.1)

  -- what holds of each way there is holds of the decision
  module _ (Q : A → Type 0) where
    step : (b : Bool) {v u : A} → (b ≡ true → Q v) → (b ≡ false → Q u) → Q (cond b v u)
    step true p q = p refl
    step false p q = q refl

    pub by_rows : (rs : List (Bool × A)) → Ways Q rs → (NoneHolds rs → Q none) → Q (first_of none rs)
    by_rows [] w z = z tt
    by_rows (r ∷ rs) w z = step r.0 w.0 (λ e. by_rows rs w.1 (λ c. z (e, c)))

  -- where the decision is told from all that the tests lead to, none holds
  module _ (D : A → Bool) where
    away : (b : Bool) (v u : A) → D v ≡ false → D (cond b v u) ≡ true → (b ≡ false) × (D u ≡ true)
    away true v u n e = untrue (sym n ∙ e)
    away false v u n e = (refl, e)

    pub none_holds : (rs : List (Bool × A)) → Among (λ v. D v ≡ false) rs → D (first_of none rs) ≡ true → NoneHolds rs
    none_holds [] n e = tt
    none_holds (r ∷ rs) n e = let c = away r.0 r.1 (first_of none rs) n.0 e in (c.0, none_holds rs n.1 c.1)

map_step : {A B : Type 0} (f : A → B) (b : Bool) (v : A) {w : A} {u : B} → f w ≡ u → f (cond b v w) ≡ cond b (f v) u
map_step f true v e = refl
map_step f false v e = e

-- a decision is made before or after it is looked at
pub first_map : {A B : Type 0} (f : A → B) (none : A) (rs : List (Bool × A)) → f (first_of none rs) ≡ first_of (f none) (leading_to f rs)
first_map f none [] = refl
first_map f none (r ∷ rs) = map_step f r.0 r.1 (first_map f none rs)

-- ---- tests that lead to what f makes of them
module _ {A B : Type 0} (f : A → B) where
  -- each way is one of f
  pub ways_to : (P : A → Type 0) (Q : B → Type 0) → ((v : A) → P v → Q (f v)) → (rs : List (Bool × A)) → Among P rs → Ways Q (leading_to f rs)
  ways_to P Q h [] p = tt
  ways_to P Q h (r ∷ rs) p = (λ e. h r.1 p.0, ways_to P Q h rs p.1)

  -- the tests are the same
  pub same_tests : (rs : List (Bool × A)) → NoneHolds (leading_to f rs) → NoneHolds rs
  same_tests [] c = tt
  same_tests (r ∷ rs) c = (c.0, same_tests rs c.1)

  pub tests_same : (rs : List (Bool × A)) → NoneHolds rs → NoneHolds (leading_to f rs)
  tests_same [] c = tt
  tests_same (r ∷ rs) c = (c.0, tests_same rs c.1)

  -- and what is made of them is taken back
  pub leading_back : (g : B → A) → ((v : A) → g (f v) ≡ v) → (rs : List (Bool × A)) → leading_to g (leading_to f rs) ≡ rs
  leading_back g h [] = refl
  leading_back g h (r ∷ rs) = rw (h r.1, leading_back g h rs)

  -- where the decision is not the default, as D tells, a row has decided: what f makes of the rows comes to what f makes of the decision, whatever the default
  module _ (none : A) (w : B) (D : A → Bool) (n : D none ≡ false) where
    told_step : (b : Bool) (v u : A) (x : B) → (D u ≡ true → x ≡ f u) → D (cond b v u) ≡ true → cond b (f v) x ≡ f (cond b v u)
    told_step true v u x h e = refl
    told_step false v u x h e = h e

    pub first_told : (rs : List (Bool × A)) → D (first_of none rs) ≡ true → first_of w (leading_to f rs) ≡ f (first_of none rs)
    first_told [] e = untrue (sym n ∙ e)
    first_told (r ∷ rs) e = told_step r.0 r.1 (first_of none rs) (first_of w (leading_to f rs)) (first_told rs) e

-- one list after another
pub first_append : {A : Type 0} (none : A) (rs ss : List (Bool × A)) → first_of none (rs ++ ss) ≡ first_of (first_of none ss) rs
first_append none [] ss = refl
first_append none (r ∷ rs) ss = rw (first_append none rs ss)

-- what is so of everything is so of all that tests lead to
pub among_all : {A : Type 0} (rs : List (Bool × A)) → Among (λ v. Unit {0}) rs
among_all [] = tt
among_all (r ∷ rs) = (tt, among_all rs)
