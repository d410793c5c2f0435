-- A decision written as rows, as the papers print their tables: each row has a number and what it means. The decision over a number is the first
-- row that has it, or a default where none has.
-- Assumes nothing.
use Rattle.std.specs.Prelude.{◌≡◌, refl, Bool, true, false, cond, ◌&&◌, ◌||◌, ℕ, T, eqb}
use Rattle.std.proofs.Common.{◌∙◌, eqb→eq, ne_eqb}
use mathlib.Core.List.{List, [], ◌∷◌, reverse, reverse_aux, map}
use Rattle.basis.specs.Truth.{both, both_true}

abbrev pub look : {A : Type 0} → A → List (ℕ × A) → ℕ → A
look none [] x = none
look none (r ∷ rs) x = cond (eqb x r.0) r.1 (look none rs x)

-- the numbers that the rows have
abbrev pub keys : {A : Type 0} → List (ℕ × A) → List ℕ
keys rs = map (λ r. r.0) rs

-- x is one of the numbers
abbrev pub among : ℕ → List ℕ → Bool
among x [] = false
among x (k ∷ ks) = eqb x k || among x ks

-- no number stands twice
abbrev pub distinct : List ℕ → Bool
distinct [] = true
distinct (k ∷ ks) = cond (among k ks) false (distinct ks)

-- each of the first numbers is one of the second
abbrev pub within : List ℕ → List ℕ → Bool
within [] ks = true
within (x ∷ xs) ks = among x ks && within xs ks

-- x is none of the numbers
abbrev pub Away : ℕ → List ℕ → Type 0
Away x [] = Unit {0}
Away x (k ∷ ks) = (x ≡ k → ⊥) × Away x ks

-- the same, the last number first: so a `match` tells it to its last arms
abbrev pub Rest : ℕ → List ℕ → Type 0
Rest x [] = Unit {0}
Rest x (k ∷ ks) = Rest x ks × (x ≡ k → ⊥)

rest_away : (x : ℕ) (ks acc : List ℕ) → Rest x (reverse_aux ks acc) → Rest x acc × Away x ks
rest_away x [] acc h = (h, tt)
rest_away x (k ∷ ks) acc h = let r = rest_away x ks (k ∷ acc) h in (r.0.0, (r.0.1, r.1))

pub away_of_rest : (x : ℕ) (ks : List ℕ) → Rest x (reverse ks) → Away x ks
away_of_rest x ks h = (rest_away x ks [] h).1

-- outside its rows a decision is its default
pub look_away : {A : Type 0} (none : A) (rs : List (ℕ × A)) (x : ℕ) → Away x (keys rs) → look none rs x ≡ none
look_away none [] x h = refl
look_away none (r ∷ rs) x h = rw (ne_eqb x r.0 h.0) (look_away none rs x h.1)

pub among_away : (ks : List ℕ) (x : ℕ) → Away x ks → among x ks ≡ false
among_away [] x h = refl
among_away (k ∷ ks) x h = rw (ne_eqb x k h.0) (among_away ks x h.1)

-- a test that every row passes, and the default too, is passed by what is found
abbrev pub each_row : {A : Type 0} → (A → Bool) → List (ℕ × A) → Bool
each_row q [] = true
each_row q (r ∷ rs) = q r.1 && each_row q rs

pub either_passes : {A : Type 0} (q : A → Bool) (x y : A) (b : Bool) → q x ≡ true → q y ≡ true → q (cond b x y) ≡ true
either_passes q x y true e f = e
either_passes q x y false e f = f

pub look_passes : {A : Type 0} (q : A → Bool) (none : A) (rs : List (ℕ × A)) (x : ℕ) → each_row q rs ≡ true → q none ≡ true → q (look none rs x) ≡ true
look_passes q none [] x e d = d
look_passes q none (r ∷ rs) x e d =
    let b = both_true (q r.1) (each_row q rs) e in
    either_passes q r.1 (look none rs x) (eqb x r.0) b.0 (look_passes q none rs x b.1 d)

away_step : (x y k : ℕ) (b rest : Bool) → (x ≡ k → ⊥) → (T rest → x ≡ y → ⊥) → eqb y k ≡ b → T (b || rest) → x ≡ y → ⊥
away_step x y k true rest n m p t e = n (e ∙ eqb→eq y k (rw p tt))
away_step x y k false rest n m p t e = m t e

away_among : (x y : ℕ) (ks : List ℕ) → Away x ks → T (among y ks) → x ≡ y → ⊥
away_among x y [] h t e = t
away_among x y (k ∷ ks) h t e = away_step x y k (eqb y k) (among y ks) h.0 (away_among x y ks h.1) refl t e

-- who is away from some numbers is away from fewer
pub away_within : (x : ℕ) (ys ks : List ℕ) → T (within ys ks) → Away x ks → Away x ys
away_within x [] ks t h = tt
away_within x (y ∷ ys) ks t h =
    let b = both (among y ks) (within ys ks) t in
    (away_among x y ks h b.0, away_within x ys ks b.1 h)
