-- Steps of which any two that agree may change places: every order of a list of them ends in the same state. It knows nothing of chips.
-- Assumes nothing.
use Rattle.std.specs.Prelude.{◌≡◌, refl}
use Rattle.std.proofs.Common.{ap, sym, subst, ◌∙◌}
use mathlib.Core.List.Permᴰ
use mathlib.Core.List.{List, [], ◌∷◌, map, Memᴰ, Permᴰ, Pairwise, mem-cons_self}

-- the steps one after the other
abbrev pub run_all : {A S : Type 0} → (A → S → S) → S → List A → S
run_all act s [] = s
run_all act s (a ∷ l) = run_all act (act a s) l

-- Q holds of every one of a list (D35)
abbrev pub Every : {A : Type 0} → (A → Type 0) → List A → Type 0
Every Q [] = Unit {0}
Every Q (a ∷ l) = Q a × Every Q l

module _ {A : Type 0} (Q : A → Type 0) where
  pub every_one : {a : A} {l : List A} → Memᴰ a l → Every Q l → Q a
  every_one (Memᴰ.head e) q = subst Q (sym e) q.0
  every_one (Memᴰ.tail m) q = every_one m q.1

  -- in whatever order they stand
  pub every_order : {l₁ l₂ : List A} → Permᴰ l₁ l₂ → Every Q l₁ → Every Q l₂
  every_order Permᴰ.nil q = tt
  every_order (Permᴰ.cons e d) q = (subst Q e q.0, every_order d q.1)
  every_order (Permᴰ.swap e₁ e₂) q = (subst Q e₂ q.1.0, (subst Q e₁ q.0, q.1.1))
  every_order (Permᴰ.trans d₁ d₂) q = every_order d₂ (every_order d₁ q)

-- one of a list is one of what the list becomes
pub mem_map : {A B : Type 0} (f : A → B) {a : A} {l : List A} → Memᴰ a l → Memᴰ (f a) (map f l)
mem_map f (Memᴰ.head e) = Memᴰ.head (ap f e)
mem_map f (Memᴰ.tail m) = Memᴰ.tail (mem_map f m)

module _ {A S : Type 0} (act : A → S → S) {R : A → A → Type 0} (is_prop : (a b : A) → IsProp (R a b)) (flip : (a b : A) → R a b → R b a)
    (comm : (a b : A) (s : S) → R a b → act b (act a s) ≡ act a (act b s)) where
  pub any_order : {l₁ l₂ : List A} → Permᴰ l₁ l₂ → Pairwise R l₁ → (s : S) → run_all act s l₁ ≡ run_all act s l₂
  any_order Permᴰ.nil h s = refl
  any_order (Permᴰ.cons {a = a} {b = b} {l₁ = l₁} {l₂ = l₂} e d) (Pairwise.cons h t) s =
      any_order d t (act a s) ∙ ap (λ (x : A). run_all act (act x s) l₂) e
  any_order (Permᴰ.swap {a = a} {b = b} {a' = a'} {b' = b'} {l = l} e₁ e₂) (Pairwise.cons h t) s =
      ap (λ (x : S). run_all act x l) (comm a b s (h b mem-cons_self)) ∙ rw (e₁, e₂)
  any_order (Permᴰ.trans d₁ d₂) h s = any_order d₁ h s ∙ any_order d₂ (Permᴰ.pairwise is_prop flip d₁ h) s
