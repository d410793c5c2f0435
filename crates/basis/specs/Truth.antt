-- What a computed test tells of its parts.
-- Assumes nothing.
use Rattle.std.specs.Prelude.{◌≡◌, refl, ℕ, Bool, true, false, cond, not, ◌&&◌, ◌||◌, T}
use Rattle.std.proofs.Common.{sym, ap, ◌∙◌, arith}

pub both : (a b : Bool) → T (a && b) → T a × T b
both true b t = (tt, t)
both false b t = absurd t

-- the two are not one
pub untrue : {Q : Type 0} → false ≡ true → Q
untrue e = let z : ◌≡◌ {A = ℕ} 0 1 = ap (λ (b : Bool). cond {A = ℕ} b 1 0) e in absurd (omega arith)

pub cond_same : {A : Type 0} (b : Bool) (x : A) → cond b x x ≡ x
cond_same true x = refl
cond_same false x = refl

-- what two tests together tell of each
pub both_true : (a b : Bool) → (a && b) ≡ true → (a ≡ true) × (b ≡ true)
both_true true b e = (refl, e)
both_true false b e = untrue e

-- one of two tests is enough
pub or_left : (a b : Bool) → a ≡ true → (a || b) ≡ true
or_left a b e = rw e

pub or_right : (a b : Bool) → b ≡ true → (a || b) ≡ true
or_right true b e = refl
or_right false b e = e

pub neither : (a b : Bool) → (a || b) ≡ false → (a ≡ false) × (b ≡ false)
neither true b e = untrue (sym e)
neither false b e = (refl, e)

-- what is not so, and what is
pub not_untrue : (a : Bool) → not a ≡ false → a ≡ true
not_untrue true e = refl
not_untrue false e = untrue (sym e)

pub never : {Q : Type 0} (b : Bool) → b ≡ false → b ≡ true → Q
never b n e = untrue (sym n ∙ e)
