-- How many of the first m numbers pass a test, and when it is all of them.
-- Assumes nothing.
use Rattle.std.specs.Prelude.{◌≡◌, Bool, true, false, cond, ltb}
use Rattle.std.proofs.Math.Path.{refl}
use Prim.Native.Nat.{ℕ, zero, suc, ◌+◌, ◌<◌, ◌≤◌}
use Rattle.std.proofs.Common.{add-zero, add-one, ltb-true, ltb-false}
use native.Mathlib.Omega.{arith}

unfoldable pub how_many : (ℕ → Bool) → ℕ → ℕ
how_many f zero = 0
how_many f (suc m) = how_many f m + cond (f m) 1 0

module _ (f : ℕ → Bool) where
  at_most_one : (b : Bool) → cond b 1 0 ≤ 1
  at_most_one true = omega arith
  at_most_one false = omega arith

  pub how_many_le : (m : ℕ) → how_many f m ≤ m
  unfolding how_many
  how_many_le zero = omega arith
  how_many_le (suc m) = omega (arith, how_many_le m, at_most_one (f m))

  -- one number more
  pub counted_in : (m : ℕ) → f m ≡ true → how_many f (m + 1) ≡ how_many f m + 1
  unfolding how_many
  counted_in m e = rw (add-one, e)

  pub passed_over : (m : ℕ) → f m ≡ false → how_many f (m + 1) ≡ how_many f m
  unfolding how_many
  passed_over m e = rw (add-one, e, add-zero)

  -- where all are counted, each passes
  last_passes : (m n : ℕ) (b : Bool) → n ≤ m → n + cond b 1 0 ≡ suc m → (n ≡ m) × (b ≡ true)
  last_passes m n true h e = (omega arith, refl)
  last_passes m n false h e = absurd (omega arith)

  earlier_or_last : (m i : ℕ) → i < suc m → f m ≡ true → (i < m → f i ≡ true) → (b : Bool) → ltb i m ≡ b → f i ≡ true
  earlier_or_last m i h l k true t = k (ltb-true i m t)
  earlier_or_last m i h l k false t = let e : i ≡ m = omega (arith, ltb-false i m t) in rw e l

  pub each_passes : (m : ℕ) → how_many f m ≡ m → (i : ℕ) → i < m → f i ≡ true
  unfolding how_many
  each_passes zero e i h = absurd (omega arith)
  each_passes (suc m) e i h =
      let l = last_passes m (how_many f m) (f m) (how_many_le m) e in
      earlier_or_last m i h l.1 (each_passes m l.0 i) (ltb i m) refl
