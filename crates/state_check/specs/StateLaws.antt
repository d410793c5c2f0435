-- Laws of the state check.
-- Assumes nothing.
use Rattle.std.specs.Prelude.{◌≡◌, refl, ℕ, zero, suc, ◌+◌, ◌<◌, ◌≤◌, List, [], ◌∷◌, eqb, length, get_or, drop, replicate}
use Rattle.std.specs.List.{list_all}
use Rattle.std.proofs.Common.{add-one, arith, drop_of_length-le}
use Rattle.std.proofs.Math.Bool.{true, false}
use Rattle.std.proofs.Math.Seq.{drop-cons}
use borrow.Author.Tests.{eqb-true, ne_eqb}
use Rattle.basis.specs.Truth.{both_true}
use Rattle.parts.specs.declared.Family.{Family}
use Rattle.parts.specs.declared.Family.TheVariants.{Mram, Psram}
use Rattle.state_check.specs.States.{mode_allowed, zeros}

-- both families have modes 1 and 4, and none has any other than 1, 2 and 4
module _ (f : Family) {mode : ℕ} where
  pub mode_one : mode ≡ 1 → true ≡ mode_allowed f mode
  unfolding mode_allowed
  mode_one e = by f
    where
      by : (q : Family) → true ≡ mode_allowed q mode
      by Mram = rw e
      by Psram = rw e

  pub mode_four : mode ≡ 4 → true ≡ mode_allowed f mode
  unfolding mode_allowed
  mode_four e = by f
    where
      by : (q : Family) → true ≡ mode_allowed q mode
      by Mram = rw e
      by Psram = rw e

  pub mode_other : (mode ≡ 1 → ⊥) → (mode ≡ 2 → ⊥) → (mode ≡ 4 → ⊥) → false ≡ mode_allowed f mode
  unfolding mode_allowed
  mode_other a b d = by f
    where
      by : (q : Family) → false ≡ mode_allowed q mode
      by Mram = rw (ne_eqb mode 1 a, ne_eqb mode 2 b, ne_eqb mode 4 d)
      by Psram = rw (ne_eqb mode 1 a, ne_eqb mode 4 d)

-- a scan for a byte that is not 0: what is left of the list decides
module _ (l : List ℕ) (i : ℕ) where
  pub zeros_stop : i < length l → (get_or l i 0 ≡ 0 → ⊥) → zeros (drop i l) ≡ false
  unfolding zeros
  zeros_stop h n = rw (drop-cons l i 0 h, ne_eqb (get_or l i 0) 0 n)

  pub zeros_on : i < length l → get_or l i 0 ≡ 0 → zeros (drop (i + 1) l) ≡ zeros (drop i l)
  unfolding zeros
  zeros_on h e = rw (add-one, drop-cons l i 0 h, e)

  pub zeros_end : length l ≤ i → zeros (drop i l) ≡ true
  unfolding zeros
  zeros_end h = rw (drop_of_length-le l h)

-- bytes of which none is another than 0 are all 0
pub zeros_all : (v : List ℕ) (n : ℕ) → length v ≡ n → zeros v ≡ true → v ≡ replicate n 0
unfolding zeros
zeros_all [] zero h e = refl
zeros_all [] (suc n) h e = absurd (omega arith)
zeros_all (x ∷ v) zero h e = absurd (omega arith)
zeros_all (x ∷ v) (suc n) h e = let b = both_true (eqb x 0) (zeros v) e in rw (eqb-true x 0 b.0, zeros_all v n (omega arith) b.1)

-- no byte is another than 0, in the words of a walk over them
pub zeros_is : (xs : List ℕ) → list_all (λ x. eqb x 0) xs ≡ zeros xs
unfolding zeros
zeros_is [] = refl
zeros_is (x ∷ xs) = rw (zeros_is xs) refl
