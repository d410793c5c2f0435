-- What a comparison of two quantities says: the derived order of clocks, and of bytes, is that of their numbers, and so each of them is a word of the definitions.
-- Assumes nothing.
use Rattle.std.specs.Prelude.{◌≡◌, ℕ, ◌<◌, ltb, leb, eqb}
use Rattle.std.specs.Ordering.{nat_cmp, is_lt, is_le, is_gt, is_ge}
use Rattle.std.proofs.Common.{refl, sym, ap, ◌∙◌, lt-ltb, le-ltb, le-leb, arith}
use Rattle.std.proofs.lemmas.Bool.{lt-leb}
use Rattle.std.proofs.lemmas.Cmp.{ranked, by_ranked}
use Rattle.units.specs.declared.Clocks.{Clocks}
use Rattle.units.specs.declared.Bytes.{Bytes}
use Rattle.units.specs.Units.{fewer, at_most, fewer_bytes, at_most_bytes, same_bytes}

module _ (a b : ℕ) where
  pub lt_is : is_lt (nat_cmp a b) ≡ ltb a b
  lt_is =
      by_ranked (a < b) (a ≡ b) (b < a) (nat_cmp a b) (ranked a b _ refl)
      (λ e l. ap is_lt e ∙ sym (lt-ltb a b l))
      (λ e l. ap is_lt e ∙ sym (le-ltb a b (omega arith)))
      (λ e l. ap is_lt e ∙ sym (le-ltb a b (omega arith)))

  pub le_is : is_le (nat_cmp a b) ≡ leb a b
  le_is =
      by_ranked (a < b) (a ≡ b) (b < a) (nat_cmp a b) (ranked a b _ refl)
      (λ e l. ap is_le e ∙ sym (le-leb a b (omega arith)))
      (λ e l. ap is_le e ∙ sym (le-leb a b (omega arith)))
      (λ e l. ap is_le e ∙ sym (lt-leb a b l))

  pub gt_is : is_gt (nat_cmp a b) ≡ ltb b a
  gt_is =
      by_ranked (a < b) (a ≡ b) (b < a) (nat_cmp a b) (ranked a b _ refl)
      (λ e l. ap is_gt e ∙ sym (le-ltb b a (omega arith)))
      (λ e l. ap is_gt e ∙ sym (le-ltb b a (omega arith)))
      (λ e l. ap is_gt e ∙ sym (lt-ltb b a l))

  pub ge_is : is_ge (nat_cmp a b) ≡ leb b a
  ge_is =
      by_ranked (a < b) (a ≡ b) (b < a) (nat_cmp a b) (ranked a b _ refl)
      (λ e l. ap is_ge e ∙ sym (lt-leb b a l))
      (λ e l. ap is_ge e ∙ sym (le-leb b a (omega arith)))
      (λ e l. ap is_ge e ∙ sym (le-leb b a (omega arith)))

-- in the words of the definitions: clocks
module _ (c d : Clocks) where
  pub fewer_is : is_lt (nat_cmp c.0 d.0) ≡ fewer c d
  fewer_is = lt_is c.0 d.0

  pub at_most_is : is_le (nat_cmp c.0 d.0) ≡ at_most c d
  at_most_is = le_is c.0 d.0

-- and bytes, which are asked besides whether they are as many
module _ (b c : Bytes) where
  pub fewer_bytes_is : is_lt (nat_cmp b.0 c.0) ≡ fewer_bytes b c
  fewer_bytes_is = lt_is b.0 c.0

  pub at_most_bytes_is : is_le (nat_cmp b.0 c.0) ≡ at_most_bytes b c
  at_most_bytes_is = le_is b.0 c.0

  pub same_bytes_is : eqb b.0 c.0 ≡ same_bytes b c
  same_bytes_is = refl
