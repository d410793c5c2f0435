-- Laws of the checks before a call.
-- Assumes nothing.
use Rattle.std.specs.Prelude.{◌≡◌, ℕ, ◌+◌, ◌-◌, ◌≤◌, refl, true, false, List, [], ◌∷◌, leb, ltb, length}
use Rattle.std.specs.List.{list_all}
use Rattle.std.proofs.Common.{le_trans, arith, lit≤}
use Rattle.std.proofs.lemmas.Bool.{lt-leb}
use borrow.Author.Tests.{leb-true, leb-false, le-leb}
use Rattle.basis.specs.Truth.{both_true}
use Rattle.parts.specs.declared.Part.{Part}
use Rattle.parts.specs.declared.Part.TheVariants.{M, P, M32}
use Rattle.parts.specs.Parts.{part_of, known_part, least_of, most_of, offered}
use Rattle.units.specs.Units.{less, at_most, longest}
use Rattle.record.specs.declared.devices.Underway.{Underway}
use Rattle.record.specs.declared.devices.Device.{Device}
use Rattle.paper.specs.Reading.{many}
use Rattle.paper.specs.Storing.{Lent}
use Rattle.paper.specs.Transaction.{sized_for, so_far, room_after, sampled}

-- no memory is larger than an address reaches
pub most_le : (p : Part) → most_of p ≤ 24
most_le M = lit≤ tt
most_le P = lit≤ tt
most_le M32 = lit≤ tt

pub offered_reach : (p : Part) (n : ℕ) → offered p n ≡ true → n ≤ 24
unfolding offered
offered_reach p n e = le_trans (leb-true n (most_of p) (both_true (leb (least_of p) n) (leb n (most_of p)) e).1) (most_le p)

-- what the checks of sizes tell
pub sized_reach : (d : Device) (l : Lent) → sized_for d l ≡ true → d.make.n ≤ 24
unfolding sized_for
sized_reach d l e =
    let p = part_of d.make.part in
    offered_reach p d.make.n (both_true (offered p d.make.n) _ (both_true (known_part d.make.part) _ e).1).0

-- clocks that are few enough together with those before them
module _ (u : Underway) (xs out : List ℕ) where
  pub after_late : at_most (so_far u) longest ≡ false → false ≡ room_after u xs out
  unfolding room_after
  after_late e = let h = leb-false (so_far u).0 65535 e in rw (lt-leb ((so_far u).0 + length xs) 65535 (omega arith))

  pub after_many : at_most (many xs) (less longest (so_far u)) ≡ false → at_most (so_far u) longest ≡ true → false ≡ room_after u xs out
  unfolding room_after
  after_many e f =
      let h = leb-false (length xs) (65535 - (so_far u).0) e in
      let g = leb-true (so_far u).0 65535 f in
      rw (lt-leb ((so_far u).0 + length xs) 65535 (omega arith))

  pub after_few : at_most (many xs) (less longest (so_far u)) ≡ true → at_most (so_far u) longest ≡ true → at_most (many xs) (many out) ≡ room_after u xs out
  unfolding room_after
  after_few e f =
      let h = leb-true (length xs) (65535 - (so_far u).0) e in
      let g = leb-true (so_far u).0 65535 f in
      rw (le-leb ((so_far u).0 + length xs) 65535 (omega arith))

-- every sample is a level where each one is
pub sampled_all : (xs : List ℕ) → sampled xs ≡ list_all (λ x. ltb x 16) xs
unfolding sampled
sampled_all [] = refl
sampled_all (x ∷ xs) = rw (sampled_all xs)
