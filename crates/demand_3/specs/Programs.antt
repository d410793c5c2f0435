-- DEMAND 3 FOR THE PROGRAM. `device::transact` is known here by its contract alone: of each call a result and what it leaves in the lent memory, area and output, equal to
-- the paper's transaction. Whatever program makes the calls of the episodes, in either order and with whatever buffers, one for all calls or one for each, ends in the same
-- record, memory and area, and gets for each episode what that episode gets alone (D66).
-- The definitions stand here, the theorems in proofs/Programs.antt.
-- Assumes nothing.
use Rattle.std.specs.Prelude.{◌≡◌, ℕ}
use mathlib.Core.List.{List, [], ◌∷◌, ◌++◌, map}
use Rattle.paper.specs.Transaction.{transact_of}
use Rattle.record.specs.declared.devices.Outcome.{Outcome}
use Rattle.contract_words.specs.Words.{lends, world_of}
use Rattle.demand_3.specs.Episodes.{Chip, Call, Reply, runs, alone, AnyOrder}

-- calls that were made, what they gave back, and where they ended: each call keeps to the contract of `transact`
pub data Made : Chip → List Call → List Reply → Chip → Type 0 where
  ended : {c : Chip} → Made c [] [] c
  call : {c c' : Chip} {x : Call} {xs : List Call} {rs : List Reply} (o : Outcome) (memory area output : List ℕ)
      → world_of o memory area output ≡ transact_of c.device c.lent x.samples x.room
      → Made (record { device = o.device; lent = lends memory area }) xs rs c'
      → Made c (x ∷ xs) (record { answer = o.answer; counts = o.counts; output = output } ∷ rs) c'

-- the lists of a list, one after the other
unfoldable pub joined : {A : Type 0} → List (List A) → List A
joined [] = []
joined (e ∷ l) = e ++ joined l

-- what two programs that make the calls of the same episodes have in common
pub record Agree (c : Chip) (k₁ k₂ : List (List Call)) (rs₁ rs₂ : List Reply) (c₁ c₂ : Chip) : Type 0 where
  pub same : c₁ ≡ c₂
  -- where they end is where the paper's calls end, of which demand 3 says what each byte holds
  pub ends : c₁ ≡ runs c k₁
  pub any : AnyOrder c k₁ k₂
  pub first : rs₁ ≡ joined (map (alone c) k₁)
  pub second : rs₂ ≡ joined (map (alone c) k₂)
