-- DEMAND 3: write episodes that touch no place in common may come in any order. Every order leaves the same record, memory and area and gives each episode the
-- same answers, and each byte holds what its own episode stores. The words of the statement are in Episodes.antt; the theorem is `demand_3`.
--
-- The proof: an episode moves the latch, the arming and memory, and nothing else (`Moving`); what it does to them (`act`) and what it is told (`told`) depend on the
-- setting and its own samples alone. So a list of episodes is a list of such steps, and steps that touch no place in common commute.
-- The definitions stand here, the theorems in proofs/Demand3.antt.
-- Assumes nothing.
use Rattle.std.specs.Prelude.{◌≡◌, Bool, cond, ℕ, ◌∷◌, []}
use Rattle.std.proofs.Math.Bool.{true, false}
use mathlib.Core.List.{List}
use Rattle.parts.specs.declared.Family.{Family}
use Rattle.parts.specs.declared.Family.TheVariants.{Mram, Psram}
use Rattle.record.specs.declared.answers.Answer.{Answer}
use Rattle.record.specs.declared.answers.Answer.TheVariants.{Done, Protected}
use Rattle.record.specs.declared.devices.Setting.{Setting}
use Rattle.changes.specs.Latches.{after_burst}
use Rattle.parts.specs.Parts.{family_of}
use Rattle.demand_3.specs.Bursts.{landed, shut_all, store}
use Rattle.demand_3.specs.Episodes.{Call, Chip, Reply, aimed, burst_of}
use Rattle.demand_3.specs.Calls.{quietly, relatch}

-- ---- what moves
pub record Moving : Type 0 where
  pub latch : Bool
  pub armed : Bool
  pub memory : List ℕ

abbrev pub chip_at : Chip → Moving → Chip
chip_at c m = record { device = relatch c.device m.latch m.armed; lent = record { memory = m.memory; area = c.lent.area } }

-- the latch before the write: the MRAM's enable has put it up
abbrev pub risen : Family → Bool → Bool
risen Mram latch = true
risen Psram latch = latch

-- WHAT AN EPISODE DOES, whatever came before it
unfoldable pub act : Setting → List (List ℕ) → Moving → Moving
act s f m =
    record {
      latch = after_burst s.registers.cr4 (risen (family_of s.part) m.latch);
      armed = false;
      memory = store (landed (burst_of s f)) m.memory;
    }

-- WHAT IT IS TOLD
abbrev pub answer_to : Setting → List ℕ → Answer
answer_to s xs = cond (shut_all (aimed s xs)) Protected Done

unfoldable pub told : Setting → List Call → List Reply
told s [] = []
told s (x ∷ []) = quietly s x (answer_to s x.samples) ∷ []
told s (x ∷ y ∷ e) = quietly s x Done ∷ quietly s y (answer_to s y.samples) ∷ []

-- ---- a valid record stays valid: the PSRAM's latch is down, and all else that moves may be as it is
abbrev pub Fits : Family → Bool → Type 0
Fits Mram latch = Unit {0}
Fits Psram latch = latch ≡ false
