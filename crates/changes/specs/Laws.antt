-- Laws of the write latch.
-- Assumes nothing.
use Rattle.std.specs.Prelude.{◌≡◌, refl, Bool, false, ℕ}
use Rattle.parts.specs.declared.Family.{Family}
use Rattle.parts.specs.declared.Family.TheVariants.{Mram, Psram}
use Rattle.kinds.specs.declared.Kind.{Kind}
use Rattle.changes.specs.Latches.{kind_needs, latch_missing}

-- a command that asks for no latch misses none
pub no_latch : (f : Family) (cr4 : ℕ) (latch : Bool) (k : Kind) → kind_needs cr4 k ≡ false → latch_missing f cr4 latch k ≡ false
unfolding latch_missing
no_latch Mram cr4 latch k e = rw e
no_latch Psram cr4 latch k e = refl
