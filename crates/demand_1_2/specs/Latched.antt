-- LATCH (demand 2): what a write leaves of the write latch, whatever comes in. Document 01, "Commands of part M", the paragraph "Latch", with document 02's P3 in
-- place of what it says of register writes in write mode 2. A write that is refused leaves it, too, as it was (Refused.antt).
-- The definitions stand here, the theorems in proofs/Latched.antt.
-- Assumes nothing.
use Rattle.std.specs.Prelude.{ℕ, Bool, cond, ◌||◌, eqb}
use Rattle.std.proofs.Math.Bool.{false}
use Rattle.kinds.specs.declared.Target.{Target}
use Rattle.kinds.specs.declared.Target.TheVariants as Into
use Rattle.record.specs.declared.answers.Answer.{Answer}
use Rattle.record.specs.Answers.{is_done, is_protected}
use Rattle.changes.specs.Latches.{write_mode}

-- a burst that is answered 0 or 9 takes it down in write mode 0; in 1 and 2, and with any other answer, it leaves it
abbrev pub burst_left : Answer → ℕ → Bool → Bool
burst_left v cr4 latch = cond (is_done v || is_protected v) (cond (eqb (write_mode cr4) 0) false latch) latch

-- What a write leaves of the latch, by its target and its answer. A register write that is done takes it down in every write mode, and one that is not done
-- leaves it. The PSRAM has no latch, and its B1 moves none. The rule of bursts is spelled out, so that the theorem pins it (D74).
abbrev pub latch_left : Target → Answer → ℕ → Bool → Bool
latch_left (Into.Register r) v cr4 latch = cond (is_done v) false latch
latch_left Into.Mode v cr4 latch = latch
latch_left (Into.Memory r) v cr4 latch = burst_left v cr4 latch
latch_left Into.Area v cr4 latch = burst_left v cr4 latch
