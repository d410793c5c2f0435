-- The write latch: which commands ask for it, and what a burst leaves of it. Document 01, "Commands of part M", the paragraph "Latch". What a register write
-- leaves of it goes by no mode, and stands in Changes.antt, `register_done`. The PSRAM has no latch.
use Rattle.std.specs.Prelude.{ℕ, ◌%◌, Bool, true, false, cond, not, ◌&&◌, eqb}
use Rattle.parts.specs.declared.Family.{Family}
use Rattle.parts.specs.declared.Family.TheVariants.{Mram, Psram}
use Rattle.kinds.specs.declared.Target.TheVariants as Into
use Rattle.kinds.specs.declared.Kind.{Kind}
use Rattle.kinds.specs.declared.Kind.TheVariants.{Unknown, Plain, Read, Write}

-- CR4[1:0]
abbrev pub write_mode : ℕ → ℕ
write_mode cr4 = cr4 % 4

-- write mode 1 lets bursts into memory and area go without it
abbrev pub burst_needs : ℕ → Bool
burst_needs cr4 = not (eqb (write_mode cr4) 1)

-- a register write asks for it whatever the write mode, a burst by the write mode, and no other command asks for it
abbrev pub kind_needs : ℕ → Kind → Bool
kind_needs cr4 Unknown = false
kind_needs cr4 (Plain c) = false
kind_needs cr4 (Read s) = false
kind_needs cr4 (Write (Into.Register r)) = true
kind_needs cr4 (Write Into.Mode) = false
kind_needs cr4 (Write (Into.Memory r)) = burst_needs cr4
kind_needs cr4 (Write Into.Area) = burst_needs cr4

abbrev pub latch_needed : Family → ℕ → Kind → Bool
latch_needed Mram cr4 k = kind_needs cr4 k
latch_needed Psram cr4 k = false

-- it is needed and down
unfoldable pub latch_missing : Family → ℕ → Bool → Kind → Bool
latch_missing f cr4 latch k = latch_needed f cr4 k && not latch

-- after a burst into memory or area that was stored, or was protected whole: only write mode 0 takes it down (D13)
abbrev pub after_burst : ℕ → Bool → Bool
after_burst cr4 latch = cond (eqb (write_mode cr4) 0) false latch
