-- Laws of the opcode decision.
-- Assumes nothing.
use Rattle.std.specs.Prelude.{◌≡◌, refl, ℕ, false, List, [], ◌∷◌, ◌++◌, reverse, T, Option, Some, None}
use Rattle.std.proofs.Common.{sym, ap}
use Rattle.basis.specs.Rows.{keys, distinct, Away, Rest, look_away, away_within, away_of_rest}
use Rattle.units.specs.declared.Wires.{Wires}
use Rattle.parts.specs.declared.Family.{Family}
use Rattle.parts.specs.declared.Family.TheVariants.{Mram, Psram}
use Rattle.kinds.specs.declared.Kind.TheVariants.{Unknown}
use Rattle.opcodes.specs.declared.Meaning.{Meaning}
use Rattle.opcodes.specs.Opcodes.{mram_rows, psram_rows, rows_of, meaning_of, has_mode, kind_in, kind_of, row_of}

-- no opcode stands twice in a family's rows, so the first row that has it is the only one
pub rows_distinct : (f : Family) → T (distinct (keys (rows_of f)))
rows_distinct Mram = tt
rows_distinct Psram = tt

-- OUTSIDE THE ROWS THE DECISION IS "UNKNOWN", in every bus mode
pub unknown_outside : (f : Family) (w : Wires) (opcode : ℕ) → Away opcode (keys (rows_of f)) → kind_of f w opcode ≡ Unknown
unfolding meaning_of
unknown_outside f w opcode h = rw (look_away None (rows_of f) opcode h)

-- and so it is in a bus mode that the row does not have
kind_without : (m : Option Meaning) (w : Wires) → has_mode m w ≡ false → kind_in m w ≡ Unknown
kind_without None w h = refl
kind_without (Some m) w h = rw h

pub unknown_mode : (f : Family) (w : Wires) (opcode : ℕ) → has_mode (meaning_of f opcode) w ≡ false → kind_of f w opcode ≡ Unknown
unknown_mode f w opcode h = kind_without (meaning_of f opcode) w h

-- the opcodes of both families, the MRAM's first
abbrev pub opcodes : List ℕ
opcodes = keys mram_rows ++ (0x0B ∷ 0xEB ∷ 0x8B ∷ 0x82 ∷ 0xB5 ∷ 0xB1 ∷ 0xF5 ∷ 0xC0 ∷ [])

away_of_both : (f : Family) (opcode : ℕ) → Away opcode opcodes → Away opcode (keys (rows_of f))
away_of_both Mram opcode h = away_within opcode (keys mram_rows) opcodes tt h
away_of_both Psram opcode h = away_within opcode (keys psram_rows) opcodes tt h

-- an opcode that neither family has has an empty row
pub row_away : (opcode : ℕ) → Rest opcode (reverse opcodes) → row_of opcode ≡ record { mram = None; psram = None }
unfolding meaning_of
row_away opcode h =
    let a = away_of_rest opcode opcodes h in
    rw (look_away None mram_rows opcode (away_of_both Mram opcode a), look_away None psram_rows opcode (away_of_both Psram opcode a))

-- an opcode's row is the row of its number
pub row_by : {opcode k : ℕ} → opcode ≡ k → row_of k ≡ row_of opcode
row_by e = sym (ap row_of e)
