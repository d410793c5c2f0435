-- DEMAND 3 IS NOT EMPTY. Lists of episodes that meet every premise, computed: on part M three of them, one that runs past the top of memory out of its protected
-- bytes, one into protected bytes alone, one beside them; on part P two, one of which laps its group of 16 bytes; on part M32 the first two of part M's, turned round.
-- Then a pair that shares one place, and whose order shows.
-- The definitions stand here, the theorems in proofs/Examples.antt.
-- Assumes nothing.
use Rattle.std.specs.Prelude.{ℕ, Bool, true, false, ◌&&◌, List, [], ◌∷◌, ◌++◌, map, eqb, length, get_or, replicate}
use Rattle.basis.specs.Examples.{same}
use Rattle.units.specs.declared.Wires.{Wires}
use Rattle.units.specs.declared.Wires.TheVariants.{One, Four}
use Rattle.units.specs.Units.{clocks_of, byte_clocks}
use Rattle.wires.specs.Bits.{spelled, spread}
use Rattle.parts.specs.declared.Part.{Part}
use Rattle.parts.specs.declared.Part.TheVariants.{M, P, M32}
use Rattle.parts.specs.Parts.{area_of}
use Rattle.record.specs.Answers.{answer_number}
use Rattle.record.specs.Fresh.{make_of, fresh_of}
use Rattle.record.specs.Devices.{setting_of}
use Rattle.record.specs.Fields.{arm_to, mode_to}
use Rattle.record.specs.Resets.{mode_register_to}
use Rattle.changes.specs.Changes.{status_to}
use Rattle.paper.specs.InForce.{address_bytes}
use Rattle.paper.specs.Building.{spread_all}
use Rattle.demand_3.specs.Episodes.{Chip, Call, Reply, replies, fitted, touched, runs}

abbrev pub blank : ℕ → List ℕ
blank n = replicate n 0

-- a memory write on so many wires, and a write enable on one
abbrev pub writes : Wires → ℕ → ℕ → List ℕ → List ℕ
writes w opcode address bs = spread w (byte_clocks w) opcode ++ (spread w (clocks_of w address_bytes) address ++ spread_all w bs)

abbrev pub enables : List ℕ
enables = spelled One 8 0x06

-- episodes clocked with buffers of just their clocks, and with one of eighty bytes that holds FFh before each call
abbrev pub fitting : List (List (List ℕ)) → List (List Call)
fitting l = map (λ (f : List (List ℕ)). map fitted f) l

abbrev pub roomy : List (List (List ℕ)) → List (List Call)
roomy l = map (λ (f : List (List ℕ)). map (λ (xs : List ℕ). record { samples = xs; room = replicate 80 0xFF }) f) l

-- ---- a part of the MRAM, armed by accident, its top 16 bytes protected
abbrev pub chip_mram : Part → Chip
chip_mram p = record { device = arm_to true (status_to 0x04 (fresh_of (make_of p 10) (blank 8) (blank 8))); lent = record { memory = blank 1024; area = blank (area_of p).0 } }

abbrev pub chip_m : Chip
chip_m = chip_mram M

abbrev pub chip_m32 : Chip
chip_m32 = chip_mram M32

-- which of the two
abbrev pub mram : Bool → Chip
mram true = chip_m
mram false = chip_m32

abbrev pub past_top : List (List ℕ)
past_top = enables ∷ writes One 0x02 0x3FE (1 ∷ 2 ∷ 3 ∷ 4 ∷ []) ∷ []

abbrev pub protected : List (List ℕ)
protected = enables ∷ writes One 0x02 0x3F0 (5 ∷ 6 ∷ []) ∷ []

abbrev pub beside : List (List ℕ)
beside = enables ∷ writes One 0x02 0x3EE (7 ∷ 8 ∷ []) ∷ []

abbrev pub list_m : List (List (List ℕ))
list_m = past_top ∷ protected ∷ beside ∷ []

abbrev pub list_m32 : List (List (List ℕ))
list_m32 = past_top ∷ protected ∷ []

-- ---- part P in bus mode 4, groups of 16 bytes
abbrev pub chip_p : Chip
chip_p = record { device = mode_register_to 0x00 (mode_to 4 (fresh_of (make_of P 10) (blank 8) (blank 8))); lent = record { memory = blank 1024; area = [] } }

-- eighteen bytes from 0Eh come round in 00h to 0Fh and overwrite the first two
abbrev pub lapping : List (List ℕ)
lapping = writes Four 0x02 0x00000E (1 ∷ 2 ∷ 3 ∷ 4 ∷ 5 ∷ 6 ∷ 7 ∷ 8 ∷ 9 ∷ 10 ∷ 11 ∷ 12 ∷ 13 ∷ 14 ∷ 15 ∷ 16 ∷ 17 ∷ 18 ∷ []) ∷ []

-- bits past the memory are dropped
abbrev pub folded : List (List ℕ)
folded = writes Four 0x38 0x40041F (21 ∷ 22 ∷ []) ∷ []

abbrev pub list_p : List (List (List ℕ))
list_p = lapping ∷ folded ∷ []

-- ---- and it is what the rules compute
abbrev pub memory_at : Chip → List ℕ → List ℕ
memory_at c at = map (λ a. get_or c.lent.memory a 0) at

abbrev pub answers_of : List Reply → List ℕ
answers_of rs = map (λ r. answer_number r.answer) rs

unfoldable pub examples : List Bool
examples =
    -- the touched places, protected or not, past the top and round the group
    same (touched (setting_of chip_m.device) past_top) (0x3FE ∷ 0x3FF ∷ 0x000 ∷ 0x001 ∷ [])
    ∷ same (touched (setting_of chip_p.device) folded) (0x01F ∷ 0x010 ∷ [])
    ∷ eqb (length (touched (setting_of chip_p.device) lapping)) 18
    -- what the bytes hold afterwards
    ∷ same (memory_at (runs chip_m (fitting list_m)) (0x3FE ∷ 0x3FF ∷ 0x000 ∷ 0x001 ∷ 0x3F0 ∷ 0x3EE ∷ 0x3EF ∷ [])) (0 ∷ 0 ∷ 3 ∷ 4 ∷ 0 ∷ 7 ∷ 8 ∷ [])
    ∷ same (memory_at (runs chip_p (roomy list_p)) (0x00E ∷ 0x00F ∷ 0x000 ∷ 0x00D ∷ 0x01F ∷ 0x010 ∷ [])) (17 ∷ 18 ∷ 3 ∷ 16 ∷ 21 ∷ 22 ∷ [])
    -- each write enable is answered 0, and the episode that is protected whole 9
    ∷ same (answers_of (replies chip_m (map fitted protected))) (0 ∷ 9 ∷ [])
    ∷ same (answers_of (replies chip_m (map fitted past_top))) (0 ∷ 0 ∷ [])
    -- TWO THAT SHARE A PLACE do not commute: 000h holds what came last
    ∷ (let shared : List (List ℕ) = enables ∷ writes One 0x02 0x000 (9 ∷ []) ∷ [] in
    same (memory_at (runs chip_m (fitting (past_top ∷ shared ∷ []))) (0x000 ∷ [])) (9 ∷ [])
    && same (memory_at (runs chip_m (fitting (shared ∷ past_top ∷ []))) (0x000 ∷ [])) (3 ∷ []))
    ∷ []
