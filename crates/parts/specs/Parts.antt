-- The parts and their limits. Document 01, "Commands of part M" (memory and area), "Commands of part P" (n as for M), "Answer numbers" row 1
-- (the area of P is empty), "Bench tape" (the numbers of the parts). Document 02, P4 (part 3, the MRAM of 32 Mbit, is M32 here, D77).
use Rattle.std.specs.Prelude.{ℕ, Bool, ◌&&◌, cond, List, [], ◌∷◌, leb, Result, Ok, Err}
use Rattle.basis.specs.Rows.{look, keys, among}
use Rattle.units.specs.declared.Bytes.{Bytes}
use Rattle.units.specs.Units.{bytes}
use Rattle.parts.specs.declared.Family.{Family}
use Rattle.parts.specs.declared.Family.TheVariants.{Mram, Psram}
use Rattle.parts.specs.declared.Part.{Part}
use Rattle.parts.specs.declared.Part.TheVariants.{M, P, M32}
use Rattle.parts.specs.declared.UnknownPart.{UnknownPart}
use Rattle.parts.specs.declared.Limits.{Limits}

-- Rules go by the family, limits by the part. What follows below and is not a limit (commands, latch, protection, groups, reset, power) asks the family (D57).
abbrev pub family_of : Part → Family
family_of M = Mram
family_of P = Psram
family_of M32 = Mram

-- the numbers of the parts
abbrev pub part_number : Part → ℕ
part_number M = 1
part_number P = 2
part_number M32 = 3

abbrev pub parts : List (ℕ × Part)
parts = (part_number M, M) ∷ (part_number P, P) ∷ (part_number M32, M32) ∷ []

-- the part of a number; row 1 refuses a number that stands for none before it comes to more (D10)
abbrev pub part_of : ℕ → Part
part_of k = look M parts k

abbrev pub known_part : ℕ → Bool
known_part k = among k (keys parts)

-- the same with the refusal: the number itself, where it stands for no part
abbrev pub part_named : ℕ → Result Part UnknownPart
part_named k = cond (known_part k) (Ok (part_of k)) (Err (record { 0 = k }))

-- a memory has 2^n bytes, n from the least to the most
abbrev pub least_of : Part → ℕ
least_of M = 10
least_of P = 10
least_of M32 = 10

abbrev pub most_of : Part → ℕ
most_of M = 21
most_of P = 21
most_of M32 = 22

unfoldable pub offered : Part → ℕ → Bool
offered p n = leb (least_of p) n && leb n (most_of p)

-- the augmented area, and each of its eight sections
abbrev pub area_of : Part → Bytes
area_of M = bytes 256
area_of P = bytes 0
area_of M32 = bytes 512

abbrev pub section_of : Part → Bytes
section_of M = bytes 32
section_of P = bytes 0
section_of M32 = bytes 64

-- how many of CR3's codes name a group, counted from 0; those after them are reserved, and part P has no such register
abbrev pub wrap_codes : Part → ℕ
wrap_codes M = 5
wrap_codes P = 0
wrap_codes M32 = 7

-- all of them together: what the constants of the part's type say
abbrev pub limits_of : Part → Limits
limits_of p = record { least = least_of p; most = most_of p; area = (area_of p).0; section = (section_of p).0; wrap_codes = wrap_codes p }
