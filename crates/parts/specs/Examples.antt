-- The limits of the parts, a row for each, in the papers' own numbers: of parts 1 and 2 document 01's ("Commands of part M", "Commands of part P"), of part 3
-- those of document 02, P4, and of its source document (Tables 4, 5, 16 and 22). So a change of one part's limits is seen here, and one that was not meant is refused.
use Rattle.std.specs.Prelude.{Bool, not, List, [], ◌∷◌, map, ℕ, ◌*◌, T, eqb}
use Rattle.basis.specs.Examples.{all, same}
use Rattle.parts.specs.declared.Part.{Part}
use Rattle.parts.specs.declared.Part.TheVariants.{M, P, M32}
use Rattle.parts.specs.Parts.{part_number, part_of, known_part, least_of, most_of, area_of, section_of, wrap_codes, offered}
use Rattle.parts.specs.Lengths.{wrap_length}

-- number, n from and to, bytes of the area and of a section, codes of groups
abbrev limits : Part → List ℕ
limits p = part_number p ∷ least_of p ∷ most_of p ∷ (area_of p).0 ∷ (section_of p).0 ∷ wrap_codes p ∷ []

unfoldable pub examples : List Bool
examples =
    same (limits M) (1 ∷ 10 ∷ 21 ∷ 256 ∷ 32 ∷ 5 ∷ [])
    ∷ same (limits P) (2 ∷ 10 ∷ 21 ∷ 0 ∷ 0 ∷ 0 ∷ [])
    ∷ same (limits M32) (3 ∷ 10 ∷ 22 ∷ 512 ∷ 64 ∷ 7 ∷ [])
    -- each number stands for its part; 0 and 4 stand for none
    ∷ same (map (λ k. part_number (part_of k)) (1 ∷ 2 ∷ 3 ∷ [])) (1 ∷ 2 ∷ 3 ∷ [])
    ∷ all (map known_part (1 ∷ 2 ∷ 3 ∷ []))
    ∷ all (map (λ k. not (known_part k)) (0 ∷ 4 ∷ []))
    -- n = 22 is for part 3 alone, and 23 for none
    ∷ offered M32 22
    ∷ not (offered M 22)
    ∷ not (offered P 22)
    ∷ not (offered M32 23)
    -- eight sections make the area
    ∷ all (map (λ p. eqb (8 * (section_of p).0) (area_of p).0) (M ∷ P ∷ M32 ∷ []))
    -- the groups of codes 0 to 6; part M has the first five
    ∷ same (map (λ code. (wrap_length code).0) (0 ∷ 1 ∷ 2 ∷ 3 ∷ 4 ∷ 5 ∷ 6 ∷ [])) (16 ∷ 32 ∷ 64 ∷ 128 ∷ 256 ∷ 512 ∷ 1024 ∷ [])
    ∷ []

pub examples_hold : T (all examples)
unfolding examples offered
examples_hold = tt
