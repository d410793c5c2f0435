-- The register map of each part, in the papers' own addresses: of parts 1 and 2 document 01's ("Register addresses for 65"), of part 3 those of its source
-- document, Table 6 (document 02, P4).
use Rattle.std.specs.Prelude.{Bool, List, [], ◌∷◌, map, ℕ, T, Option, Some, None}
use Rattle.kinds.specs.declared.Register.{Register}
use Rattle.basis.specs.Examples.{all, same}
use Rattle.basis.specs.Rows.{keys}
use Rattle.parts.specs.declared.Part.{Part}
use Rattle.parts.specs.declared.Part.TheVariants.{M, P, M32}
use Rattle.commands.specs.Registers.{bytes_of, table_place, map_of, mapped_of}

-- what 65 finds at an address: the register's place in the tables and its bytes, or nothing
abbrev found : Option Register → List ℕ
found (Some r) = table_place r ∷ (bytes_of r).0 ∷ []
found None = []

-- status, the four configurations, identity and unique number
abbrev common : Part → Bool
common p =
    all (
    same (found (mapped_of p 0x00)) (0 ∷ 1 ∷ [])
    ∷ same (found (mapped_of p 0x02)) (2 ∷ 1 ∷ [])
    ∷ same (found (mapped_of p 0x03)) (3 ∷ 1 ∷ [])
    ∷ same (found (mapped_of p 0x04)) (4 ∷ 1 ∷ [])
    ∷ same (found (mapped_of p 0x05)) (5 ∷ 1 ∷ [])
    ∷ same (found (mapped_of p 0x30)) (7 ∷ 4 ∷ [])
    ∷ same (found (mapped_of p 0x40)) (8 ∷ 8 ∷ [])
    ∷ []
    )

-- addresses of no register: beside the others, inside a long one, and with more than its low byte
abbrev nowhere : List ℕ
nowhere = 0x01 ∷ 0x06 ∷ 0x07 ∷ 0x31 ∷ 0x47 ∷ 0x7F ∷ 0x81 ∷ 0x87 ∷ 0x100 ∷ 0x180 ∷ 0x800000 ∷ []

unfoldable pub examples : List Bool
examples =
    -- the addresses, all of them
    same (keys (map_of M)) (0x00 ∷ 0x02 ∷ 0x03 ∷ 0x04 ∷ 0x05 ∷ 0x30 ∷ 0x40 ∷ [])
    ∷ same (keys (map_of M32)) (0x80 ∷ 0x00 ∷ 0x02 ∷ 0x03 ∷ 0x04 ∷ 0x05 ∷ 0x30 ∷ 0x40 ∷ [])
    ∷ same (keys (map_of P)) []
    -- and what each of them finds
    ∷ common M
    ∷ common M32
    -- the serial number, eight bytes, on part M32 alone
    ∷ same (found (mapped_of M32 0x80)) (9 ∷ 8 ∷ [])
    ∷ same (found (mapped_of M 0x80)) []
    ∷ all (map (λ a. same (found (mapped_of M a)) []) nowhere)
    ∷ all (map (λ a. same (found (mapped_of M32 a)) []) nowhere)
    ∷ []

pub examples_hold : T (all examples)
unfolding examples mapped_of
examples_hold = tt
