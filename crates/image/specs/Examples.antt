-- Document 02, P8, worked out: images byte by byte, read back, and bytes that have not the shape of one.
use Rattle.std.specs.Prelude.{ℕ, Bool, true, false, not, List, [], ◌∷◌, ◌++◌, map, T, set, take, replicate}
use Rattle.basis.specs.Examples.{all, same}
use Rattle.units.specs.Units.{clocks}
use Rattle.parts.specs.declared.Part.{Part}
use Rattle.parts.specs.declared.Part.TheVariants.{M, P, M32}
use Rattle.record.specs.declared.devices.Device.{Device}
use Rattle.record.specs.Fields.{volatile_to, underway_to}
use Rattle.record.specs.Fresh.{make_of, fresh_of}
use Rattle.state_check.specs.States.{zeros}
use Rattle.image.specs.Image.{image_of, record_of, flagged, spared, shaped}

abbrev one : List ℕ
one = 1 ∷ 2 ∷ 3 ∷ 4 ∷ 5 ∷ 6 ∷ 7 ∷ 8 ∷ []

abbrev ten : List ℕ
ten = 11 ∷ 12 ∷ 13 ∷ 14 ∷ 15 ∷ 16 ∷ 17 ∷ 18 ∷ []

abbrev chip : Part → Device
chip p = fresh_of (make_of p 10) one ten

-- a write of configurations on part M, with two bytes whole and three clocks of the third; and any numbers at all, in which each byte tells its place
abbrev writing : Device
writing = underway_to (record { selected = true; clocks = clocks 27; opcode = 0x87; address = 0; number = 5; value = 0 ∷ 8 ∷ replicate 6 0 }) (chip M)

abbrev telling : Device
telling =
    underway_to (record { selected = true; clocks = clocks 0x44332211; opcode = 0x55; address = 0x89786756; number = 0xDCCBBAA9; value = ten })
    (volatile_to 4 true false true false (chip P))

-- what is read is what was written: shown by writing it again
abbrev back : Device → Bool
back d = same (image_of (record_of (image_of d))) (image_of d)

-- an image with one byte changed
abbrev with : ℕ → ℕ → List ℕ
with at b = set (image_of (chip M)) at b

unfoldable pub examples : List Bool
examples =
    -- fresh chips: make, registers, bus mode and flags, identities, and nothing else
    same (image_of (chip M)) ((1 ∷ 10 ∷ 0 ∷ 0 ∷ 0 ∷ 0 ∷ 0 ∷ 8 ∷ 0 ∷ 5 ∷ 0 ∷ 1 ∷ 0 ∷ 0 ∷ 0 ∷ 0 ∷ 1 ∷ 2 ∷ 3 ∷ 4 ∷ 0 ∷ 0 ∷ 0 ∷ 0 ∷ []) ++ (ten ++ replicate 96 0))
    ∷ same (image_of (chip M32)) ((3 ∷ 10 ∷ 0 ∷ 0 ∷ 0 ∷ 0 ∷ 0 ∷ 8 ∷ 0 ∷ 5 ∷ 0 ∷ 1 ∷ 0 ∷ 0 ∷ 0 ∷ 0 ∷ 1 ∷ 2 ∷ 3 ∷ 4 ∷ 0 ∷ 0 ∷ 0 ∷ 0 ∷ []) ++ (ten ++ replicate 96 0))
    ∷ same (image_of (chip P)) ((2 ∷ 10 ∷ 0 ∷ 0 ∷ 0 ∷ 0 ∷ 0 ∷ 0 ∷ 0 ∷ 0 ∷ 0x60 ∷ 1 ∷ 0 ∷ 0 ∷ 0 ∷ 0 ∷ []) ++ (one ++ replicate 104 0))
    -- an open transaction
    ∷ same (image_of writing)
    (take 64 (image_of (chip M)) ++ ((1 ∷ 0x87 ∷ 0 ∷ 0 ∷ 27 ∷ 0 ∷ 0 ∷ 0 ∷ 0 ∷ 0 ∷ 0 ∷ 0 ∷ 5 ∷ 0 ∷ 0 ∷ 0 ∷ 0 ∷ 8 ∷ []) ++ replicate 46 0))
    -- every byte of every number at its place
    ∷ same (image_of telling)
    ((2 ∷ 10 ∷ 0 ∷ 0 ∷ 0 ∷ 0 ∷ 0 ∷ 0 ∷ 0 ∷ 0 ∷ 0x60 ∷ 4 ∷ 1 ∷ 0 ∷ 1 ∷ 0 ∷ []) ++ (one ++ (replicate 40 0 ++ ((1 ∷ 0x55 ∷ 0 ∷ 0 ∷ 0x11 ∷ 0x22 ∷ 0x33 ∷ 0x44 ∷ 0x56 ∷ 0x67 ∷ 0x78 ∷ 0x89 ∷ 0xA9 ∷ 0xBA ∷ 0xCB ∷ 0xDC ∷ []) ++ (ten ++ replicate 40 0)))))
    ∷ all (map back (chip M ∷ chip P ∷ chip M32 ∷ writing ∷ telling ∷ []))
    -- shapes: another length; a flag that is 2; a spare byte that is 1, the first and the last of each stretch
    ∷ shaped (image_of (chip M))
    ∷ all (map (λ bs. not (shaped bs)) ([] ∷ take 127 (image_of (chip M)) ∷ (image_of (chip M) ++ (0 ∷ [])) ∷ []))
    ∷ all (map (λ at. shaped (with at 1)) (12 ∷ 13 ∷ 14 ∷ 15 ∷ 64 ∷ []))
    ∷ all (map (λ at. not (shaped (with at 2))) (12 ∷ 13 ∷ 14 ∷ 15 ∷ 64 ∷ []))
    ∷ all (map (λ at. not (shaped (with at 1))) (2 ∷ 3 ∷ 40 ∷ 63 ∷ 66 ∷ 67 ∷ 88 ∷ 127 ∷ []))
    ∷ []

pub examples_hold : T (all examples)
unfolding examples image_of record_of flagged spared shaped zeros
examples_hold = tt
