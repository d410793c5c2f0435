-- Document 02, P8, worked out: which images are accepted, an open transaction included, and which bytes no valid record has.
use Rattle.std.specs.Prelude.{ℕ, Bool, not, List, [], ◌∷◌, ◌++◌, map, T, set, take, replicate}
use Rattle.basis.specs.Examples.{all}
use Rattle.units.specs.Units.{clocks_within}
use Rattle.wires.specs.Bits.{fits_in}
use Rattle.parts.specs.declared.Part.{Part}
use Rattle.parts.specs.declared.Part.TheVariants.{M, P, M32}
use Rattle.parts.specs.Parts.{offered}
use Rattle.opcodes.specs.Opcodes.{meaning_of}
use Rattle.commands.specs.Registers.{mapped_of}
use Rattle.record.specs.declared.devices.Underway.{Underway}
use Rattle.record.specs.Fields.{underway_to, no_underway, just_open}
use Rattle.state_check.specs.Values.{status_allowed, cr3_allowed, cr4_allowed, configurations_allowed, mode_register_allowed}
use Rattle.state_check.specs.States.{mode_allowed, zeros, mram_registers, psram_registers, mram_volatile, psram_volatile, mram_identity, psram_identity, in_range}
use Rattle.paper.specs.InForce.{asleep_for, refused_at, stopped, decided, command_clocks, wires_for, address_clocks, wait_clocks, body_for}
use Rattle.paper.specs.Underway.{kind_at, counts_at, number_reached, reached, factless, underway_valid, valid_of}
use Rattle.paper.specs.ExamplesOpen.{chip, facts, shut}
use Rattle.image.specs.Image.{image_of, record_of, flagged, spared, shaped}
use Rattle.image_check.specs.Accepted.{valid_record, accepted}

-- a fresh chip of a part with one byte of its image changed
abbrev with : Part → ℕ → ℕ → List ℕ
with p at b = set (image_of (chip p)) at b

-- part M with an open transaction
abbrev opened : Underway → List ℕ
opened u = image_of (underway_to u (chip M))

abbrev refused : List (List ℕ) → Bool
refused bs = all (map (λ b. not (accepted b)) bs)

unfoldable pub examples : List Bool
examples =
    all (map (λ p. accepted (image_of (chip p))) (M ∷ P ∷ M32 ∷ []))
    -- another length
    ∷ refused ([] ∷ take 127 (image_of (chip M)) ∷ (image_of (chip M) ++ (0 ∷ [])) ∷ [])
    -- a part that there is not; n below and above the part's
    ∷ refused (with M 0 0 ∷ with M 0 4 ∷ with M 1 9 ∷ with M 1 22 ∷ with P 1 22 ∷ with M32 1 23 ∷ [])
    ∷ all (accepted (with M 1 21) ∷ accepted (with M32 1 22) ∷ [])
    -- a flag of 2, and one that the part has not; a spare byte
    ∷ refused (with M 12 2 ∷ with P 12 1 ∷ with M 15 1 ∷ with M 64 2 ∷ with M 2 1 ∷ with M 63 1 ∷ with M 67 1 ∷ with M 127 1 ∷ [])
    ∷ all (accepted (with M 12 1) ∷ accepted (with P 15 1) ∷ accepted (with M 13 1) ∷ [])
    -- registers, bus mode, identities
    ∷ refused (with M 4 2 ∷ with M 9 7 ∷ with P 4 4 ∷ with M 11 3 ∷ with P 11 2 ∷ with M 20 1 ∷ with P 24 1 ∷ [])
    -- none open, and a fact all the same
    ∷ refused (with M 65 1 ∷ with M 68 1 ∷ with M 72 1 ∷ with M 76 1 ∷ with M 80 1 ∷ [])
    -- one open: of three clocks of the command a number of three bits, and no more; of an address all 24 bits, and no more
    ∷ all (map (λ u. accepted (opened u)) (no_underway ∷ just_open ∷ facts 3 0 0 7 (replicate 8 0) ∷ facts 32 0x02 0xFFFFFF 0 (replicate 8 0) ∷ facts 65535 0x77 0 0 (replicate 8 0) ∷ []))
    ∷ refused (map opened (shut 1 ∷ facts 3 0 0 8 (replicate 8 0) ∷ facts 32 0x02 0x1000000 0 (replicate 8 0) ∷ facts 65536 0x77 0 0 (replicate 8 0) ∷ []))
    ∷ []

pub examples_hold : T (all examples)
unfolding examples image_of record_of flagged spared shaped valid_record accepted offered clocks_within fits_in meaning_of mapped_of status_allowed cr3_allowed cr4_allowed configurations_allowed mode_register_allowed mode_allowed zeros mram_registers psram_registers mram_volatile psram_volatile mram_identity psram_identity in_range asleep_for refused_at stopped decided command_clocks wires_for address_clocks wait_clocks body_for kind_at counts_at number_reached reached factless underway_valid valid_of
examples_hold = tt
