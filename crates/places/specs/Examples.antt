-- Places and protection, worked out. Document 01, "Bench examples" (f), (g), (h), (i) and (l).
use Rattle.std.specs.Prelude.{List, [], ◌∷◌, Bool, true, false, not, ℕ, T}
use Rattle.basis.specs.Examples.{all, same}
use Rattle.units.specs.Units.{bytes}
use Rattle.units.specs.declared.Wires.TheVariants.{One}
use Rattle.parts.specs.declared.Part.{Part}
use Rattle.parts.specs.declared.Part.TheVariants.{M, P}
use Rattle.commands.specs.declared.plans.Address.TheVariants.{InMemory, InArea, LowNibbleZero}
use Rattle.record.specs.declared.devices.Setting.{Setting}
use Rattle.places.specs.Addresses.{allowed_of}
use Rattle.places.specs.Places.{read_place, write_place, area_place, read_span, write_span, place_in}
use Rattle.places.specs.Protection.{protected_of, area_protected_of, shut_memory, section_shut}

-- a chip of 1,024 bytes with these registers
abbrev chip : Part → ℕ → ℕ → ℕ → ℕ → Bool → Setting
chip p status protection cr3 mr0 toggle =
    record {
      part = p;
      wires = One;
      n = 10;
      asleep = false;
      toggle = toggle;
      registers = record { status = status; protection = protection; cr1 = 0; cr2 = 8; cr3 = cr3; cr4 = 5; mr0 = mr0 };
    }

abbrev four : (ℕ → ℕ) → List ℕ
four f = f 0 ∷ f 1 ∷ f 2 ∷ f 3 ∷ []

unfoldable pub examples : List Bool
examples =
    -- (f) P, groups of 16: four bytes at 0E
    same (four (λ i. write_place (chip P 0 0 0 0x00 false) 0x0E (bytes i))) (0x0E ∷ 0x0F ∷ 0x00 ∷ 0x01 ∷ [])
    -- the toggle makes it 32, and 512 is what a reset leaves
    ∷ same (four (λ i. read_place (chip P 0 0 0 0x00 true) 0x1E (bytes i))) (0x1E ∷ 0x1F ∷ 0x00 ∷ 0x01 ∷ [])
    ∷ same (four (λ i. read_place (chip P 0 0 0 0x60 false) 0x7FE (bytes i))) (0x3FE ∷ 0x3FF ∷ 0x200 ∷ 0x201 ∷ [])
    -- (g) M: four bytes at 3FE, also where reads would wrap in groups of 16
    ∷ same (four (λ i. write_place (chip M 0 0 0 0 false) 0x3FE (bytes i))) (0x3FE ∷ 0x3FF ∷ 0x000 ∷ 0x001 ∷ [])
    ∷ same (four (λ i. write_place (chip M 0 0 0x10 0 false) 0x3FE (bytes i))) (0x3FE ∷ 0x3FF ∷ 0x000 ∷ 0x001 ∷ [])
    ∷ same (four (λ i. read_place (chip M 0 0 0x10 0 false) 0x3FE (bytes i))) (0x3FE ∷ 0x3FF ∷ 0x3F0 ∷ 0x3F1 ∷ [])
    ∷ same (four (λ i. area_place M 0xFE (bytes i))) (0xFE ∷ 0xFF ∷ 0x00 ∷ 0x01 ∷ [])
    -- (h), (i) status 04: the top 1/64, 3F0 to 3FF; 24 puts it at the bottom; 1C is all
    ∷ not (protected_of (chip M 0x04 0 0 0 false) 0x3EF)
    ∷ protected_of (chip M 0x04 0 0 0 false) 0x3F0
    ∷ protected_of (chip M 0x24 0 0 0 false) 0x00F
    ∷ not (protected_of (chip M 0x24 0 0 0 false) 0x010)
    ∷ protected_of (chip M 0x1C 0 0 0 false) 0x000
    ∷ not (protected_of (chip M 0x00 0 0 0 false) 0x3FF)
    -- section 2 of the area is 40 to 5F
    ∷ area_protected_of (chip M 0 0x04 0 0 false) 0x5F
    ∷ not (area_protected_of (chip M 0 0x04 0 0 false) 0x60)
    -- (l) M: 400 is not allowed, 3FF is; P drops the bits that it has not
    ∷ not (allowed_of (chip M 0 0 0 0 false) InMemory 0x400)
    ∷ allowed_of (chip M 0 0 0 0 false) InMemory 0x3FF
    ∷ allowed_of (chip P 0 0 0 0 false) InMemory 0xFFFFFF
    ∷ not (allowed_of (chip M 0 0 0 0 false) InArea 0x100)
    ∷ not (allowed_of (chip P 0 0 0 0 false) LowNibbleZero 0x108)
    ∷ []

pub examples_hold : T (all examples)
unfolding examples read_span write_span place_in protected_of area_protected_of shut_memory section_shut
examples_hold = tt
