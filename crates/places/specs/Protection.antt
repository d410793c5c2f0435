-- Which bytes are protected. Document 01, "Commands of part M": status bits 4 to 2 give the share of memory and bit 5 its end, and each section of the
-- area has a bit of its own. Memory goes by the status alone and the area by its sections alone. The PSRAM protects nothing.
use Rattle.std.specs.Prelude.{ℕ, ◌*◌, ◌/◌, ◌%◌, ◌^◌, ◌-◌, Bool, false, cond, eqb, ltb, leb}
use Rattle.units.specs.declared.Bytes.{Bytes}
use Rattle.units.specs.Units.{bytes}
use Rattle.parts.specs.declared.Family.{Family}
use Rattle.parts.specs.declared.Family.TheVariants.{Mram, Psram}
use Rattle.parts.specs.Parts.{family_of, section_of}
use Rattle.parts.specs.Lengths.{share_of}
use Rattle.record.specs.declared.devices.Setting.{Setting}
use Rattle.places.specs.Addresses.{memory_size}

-- the protected share of a memory, in bytes; it grows with the memory (D14)
abbrev pub shut_bytes : ℕ → ℕ → Bytes
shut_bytes n status = bytes ((memory_size n).0 / 64 * share_of status)

-- bit 5 puts the share at the bottom of memory, where it is 1, or at the top; a place is one that the memory has
unfoldable pub shut_memory : ℕ → ℕ → ℕ → Bool
shut_memory n status place =
    cond (eqb (status / 32 % 2) 1) (ltb place (shut_bytes n status).0) (leb ((memory_size n).0 - (shut_bytes n status).0) place)

-- the bit of a section
unfoldable pub section_shut : ℕ → ℕ → Bool
section_shut protection section = eqb (protection / 2 ^ section % 2) 1

abbrev pub protected_for : Family → Setting → ℕ → Bool
protected_for Mram s place = shut_memory s.n s.registers.status place
protected_for Psram s place = false

abbrev pub area_protected_for : Family → Setting → ℕ → Bool
area_protected_for Mram s place = section_shut s.registers.protection (place / (section_of s.part).0)
area_protected_for Psram s place = false

-- the byte of memory, or of the area, at this place is protected
unfoldable pub protected_of : Setting → ℕ → Bool
protected_of s place = protected_for (family_of s.part) s place

unfoldable pub area_protected_of : Setting → ℕ → Bool
area_protected_of s place = area_protected_for (family_of s.part) s place
