-- The values that a register may have. Document 01, "Commands of part M" (the paragraph on status and configurations) and "Commands of part P"
-- (MR0). Row 10 of "Answer numbers" refuses a write of any other value, and row 3 a record that holds one. Status alone differs between the two: bit 1
-- may be written, where it is dropped, but no record has it (D8).
use Rattle.std.specs.Prelude.{ℕ, ◌/◌, ◌%◌, Bool, false, not, ◌&&◌, List, eqb, ltb, get_or}
use Rattle.parts.specs.declared.Part.{Part}
use Rattle.parts.specs.Parts.{wrap_codes}
use Rattle.kinds.specs.declared.Register.{Register}
use Rattle.kinds.specs.declared.Register.TheVariants.{Status, AreaProtection, Configuration1, Configuration2, Configuration3, Configuration4, Configurations, Identity, Unique, Serial, ModeRegister, LongIdentity}

-- bits 7, 6 and 0 are 0; bit 1 is dropped, whatever it is (D4)
unfoldable pub status_allowed : ℕ → Bool
status_allowed v = ltb v 64 && eqb (v % 2) 0

-- it is 0 (D4)
abbrev pub cr1_allowed : ℕ → Bool
cr1_allowed v = eqb v 0

-- bits 7 to 4 are 0 (D12)
abbrev pub cr2_allowed : ℕ → Bool
cr2_allowed v = ltb v 16

-- any bits 7 to 5, wrapping on or off in bit 4, a 0 in bit 3, and in bits 2 to 0 a code that names a group, also while wrapping is off (D11)
unfoldable pub cr3_allowed : Part → ℕ → Bool
cr3_allowed p v = eqb (v / 8 % 2) 0 && ltb (v % 8) (wrap_codes p)

-- five zeros, a one, and a write mode of 0 to 2: the value is 4, 5 or 6
unfoldable pub cr4_allowed : ℕ → Bool
cr4_allowed v = eqb (v / 4) 1 && ltb (v % 4) 3

unfoldable pub configurations_allowed : Part → ℕ → ℕ → ℕ → ℕ → Bool
configurations_allowed p cr1 cr2 cr3 cr4 = cr1_allowed cr1 && (cr2_allowed cr2 && (cr3_allowed p cr3 && cr4_allowed cr4))

-- the group's code is in bits 6 and 5, bits 1 and 0 are 0 to 2, and the others are 0
unfoldable pub mode_register_allowed : ℕ → Bool
mode_register_allowed v = ltb v 128 && (eqb (v / 4 % 8) 0 && ltb (v % 4) 3)

-- row 10: the bytes v are not allowed for the register; of the configurations one wrong value is enough. No command writes one of them alone.
abbrev pub reserved_of : Part → Register → List ℕ → Bool
reserved_of p Status v = not (status_allowed (get_or v 0 0))
reserved_of p AreaProtection v = false
reserved_of p Configuration1 v = false
reserved_of p Configuration2 v = false
reserved_of p Configuration3 v = false
reserved_of p Configuration4 v = false
reserved_of p Configurations v = not (configurations_allowed p (get_or v 0 0) (get_or v 1 0) (get_or v 2 0) (get_or v 3 0))
reserved_of p Identity v = false
reserved_of p Unique v = false
reserved_of p Serial v = false
reserved_of p ModeRegister v = not (mode_register_allowed (get_or v 0 0))
reserved_of p LongIdentity v = false
