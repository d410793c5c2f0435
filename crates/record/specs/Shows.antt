-- What a register read drives, byte by byte. Document 01, "Commands of part M" (the register reads; status bit 1 shows the latch) and "Commands of
-- part P" (B5 and 9F).
use Rattle.std.specs.Prelude.{ℕ, ◌+◌, ◌*◌, ◌/◌, ◌%◌, Bool, cond, List, ◌∷◌, get_or, replicate}
use Rattle.units.specs.declared.Bytes.{Bytes}
use Rattle.kinds.specs.declared.Register.{Register}
use Rattle.kinds.specs.declared.Register.TheVariants.{Status, AreaProtection, Configuration1, Configuration2, Configuration3, Configuration4, Configurations, Identity, Unique, Serial, ModeRegister, LongIdentity}
use Rattle.record.specs.declared.devices.Device.{Device}

-- a status byte without its bit 1
abbrev pub without_latch : ℕ → ℕ
without_latch v = v / 4 * 4 + v % 2

-- the status register with the latch in bit 1
abbrev pub status_shown : ℕ → Bool → ℕ
status_shown v latch = without_latch v + cond latch 2 0

-- a register of one byte, in the eight places that the longest register has; past a register's size there is nothing to read
abbrev pub one : ℕ → List ℕ
one v = v ∷ replicate 7 0

abbrev pub shown : Device → Register → List ℕ
shown d Status = one (status_shown d.registers.status d.volatile.latch)
shown d AreaProtection = one d.registers.protection
shown d Configuration1 = one d.registers.cr1
shown d Configuration2 = one d.registers.cr2
shown d Configuration3 = one d.registers.cr3
shown d Configuration4 = one d.registers.cr4
shown d Configurations = d.registers.cr1 ∷ d.registers.cr2 ∷ d.registers.cr3 ∷ d.registers.cr4 ∷ replicate 4 0
shown d Identity = d.identity.device
shown d Unique = d.identity.unique
shown d Serial = d.identity.serial
shown d ModeRegister = one d.registers.mr0
shown d LongIdentity = d.identity.device

-- byte i of it, byte 0 first (D6)
abbrev pub shown_byte : Device → Register → Bytes → ℕ
shown_byte d r i = get_or (shown d r) i.0 0
