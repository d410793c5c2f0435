-- What a transaction leaves of the record. Document 01, "Commands of part M" (control, register writes, latch) and "Commands of part P" (mode
-- register, toggle); "Answer numbers", what each answer leaves (D60); "Reset and power", what arms and disarms.
use Rattle.std.specs.Prelude.{ℕ, true, false, cond, not, List, get_or}
use Rattle.kinds.specs.declared.Control.{Control}
use Rattle.kinds.specs.declared.Control.TheVariants.{NoOperation, WriteEnable, WriteDisable, ToOne, ToTwo, ToFour, Sleep, Wake, ResetEnable, Reset, Toggle}
use Rattle.kinds.specs.declared.Register.{Register}
use Rattle.kinds.specs.declared.Register.TheVariants.{Status, AreaProtection, Configuration1, Configuration2, Configuration3, Configuration4, Configurations, Identity, Unique, Serial, ModeRegister, LongIdentity}
use Rattle.kinds.specs.declared.Target.{Target}
use Rattle.kinds.specs.declared.Target.TheVariants as Into
use Rattle.kinds.specs.declared.Kind.{Kind}
use Rattle.kinds.specs.declared.Kind.TheVariants as Kinds
use Rattle.record.specs.declared.answers.Answer.{Answer}
use Rattle.record.specs.declared.answers.Class.{Class}
use Rattle.record.specs.declared.answers.Class.TheVariants as Of
use Rattle.record.specs.declared.devices.Device.{Device}
use Rattle.record.specs.Answers.{class_of, is_protected}
use Rattle.record.specs.Fields.{with_registers, with_identity, latch_to, arm_to, mode_to, sleep_to, toggle_to}
use Rattle.record.specs.Resets.{mode_register_to, reset_of}
use Rattle.record.specs.Shows.{without_latch}
use Rattle.changes.specs.Latches.{after_burst}

-- ---- commands without data
abbrev pub controlled : Control → Device → Device
controlled NoOperation d = d
controlled WriteEnable d = latch_to true d
controlled WriteDisable d = latch_to false d
controlled ToOne d = mode_to 1 d
controlled ToTwo d = mode_to 2 d
controlled ToFour d = mode_to 4 d
controlled Sleep d = sleep_to true d
controlled Wake d = sleep_to false d
controlled ResetEnable d = arm_to true d
controlled Reset d = reset_of d
controlled Toggle d = toggle_to (not d.volatile.toggle) d

-- ---- register writes
-- bit 1 is dropped, so that no record has it (D8)
abbrev pub status_to : ℕ → Device → Device
status_to v d =
    let r = d.registers in
    with_registers (record { status = without_latch v; protection = r.protection; cr1 = r.cr1; cr2 = r.cr2; cr3 = r.cr3; cr4 = r.cr4; mr0 = r.mr0 }) d

abbrev pub protection_to : ℕ → Device → Device
protection_to v d =
    let r = d.registers in
    with_registers (record { status = r.status; protection = v; cr1 = r.cr1; cr2 = r.cr2; cr3 = r.cr3; cr4 = r.cr4; mr0 = r.mr0 }) d

abbrev pub configurations_to : List ℕ → Device → Device
configurations_to v d =
    let r = d.registers in
    with_registers
    (record { status = r.status; protection = r.protection; cr1 = get_or v 0 0; cr2 = get_or v 1 0; cr3 = get_or v 2 0; cr4 = get_or v 3 0; mr0 = r.mr0 })
    d

abbrev pub serial_to : List ℕ → Device → Device
serial_to v d = with_identity (record { device = d.identity.device; unique = d.identity.unique; serial = v }) d

-- The eight places v, byte 0 first (D6), put into a register: status drops its bit 1, the configurations go in together, the serial number is replaced
-- whole. No command writes the others.
abbrev pub written_to : Register → List ℕ → Device → Device
written_to Status v d = status_to (get_or v 0 0) d
written_to AreaProtection v d = protection_to (get_or v 0 0) d
written_to Configuration1 v d = d
written_to Configuration2 v d = d
written_to Configuration3 v d = d
written_to Configuration4 v d = d
written_to Configurations v d = configurations_to v d
written_to Identity v d = d
written_to Unique v d = d
written_to Serial v d = serial_to v d
written_to ModeRegister v d = mode_register_to (get_or v 0 0) d
written_to LongIdentity v d = d

-- ---- what a command done does to the record, and what each answer leaves
-- On the PSRAM a burst leaves the latch down, where the state check wants it.
abbrev pub burst_done : Device → Device
burst_done d = latch_to (after_burst d.registers.cr4 d.volatile.latch) d

-- a register write that is done takes the latch down, whatever the write mode before it and whatever mode it writes (document 02, P3; D13)
abbrev pub register_done : Register → List ℕ → Device → Device
register_done r v d = latch_to false (written_to r v d)

abbrev pub write_done : Target → List ℕ → Device → Device
write_done (Into.Register r) v d = register_done r v d
write_done Into.Mode v d = written_to ModeRegister v d
write_done (Into.Memory r) v d = burst_done d
write_done Into.Area v d = burst_done d

abbrev pub effect_of : Kind → List ℕ → Device → Device
effect_of Kinds.Unknown v d = d
effect_of (Kinds.Plain c) v d = controlled c d
effect_of (Kinds.Read s) v d = d
effect_of (Kinds.Write t) v d = write_done t v d

-- 9 moves the latch as the write would have, and no other answer of its class moves anything (D13)
abbrev pub declined_to : Answer → Device → Device
declined_to answer d = cond (is_protected answer) (burst_done d) d

-- A refusal changes nothing. Every other transaction disarms, but for 66, which arms when it is done (D17, D53).
abbrev pub settled_in : Class → Kind → List ℕ → Answer → Device → Device
settled_in Of.Done k v answer d = effect_of k v (arm_to false d)
settled_in Of.Refused k v answer d = d
settled_in Of.Declined k v answer d = declined_to answer (arm_to false d)

abbrev pub settled_of : Kind → List ℕ → Answer → Device → Device
settled_of k v answer d = settled_in (class_of answer) k v answer d
