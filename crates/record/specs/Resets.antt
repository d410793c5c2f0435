-- Reset and power. Document 01, "Commands of part P" (what a reset leaves) and "Reset and power".
use Rattle.std.specs.Prelude.{ℕ, false}
use Rattle.parts.specs.declared.Family.{Family}
use Rattle.parts.specs.declared.Family.TheVariants.{Mram, Psram}
use Rattle.parts.specs.Parts.{part_of, family_of}
use Rattle.record.specs.declared.devices.Device.{Device}
use Rattle.record.specs.Fresh.{fresh_mode_register}
use Rattle.record.specs.Fields.{with_registers, latch_to, arm_to, mode_to, sleep_to, toggle_to}

-- the mode register alone: a toggle that is on stays on (D15)
abbrev pub mode_register_to : ℕ → Device → Device
mode_register_to v d =
    let r = d.registers in
    with_registers (record { status = r.status; protection = r.protection; cr1 = r.cr1; cr2 = r.cr2; cr3 = r.cr3; cr4 = r.cr4; mr0 = v }) d

-- Both families go back to one wire. The MRAM also drops its latch; the PSRAM puts its mode register back and turns its toggle off. All else is kept.
abbrev pub reset_for : Family → Device → Device
reset_for Mram d = latch_to false (mode_to 1 d)
reset_for Psram d = toggle_to false (mode_register_to fresh_mode_register (mode_to 1 d))

abbrev pub reset_of : Device → Device
reset_of d = reset_for (family_of (part_of d.make.part)) d

-- a power cycle is a reset after which the chip is awake and no longer armed
abbrev pub powered_of : Device → Device
powered_of d = arm_to false (sleep_to false (reset_of d))
