-- A record with one field changed, and all else as it is.
use Rattle.std.specs.Prelude.{ℕ, Bool, true, false, replicate}
use Rattle.units.specs.Units.{clocks}
use Rattle.record.specs.declared.devices.Registers.{Registers}
use Rattle.record.specs.declared.devices.Volatile.{Volatile}
use Rattle.record.specs.declared.devices.Identities.{Identities}
use Rattle.record.specs.declared.devices.Underway.{Underway}
use Rattle.record.specs.declared.devices.Device.{Device}

-- a record with other registers, other volatile state or another identity, and all else as it is
abbrev pub with_registers : Registers → Device → Device
with_registers r d = record { make = d.make; registers = r; volatile = d.volatile; identity = d.identity; underway = d.underway }

abbrev pub with_volatile : Volatile → Device → Device
with_volatile v d = record { make = d.make; registers = d.registers; volatile = v; identity = d.identity; underway = d.underway }

abbrev pub with_identity : Identities → Device → Device
with_identity i d = record { make = d.make; registers = d.registers; volatile = d.volatile; identity = i; underway = d.underway }

-- ---- volatile state: the latch, the arming, the bus mode, sleep, the toggle
abbrev pub volatile_to : ℕ → Bool → Bool → Bool → Bool → Device → Device
volatile_to mode latch armed asleep toggle d =
    with_volatile (record { mode = mode; latch = latch; armed = armed; asleep = asleep; toggle = toggle }) d

abbrev pub latch_to : Bool → Device → Device
latch_to up d = volatile_to d.volatile.mode up d.volatile.armed d.volatile.asleep d.volatile.toggle d

abbrev pub arm_to : Bool → Device → Device
arm_to on d = volatile_to d.volatile.mode d.volatile.latch on d.volatile.asleep d.volatile.toggle d

abbrev pub mode_to : ℕ → Device → Device
mode_to mode d = volatile_to mode d.volatile.latch d.volatile.armed d.volatile.asleep d.volatile.toggle d

abbrev pub sleep_to : Bool → Device → Device
sleep_to on d = volatile_to d.volatile.mode d.volatile.latch d.volatile.armed on d.volatile.toggle d

abbrev pub toggle_to : Bool → Device → Device
toggle_to on d = volatile_to d.volatile.mode d.volatile.latch d.volatile.armed d.volatile.asleep on d

-- ---- the transaction that is open. Document 02, P1 (D85)
abbrev pub underway_to : Underway → Device → Device
underway_to u d = record { make = d.make; registers = d.registers; volatile = d.volatile; identity = d.identity; underway = u }

-- none is open: all of it is 0
abbrev pub no_underway : Underway
no_underway = record { selected = false; clocks = clocks 0; opcode = 0; address = 0; number = 0; value = replicate 8 0 }

-- one is open, and no clock has come
abbrev pub just_open : Underway
just_open = record { selected = true; clocks = clocks 0; opcode = 0; address = 0; number = 0; value = replicate 8 0 }

abbrev pub opened_of : Device → Device
opened_of d = underway_to just_open d

abbrev pub closed_of : Device → Device
closed_of d = underway_to no_underway d
