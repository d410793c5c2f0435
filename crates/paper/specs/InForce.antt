-- The plan in force. Document 01, "Answer numbers", the paragraph on counts: once 6, 5 or 7 is decided, every further clock is rest. So a
-- plan that 6 or 5 stops has no address, no wait and no data, one that 7 stops no wait and no data, and what follows is rest by itself.
use Rattle.std.specs.Prelude.{ℕ, Bool, true, false, cond, not, ◌&&◌, ◌||◌}
use Rattle.units.specs.declared.Clocks.{Clocks}
use Rattle.units.specs.declared.Bytes.{Bytes}
use Rattle.units.specs.declared.Wires.{Wires}
use Rattle.units.specs.Units.{clocks, bytes, clocks_of, byte_clocks}
use Rattle.kinds.specs.declared.Control.{Control}
use Rattle.kinds.specs.declared.Control.TheVariants as Controls
use Rattle.kinds.specs.declared.Kind.{Kind}
use Rattle.kinds.specs.declared.Kind.TheVariants.{Unknown, Plain, Read, Write}
use Rattle.kinds.specs.Tests.{unknown}
use Rattle.commands.specs.declared.plans.Address.{Address}
use Rattle.commands.specs.declared.plans.Address.TheVariants.{Absent, InMemory, InArea, InMap, LowNibbleZero, Ignored}
use Rattle.commands.specs.declared.plans.Body.{Body}
use Rattle.commands.specs.declared.plans.Body.TheVariants.{Nothing}
use Rattle.commands.specs.Plans.{later_wires, address_of, wait_of, body_of}
use Rattle.record.specs.declared.devices.Setting.{Setting}
use Rattle.places.specs.Addresses.{allowed_of}

-- AB
abbrev wake : Control → Bool
wake Controls.NoOperation = false
wake Controls.WriteEnable = false
wake Controls.WriteDisable = false
wake Controls.ToOne = false
wake Controls.ToTwo = false
wake Controls.ToFour = false
wake Controls.Sleep = false
wake Controls.Wake = true
wake Controls.ResetEnable = false
wake Controls.Reset = false
wake Controls.Toggle = false

abbrev pub wakes : Kind → Bool
wakes Unknown = false
wakes (Plain c) = wake c
wakes (Read s) = false
wakes (Write t) = false

-- 6: asleep, and the command does not wake (D17)
unfoldable pub asleep_for : Setting → Kind → Bool
asleep_for s k = s.asleep && not (wakes k)

-- 7: an address that the command must not have
unfoldable pub refused_at : Setting → Kind → ℕ → Bool
refused_at s k address = not (allowed_of s (address_of k) address)

-- 6 or 5 is decided
unfoldable pub stopped : Setting → Kind → Bool
stopped s k = asleep_for s k || unknown k

-- 6, 5 or 7 is decided
unfoldable pub decided : Setting → Kind → ℕ → Bool
decided s k address = stopped s k || refused_at s k address

-- an address has as many bits as three bytes. Document 01, "Commands of part M", second sentence, and "Commands of part P", second sentence
abbrev pub address_bytes : Bytes
address_bytes = bytes 3

abbrev pub address_length : Address → Wires → Clocks
address_length Absent w = clocks 0
address_length InMemory w = clocks_of w address_bytes
address_length InArea w = clocks_of w address_bytes
address_length InMap w = clocks_of w address_bytes
address_length LowNibbleZero w = clocks_of w address_bytes
address_length Ignored w = clocks_of w address_bytes

-- the clocks of each phase
unfoldable pub command_clocks : Setting → Clocks
command_clocks s = byte_clocks s.wires

-- the wires of address, wait and data
unfoldable pub wires_for : Setting → Kind → Wires
wires_for s k = later_wires k s.wires

unfoldable pub address_clocks : Setting → Kind → Clocks
address_clocks s k = cond (stopped s k) (clocks 0) (address_length (address_of k) (wires_for s k))

unfoldable pub wait_clocks : Setting → Kind → ℕ → Clocks
wait_clocks s k address = cond (decided s k address) (clocks 0) (wait_of k s.wires s.registers.cr2)

unfoldable pub body_for : Setting → Kind → ℕ → Body
body_for s k address = cond (decided s k address) Nothing (body_of s.part k address)
