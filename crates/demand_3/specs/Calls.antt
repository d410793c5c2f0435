-- One call of an episode: what a memory write and a write enable say and leave, whatever the latch, the arming and memory are. What an episode does to the record and
-- what it does to memory are two laws, `write_moves` and `write_stores`.
-- The definitions stand here, the theorems in proofs/Calls.antt.
-- Assumes nothing.
use Rattle.std.specs.Prelude.{Bool}
use Rattle.record.specs.declared.answers.Answer.{Answer}
use Rattle.record.specs.declared.devices.Device.{Device}
use Rattle.record.specs.declared.devices.Setting.{Setting}
use Rattle.record.specs.Fields.{volatile_to}
use Rattle.paper.specs.Reading.{reading_of, counts_in}
use Rattle.paper.specs.Storing.{Lent}
use Rattle.paper.specs.Transaction.{World, undriven, over}
use Rattle.demand_3.specs.Episodes.{Call, Reply}

-- ---- what a call says, by the setting alone
-- a call that drives nothing
abbrev pub quietly : Setting → Call → Answer → Reply
quietly s x v = record { answer = v; counts = counts_in (reading_of s x.samples); output = over (undriven x.samples) x.room }

-- the device with another latch and arming: all of a record that an episode moves
abbrev pub relatch : Device → Bool → Bool → Device
relatch d latch armed = volatile_to d.volatile.mode latch armed d.volatile.asleep d.volatile.toggle d

abbrev pub world_at : Reply → Device → Lent → World
world_at r d l = record { answer = r.answer; counts = r.counts; device = d; lent = l; output = r.output }
