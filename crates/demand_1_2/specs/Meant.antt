-- The words of Understood.antt: the premises under which a device understands what the host built, and what its statement speaks of.
-- Assumes nothing.
use Rattle.std.specs.Prelude.{◌≡◌, ℕ, ◌<◌, ◌≤◌, Bool, true, false, List, length}
use Rattle.units.specs.declared.Clocks.{Clocks}
use Rattle.units.specs.declared.Wires.{Wires}
use Rattle.parts.specs.Parts.{part_of}
use Rattle.commands.specs.declared.plans.Body.{Body}
use Rattle.commands.specs.Plans.{later_wires, body_of, waits_by_register}
use Rattle.record.specs.declared.answers.Answer.{Answer}
use Rattle.record.specs.declared.devices.Device.{Device}
use Rattle.record.specs.Devices.{setting_of}
use Rattle.record.specs.declared.answers.Answer.TheVariants.{Done, Size, Sample, State, Short, Unknown, Asleep, Address, Latch, Protected, Reserved, Long, Unarmed, Turn}
use Rattle.paper.specs.Underway.{valid_of}
use Rattle.paper.specs.InForce.{refused_at}
use Rattle.paper.specs.Reading.{first}
use Rattle.paper.specs.Storing.{Lent}
use Rattle.paper.specs.Driving.{byte_read}
use Rattle.paper.specs.Transaction.{sized_for}
use Rattle.paper.specs.Building.{Order, sent_on, kind_asked, Told}
use Rattle.demand_1_2.specs.Sent.{bytewise}
use Rattle.demand_1_2.specs.Bytewise.{Bytewise}
use Rattle.demand_1_2.specs.Heard.{bytes_from}
use Rattle.demand_1_2.specs.Built.{bytes_driven}

-- ---- the premises
-- what the code's types say of an order (D32)
pub record Spelled (o : Order) : Type 0 where
  pub opcode : o.opcode < 256
  pub written : bytewise o.written ≡ true

-- a device that the order is for (D32), with no transaction open (document 02, P1)
pub record Meant (o : Order) (d : Device) : Type 0 where
  pub part : d.make.part ≡ o.part
  pub mode : d.volatile.mode ≡ o.mode
  pub valid : valid_of d ≡ true
  pub idle : d.underway.selected ≡ false
  pub awake : d.volatile.asleep ≡ false
  pub waits : waits_by_register (kind_asked o) ≡ true → d.registers.cr2 ≡ o.cr2
  pub allows : refused_at (setting_of d) (kind_asked o) o.address ≡ false

-- memory, area and output of the right size, all bytes
pub record Lendable (d : Device) (l : Lent) (xs out : List ℕ) : Type 0 where
  pub sized : sized_for d l ≡ true
  pub room : length xs ≤ length out
  pub whole : Bytewise d l

-- ---- the words of the statement
-- the samples that a call of the host left: as many as it tells, off the front of the buffer
abbrev pub sent : Told Clocks → List ℕ
sent t = first t.number t.buffer

-- the wires of an order's address, wait and data, and its data
abbrev pub wires_in : Order → Wires
wires_in o = later_wires (kind_asked o) (sent_on o)

abbrev pub body_meant : Order → Body
body_meant o = body_of (part_of o.part) (kind_asked o) o.address

-- the bytes that an order's read drives, as the paper says
abbrev pub bytes_read : Order → Device → Lent → List ℕ
bytes_read o d l = bytes_from (byte_read d (kind_asked o) o.address l) 0 (bytes_driven (body_meant o) o.wanted).0

-- an answer that finds no fault with the clocks: none of 1 to 7, 11 and 13
abbrev pub faultless : Answer → Bool
faultless Done = true
faultless Size = false
faultless Sample = false
faultless State = false
faultless Short = false
faultless Unknown = false
faultless Asleep = false
faultless Address = false
faultless Latch = true
faultless Protected = true
faultless Reserved = true
faultless Long = false
faultless Unarmed = true
faultless Turn = false
