-- The transaction that is open, as the record holds it: what its facts tell, and which facts some clocks reach. Document 02, P1 (D85, D86).
use Rattle.std.specs.Prelude.{Bool, cond, ◌&&◌, eqb, drop}
use Rattle.units.specs.declared.Clocks.{Clocks}
use Rattle.units.specs.declared.Bytes.{Bytes}
use Rattle.units.specs.Units.{clocks, bytes, less, up_to, at_most, longest, whole_of, unfinished_of}
use Rattle.wires.specs.Bits.{fits_in}
use Rattle.parts.specs.Parts.{family_of}
use Rattle.kinds.specs.declared.Kind.{Kind}
use Rattle.kinds.specs.declared.Kind.TheVariants.{Unknown}
use Rattle.opcodes.specs.Opcodes.{kind_of}
use Rattle.commands.specs.declared.plans.Body.{Body}
use Rattle.commands.specs.declared.plans.Body.TheVariants.{Nothing, FixedRead, AnyRead, FixedWrite, AnyWrite}
use Rattle.commands.specs.Plans.{writes}
use Rattle.counts.specs.declared.Counts.{Counts}
use Rattle.counts.specs.Counts.{counted}
use Rattle.record.specs.declared.devices.Underway.{Underway}
use Rattle.record.specs.declared.devices.Setting.{Setting}
use Rattle.record.specs.declared.devices.Device.{Device}
use Rattle.record.specs.Devices.{setting_of}
use Rattle.state_check.specs.States.{zeros, in_range}
use Rattle.paper.specs.InForce.{command_clocks, wires_for, address_clocks, wait_clocks, body_for}
use Rattle.paper.specs.Reading.{data_of}

-- ---- what the facts tell
-- the kind of the command, once it is whole
unfoldable pub kind_at : Setting → Underway → Kind
kind_at s u = cond (at_most (command_clocks s) u.clocks) (kind_of (family_of s.part) s.wires u.opcode) Unknown

-- the clocks so far, by phase: each phase has as many as the plan in force gives it, off what the phases before it have left
unfoldable pub counts_at : Setting → Underway → Counts
counts_at s u =
    let k = kind_at s u in
    let a = u.address in
    let t₁ = less u.clocks (command_clocks s) in
    let t₂ = less t₁ (address_clocks s k) in
    let t₃ = less t₂ (wait_clocks s k a) in
    let t₄ = data_of (body_for s k a) (wires_for s k) t₃ in
    counted (up_to (command_clocks s) u.clocks) (up_to (address_clocks s k) t₁) (up_to (wait_clocks s k a) t₂) t₄ (less t₃ t₄)

-- ---- which facts some clocks reach
-- the clocks that spell a number that is whole: all of them, and none while some are missing
abbrev pub spelling : Clocks → Clocks → Clocks
spelling all c = cond (at_most all c) c (clocks 0)

-- of the data clocks of a write those that have begun a byte; a read begins none
abbrev pub begun_in : Body → Clocks → Clocks
begun_in b c = cond (writes b) c (clocks 0)

-- the whole bytes that are kept until the end: those of a register write
abbrev pub kept_in : Body → Bytes → Bytes
kept_in Nothing m = bytes 0
kept_in (FixedRead b) m = bytes 0
kept_in AnyRead m = bytes 0
kept_in (FixedWrite b) m = m
kept_in AnyWrite m = bytes 0

-- the number is of what is not whole yet: the command, the address, or a byte that is written
unfoldable pub number_reached : Setting → Underway → Bool
number_reached s u =
    let k = kind_at s u in
    let c = counts_at s u in
    let w = wires_for s k in
    cond (at_most (command_clocks s) c.command)
    (cond (at_most (address_clocks s k) c.address)
    (fits_in w (begun_in (body_for s k u.address) (unfinished_of w c.body)) u.number)
    (fits_in w c.address u.number))
    (fits_in s.wires c.command u.number)

-- NO FACT HAS BITS THAT HAVE NOT COME: each number fits the clocks that spell it, and the bytes of a register write that have not come whole are 0
unfoldable pub reached : Setting → Underway → Bool
reached s u =
    let k = kind_at s u in
    let c = counts_at s u in
    let w = wires_for s k in
    at_most u.clocks longest
    && (fits_in s.wires (spelling (command_clocks s) c.command) u.opcode
    && (fits_in w (spelling (address_clocks s k) c.address) u.address
    && (number_reached s u
    && zeros (drop (kept_in (body_for s k u.address) (whole_of w c.body)).0 u.value))))

-- none is open: there are no facts
unfoldable pub factless : Underway → Bool
factless u = at_most u.clocks (clocks 0) && (eqb u.opcode 0 && (eqb u.address 0 && (eqb u.number 0 && zeros u.value)))

unfoldable pub underway_valid : Setting → Underway → Bool
underway_valid s u = cond u.selected (reached s u) (factless u)

-- THE STATE CHECK: every field is in its range, and the open transaction is one that some clocks reach. Document 01, row 3 of "Answer numbers"
unfoldable pub valid_of : Device → Bool
valid_of d = in_range d && underway_valid (setting_of d) d.underway
