-- A transaction fed in chunks, by the machine: taken up from the facts that the record holds, run over the chunk, and put down again. Document 02, P1
-- (D85). What it comes to in the paper's words is the matter of `chunks`.
use Rattle.std.specs.Prelude.{ℕ, ◌%◌, ◌≡◌, true, cond, List, []}
use Rattle.units.specs.Units.{less, at_most}
use Rattle.wires.specs.Bits.{gather_from}
use Rattle.kinds.specs.declared.Kind.{Kind}
use Rattle.counts.specs.declared.Counts.{Counts}
use Rattle.counts.specs.Counts.{no_counts, total}
use Rattle.counts.specs.declared.Phase.{Phase}
use Rattle.counts.specs.declared.Phase.TheVariants.{Command, Address, Wait, Data, Rest}
use Rattle.progress.specs.declared.Progress.{Progress}
use Rattle.record.specs.declared.answers.Answer.TheVariants.{Done}
use Rattle.record.specs.declared.devices.Underway.{Underway}
use Rattle.record.specs.declared.devices.Device.{Device}
use Rattle.record.specs.declared.devices.Setting.{Setting}
use Rattle.record.specs.Devices.{setting_of}
use Rattle.record.specs.Fields.{underway_to, opened_of, closed_of}
use Rattle.paper.specs.InForce.{command_clocks, wires_for, address_clocks, wait_clocks, body_for}
use Rattle.paper.specs.Reading.{first, many}
use Rattle.paper.specs.Underway.{kind_at, counts_at}
use Rattle.paper.specs.Storing.{Lent}
use Rattle.paper.specs.Transaction.{World, over, refusal, guarded, open_checks, feed_checks, close_checks}
use Rattle.contract_words.specs.Words.{Run}
use Rattle.machine_phases.specs.Machine.{full_at, run_of, outs_of}
use Rattle.machine_end.specs.Finish.{finish_of}

-- ---- taking up
-- the phase that the counts have come to: the first that is not full
unfoldable pub phase_by : Setting → Kind → ℕ → Counts → Phase
phase_by s k a c =
    cond (at_most (command_clocks s) c.command)
    (cond (at_most (address_clocks s k) c.address)
    (cond (at_most (wait_clocks s k a) c.wait) (cond (full_at (body_for s k a) (wires_for s k) c.body) Rest Data) Wait)
    Address)
    Command

-- where the machine stands: all that it knows follows from the facts
unfoldable pub resume_of : Setting → Underway → Progress
resume_of s u =
    let k = kind_at s u in
    let c = counts_at s u in
    record { phase = phase_by s k u.address c; kind = k; address = u.address; number = u.number; tally = record { counts = c; value = u.value } }

abbrev pub resumed : Device → Lent → Run
resumed d l = record { progress = resume_of (setting_of d) d.underway; lent = l }

-- ---- putting down
-- the opcode is told by the clock that makes the command whole, in this chunk or one before it
unfoldable pub opcode_after : Setting → Underway → List ℕ → ℕ
opcode_after s u xs =
    let missing = less (command_clocks s) u.clocks in
    cond (at_most (command_clocks s) u.clocks) u.opcode
    (cond (at_most missing (many xs)) (gather_from s.wires u.number (first missing xs) % 256) u.opcode)

abbrev pub paused_of : ℕ → Progress → Underway
paused_of opcode p =
    record { selected = true; clocks = total p.tally.counts; opcode = opcode; address = p.address; number = p.number; value = p.tally.value }

-- the record with the open transaction a chunk further
abbrev pub fed_to : Device → List ℕ → Run → Device
fed_to d xs r = underway_to (paused_of (opcode_after (setting_of d) d.underway xs) r.progress) d

-- the machine over a chunk, and what it drives there; its rules look at the chip as it is with none open
abbrev pub run_on : Device → Lent → List ℕ → Run
run_on d l xs = run_of (closed_of d) (resumed d l) xs

abbrev pub outs_on : Device → Lent → List ℕ → List ℕ
outs_on d l xs = outs_of (closed_of d) (resumed d l) xs

-- the machine has gone on over a chunk
pub record Continued (d : Device) (l : Lent) (xs out : List ℕ) (d' : Device) (l' : Lent) (out' : List ℕ) : Type 0 where
  pub device : d' ≡ fed_to d xs (run_on d l xs)
  pub lent : l' ≡ (run_on d l xs).lent
  pub output : out' ≡ over (outs_on d l xs) out

-- ---- THE CALLS
-- OPEN: the record says that one is open, and nothing else changes
abbrev pub opened_world : Device → Lent → World
opened_world d l = record { answer = Done; counts = no_counts; device = opened_of d; lent = l; output = [] }

unfoldable pub open_of : Device → Lent → World
open_of d l = guarded (open_checks d l) (refusal d l []) (opened_world d l)

-- FEED: memory and area have the bytes whose last clock has come; of the record only the open transaction moves
abbrev pub fed_world : Device → Lent → List ℕ → List ℕ → World
fed_world d l xs out =
    record {
      answer = Done;
      counts = no_counts;
      device = fed_to d xs (run_on d l xs);
      lent = (run_on d l xs).lent;
      output = over (outs_on d l xs) out;
    }

unfoldable pub feed_of : Device → Lent → List ℕ → List ℕ → World
feed_of d l xs out = guarded (feed_checks d l xs out) (refusal d l out) (fed_world d l xs out)

-- CLOSE: the transaction is judged, and the record changes as its answer says, with none open
abbrev pub closed_world : Device → Lent → World
closed_world d l = finish_of (closed_of d) (resumed d l) []

unfoldable pub close_of : Device → Lent → World
close_of d l = guarded (close_checks d l) (refusal d l []) (closed_world d l)
