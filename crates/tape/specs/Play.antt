-- What a record does to the chip in the socket. Document 01, "Bench tape".
use Rattle.std.specs.Prelude.{ℕ, Bool, true, cond, List, ltb, length, replicate, Option, Some, None, Result, Ok, Err}
use Rattle.units.specs.declared.Bytes.{Bytes}
use Rattle.units.specs.Units.{bytes}
use Rattle.parts.specs.Parts.{part_of, area_of}
use Rattle.counts.specs.Counts.{no_counts}
use Rattle.record.specs.declared.answers.Answer.TheVariants.{Done, Size}
use Rattle.record.specs.declared.devices.Make.{Make}
use Rattle.record.specs.declared.devices.Device.{Device}
use Rattle.record.specs.Fresh.{fresh_of}
use Rattle.places.specs.Addresses.{memory_size}
use Rattle.paper.specs.Storing.{Lent}
use Rattle.paper.specs.Transaction.{World, refusal, transact_of, power_of}
use Rattle.tape.specs.declared.Chip.{Chip}
use Rattle.tape.specs.declared.Entry.{Entry}
use Rattle.tape.specs.declared.Entry.TheVariants.{Transaction, PowerCycle, Fresh}
use Rattle.tape.specs.declared.Fault.{Fault}
use Rattle.tape.specs.declared.Found.{Found}
use Rattle.tape.specs.declared.Socket.{Socket}
use Rattle.tape.specs.Tape.{between, found_of}

-- a record that can be played; 1 and 2 want a chip in the socket
abbrev pub is_good : Bool → Entry → Bool
is_good chip Transaction = chip
is_good chip PowerCycle = chip
is_good chip (Fresh m) = true

-- the bytes of memory and of area that a chip has
unfoldable pub memory_of : ℕ → Bytes
memory_of n = cond (ltb 24 n) (bytes 0) (memory_size n)

abbrev pub socket_of : Make → Socket
socket_of m = record { memory = memory_of m.n; area = area_of (part_of m.part) }

-- a fresh chip, whose identity and numbers are 0 (D7)
abbrev pub chip_of : Make → Chip
chip_of m = record { socket = socket_of m; device = fresh_of m (replicate 8 0) (replicate 8 0) }

-- the chip that a record is played on, where it can be played: a fresh one, or the one in the socket
abbrev pub chip_for : Entry → Option Chip → Option Chip
chip_for Transaction now = now
chip_for PowerCycle now = now
chip_for (Fresh m) now = Some (chip_of m)

abbrev pub wiped : Lent → Lent
wiped l = record { memory = replicate (length l.memory) 0; area = replicate (length l.area) 0 }

-- what a call leaves that has no output of its own
abbrev pub showing : List ℕ → World → World
showing out w = record { answer = w.answer; counts = w.counts; device = w.device; lent = w.lent; output = out }

-- WHAT A RECORD DOES: where it is bad, nothing changes; of a fresh chip all is 0 that it is made with, identity and numbers too (D7)
abbrev pub play_of : Result Entry Fault → Device → Lent → List ℕ → List ℕ → World
play_of (Err fault) d l xs out = refusal d l out Size
play_of (Ok Transaction) d l xs out = transact_of d l xs out
play_of (Ok PowerCycle) d l xs out = showing out (power_of d l)
play_of (Ok (Fresh m)) d l xs out =
    record { answer = Done; counts = no_counts; device = fresh_of m (replicate 8 0) (replicate 8 0); lent = wiped l; output = out }

-- the same of what stands at a place: where there is no whole record, nothing changes
abbrev pub played_of : Result (Option Found) Fault → List ℕ → Device → Lent → List ℕ → World
played_of (Err fault) tape d l out = refusal d l out Size
played_of (Ok None) tape d l out = refusal d l out Size
played_of (Ok (Some f)) tape d l out = play_of f.entry d l (between tape f.from f.next) out

-- the record at a place
unfoldable pub played_at : List ℕ → ℕ → Device → Lent → List ℕ → World
played_at tape at d l out = played_of (found_of tape at) tape d l out
