-- The bench tape, record by record. Document 01, "Bench tape".
use Rattle.std.specs.Prelude.{ℕ, ◌+◌, ◌*◌, ◌-◌, cond, not, List, [], eqb, leb, ltb, length, get_or, take, drop, Option, Some, None, Result, Ok, Err}
use Rattle.parts.specs.Parts.{known_part}
use Rattle.record.specs.declared.devices.Make.{Make}
use Rattle.tape.specs.declared.Entry.{Entry}
use Rattle.tape.specs.declared.Entry.TheVariants.{Transaction, PowerCycle, Fresh}
use Rattle.tape.specs.declared.Fault.{Fault}
use Rattle.tape.specs.declared.Fault.TheVariants.{Cut, Strange, Samples, Power, Chip}
use Rattle.tape.specs.declared.Found.{Found}
use Rattle.tape.specs.declared.Kind.{Kind}
use Rattle.tape.specs.declared.Kind.TheVariants as kinds

-- two bytes, the low one first
unfoldable pub word_at : List ℕ → ℕ → ℕ
word_at tape at = get_or tape at 0 + 256 * get_or tape (at + 1) 0

-- the kind of a number
abbrev pub kind_named : ℕ → Result Kind Fault
kind_named number = cond (eqb number 1) (Ok kinds.Transaction) (cond (eqb number 2) (Ok kinds.PowerCycle) (cond (eqb number 3) (Ok kinds.Fresh) (Err Strange)))

-- kind 3: the part, and an n of 10 to 15 though larger chips exist
unfoldable pub fresh_entry : Make → Result Entry Fault
fresh_entry m = cond (not (known_part m.part)) (Err Chip) (cond (ltb m.n 10) (Err Chip) (cond (ltb 15 m.n) (Err Chip) (Ok (Fresh m))))

-- kinds 1, 2 and 3, each with the payload that it takes; a bad record names its fault (D51)
unfoldable pub entry_for : ℕ → List ℕ → Result Entry Fault
entry_for kind payload =
    cond (eqb kind 1) (cond (ltb 4096 (length payload)) (Err Samples) (Ok Transaction))
    (cond (eqb kind 2) (cond (eqb (length payload) 0) (Ok PowerCycle) (Err Power))
    (cond (eqb kind 3) (cond (eqb (length payload) 2) (fresh_entry (record { part = get_or payload 0 0; n = get_or payload 1 0 })) (Err Chip)) (Err Strange)))

abbrev pub found : Result Entry Fault → ℕ → ℕ → Found
found entry from next = record { entry = entry; from = from; next = next }

-- the bytes between two places
abbrev pub between : List ℕ → ℕ → ℕ → List ℕ
between tape from next = take (next - from) (drop from tape)

-- WHAT STANDS AT A PLACE: nothing at the end of the tape, a record that is cut short, or a whole one
unfoldable pub found_of : List ℕ → ℕ → Result (Option Found) Fault
found_of tape at =
    let from = at + 4 in
    let next = from + word_at tape at in
    cond (leb (length tape) at) (Ok None)
    (cond (ltb (length tape - at) 4) (Err Cut)
    (cond (ltb (length tape - at - 4) (word_at tape at)) (Err Cut)
    (Ok (Some (found (entry_for (word_at tape (at + 2)) (between tape from next)) from next)))))

-- the payload of a whole record
abbrev pub payload_of : List ℕ → Result (Option Found) Fault → List ℕ
payload_of tape (Err fault) = []
payload_of tape (Ok None) = []
payload_of tape (Ok (Some f)) = between tape f.from f.next
