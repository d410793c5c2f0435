-- A transaction, whole: what comes in, what goes out. Document 01, "Answer numbers" and "Reset and power" (D23); document 02, P1 (13).
use Rattle.std.specs.Prelude.{ℕ, Bool, true, cond, not, ◌&&◌, List, [], ◌∷◌, ◌++◌, eqb, ltb, length, drop, replicate}
use Rattle.units.specs.declared.Clocks.{Clocks}
use Rattle.units.specs.Units.{clocks, plus, at_most, longest}
use Rattle.basis.specs.Decisions.{first_of, leading_to}
use Rattle.parts.specs.declared.Family.{Family}
use Rattle.parts.specs.declared.Family.TheVariants.{Mram, Psram}
use Rattle.parts.specs.Parts.{part_of, family_of, known_part, offered, area_of}
use Rattle.commands.specs.declared.plans.Body.{Body}
use Rattle.progress.specs.Progress.{nothing_yet}
use Rattle.counts.specs.declared.Counts.{Counts}
use Rattle.counts.specs.Counts.{no_counts}
use Rattle.record.specs.declared.answers.Answer.{Answer}
use Rattle.record.specs.declared.answers.Answer.TheVariants.{Done, Size, Sample, State, Turn}
use Rattle.record.specs.declared.devices.Underway.{Underway}
use Rattle.record.specs.declared.devices.Device.{Device}
use Rattle.record.specs.declared.devices.Setting.{Setting}
use Rattle.record.specs.Devices.{setting_of, aim_of}
use Rattle.record.specs.Answers.{is_done}
use Rattle.record.specs.Resets.{powered_of}
use Rattle.changes.specs.Changes.{settled_of}
use Rattle.places.specs.Addresses.{memory_size}
use Rattle.paper.specs.InForce.{wires_for, body_for}
use Rattle.paper.specs.Reading.{Reading, reading_of, many, counts_in, data_bytes}
use Rattle.paper.specs.Underway.{valid_of}
use Rattle.paper.specs.Storing.{Lent, store_byte, value_byte, take_each}
use Rattle.paper.specs.Driving.{driven_at, along}
use Rattle.paper.specs.Answers.{Facts, judge}

-- all that a call leaves
pub record World : Type 0 where
  pub answer : Answer
  pub counts : Counts
  pub device : Device
  pub lent : Lent
  pub output : List ℕ

-- ---- the checks before a transaction
-- 1: the part, n, and what is lent
unfoldable pub sized_for : Device → Lent → Bool
sized_for d l =
    let m = d.make in
    let p = part_of m.part in
    known_part m.part && (offered p m.n && (eqb (length l.memory) (memory_size m.n).0 && eqb (length l.area) (area_of p).0))

-- and of a transaction its clocks and its output
unfoldable pub room_for : List ℕ → List ℕ → Bool
room_for xs out = at_most (many xs) longest && at_most (many xs) (many out)

-- 2: every sample is 0 to 15
unfoldable pub sampled : List ℕ → Bool
sampled [] = true
sampled (x ∷ xs) = ltb x 16 && sampled xs

-- ---- what was read, and what it comes to
-- the whole data bytes
unfoldable pub sent_bytes : Setting → Reading → List ℕ
sent_bytes s p = data_bytes (wires_for s p.kind) p.data_part

abbrev pub body_in : Setting → Reading → Body
body_in s p = body_for s p.kind p.address

unfoldable pub facts_of : Setting → Reading → Facts
facts_of s p =
    record { kind = p.kind; address = p.address; tally = record { counts = counts_in p; value = take_each (value_byte (body_in s p)) 0 (sent_bytes s p) nothing_yet.value } }

-- memory and area with the whole data bytes of a burst in them
unfoldable pub stored_by : Setting → Reading → Lent → Lent
stored_by s p l = take_each (store_byte (body_in s p) (aim_of s p.kind p.address)) 0 (sent_bytes s p) l

abbrev pub undriven : List ℕ → List ℕ
undriven xs = replicate (length xs) 0

-- the output of all clocks, given that of the data clocks: before and after them nothing is driven
abbrev pub around : Reading → List ℕ → List ℕ
around p o = undriven p.command_part ++ (undriven p.address_part ++ (undriven p.wait_part ++ (o ++ undriven p.rest_part)))

-- what the clocks drive: the data clocks of a read that is done, and nothing else
unfoldable pub output_of : Device → Lent → Reading → Answer → List ℕ
output_of d l p v =
    around p
    (cond (is_done v) (along (driven_at (body_in (setting_of d) p) d p.kind p.address l) 0 p.data_part) (undriven p.data_part))

-- the output buffer after the clocks: what they drive, and the room past them as it was
unfoldable pub over : List ℕ → List ℕ → List ℕ
over xs out = xs ++ drop (length xs) out

-- A TRANSACTION that has passed the checks
unfoldable pub clocked_of : Device → Lent → List ℕ → List ℕ → World
clocked_of d l xs out =
    let s = setting_of d in
    let p = reading_of s xs in
    let f = facts_of s p in
    let v = judge d f in
    record {
      answer = v;
      counts = f.tally.counts;
      device = settled_of f.kind f.tally.value v d;
      lent = cond (is_done v) (stored_by s p l) l;
      output = over (output_of d l p v) out;
    }

-- a refusal leaves everything as it was
abbrev pub refusal : Device → Lent → List ℕ → Answer → World
refusal d l out v = record { answer = v; counts = no_counts; device = d; lent = l; output = out }

-- THE CHECKS before a call, in their order: the first that fails refuses it, and where all are passed it is made (D54)
abbrev pub guarded : List (Bool × Answer) → (Answer → World) → World → World
guarded cs refuse w = first_of w (leading_to refuse cs)

-- those that each list ends with: 3, and 13 for a call that is untimely, out of turn (document 02, P1)
abbrev pub last_checks : Device → Bool → List (Bool × Answer)
last_checks d untimely = (not (valid_of d), State) ∷ (untimely, Turn) ∷ []

-- of a call with clocks: `fits` tells whether they are few enough and have room
abbrev pub clock_checks : Device → Lent → List ℕ → Bool → Bool → List (Bool × Answer)
clock_checks d l xs fits untimely =
    (not (sized_for d l && fits), Size)
    ∷ (not (sampled xs), Sample)
    ∷ last_checks d untimely

-- and of one without
abbrev pub bare_checks : Device → Lent → Bool → List (Bool × Answer)
bare_checks d l untimely = (not (sized_for d l), Size) ∷ last_checks d untimely

-- a whole transaction and a power cycle want none open
abbrev pub transact_checks : Device → Lent → List ℕ → List ℕ → List (Bool × Answer)
transact_checks d l xs out = clock_checks d l xs (room_for xs out) d.underway.selected

abbrev pub power_checks : Device → Lent → List (Bool × Answer)
power_checks d l = bare_checks d l d.underway.selected

-- ---- and before the calls of a transaction that is fed in chunks. Document 02, P1
-- the clocks that count with those of a chunk: those of the chunks before it, where one is open
abbrev pub so_far : Underway → Clocks
so_far u = cond u.selected u.clocks (clocks 0)

unfoldable pub room_after : Underway → List ℕ → List ℕ → Bool
room_after u xs out = at_most (plus (so_far u) (many xs)) longest && at_most (many xs) (many out)

-- to open wants none open, to feed and to close want one
abbrev pub open_checks : Device → Lent → List (Bool × Answer)
open_checks d l = bare_checks d l d.underway.selected

abbrev pub feed_checks : Device → Lent → List ℕ → List ℕ → List (Bool × Answer)
feed_checks d l xs out = clock_checks d l xs (room_after d.underway xs out) (not d.underway.selected)

abbrev pub close_checks : Device → Lent → List (Bool × Answer)
close_checks d l = bare_checks d l (not d.underway.selected)

-- TRANSACT
unfoldable pub transact_of : Device → Lent → List ℕ → List ℕ → World
transact_of d l xs out = guarded (transact_checks d l xs out) (refusal d l out) (clocked_of d l xs out)

-- POWER CYCLE: what the MRAM stores outlives it, what the PSRAM stores does not
abbrev pub memory_after : Family → List ℕ → List ℕ
memory_after Mram m = m
memory_after Psram m = replicate (length m) 0

abbrev pub powered_up : Device → Lent → World
powered_up d l =
    record {
      answer = Done;
      counts = no_counts;
      device = powered_of d;
      lent = record { memory = memory_after (family_of (part_of d.make.part)) l.memory; area = l.area };
      output = [];
    }

unfoldable pub power_of : Device → Lent → World
power_of d l = guarded (power_checks d l) (refusal d l []) (powered_up d l)
