-- Write episodes: what they are, what they touch, and what demand 3 says of them. Document 01, "What the promises have to nail", last sentence, and the user's demand 3.
use Rattle.std.specs.Prelude.{◌≡◌, ℕ, ◌≤◌, true, false, length, get_or}
use mathlib.Core.List.{List, [], ◌∷◌, map, Mem}
use Rattle.units.specs.Units.{at_most, longest}
use Rattle.parts.specs.declared.Family.TheVariants.{Mram, Psram}
use Rattle.parts.specs.Parts.{family_of}
use Rattle.kinds.specs.declared.Control.TheVariants.{WriteEnable}
use Rattle.kinds.specs.declared.WriteForm.{WriteForm}
use Rattle.kinds.specs.declared.Target.TheVariants as Into
use Rattle.kinds.specs.declared.Kind.TheVariants.{Plain, Write}
use Rattle.counts.specs.declared.Counts.{Counts}
use Rattle.record.specs.declared.answers.Answer.{Answer}
use Rattle.record.specs.declared.answers.Answer.TheVariants.{Done}
use Rattle.record.specs.declared.devices.Device.{Device}
use Rattle.record.specs.declared.devices.Setting.{Setting}
use Rattle.record.specs.Devices.{setting_of}
use Rattle.paper.specs.Underway.{valid_of}
use Rattle.places.specs.Places.{write_place}
use Rattle.places.specs.Protection.{protected_of}
use Rattle.paper.specs.InForce.{wires_for, refused_at}
use Rattle.paper.specs.Reading.{many, reading_of, data_bytes}
use Rattle.paper.specs.Storing.{Lent}
use Rattle.paper.specs.Transaction.{World, sized_for, sampled, undriven, over, transact_of}
use Rattle.demand_3.specs.Steps.{run_all, Every}
use Rattle.demand_3.specs.Bursts.{Burst, places_of, left_at}

-- ---- calls one after the other
-- a chip with all that is lent to it, and a call: the samples, and the output that is lent for them
pub record Chip : Type 0 where
  pub device : Device
  pub lent : Lent

pub record Call : Type 0 where
  pub samples : List ℕ
  pub room : List ℕ

-- what a call gives back: the answer with its five counts, and the output
pub record Reply : Type 0 where
  pub answer : Answer
  pub counts : Counts
  pub output : List ℕ

-- a call is one transaction of the paper
abbrev pub called : Chip → Call → World
called c x = transact_of c.device c.lent x.samples x.room

abbrev pub leaves : World → Chip
leaves w = record { device = w.device; lent = w.lent }

abbrev pub says : World → Reply
says w = record { answer = w.answer; counts = w.counts; output = w.output }

-- the chip after calls, and what each of them gave back
unfoldable pub after_calls : Chip → List Call → Chip
after_calls c [] = c
after_calls c (x ∷ xs) = after_calls (leaves (called c x)) xs

unfoldable pub replies : Chip → List Call → List Reply
replies c [] = []
replies c (x ∷ xs) = says (called c x) ∷ replies (leaves (called c x)) xs

-- ---- what is clocked, and what is lent for it
-- the samples of calls: what a driver decides, while the buffers are the program's (D66)
abbrev pub samples_of : List Call → List (List ℕ)
samples_of e = map (λ (x : Call). x.samples) e

abbrev pub clocked : List (List Call) → List (List (List ℕ))
clocked k = map samples_of k

-- a buffer with room for the output of every clock, whatever it holds and however much longer it is
abbrev pub Roomy : Call → Type 0
Roomy x = at_most (many x.samples) (many x.room) ≡ true

abbrev pub RoomFor : List (List Call) → Type 0
RoomFor k = Every (Every Roomy) k

-- the same samples with a buffer of just their clocks
abbrev pub fitted : List ℕ → Call
fitted xs = record { samples = xs; room = undriven xs }

-- ---- an episode, by its samples
-- a burst as the device reads it off the samples of a memory write
unfoldable pub aimed : Setting → List ℕ → Burst
aimed s xs =
    let p = reading_of s xs in
    record { place = write_place s p.address; shut = protected_of s; sent = data_bytes (wires_for s p.kind) p.data_part }

-- a memory write, by any of its opcodes, with an address that 7 does not refuse and at least one whole data byte, that 1 and 2 do not refuse (D34)
pub record MemoryWrite (s : Setting) (xs : List ℕ) : Type 0 where
  pub few : at_most (many xs) longest ≡ true
  pub levels : sampled xs ≡ true
  pub way : WriteForm
  pub kind : (reading_of s xs).kind ≡ Write (Into.Memory way)
  pub reach : refused_at s (reading_of s xs).kind (reading_of s xs).address ≡ false
  pub some : 1 ≤ length (aimed s xs).sent

-- a write enable that is answered 0 (D33)
pub record Enabling (c : Chip) (xs : List ℕ) : Type 0 where
  pub kind : (reading_of (setting_of c.device) xs).kind ≡ Plain WriteEnable
  pub done : (called c (fitted xs)).answer ≡ Done

-- on the MRAM a write enable answered 0 and then the memory write
pub record OnMram (c : Chip) (en wr : List ℕ) : Type 0 where
  pub family : family_of (setting_of c.device).part ≡ Mram
  pub enable : Enabling c en
  pub write : MemoryWrite (setting_of c.device) wr

-- on the PSRAM the memory write alone
pub record OnPsram (c : Chip) (wr : List ℕ) : Type 0 where
  pub family : family_of (setting_of c.device).part ≡ Psram
  pub write : MemoryWrite (setting_of c.device) wr

-- AN EPISODE: two transactions on the MRAM, one on the PSRAM (D67)
abbrev pub Episode : Chip → List (List ℕ) → Type 0
Episode c [] = ⊥
Episode c (wr ∷ []) = OnPsram c wr
Episode c (en ∷ wr ∷ []) = OnMram c en wr
Episode c (x ∷ y ∷ z ∷ l) = ⊥

-- ---- what it touches
-- its burst: that of its last transaction
abbrev pub burst_of : Setting → List (List ℕ) → Burst
burst_of s [] = aimed s []
burst_of s (x ∷ []) = aimed s x
burst_of s (x ∷ y ∷ l) = burst_of s (y ∷ l)

abbrev pub touched : Setting → List (List ℕ) → List ℕ
touched s f = places_of (burst_of s f)

-- no place is touched by both
abbrev pub Apart : Setting → List (List ℕ) → List (List ℕ) → Type 0
Apart s f g = (a : ℕ) → Mem a (touched s f) → Mem a (touched s g) → ⊥

-- ---- a list of episodes (D35)
abbrev pub runs : Chip → List (List Call) → Chip
runs c k = run_all (λ e z. after_calls z e) c k

unfoldable pub all_replies : Chip → List (List Call) → List (List Reply)
all_replies c [] = []
all_replies c (e ∷ k) = replies c e ∷ all_replies (after_calls c e) k

-- a reply in a longer buffer: over the clocks what was driven, and past them what the buffer held
abbrev pub widened : List Call → List Reply → List Reply
widened [] rs = []
widened (x ∷ e) [] = []
widened (x ∷ e) (r ∷ rs) = record { answer = r.answer; counts = r.counts; output = over r.output x.room } ∷ widened e rs

-- what an episode gets when it is made alone, with buffers of just its clocks; as its own buffers show it
unfoldable pub alone : Chip → List Call → List Reply
alone c e = widened e (replies c (map fitted (samples_of e)))

-- an awake device in a valid state with no transaction open, and what is lent has its size
pub record Ready (c : Chip) : Type 0 where
  pub sized : sized_for c.device c.lent ≡ true
  pub valid : valid_of c.device ≡ true
  pub idle : c.device.underway.selected ≡ false
  pub awake : c.device.volatile.asleep ≡ false

-- ---- THE PROMISE, for two programs whose calls clock the same episodes in two orders, each with any buffers that have the room (D66)
pub record AnyOrder (c : Chip) (k₁ k₂ : List (List Call)) : Type 0 where
  -- the same record, memory and area
  pub same : runs c k₁ ≡ runs c k₂
  -- in either order each episode gets the answers and counts that it gets alone, and drives the same over its clocks; past them each buffer keeps its own
  pub first : all_replies c k₁ ≡ map (alone c) k₁
  pub second : all_replies c k₂ ≡ map (alone c) k₂
  -- a touched byte holds what its own episode alone stores there: the byte sent last, or the old one where protected
  pub own : (e : List Call) → Mem e k₁ → (a : ℕ) → Mem a (touched (setting_of c.device) (samples_of e))
      → get_or (runs c k₁).lent.memory a 0 ≡ get_or (after_calls c e).lent.memory a 0
  pub left : (e : List Call) → Mem e k₁ → (a : ℕ) → Mem a (touched (setting_of c.device) (samples_of e))
      → get_or (after_calls c e).lent.memory a 0 ≡ left_at (burst_of (setting_of c.device) (samples_of e)) a (get_or c.lent.memory a 0)
  -- all other bytes are old: those of memory that no episode touches, and the area
  pub old : (a : ℕ) → ((f : List (List ℕ)) → Mem f (clocked k₁) → Mem a (touched (setting_of c.device) f) → ⊥)
      → get_or (runs c k₁).lent.memory a 0 ≡ get_or c.lent.memory a 0
  pub size : length (runs c k₁).lent.memory ≡ length c.lent.memory
  pub area : (runs c k₁).lent.area ≡ c.lent.area
