-- REACHED: the samples that leave given facts, phase by phase, the last one first. Document 02, P1.
-- Assumes nothing.
use Rattle.std.specs.Prelude.{◌≡◌, refl, ℕ, ◌-◌, ◌*◌, ◌/◌, ◌^◌, ◌<◌, ◌≤◌, Bool, false, cond, leb, replicate}
use Rattle.std.proofs.Math.Path.{sym, ap}
use Rattle.std.proofs.Common.{◌∙◌, le_refl, arith}
use Rattle.std.proofs.Math.Bool.{true}
use mathlib.Core.List.{List, [], ◌∷◌, ◌++◌}
use Rattle.std.proofs.Math.ListN.{length, take, drop, length-append, drop_of_length-le}
use Rattle.std.proofs.lemmas.List.{length-replicate}
use Rattle.std.proofs.Math.Seq.{take_all, take_at, drop_at, drop-nil}
use borrow.Author.Tests.{leb-true, leb-false, le-leb, lt-leb, lt-ltb, le-ltb}
use Rattle.basis.specs.Truth.{both_true, or_right}
use Rattle.units.specs.declared.Clocks.{Clocks}
use Rattle.units.specs.declared.Wires.{Wires}
use Rattle.units.specs.declared.Wires.TheVariants.{One, Two, Four}
use Rattle.units.specs.Units.{clocks, bytes, less, up_to, at_most, longest, wires_of, per_byte, whole_of, unfinished_of}
use Rattle.wires.specs.Bits.{gather_from, gather, fits_in, spelled}
use Rattle.wires.proofs.Laws.{fits_lt, fits_none, gather_spread, spread_length}
use Rattle.parts.specs.Parts.{family_of}
use Rattle.kinds.specs.declared.Kind.{Kind}
use Rattle.kinds.specs.declared.Kind.TheVariants.{Unknown}
use Rattle.opcodes.specs.Opcodes.{kind_of}
use Rattle.commands.specs.declared.plans.Body.{Body}
use Rattle.commands.specs.declared.plans.Body.TheVariants.{Nothing, FixedRead, AnyRead, FixedWrite, AnyWrite}
use Rattle.record.specs.declared.devices.Underway.{Underway}
use Rattle.record.specs.declared.devices.Setting.{Setting}
use Rattle.state_check.specs.States.{zeros}
use Rattle.state_check.specs.StateLaws.{zeros_all}
use Rattle.paper.specs.InForce.{asleep_for, stopped, decided, command_clocks, wires_for, address_clocks, wait_clocks, body_for}
use Rattle.paper.specs.Reading.{first, after, many, kind_read, address_read, data_part, data_of, reading_of, bytes_in, data_bytes}
use Rattle.paper.specs.Underway.{kind_at, counts_at, spelling, begun_in, kept_in, number_reached, reached}
use Rattle.paper.specs.Storing.{value_byte, take_each}
use Rattle.paper.specs.Transaction.{sampled, sent_bytes, facts_of}
use Rattle.paper.specs.Meanwhile.{pending_in, underway_of}
use Rattle.paper.specs.Laws.{still}
use Rattle.machine_bridge.proofs.Phases.{data_nil}
use Rattle.machine_chunks.specs.Laws.{data_some}
use Rattle.demand_1_2.specs.Sent.{bytewise, sampled_append, sampled_silent, sampled_spread}
use Rattle.chunks.specs.Standing.{data_left, read_number}
use Rattle.chunks.specs.Kept.{byte_bits, address_bits}
use Rattle.chunks.specs.Typed.{Typed}
use Rattle.chunks.specs.DataReached.{DataFor, data_for, fixed_few}

-- the value that the samples leave, from the data on and from the address on
abbrev data_value : Setting → Kind → ℕ → List ℕ → List ℕ
data_value s k a xs =
    let b = body_for s k a in
    let w = wires_for s k in
    take_each (value_byte b) 0 (data_bytes w (data_part b w xs)) (replicate 8 0)

abbrev read_value : Setting → Kind → List ℕ → List ℕ
read_value s k xs =
    let a = address_read s k (first (address_clocks s k) xs) in
    data_value s k a (after (wait_clocks s k a) (after (address_clocks s k) xs))

empty : (xs : List ℕ) → length xs ≡ 0 → xs ≡ []
empty [] h = refl
empty (x ∷ xs) h = absurd (omega arith)

-- ---- from the wait on
record WaitFor (s : Setting) (k : Kind) (a t n : ℕ) (v : List ℕ) : Type 0 where
  samples : List ℕ
  long : length samples ≡ t
  levels : sampled samples ≡ true
  number : data_left s k a (after (wait_clocks s k a) samples) ≡ n
  value : data_value s k a (after (wait_clocks s k a) samples) ≡ v

module _ (s : Setting) (k : Kind) (a t n : ℕ) (v : List ℕ) where
  abbrev c : ℕ
  c = (wait_clocks s k a).0

  waiting : (xs : List ℕ) → sampled xs ≡ true → length xs ≡ t → (x : DataFor (body_for s k a) (wires_for s k) (t - c) n v) → drop c xs ≡ x.samples → WaitFor s k a t n v
  waiting xs i h x e = record { samples = xs; long = h; levels = i; number = ap (data_left s k a) e ∙ x.number; value = ap (data_value s k a) e ∙ x.value }

  wait_for : DataFor (body_for s k a) (wires_for s k) (t - c) n v → WaitFor s k a t n v
  wait_for x = by (leb c t) refl
    where
      by : (b : Bool) → leb c t ≡ b → WaitFor s k a t n v
      by true e =
          let h = leb-true c t e in
          let l = x.long in
          waiting (replicate c 0 ++ x.samples) (sampled_append (replicate c 0) x.samples (sampled_silent c) x.levels)
          (length-append (replicate c 0) x.samples ∙ rw length-replicate (omega arith)) x (drop_at (replicate c 0) x.samples c (length-replicate c 0))
      by false e =
          let h = leb-false c t e in
          let l = x.long in
          waiting (replicate t 0) (sampled_silent t) (length-replicate t 0) x
          (drop_of_length-le (replicate t 0) {i = c} (rw length-replicate (omega arith)) ∙ sym (empty x.samples (omega arith)))

-- ---- from the address on
record AddressFor (s : Setting) (k : Kind) (t a n : ℕ) (v : List ℕ) : Type 0 where
  samples : List ℕ
  long : length samples ≡ t
  levels : sampled samples ≡ true
  address : address_read s k (first (address_clocks s k) samples) ≡ a
  number : read_number s k samples ≡ n
  value : read_value s k samples ≡ v

-- of no clocks no byte comes
no_bytes : (w : Wires) → 0 / per_byte w ≡ 0
no_bytes One = refl
no_bytes Two = refl
no_bytes Four = refl

no_value : (s : Setting) (k : Kind) (a : ℕ) → data_value s k a [] ≡ replicate 8 0
unfolding take_each data_bytes bytes_in
no_value s k a = rw (data_nil (body_for s k a) (wires_for s k), no_bytes (wires_for s k))

module _ (s : Setting) (k : Kind) (t a n : ℕ) (v : List ℕ) where
  abbrev w : Wires
  w = wires_for s k

  abbrev m : ℕ
  m = (address_clocks s k).0

  -- the address is whole
  address_whole : m ≤ t → a < 2 ^ (wires_of w * m) → WaitFor s k a (t - m) n v → AddressFor s k t a n v
  unfolding address_read
  address_whole h f x =
      let xs = spelled w m a in
      let e = spread_length w m a in
      let i = take_at xs x.samples m e in
      let j = drop_at xs x.samples m e in
      let g = gather_spread w m a (address_bits s k m (le_refl m)) f in
      let l = x.long in
      record {
        samples = xs ++ x.samples;
        long = length-append xs x.samples ∙ rw e (omega arith);
        levels = sampled_append xs x.samples (sampled_spread w m a) x.levels;
        address = rw (i, e, le-leb m m (le_refl m), g);
        number = rw (i, j, e, le-leb m m (le_refl m), g) x.number;
        value = rw (i, j, e, le-leb m m (le_refl m), g) x.value;
      }

  -- or is cut
  address_cut : t < m → n < 2 ^ (wires_of w * t) → a ≡ 0 → v ≡ replicate 8 0 → AddressFor s k t a n v
  unfolding address_read
  address_cut h f z y =
      let xs = spelled w t n in
      let e = spread_length w t n in
      let i : take m xs ≡ xs = take_all m xs (rw e (omega arith)) in
      let j : drop m xs ≡ [] = drop_of_length-le xs {i = m} (rw e (omega arith)) in
      record {
        samples = xs;
        long = e;
        levels = sampled_spread w t n;
        address = rw (i, e, lt-leb m t h) (sym z);
        number = rw (i, e, lt-leb m t h) (gather_spread w t n (address_bits s k t (omega arith)) f);
        value = rw (i, j, e, lt-leb m t h, drop-nil (wait_clocks s k 0).0) (no_value s k 0 ∙ sym y);
      }

-- ---- the clocks of each phase, cut or whole
up_whole : (most c : Clocks) → most.0 ≤ c.0 → up_to most c ≡ most
up_whole most c h = rw (le-ltb c.0 most.0 h)

up_cut : (most c : Clocks) → c.0 < most.0 → up_to most c ≡ c
up_cut most c h = rw (lt-ltb c.0 most.0 h)

-- clocks of which none is left bring no data
none_left : (b : Body) (w : Wires) (c : Clocks) → c.0 ≡ 0 → data_of b w c ≡ clocks 0
none_left b w c h = let k = data_some b w c in let q : (data_of b w c).0 ≡ 0 = omega arith in ap clocks q

-- without a byte none is kept, and none is begun
kept_none : (b : Body) → (kept_in b (bytes 0)).0 ≡ 0
kept_none Nothing = refl
kept_none (FixedRead m) = refl
kept_none AnyRead = refl
kept_none (FixedWrite m) = refl
kept_none AnyWrite = refl

-- THE SAMPLES that leave the facts
pub record Reach (s : Setting) (u : Underway) : Type 0 where
  pub samples : List ℕ
  pub few : length samples ≤ 65535
  pub levels : sampled samples ≡ true
  pub facts : underway_of s samples ≡ u

abbrev facts_from : Clocks → ℕ → ℕ → ℕ → List ℕ → Underway
facts_from c o a n v = record { selected = true; clocks = c; opcode = o; address = a; number = n; value = v }

-- a command that is whole, and what comes after it
command_whole : (s : Setting) (xs ys : List ℕ) (o : ℕ) → length xs ≡ (command_clocks s).0 → gather s.wires xs ≡ o
    → let k = kind_of (family_of s.part) s.wires o in
    underway_of s (xs ++ ys) ≡ facts_from (many (xs ++ ys)) o (address_read s k (first (address_clocks s k) ys)) (read_number s k ys) (read_value s k ys)
unfolding underway_of pending_in reading_of facts_of sent_bytes kind_read
command_whole s xs ys o e g =
    rw (take_at xs ys (command_clocks s).0 e, drop_at xs ys (command_clocks s).0 e, e, le-leb (command_clocks s).0 (command_clocks s).0 (le_refl (command_clocks s).0), g)

-- a command that is cut has no kind, so no address and no data
module _ (s : Setting) (a : ℕ) where
  no_address : address_clocks s Unknown ≡ clocks 0
  unfolding address_clocks stopped
  no_address = rw (or_right (asleep_for s Unknown) true refl)

  no_body : body_for s Unknown a ≡ Nothing
  unfolding body_for decided stopped
  no_body = rw (or_right (asleep_for s Unknown) true refl)

command_cut : (s : Setting) (xs : List ℕ) → length xs < (command_clocks s).0 → underway_of s xs ≡ facts_from (many xs) 0 0 (gather s.wires xs) (replicate 8 0)
unfolding underway_of pending_in reading_of facts_of sent_bytes kind_read address_read gather_from
command_cut s xs h =
    let c = (command_clocks s).0 in
    rw (take_all c xs (omega arith), lt-leb c (length xs) h, no_address s 0, no_body s 0)
    (ap (facts_from (many xs) 0 0 (gather s.wires xs)) (still (value_byte Nothing) (λ i x t. refl) _ 0 (replicate 8 0)))

-- FROM THE ADDRESS ON, whatever passes
module _ (s : Setting) (k : Kind) (t : Clocks) (a n : ℕ) (v : List ℕ) (places : length v ≡ 8) (octets : bytewise v ≡ true) where
  abbrev b : Body
  b = body_for s k a

  abbrev w' : Wires
  w' = wires_for s k

  abbrev most : Clocks
  most = address_clocks s k

  abbrev left : Clocks
  left = less (less t most) (wait_clocks s k a)

  address_for : fits_in w' (spelling most (up_to most t)) a ≡ true
      → cond (at_most most (up_to most t)) (fits_in w' (begun_in b (unfinished_of w' (data_of b w' left))) n) (fits_in w' (up_to most t) n) ≡ true
      → zeros (drop (kept_in b (whole_of w' (data_of b w' left))).0 v) ≡ true → AddressFor s k t.0 a n v
  address_for f g z = by (leb most.0 t.0) refl
    where
      by : (q : Bool) → leb most.0 t.0 ≡ q → AddressFor s k t.0 a n v
      by true e =
          let h = leb-true most.0 t.0 e in
          let f' = rw (up_whole most t h, le-leb most.0 most.0 (le_refl most.0)) at f in
          let g' = rw (up_whole most t h, le-leb most.0 most.0 (le_refl most.0)) at g in
          address_whole s k t.0 a n v h (fits_lt w' most a f')
          (wait_for s k a (t.0 - most.0) n v (data_for b w' left.0 n v (fixed_few s k a) places octets g' z))
      by false e =
          let h = leb-false most.0 t.0 e in
          let f' = rw (up_cut most t h, lt-leb most.0 t.0 h) at f in
          let g' = rw (up_cut most t h, lt-leb most.0 t.0 h) at g in
          let d = none_left b w' left (omega arith) in
          let z' = rw (d, no_bytes w', kept_none b) at z in
          address_cut s k t.0 a n v h (fits_lt w' t n g') (fits_none w' a f') (zeros_all v 8 places z')

-- a command has the bits of a byte
command_bits : (s : Setting) (n : ℕ) → n ≤ (command_clocks s).0 → wires_of s.wires * n ≤ 24
unfolding command_clocks
command_bits s n h = byte_bits s.wires n h

-- THE WHOLE
module _ (s : Setting) (u : Underway) (typed : Typed u) (selected : u.selected ≡ true) (ok : reached s u ≡ true) where
  abbrev whole : Clocks
  whole = command_clocks s

  abbrev kind : Kind
  kind = kind_of (family_of s.part) s.wires u.opcode

  same : facts_from u.clocks u.opcode u.address u.number u.value ≡ u
  same = ap (λ (b : Bool). record { selected = b; clocks = u.clocks; opcode = u.opcode; address = u.address; number = u.number; value = u.value }) (sym selected)

  -- the command is cut
  cut_kind : u.clocks.0 < whole.0 → kind_at s u ≡ Unknown
  unfolding kind_at
  cut_kind h = rw (lt-leb whole.0 u.clocks.0 h)

  none_from : up_to (clocks 0) (less u.clocks whole) ≡ clocks 0
  none_from = up_whole (clocks 0) (less u.clocks whole) (omega arith)

  reach_cut : u.clocks.0 < whole.0 → Reach s u
  unfolding reached counts_at number_reached
  reach_cut h =
      let r = rw (cut_kind h, up_cut whole u.clocks h, lt-leb whole.0 u.clocks.0 h, no_address s 0, no_body s u.address, none_from) at ok in
      let b₁ = both_true (at_most u.clocks longest) _ r in
      let b₂ = both_true (fits_in s.wires (clocks 0) u.opcode) _ b₁.1 in
      let b₃ = both_true (fits_in (wires_for s Unknown) (clocks 0) u.address) _ b₂.1 in
      let b₄ = both_true (fits_in s.wires u.clocks u.number) _ b₃.1 in
      let t = u.clocks.0 in
      let xs = spelled s.wires t u.number in
      let e = spread_length s.wires t u.number in
      let g = gather_spread s.wires t u.number (command_bits s t (omega arith)) (fits_lt s.wires u.clocks u.number b₄.0) in
      let v = zeros_all u.value 8 typed.places b₄.1 in
      record {
        samples = xs;
        few = rw e (leb-true t 65535 b₁.0);
        levels = sampled_spread s.wires t u.number;
        facts =
            command_cut s xs (rw e h)
            ∙ rw (e, g) (ap (λ (n : ℕ). facts_from u.clocks n 0 u.number (replicate 8 0)) (sym (fits_none s.wires u.opcode b₂.0))
            ∙ ap (λ (n : ℕ). facts_from u.clocks u.opcode n u.number (replicate 8 0)) (sym (fits_none (wires_for s Unknown) u.address b₃.0))
            ∙ ap (facts_from u.clocks u.opcode u.address u.number) (sym v) ∙ same);
      }

  -- the command is whole
  whole_kind : whole.0 ≤ u.clocks.0 → kind_at s u ≡ kind
  unfolding kind_at
  whole_kind h = rw (le-leb whole.0 u.clocks.0 h)

  reach_whole : whole.0 ≤ u.clocks.0 → Reach s u
  unfolding reached counts_at number_reached
  reach_whole h =
      let r = rw (whole_kind h, up_whole whole u.clocks h, le-leb whole.0 whole.0 (le_refl whole.0)) at ok in
      let b₁ = both_true (at_most u.clocks longest) _ r in
      let b₂ = both_true (fits_in s.wires whole u.opcode) _ b₁.1 in
      let b₃ = both_true (fits_in (wires_for s kind) (spelling (address_clocks s kind) (up_to (address_clocks s kind) (less u.clocks whole))) u.address) _ b₂.1 in
      let t = less u.clocks whole in
      let m = address_clocks s kind in
      let y = wires_for s kind in
      let d = body_for s kind u.address in
      let b₄ = both_true (cond (at_most m (up_to m t)) (fits_in y (begun_in d (unfinished_of y (data_of d y (less (less t m) (wait_clocks s kind u.address))))) u.number) (fits_in y (up_to m t) u.number)) _ b₃.1 in
      let x = address_for s kind (less u.clocks whole) u.address u.number u.value typed.places typed.bytes b₃.0 b₄.0 b₄.1 in
      let o = spelled s.wires whole.0 u.opcode in
      let e = spread_length s.wires whole.0 u.opcode in
      let g = gather_spread s.wires whole.0 u.opcode (command_bits s whole.0 (le_refl whole.0)) (fits_lt s.wires whole u.opcode b₂.0) in
      let l = x.long in
      let j : length (o ++ x.samples) ≡ u.clocks.0 = length-append o x.samples ∙ rw e (omega arith) in
      record {
        samples = o ++ x.samples;
        few = rw j (leb-true u.clocks.0 65535 b₁.0);
        levels = sampled_append o x.samples (sampled_spread s.wires whole.0 u.opcode) x.levels;
        facts =
            command_whole s o x.samples u.opcode e g
            ∙ ap (λ (n : ℕ). facts_from (clocks n) u.opcode (address_read s kind (first m x.samples)) (read_number s kind x.samples) (read_value s kind x.samples)) j
            ∙ ap (λ (a : ℕ). facts_from u.clocks u.opcode a (read_number s kind x.samples) (read_value s kind x.samples)) x.address
            ∙ ap (λ (n : ℕ). facts_from u.clocks u.opcode u.address n (read_value s kind x.samples)) x.number
            ∙ ap (facts_from u.clocks u.opcode u.address u.number) x.value
            ∙ same;
      }

  pub reach : Reach s u
  reach = by (leb whole.0 u.clocks.0) refl
    where
      by : (b : Bool) → leb whole.0 u.clocks.0 ≡ b → Reach s u
      by true e = reach_whole (leb-true _ _ e)
      by false e = reach_cut (leb-false _ _ e)
