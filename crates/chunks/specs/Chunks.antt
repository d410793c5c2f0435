-- CHUNKS and MEANWHILE: what `open`, `feed` and `close` come to in the paper's words. Document 02, P1.
-- Assumes nothing.
use Rattle.std.specs.Prelude.{◌≡◌, ℕ, ◌+◌, ◌≤◌, Bool, true, false, eqb, take, drop}
use Rattle.std.proofs.Math.Path.{refl, sym, ap, subst}
use Rattle.std.proofs.Common.{◌∙◌, arith}
use Rattle.std.proofs.Math.Bool.{not}
use mathlib.Core.List.{List, [], ◌∷◌, ◌++◌, append-nil, append_assoc}
use Rattle.std.proofs.Math.ListN.{length, length-append}
use Rattle.std.proofs.Math.Seq.{take_at, drop_at}
use borrow.Author.Tests.{leb-true, le-leb, eqb-true}
use Rattle.basis.specs.Truth.{both_true}
use Rattle.basis.specs.Decisions.{NoneHolds}
use Rattle.parts.specs.declared.Family.{Family}
use Rattle.parts.specs.declared.Family.TheVariants.{Mram, Psram}
use Rattle.parts.specs.Parts.{part_of, family_of}
use Rattle.units.specs.Units.{clocks, at_most}
use Rattle.counts.specs.Counts.{no_counts}
use Rattle.record.specs.declared.answers.Answer.TheVariants.{Done}
use Rattle.record.specs.declared.devices.Underway.{Underway}
use Rattle.record.specs.declared.devices.Device.{Device}
use Rattle.record.specs.Answers.{refuses}
use Rattle.record.specs.Devices.{setting_of}
use Rattle.record.specs.Fields.{no_underway, underway_to, closed_of}
use Rattle.state_check.specs.States.{zeros, valid_for, in_range}
use Rattle.state_check.specs.StateLaws.{zeros_all}
use Rattle.paper.specs.Underway.{factless, underway_valid, valid_of}
use Rattle.paper.specs.Storing.{Lent}
use Rattle.paper.specs.Transaction.{World, sized_for, room_for, room_after, sampled, over, open_checks, feed_checks, close_checks, clocked_of, transact_of}
use Rattle.paper.specs.UnderwayLaws.{valid_range, idle_facts}
use Rattle.paper.specs.CallLaws.{ChunkAccepted}
use Rattle.paper.proofs.CallLaws.{clock_refusing, made_by, passed_by, chunk_accepting, when_accepted}
use Rattle.paper.specs.Meanwhile.{underway_of}
use Rattle.contract_words.specs.Words.{Run, begun}
use Rattle.machine_phases.specs.Machine.{run_of, outs_of}
use Rattle.machine_phases.specs.RunLaws.{outs_append, outs_length, run_append}
use Rattle.machine_chunks.specs.Chunks.{opened_world, open_of, fed_world, feed_of, closed_world, close_of}
use Rattle.demand_1_2.specs.Kept.{SameSize}
use Rattle.demand_1_2.specs.Sent.{sampled_append}
use Rattle.demand_3.specs.Episodes.{Chip, Call, leaves, samples_of}
use Rattle.demand_3.specs.Programs.{joined}
use Rattle.chunks.specs.Feeding.{left, after, fed_on, none_yet, closed_at, driven_at_lem, lent_at}
use Rattle.chunks.specs.Kept.{facts_reached}
use Rattle.chunks.specs.Typed.{Typed}
use Rattle.chunks.specs.Runs.{run_size}

-- ---- the words of the statements
-- a chunk is fed as a call is made: its samples, and the output that is lent for them
abbrev pub fed : Chip → Call → World
fed c x = feed_of c.device c.lent x.samples x.room

-- the chip after chunks, and the output of each
unfoldable pub after_feeds : Chip → List Call → Chip
after_feeds c [] = c
after_feeds c (x ∷ k) = after_feeds (leaves (fed c x)) k

unfoldable pub outputs : Chip → List Call → List (List ℕ)
outputs c [] = []
outputs c (x ∷ k) = (fed c x).output ∷ outputs (leaves (fed c x)) k

-- no check refuses any of them
abbrev pub Unrefused : Chip → List Call → Type 0
Unrefused c [] = Unit {0}
Unrefused c (x ∷ k) = (refuses (fed c x).answer ≡ false) × Unrefused (leaves (fed c x)) k

-- the samples of all chunks, put together
abbrev pub together : List Call → List ℕ
together k = joined (samples_of k)

-- an output shared out among the buffers of chunks: to each what belongs to its clocks, and the room past them as it was
unfoldable pub shared : List Call → List ℕ → List (List ℕ)
shared [] ys = []
shared (x ∷ k) ys = over (take (length x.samples) ys) x.room ∷ shared k (drop (length x.samples) ys)

-- ---- a chunk that is not refused is made
module _ (d : Device) (l : Lent) (xs out : List ℕ) (e : refuses (feed_of d l xs out).answer ≡ false) where
  feed_clear : NoneHolds (feed_checks d l xs out)
  unfolding feed_of
  feed_clear =
      passed_by d l out (feed_checks d l xs out) (fed_world d l xs out) (clock_refusing d l (not d.underway.selected) xs (room_after d.underway xs out)) e

  feed_made : feed_of d l xs out ≡ fed_world d l xs out
  unfolding feed_of
  feed_made = made_by d l out (feed_checks d l xs out) (fed_world d l xs out) feed_clear

  feed_accepted : ChunkAccepted d l xs out
  feed_accepted = chunk_accepting d l xs out feed_clear

-- ---- feeding on from where some samples have come to
module _ (d : Device) (none : d.underway ≡ no_underway) (l : Lent) where
  abbrev at : List ℕ → Chip
  at zs = after d none l zs

  fed_at : (zs : List ℕ) (x : Call) → refuses (fed (at zs) x).answer ≡ false
      → fed (at zs) x
      ≡ record { answer = Done; counts = no_counts; device = (at (zs ++ x.samples)).device; lent = (at (zs ++ x.samples)).lent; output = over (outs_of d (run_of d (begun l) zs) x.samples) x.room }
  fed_at zs x e = feed_made (at zs).device (at zs).lent x.samples x.room e ∙ fed_on d none l zs x.samples x.room

  leaves_at : (zs : List ℕ) (x : Call) → refuses (fed (at zs) x).answer ≡ false → leaves (fed (at zs) x) ≡ at (zs ++ x.samples)
  leaves_at zs x e = ap leaves (fed_at zs x e)

  -- the clocks of all chunks are few, and their samples are levels
  few_on : (zs : List ℕ) (k : List Call) → length zs ≤ 65535 → sampled zs ≡ true → Unrefused (at zs) k
      → (length (zs ++ together k) ≤ 65535) × (sampled (zs ++ together k) ≡ true)
  unfolding joined underway_of
  few_on zs [] h i u = (rw append-nil h, rw append-nil i)
  few_on zs (x ∷ k) h i (e, u) =
      let a = feed_accepted (at zs).device (at zs).lent x.samples x.room e in
      let f = leb-true (length zs + length x.samples) 65535 a.few in
      let n = length-append zs x.samples in
      let q = few_on (zs ++ x.samples) k (omega arith)
      (sampled_append zs x.samples i a.levels)
      (subst (λ (c : Chip). Unrefused c k) (leaves_at zs x e) u) in
      subst (λ (ys : List ℕ). (length ys ≤ 65535) × (sampled ys ≡ true)) (append_assoc zs x.samples (together k)) q

  -- the facts, memory and area are those of all samples
  feeds_at : (zs : List ℕ) (k : List Call) → Unrefused (at zs) k → after_feeds (at zs) k ≡ at (zs ++ together k)
  unfolding joined after_feeds
  feeds_at zs [] u = ap at (sym (append-nil zs))
  feeds_at zs (x ∷ k) (e, u) =
      ap (λ (c : Chip). after_feeds c k) (leaves_at zs x e)
      ∙ feeds_at (zs ++ x.samples) k (subst (λ (c : Chip). Unrefused c k) (leaves_at zs x e) u)
      ∙ ap at (append_assoc zs x.samples (together k))

  -- and the outputs are shares of what all of them drive
  outputs_at : (zs : List ℕ) (k : List Call) (rest : List ℕ) → Unrefused (at zs) k → outputs (at zs) k ≡ shared k (outs_of d (run_of d (begun l) zs) (together k) ++ rest)
  unfolding joined outputs shared
  outputs_at zs [] rest u = refl
  outputs_at zs (x ∷ k) rest (e, u) =
      let r = run_of d (begun l) zs in
      let a = outs_of d r x.samples in
      let b = outs_of d (run_of d r x.samples) (together k) in
      let n = outs_length d r x.samples in
      let whole : outs_of d r (x.samples ++ together k) ++ rest ≡ a ++ (b ++ rest) = ap (λ (ys : List ℕ). ys ++ rest) (outs_append d r x.samples (together k)) ∙ append_assoc a b rest in
      let next : outputs (at (zs ++ x.samples)) k ≡ shared k (b ++ rest) =
      outputs_at (zs ++ x.samples) k rest (subst (λ (c : Chip). Unrefused c k) (leaves_at zs x e) u)
      ∙ ap (λ (q : Run). shared k (outs_of d q (together k) ++ rest)) (run_append d (begun l) zs x.samples) in
      ap (λ (w : World). w.output ∷ outputs (leaves w) k) (fed_at zs x e)
      ∙ ap (λ (o : List (List ℕ)). over a x.room ∷ o) next
      ∙ sym (rw (whole, take_at a (b ++ rest) (length x.samples) n, drop_at a (b ++ rest) (length x.samples) n))

-- ---- the state check of a record with a transaction open
range_same : (u : Underway) (d : Device) → in_range (underway_to u d) ≡ in_range d
unfolding in_range
range_same u d = by (family_of (part_of d.make.part))
  where
    by : (f : Family) → valid_for f (part_of d.make.part) (underway_to u d) ≡ valid_for f (part_of d.make.part) d
    by Mram = refl
    by Psram = refl

underway_valid_lem : (u : Underway) (d : Device) → in_range d ≡ true → underway_valid (setting_of d) u ≡ true → valid_of (underway_to u d) ≡ true
unfolding valid_of
underway_valid_lem u d r v = rw (range_same u d, r) v

pub facts_valid : (d : Device) (xs : List ℕ) → in_range d ≡ true → length xs ≤ 65535 → valid_of (underway_to (underway_of (setting_of d) xs) d) ≡ true
unfolding underway_valid underway_of
facts_valid d xs r h = underway_valid_lem (underway_of (setting_of d) xs) d r (facts_reached (setting_of d) xs h)

pub closed_valid : (d : Device) → valid_of d ≡ true → valid_of (closed_of d) ≡ true
unfolding underway_valid factless zeros
closed_valid d v = underway_valid_lem no_underway d (valid_range d v) refl

pub sized_same : (u : Underway) (d : Device) (l m : Lent) → SameSize l m → sized_for d l ≡ true → sized_for (underway_to u d) m ≡ true
unfolding sized_for
sized_same u d l m (a, b) s = rw (a, b) s

-- ---- a device with none open, and memory and area of its size
pub record Idle (c : Chip) : Type 0 where
  pub sized : sized_for c.device c.lent ≡ true
  pub valid : valid_of c.device ≡ true
  pub none : c.device.underway ≡ no_underway

-- with none open, a record in a valid state has no facts, as the types of the code have them
none_open : (d : Device) → Typed d.underway → valid_of d ≡ true → d.underway.selected ≡ false → d.underway ≡ no_underway
unfolding factless
none_open d t v n =
    let u = d.underway in
    let f = idle_facts d v n in
    let b₁ = both_true (at_most u.clocks (clocks 0)) _ f in
    let b₂ = both_true (eqb u.opcode 0) _ b₁.1 in
    let b₃ = both_true (eqb u.address 0) _ b₂.1 in
    let b₄ = both_true (eqb u.number 0) (zeros u.value) b₃.1 in
    let h = leb-true u.clocks.0 0 b₁.0 in
    let z : u.clocks.0 ≡ 0 = omega arith in
    ap (λ (b : Bool). record { selected = b; clocks = u.clocks; opcode = u.opcode; address = u.address; number = u.number; value = u.value }) n
    ∙ ap (λ (m : ℕ). record { selected = false; clocks = clocks m; opcode = u.opcode; address = u.address; number = u.number; value = u.value }) z
    ∙ ap (λ (m : ℕ). record { selected = false; clocks = clocks 0; opcode = m; address = u.address; number = u.number; value = u.value }) (eqb-true u.opcode 0 b₂.0)
    ∙ ap (λ (m : ℕ). record { selected = false; clocks = clocks 0; opcode = 0; address = m; number = u.number; value = u.value }) (eqb-true u.address 0 b₃.0)
    ∙ ap (λ (m : ℕ). record { selected = false; clocks = clocks 0; opcode = 0; address = 0; number = m; value = u.value }) (eqb-true u.number 0 b₄.0)
    ∙ ap (λ (w : List ℕ). record { selected = false; clocks = clocks 0; opcode = 0; address = 0; number = 0; value = w }) (zeros_all u.value 8 t.places b₄.1)

-- so that sizes, a valid state and none open are enough
pub idle_so : (c : Chip) → sized_for c.device c.lent ≡ true → valid_of c.device ≡ true → c.device.underway.selected ≡ false
    → Typed c.device.underway → Idle c
idle_so c s v n t = record { sized = s; valid = v; none = none_open c.device t v n }

-- the chip once a transaction is opened
abbrev pub opened : Chip → Chip
opened c = leaves (open_of c.device c.lent)

-- OPEN is made where none is open
module _ (d : Device) (l : Lent) where
  open_made : sized_for d l ≡ true → valid_of d ≡ true → d.underway.selected ≡ false → open_of d l ≡ opened_world d l
  unfolding open_of
  open_made s v n = made_by d l [] (open_checks d l) (opened_world d l) (rw s, (rw v, (n, tt)))

  -- and CLOSE where one is
  close_made : sized_for d l ≡ true → valid_of d ≡ true → d.underway.selected ≡ true → close_of d l ≡ closed_world d l
  unfolding close_of
  close_made s v n = made_by d l [] (close_checks d l) (closed_world d l) (rw s, (rw v, (ap not n, tt)))

-- ---- CHUNKS: opened, fed and closed, a transaction comes to what it comes to as a whole, however its clocks are cut
pub record InChunks (c : Chip) (k : List Call) (out : List ℕ) : Type 0 where
  -- the answer, the five counts, the record, memory and area
  pub same : left (close_of (after_feeds (opened c) k).device (after_feeds (opened c) k).lent) ≡ left (transact_of c.device c.lent (together k) out)
  -- each buffer has its share of the whole output, and its room past its clocks as it was
  pub driven : outputs (opened c) k ≡ shared k (transact_of c.device c.lent (together k) out).output
  -- MEANWHILE, before the close: the record is that of the start but for the facts of the samples so far, and memory and area are those that the whole
  -- transaction over these samples leaves: their whole bytes
  pub held : (after_feeds (opened c) k).device ≡ underway_to (underway_of (setting_of c.device) (together k)) c.device
  pub stored : (after_feeds (opened c) k).lent ≡ (transact_of c.device c.lent (together k) out).lent

module _ (c : Chip) (i : Idle c) where
  abbrev d : Device
  d = c.device

  abbrev l : Lent
  l = c.lent

  idle : d.underway.selected ≡ false
  idle = ap (λ (u : Underway). u.selected) i.none

  pub opened_at : opened c ≡ after d i.none l []
  unfolding run_of
  opened_at = ap leaves (open_made d l i.sized i.valid idle) ∙ ap (λ (e : Device). record { device = e; lent = l }) (none_yet d i.none l)

  module _ (k : List Call) (u : Unrefused (opened c) k) where
    from : Unrefused (after d i.none l []) k
    from = subst (λ (z : Chip). Unrefused z k) opened_at u

    abbrev xs : List ℕ
    xs = together k

    fine : (length xs ≤ 65535) × (sampled xs ≡ true)
    unfolding sampled
    fine = few_on d i.none l [] k (omega arith) refl from

    come : after_feeds (opened c) k ≡ after d i.none l xs
    come = ap (λ (z : Chip). after_feeds z k) opened_at ∙ feeds_at d i.none l [] k from

    -- the record meanwhile passes the checks
    valid_so : valid_of (after d i.none l xs).device ≡ true
    valid_so = facts_valid d xs (valid_range d i.valid) fine.0

    sized_so : sized_for (after d i.none l xs).device (after d i.none l xs).lent ≡ true
    sized_so = sized_same (underway_of (setting_of d) xs) d l (after d i.none l xs).lent (run_size d (begun l) xs) i.sized

    module _ (out : List ℕ) (room : length xs ≤ length out) where
      whole : transact_of d l xs out ≡ clocked_of d l xs out
      unfolding room_for
      whole =
          when_accepted d l xs out
          (record { sized = i.sized; room = rw (le-leb (length xs) 65535 fine.0, le-leb (length xs) (length out) room); levels = fine.1; valid = i.valid; turn = idle })

      pub chunks : InChunks c k out
      unfolding over underway_of run_of
      chunks =
          record {
            same =
                ap (λ (z : Chip). left (close_of z.device z.lent)) come
                ∙ ap left (close_made (after d i.none l xs).device (after d i.none l xs).lent sized_so valid_so refl)
                ∙ closed_at d i.none l xs out
                ∙ ap left (sym whole);
            driven =
                ap (λ (z : Chip). outputs z k) opened_at
                ∙ outputs_at d i.none l [] k (drop (length (outs_of d (begun l) xs)) out) from
                ∙ ap (shared k) (sym (driven_at_lem d i.none l xs out) ∙ ap (λ (w : World). w.output) (sym whole));
            held = ap (λ (z : Chip). z.device) come;
            stored = ap (λ (z : Chip). z.lent) come ∙ lent_at d i.none l xs out ∙ ap (λ (w : World). w.lent) (sym whole);
          }
