-- DEMANDS 2 AND 3 FOR TRANSACTIONS FED IN CHUNKS, once closed. The calls are known here by their contracts alone. Document 02, P1, the last sentence before the refusals.
-- Assumes nothing.
use Rattle.std.specs.Prelude.{◌≡◌, refl, ℕ, ◌≤◌, true, length, take, drop, Result, Ok}
use Rattle.std.proofs.Common.{sym, ap, subst, ◌∙◌, le_refl, arith, length-append, length-drop, le-leb, take_at, take-add, take_all, length-take-le}
use mathlib.Core.List.{List, [], ◌∷◌, ◌++◌, map, Permᴰ, Pairwise}
use Rattle.std.proofs.lemmas.List.{length-replicate}
use Rattle.units.specs.declared.Clocks.{Clocks}
use Rattle.units.specs.declared.Bytes.{Bytes}
use Rattle.units.specs.Units.{wires_of}
use Rattle.commands.specs.Plans.{reads}
use Rattle.record.specs.declared.answers.Answer.{Answer}
use Rattle.record.specs.declared.answers.Answer.TheVariants.{Done}
use Rattle.record.specs.declared.devices.Device.{Device}
use Rattle.record.specs.declared.devices.Outcome.{Outcome}
use Rattle.record.specs.Answers.{refuses}
use Rattle.record.specs.Devices.{setting_of}
use Rattle.contract_words.specs.Words.{lends, world_of, outcome_in}
use Rattle.paper.specs.Reading.{first, many}
use Rattle.paper.specs.Storing.{Lent}
use Rattle.paper.specs.Transaction.{World, over, undriven, transact_of}
use Rattle.paper.specs.Building as paper
use Rattle.paper.specs.Building.{Told, build_of}
use Rattle.paper.specs.Collecting.{collect_of}
use Rattle.machine_chunks.specs.Chunks.{open_of, feed_of, close_of}
use Rattle.host_order.specs.declared.Order.{Order}
use Rattle.host_order.specs.Orders.{order_as}
use Rattle.host.specs.Results.{built_as, gathered_as, NeverDone}
use Rattle.demand_1_2.specs.Built.{bytes_driven}
use Rattle.demand_1_2.proofs.Kept.{transact_kept, transact_underway}
use Rattle.demand_1_2.specs.Meant.{Spelled, Meant, Lendable, sent, wires_in, body_meant, bytes_read, faultless}
use Rattle.demand_1_2.specs.Answered.{sent_told}
use Rattle.demand_1_2.specs.Understood.{Understood}
use Rattle.demand_2_driver.specs.Driver.{Driven, served}
use Rattle.demand_3.specs.Steps.{Every}
use Rattle.demand_3.specs.Episodes.{Chip, Call, Reply, leaves, fitted, clocked, Roomy, RoomFor, Episode, Apart, Ready}
use Rattle.demand_3.specs.Programs.{Made, joined, Agree}
use Rattle.demand_3.proofs.Programs.{any_program}
use Rattle.demand_3.specs.Programs.Made.{ended, call}
use Rattle.chunks.specs.Typed.{Typed}
use Rattle.chunks.specs.Feeding.{Left, left}
use Rattle.chunks.specs.Promises.{feed_refused}
use Rattle.chunks.specs.Chunks.{after_feeds, outputs, Unrefused, together, shared, Idle, idle_so, opened, InChunks, chunks}

-- ---- a transaction in chunks that a program made: each call keeps to its contract; the chunks are those that were answered 0
pub data Feeds : Chip → List Call → List (List ℕ) → Chip → Type 0 where
  stopped : {c : Chip} → Feeds c [] [] c
  feed : {c c' : Chip} {x : Call} {k : List Call} {os : List (List ℕ)} (o : Outcome) (memory area output : List ℕ)
      → world_of o memory area output ≡ feed_of c.device c.lent x.samples x.room → o.answer ≡ Done
      → Feeds (record { device = o.device; lent = lends memory area }) k os c'
      → Feeds c (x ∷ k) (output ∷ os) c'
  -- or it was refused: it left everything as it was, and is none of the chunks
  refused : {c c' : Chip} {k : List Call} {os : List (List ℕ)} (x : Call) (o : Outcome) (memory area output : List ℕ)
      → world_of o memory area output ≡ feed_of c.device c.lent x.samples x.room → refuses o.answer ≡ true
      → Feeds (record { device = o.device; lent = lends memory area }) k os c'
      → Feeds c k os c'

pub record Through (c : Chip) (k : List Call) (os : List (List ℕ)) (o : Outcome) : Type 0 where
  pub begin : Outcome
  pub opens : world_of begin c.lent.memory c.lent.area [] ≡ open_of c.device c.lent
  pub last : Chip
  pub feeds : Feeds (record { device = begin.device; lent = c.lent }) k os last
  pub closes : world_of o last.lent.memory last.lent.area [] ≡ close_of last.device last.lent

-- the contract of `feed` leaves no choice
record Fed (c : Chip) (k : List Call) (os : List (List ℕ)) (c' : Chip) : Type 0 where
  ends : after_feeds c k ≡ c'
  gave : outputs c k ≡ os
  calm : Unrefused c k

feeds_end : {c c' : Chip} {k : List Call} {os : List (List ℕ)} → Feeds c k os c' → Fed c k os c'
unfolding after_feeds outputs
feeds_end stopped = record { ends = refl; gave = refl; calm = tt }
feeds_end (feed {c} {c'} {x} {k} {os} o memory area output e n f) =
    let q = feeds_end f in
    record {
      ends = ap (λ (w : World). after_feeds (leaves w) k) (sym e) ∙ q.ends;
      gave = ap (λ (w : World). w.output ∷ outputs (leaves w) k) (sym e) ∙ ap (λ (l : List (List ℕ)). output ∷ l) q.gave;
      calm = (ap (λ (w : World). refuses w.answer) (sym e) ∙ ap refuses n, subst (λ (w : World). Unrefused (leaves w) k) e q.calm);
    }
feeds_end (refused {c} {c'} {k} {os} x o memory area output e n f) =
    let u = feed_refused c.device c.lent x.samples x.room (ap (λ (w : World). refuses w.answer) (sym e) ∙ n) in
    let s : leaves (world_of o memory area output) ≡ c = ap leaves e ∙ rw (u.device, u.lent) in
    subst (λ (z : Chip). Fed z k os c') s (feeds_end f)

-- CHUNKS FOR THE PROGRAM
module _ (c : Chip) (i : Idle c) {k : List Call} {os : List (List ℕ)} {o : Outcome} (t : Through c k os o) where
  opened_so : opened c ≡ record { device = t.begin.device; lent = c.lent }
  opened_so = ap leaves (sym t.opens)

  fed_so : Fed (opened c) k os t.last
  fed_so = subst (λ (z : Chip). Fed z k os t.last) (sym opened_so) (feeds_end t.feeds)

  module _ (out : List ℕ) (room : length (together k) ≤ length out) where
    in_chunks : InChunks c k out
    in_chunks = chunks c i k fed_so.calm out room

    pub ends_so : left (world_of o t.last.lent.memory t.last.lent.area []) ≡ left (transact_of c.device c.lent (together k) out)
    ends_so = ap left t.closes ∙ ap (λ (z : Chip). left (close_of z.device z.lent)) (sym fed_so.ends) ∙ in_chunks.same

    pub outputs_so : os ≡ shared k (transact_of c.device c.lent (together k) out).output
    outputs_so = sym fed_so.gave ∙ in_chunks.driven

-- ---- the outputs of chunks, each over its own clocks, put together
abbrev pub put_together : List Call → List (List ℕ) → List ℕ
put_together [] os = []
put_together (x ∷ k) [] = []
put_together (x ∷ k) (o ∷ os) = take (length x.samples) o ++ put_together k os

put_shared : (k : List Call) (ys : List ℕ) → length (together k) ≤ length ys → put_together k (shared k ys) ≡ take (length (together k)) ys
unfolding shared joined over
put_shared [] ys h = refl
put_shared (x ∷ k) ys h =
    let n = length x.samples in
    let m = length-append x.samples (together k) in
    let d = length-drop n ys in
    let a = take n ys in
    let e : length a ≡ n = length-take-le n ys (omega arith) in
    rw (take_at a (drop (length a) x.room) n e, put_shared k (drop n ys) (omega arith), m) (sym (take-add n (length (together k)) ys))

-- ---- whole again
-- the transaction that chunks make up, with a buffer of just its clocks
abbrev pub whole : List Call → Call
whole k = fitted (together k)

module _ (c : Chip) (i : Idle c) {k : List Call} {os : List (List ℕ)} {o : Outcome} (t : Through c k os o) where
  abbrev w : World
  w = transact_of c.device c.lent (together k) (undriven (together k))

  room_own : length (together k) ≤ length (undriven (together k))
  room_own = rw length-replicate (le_refl (length (together k)))

  kept_own : length w.output ≡ length (together k)
  kept_own = (transact_kept c.device c.lent i.valid i.sized (together k) (undriven (together k))).output ∙ length-replicate (length (together k)) 0

  -- the program's outputs, put together, are the output of the whole
  pub driven_own : put_together k os ≡ w.output
  driven_own =
      ap (put_together k) (outputs_so c i t (undriven (together k)) room_own)
      ∙ put_shared k w.output (rw kept_own (le_refl (length (together k))))
      ∙ take_all (length (together k)) w.output (rw kept_own (le_refl (length (together k))))

  abbrev end : Left
  end = left (world_of o t.last.lent.memory t.last.lent.area [])

  pub left_own : end ≡ left w
  left_own = ends_so c i t (undriven (together k)) room_own

  abbrev chip_own : Chip
  chip_own = record { device = o.device; lent = t.last.lent }

  -- the calls of the whole transaction were made
  pub call_own : world_of o t.last.lent.memory t.last.lent.area (put_together k os) ≡ w
  call_own =
      ap (λ (ys : List ℕ). world_of o t.last.lent.memory t.last.lent.area ys) driven_own
      ∙ ap (λ (z : Left). record { answer = z.answer; counts = z.counts; device = z.device; lent = z.lent; output = w.output }) left_own

  -- and none is open after it
  pub idle_own : Idle chip_own
  idle_own =
      let q = transact_kept c.device c.lent i.valid i.sized (together k) (undriven (together k)) in
      let e : chip_own ≡ leaves w = ap (λ (z : Left). record { device = z.device; lent = z.lent }) left_own in
      subst Idle (sym e)
      (record { sized = q.sized; valid = q.valid; none = transact_underway c.device c.lent (together k) (undriven (together k)) i.valid ∙ i.none })

-- ---- DEMAND 3: transactions fed in chunks, one after the other
pub data MadeInChunks : Chip → List (List Call) → List Reply → Chip → Type 0 where
  over_all : {c : Chip} → MadeInChunks c [] [] c
  through : {c c' : Chip} {k : List Call} {ks : List (List Call)} {rs : List Reply} {os : List (List ℕ)} (o : Outcome) (t : Through c k os o)
      → MadeInChunks (record { device = o.device; lent = t.last.lent }) ks rs c'
      → MadeInChunks c (k ∷ ks) (record { answer = o.answer; counts = o.counts; output = put_together k os } ∷ rs) c'

-- whatever program feeds its transactions in chunks has made the calls of the whole ones
pub made_whole : {c c' : Chip} {ks : List (List Call)} {rs : List Reply} → Idle c → MadeInChunks c ks rs c' → Made c (map whole ks) rs c'
made_whole i over_all = ended
made_whole i (through {c} {c'} {k} {ks} {rs} {os} o t m) =
    call o t.last.lent.memory t.last.lent.area (put_together k os) (call_own c i t) (made_whole (idle_own c i t) m)

-- ---- episodes of transactions of chunks
map_append : (x y : List (List Call)) → map whole (x ++ y) ≡ map whole x ++ map whole y
map_append [] y = refl
map_append (k ∷ x) y = ap (λ (l : List Call). whole k ∷ l) (map_append x y)

map_joined : (e : List (List (List Call))) → map whole (joined e) ≡ joined (map (map whole) e)
unfolding joined
map_joined [] = refl
map_joined (x ∷ e) = map_append x (joined e) ∙ ap (λ (l : List Call). map whole x ++ l) (map_joined e)

whole_roomy : (ks : List (List Call)) → Every Roomy (map whole ks)
whole_roomy [] = tt
whole_roomy (k ∷ ks) = (le-leb (length (together k)) (length (undriven (together k))) (rw length-replicate (le_refl (length (together k)))), whole_roomy ks)

whole_room : (e : List (List (List Call))) → RoomFor (map (map whole) e)
whole_room [] = tt
whole_room (x ∷ e) = (whole_roomy x, whole_room e)

-- DEMAND 3 IN CHUNKS: two programs whose chunks make up the same episodes, in two orders, agree as those do that clock them whole
pub any_chunks : (c : Chip) → Ready c → Typed c.device.underway → (e₁ e₂ : List (List (List Call)))
    → Permᴰ (clocked (map (map whole) e₁)) (clocked (map (map whole) e₂)) → Every (Episode c) (clocked (map (map whole) e₁))
    → Pairwise (Apart (setting_of c.device)) (clocked (map (map whole) e₁))
    → {rs₁ rs₂ : List Reply} {c₁ c₂ : Chip} → MadeInChunks c (joined e₁) rs₁ c₁ → MadeInChunks c (joined e₂) rs₂ c₂
    → Agree c (map (map whole) e₁) (map (map whole) e₂) rs₁ rs₂ c₁ c₂
any_chunks c r t e₁ e₂ order episodes apart {rs₁} {rs₂} {c₁} {c₂} m₁ m₂ =
    let i = idle_so c r.sized r.valid r.idle t in
    any_program c r order (whole_room e₁) (whole_room e₂) episodes apart
    (subst (λ (k : List Call). Made c k rs₁ c₁) (map_joined e₁) (made_whole i m₁))
    (subst (λ (k : List Call). Made c k rs₂ c₂) (map_joined e₂) (made_whole i m₂))

-- ---- DEMAND 2: a driver that hands the device what the host built, in chunks
pub record DrivenInChunks (o : paper.Order) (d : Device) (l : Lent) : Type 0 where
  -- `build`, which was answered 0
  pub room : List ℕ
  pub built : Result Clocks Answer
  pub samples : List ℕ
  pub builds : built_as built samples ≡ build_of o room
  pub clocks : Clocks
  pub done : built ≡ Ok clocks
  -- the samples that it told, cut anywhere, opened, fed and closed
  pub cut : List Call
  pub whole : together cut ≡ first clocks samples
  pub outs : List (List ℕ)
  pub outcome : Outcome
  pub through : Through (record { device = d; lent = l }) cut outs outcome
  -- `gather`, on what the chunks put out
  pub store : List ℕ
  pub gathered : Result Bytes Answer
  pub bytes : List ℕ
  pub gathers : gathered_as gathered bytes ≡ collect_of (wires_of (wires_in o)) (put_together cut outs) store

-- what the driver has then: as much as of the whole transaction
pub record ServedInChunks (o : paper.Order) (d : Device) (l : Lent) (p : DrivenInChunks o d l) : Type 0 where
  pub understood : Understood o d l (together p.cut) (undriven (together p.cut))
  pub answer : faultless p.outcome.answer ≡ true
  pub done : reads (body_meant o) ≡ true → p.outcome.answer ≡ Done
  pub heard : reads (body_meant o) ≡ true → (bytes_driven (body_meant o) o.wanted).0 ≤ length p.store
      → gathered_as p.gathered p.bytes ≡ record { answer = Done; number = bytes_driven (body_meant o) o.wanted; buffer = over (bytes_read o d l) p.store }
  pub gathered : NeverDone p.gathered → reads (body_meant o) ≡ true → (bytes_driven (body_meant o) o.wanted).0 ≤ length p.store → p.gathered ≡ Ok (bytes_driven (body_meant o) o.wanted)

module _ (q : Order) (written : List ℕ) (d : Device) (l : Lent) (sp : Spelled (order_as q written)) (m : Meant (order_as q written) d) (p : DrivenInChunks (order_as q written) d l)
    (i : Idle (record { device = d; lent = l })) where
  abbrev o : paper.Order
  o = order_as q written

  abbrev xs : List ℕ
  xs = together p.cut

  abbrev ran : World
  ran = transact_of d l xs (undriven xs)

  -- as many samples as `build` told
  told_so : many xs ≡ p.clocks
  told_so =
      let told : build_of o p.room ≡ record { answer = Done; number = p.clocks; buffer = p.samples } =
      sym p.builds ∙ ap (λ (r : Result Clocks Answer). built_as r p.samples) p.done in
      ap many (p.whole ∙ ap sent (sym told)) ∙ sent_told o p.room (ap (λ (t : Told Clocks). t.answer) told) ∙ ap (λ (t : Told Clocks). t.number) told

  all_told : first p.clocks ran.output ≡ ran.output
  all_told =
      let h = kept_own _ i p.through in
      let n = ap (λ (c : Clocks). c.0) told_so in
      take_all p.clocks.0 ran.output (omega arith)

  -- the three calls of a driver that clocks the whole
  abbrev as_whole : Driven o d l
  as_whole =
      record {
        room = p.room;
        built = p.built;
        samples = p.samples;
        builds = p.builds;
        clocks = p.clocks;
        done = p.done;
        out = undriven xs;
        outcome = outcome_in ran;
        memory = ran.lent.memory;
        area = ran.lent.area;
        output = ran.output;
        transacts = ap (λ (ys : List ℕ). transact_of d l ys (undriven xs)) p.whole;
        store = p.store;
        gathered = p.gathered;
        bytes = p.bytes;
        gathers = p.gathers ∙ ap (λ (ys : List ℕ). collect_of (wires_of (wires_in o)) ys p.store) (driven_own _ i p.through ∙ sym all_told);
      }

  served_idle : Lendable d l xs (undriven xs) → ServedInChunks o d l p
  served_idle r =
      let s = served q written d l sp m as_whole (subst (λ (ys : List ℕ). Lendable d l ys (undriven xs)) p.whole r) in
      let e : p.outcome.answer ≡ ran.answer = ap (λ (z : Left). z.answer) (left_own _ i p.through) in
      record {
        understood = subst (λ (ys : List ℕ). Understood o d l ys (undriven xs)) (sym p.whole) s.understood;
        answer = ap faultless e ∙ s.answer;
        done = λ z. e ∙ s.done z;
        heard = s.heard;
        gathered = s.gathered;
      }

pub served_in_chunks : (q : Order) (written : List ℕ) (d : Device) (l : Lent)
    → let o = order_as q written in
    Spelled o → Meant o d → Typed d.underway → (p : DrivenInChunks o d l) → Lendable d l (together p.cut) (undriven (together p.cut))
    → ServedInChunks o d l p
served_in_chunks q written d l sp m t p r = served_idle q written d l sp m p (idle_so (record { device = d; lent = l }) r.sized m.valid m.idle t) r
