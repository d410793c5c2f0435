-- DEMAND 3: write episodes that touch no place in common may come in any order. Every order leaves the same record, memory and area and gives each episode the
-- same answers, and each byte holds what its own episode stores. The words of the statement are in Episodes.antt; the theorem is `demand_3`, at the end.
--
-- The proof: an episode moves the latch, the arming and memory, and nothing else (`Moving`); what it does to them (`act`) and what it is told (`told`) depend on the
-- setting and its own samples alone. So a list of episodes is a list of such steps, and steps that touch no place in common commute.
-- Assumes nothing.
use Rattle.std.specs.Prelude.{◌≡◌, Bool, cond, not, ◌&&◌, ℕ, ◌^◌, ◌<◌, ◌≤◌, leb, eqb, length, get_or}
use Rattle.std.proofs.Math.Path.{refl, ap}
use Rattle.std.proofs.Common.{◌∙◌, sym, subst, le_trans, le_refl}
use Rattle.std.proofs.Math.Bool.{true, false}
use Rattle.std.proofs.Math.Logic.{∥∥₁_elim}
use mathlib.Core.List.{List, [], ◌∷◌, map, append-nil, Mem, Memᴰ, Permᴰ, Pairwise, mem-cons_self, mem-cons_of_mem, not-mem-nil}
use mathlib.Core.HLevel.{Π_prop, ⊥_prop}
use Rattle.std.proofs.Math.Nat.{ℕ_set}
use Rattle.std.proofs.Math.Dec.{lit≤}
use Rattle.std.proofs.lemmas.List.{length-replicate}
use Rattle.std.proofs.Math.Seq.{drop-length}
use borrow.Author.Tests.{leb-true, le-leb, eqb-true}
use Rattle.basis.specs.Truth.{both_true, cond_same}
use Rattle.units.specs.declared.Bytes.{Bytes}
use Rattle.parts.specs.declared.Family.{Family}
use Rattle.parts.specs.declared.Family.TheVariants.{Mram, Psram}
use Rattle.parts.specs.declared.Part.{Part}
use Rattle.parts.specs.declared.Part.TheVariants.{M, P, M32}
use Rattle.parts.specs.Parts.{family_of, known_part, least_of, most_of, offered}
use Rattle.kinds.specs.declared.WriteForm.{WriteForm}
use Rattle.kinds.specs.declared.Target.TheVariants as Into
use Rattle.kinds.specs.declared.Kind.TheVariants.{Write}
use Rattle.record.specs.declared.answers.Answer.TheVariants.{Done}
use Rattle.record.specs.declared.devices.Device.{Device}
use Rattle.record.specs.declared.devices.Setting.{Setting}
use Rattle.record.specs.Devices.{setting_of}
use Rattle.changes.specs.Latches.{write_mode, latch_needed, latch_missing, after_burst}
use Rattle.state_check.specs.States.{mram_volatile, psram_volatile, psram_registers, psram_identity, mode_allowed, psram_valid, valid_for, in_range}
use Rattle.paper.specs.Underway.{valid_of}
use Rattle.paper.specs.UnderwayLaws.{valid_range, idle_facts, idle_valid}
use Rattle.paper.specs.Transaction.{World, sized_for, undriven, over}
use Rattle.demand_3.specs.Steps.{run_all, Every, every_one, every_order, mem_map, any_order}
use Rattle.demand_3.specs.Bursts.{Burst, store_from, store, places_from, places_of, shut_all, left_at, landed}
use Rattle.demand_3.proofs.BurstLaws.{bursts_commute, store_length, store_left, store_kept, store_shut, places_below}
use Rattle.demand_3.specs.Within.{write_below}
use Rattle.demand_3.specs.Episodes.{Chip, Call, called, leaves, says, after_calls, replies, samples_of, clocked, Roomy, RoomFor, fitted, aimed, MemoryWrite, Enabling, Episode, burst_of, touched, Apart, runs, all_replies, widened, alone, Ready, AnyOrder}
use Rattle.demand_3.specs.Calls.{quietly, relatch, world_at}
use Rattle.demand_3.proofs.Calls.{write_call}
use Rattle.demand_3.proofs.Steady.{enable_call}
use Rattle.demand_3.specs.Demand3.{Fits, Moving, act, answer_to, chip_at, risen, told}

valid_moved : (g : Family) (p : Part) (d : Device) (latch armed latch' armed' : Bool) → valid_for g p (relatch d latch armed) ≡ true → Fits g latch' → valid_for g p (relatch d latch' armed') ≡ true
unfolding mram_volatile psram_volatile
valid_moved Mram p d latch armed latch' armed' v f = v
valid_moved Psram p d latch armed latch' armed' v f =
    let x = both_true (psram_registers d.registers) _ v in
    let y = both_true (psram_volatile (relatch d latch armed).volatile) (psram_identity d.identity) x.1 in
    let z = both_true (not latch) (not d.volatile.asleep && mode_allowed Psram d.volatile.mode) y.0 in
    rw (x.0, f, z.1, y.1)

latch_down : (d : Device) (latch armed : Bool) → psram_valid (relatch d latch armed) ≡ true → latch ≡ false
unfolding psram_volatile
latch_down d latch armed v =
    let x = both_true (psram_registers d.registers) _ v in
    let y = both_true (psram_volatile (relatch d latch armed).volatile) (psram_identity d.identity) x.1 in
    by latch (both_true (not latch) _ y.0).0
  where
    by : (b : Bool) → not b ≡ true → b ≡ false
    by true e = sym e
    by false e = refl

after_fits : (g : Family) (cr4 : ℕ) (latch : Bool) → Fits g latch → Fits g (after_burst cr4 latch)
after_fits Mram cr4 latch f = tt
after_fits Psram cr4 latch f = rw f (cond_same (eqb (write_mode cr4) 0) false)

-- ---- one episode
-- the latch is no hindrance once it is up, and on the PSRAM never
up_is_free : (g : Family) (cr4 : ℕ) (z : WriteForm) → latch_missing g cr4 true (Write (Into.Memory z)) ≡ false
unfolding latch_missing
up_is_free g cr4 z = by (latch_needed g cr4 (Write (Into.Memory z)))
  where
    by : (b : Bool) → (b && false) ≡ false
    by true = refl
    by false = refl

psram_is_free : (g : Family) (cr4 : ℕ) (latch : Bool) (z : WriteForm) → g ≡ Psram → latch_missing g cr4 latch (Write (Into.Memory z)) ≡ false
unfolding latch_missing
psram_is_free g cr4 latch z e = rw e

-- under the paper's rule a burst answered 9 aims at protected places only, so that storing all of it stores nothing
landed_all : (b : Burst) (l : List ℕ) → store (landed b) l ≡ store b l
unfolding store_from
landed_all b l = by (shut_all b) refl
  where
    by : (q : Bool) → shut_all b ≡ q → store (record { place = b.place; shut = b.shut; sent = cond q [] b.sent }) l ≡ store b l
    by true e = sym (store_shut b l e)
    by false e = refl

-- and it touches no more than the burst
landed_places : (b : Burst) (a : ℕ) → Mem a (places_of (landed b)) → Mem a (places_of b)
unfolding places_from
landed_places b a m = by (shut_all b) m
  where
    by : (q : Bool) → Mem a (places_of (record { place = b.place; shut = b.shut; sent = cond q [] b.sent })) → Mem a (places_of b)
    by true m = absurd (not-mem-nil m)
    by false m = m

-- a buffer of just the clocks keeps nothing
over_itself : (xs : List ℕ) → over xs xs ≡ xs
unfolding over
over_itself xs = rw (drop-length xs, append-nil)

module _ (c : Chip) (r : Ready c) where
  abbrev d : Device
  d = c.device

  abbrev s : Setting
  s = setting_of d

  abbrev family : Family
  family = family_of s.part

  -- a state that episodes reach
  record Fit (m : Moving) : Type 0 where
    long : length m.memory ≡ length c.lent.memory
    valid : valid_for family s.part (relatch d m.latch m.armed) ≡ true

  sized_at : (latch armed : Bool) (memory : List ℕ) → length memory ≡ length c.lent.memory
      → sized_for (relatch d latch armed) (record { memory = memory; area = c.lent.area }) ≡ true
  unfolding sized_for
  sized_at latch armed memory e = rw e r.sized

  risen_fits : (m : Moving) → Fit m → Fits family (risen family m.latch)
  risen_fits m f = by family f.valid
    where
      by : (g : Family) → valid_for g s.part (relatch d m.latch m.armed) ≡ true → Fits g (risen g m.latch)
      by Mram v = tt
      by Psram v = latch_down d m.latch m.armed v

  -- latch and arming have no part in the open transaction, of which there is none
  valid_at : (latch armed : Bool) → valid_for family s.part (relatch d latch armed) ≡ true → valid_of (relatch d latch armed) ≡ true
  unfolding in_range
  valid_at latch armed v = idle_valid d.underway (relatch d latch armed) refl r.idle (idle_facts d r.valid r.idle) v

  -- the write of an episode, the latch being as the episode needs it
  write_step : (latch armed : Bool) (memory : List ℕ) → length memory ≡ length c.lent.memory → valid_for family s.part (relatch d latch armed) ≡ true
      → (x : Call) → Roomy x → (w : MemoryWrite s x.samples) → latch_missing family s.registers.cr4 latch (Write (Into.Memory w.way)) ≡ false
      → called (chip_at c (record { latch = latch; armed = armed; memory = memory })) x
      ≡ world_at (quietly s x (answer_to s x.samples)) (relatch d (after_burst s.registers.cr4 latch) false)
      (record { memory = store (landed (aimed s x.samples)) memory; area = c.lent.area })
  write_step latch armed memory long valid x roomy w free =
      write_call (relatch d latch armed) (record { memory = memory; area = c.lent.area }) x r.awake w free roomy (sized_at latch armed memory long) (valid_at latch armed valid) r.idle

  enable_step : (m : Moving) → Fit m → (x : Call) → Roomy x → Enabling c x.samples
      → called (chip_at c m) x ≡ world_at (quietly s x Done) (relatch d true false) (record { memory = m.memory; area = c.lent.area })
  enable_step m f x roomy q =
      enable_call d c.lent x q.kind q.done roomy m.latch m.armed (record { memory = m.memory; area = c.lent.area })
      (sized_at m.latch m.armed m.memory f.long) (valid_at m.latch m.armed f.valid)

  -- after the MRAM's enable
  enabled_valid : (m : Moving) → Fit m → family ≡ Mram → valid_for family s.part (relatch d true false) ≡ true
  enabled_valid m f e = valid_moved family s.part d m.latch m.armed true false f.valid (subst (λ (g : Family). Fits g true) (sym e) tt)

  risen_mram : (latch : Bool) (g : Family) → g ≡ Mram → risen g latch ≡ true
  risen_mram latch g e = rw e

  risen_psram : (latch : Bool) (g : Family) → g ≡ Psram → risen g latch ≡ latch
  risen_psram latch g e = rw e

  -- AN EPISODE ACTS, and is told, by the setting and its samples alone, whatever buffers it has
  episode_acts : (e : List Call) → Every Roomy e → Episode c (samples_of e) → (m : Moving) → Fit m → after_calls (chip_at c m) e ≡ chip_at c (act s (samples_of e) m)
  unfolding after_calls act
  episode_acts [] h q m f = absurd q
  episode_acts (wr ∷ []) h q m f =
      ap leaves (write_step m.latch m.armed m.memory f.long f.valid wr h.0 q.write (psram_is_free family s.registers.cr4 m.latch q.write.way q.family))
      ∙ rw (risen_psram m.latch family q.family)
  episode_acts (en ∷ wr ∷ []) h q m f =
      ap (λ (z : World). leaves (called (leaves z) wr)) (enable_step m f en h.0 q.enable)
      ∙ ap leaves (write_step true false m.memory f.long (enabled_valid m f q.family) wr h.1.0 q.write (up_is_free family s.registers.cr4 q.write.way))
      ∙ rw (risen_mram m.latch family q.family)
  episode_acts (x ∷ y ∷ z ∷ e) h q m f = absurd q

  episode_told : (e : List Call) → Every Roomy e → Episode c (samples_of e) → (m : Moving) → Fit m → replies (chip_at c m) e ≡ told s e
  unfolding replies told
  episode_told [] h q m f = absurd q
  episode_told (wr ∷ []) h q m f =
      ap (λ (z : World). says z ∷ [])
      (write_step m.latch m.armed m.memory f.long f.valid wr h.0 q.write (psram_is_free family s.registers.cr4 m.latch q.write.way q.family))
  episode_told (en ∷ wr ∷ []) h q m f =
      ap (λ (z : World). says z ∷ says (called (leaves z) wr) ∷ []) (enable_step m f en h.0 q.enable)
      ∙ ap (λ (z : World). quietly s en Done ∷ says z ∷ [])
      (write_step true false m.memory f.long (enabled_valid m f q.family) wr h.1.0 q.write (up_is_free family s.registers.cr4 q.write.way))
  episode_told (x ∷ y ∷ z ∷ e) h q m f = absurd q

  -- told alone, with buffers of just its clocks, and shown in its own
  fitted_told : (e : List Call) → Episode c (samples_of e) → widened e (told s (map fitted (samples_of e))) ≡ told s e
  unfolding told
  fitted_told [] q = absurd q
  fitted_told (wr ∷ []) q = rw (over_itself (undriven wr.samples))
  fitted_told (en ∷ wr ∷ []) q = rw (over_itself (undriven en.samples), over_itself (undriven wr.samples))
  fitted_told (x ∷ y ∷ z ∷ e) q = absurd q

  fitted_room : (e : List Call) → Every Roomy (map fitted (samples_of e))
  fitted_room [] = tt
  fitted_room (x ∷ e) = (le-leb (length x.samples) (length (undriven x.samples)) (rw length-replicate (le_refl (length x.samples))), fitted_room e)

  samples_again : (e : List Call) → samples_of (map fitted (samples_of e)) ≡ samples_of e
  samples_again [] = refl
  samples_again (x ∷ e) = ap (λ (l : List (List ℕ)). x.samples ∷ l) (samples_again e)

  episode_alone : (e : List Call) → Episode c (samples_of e) → (m : Moving) → Fit m → alone (chip_at c m) e ≡ told s e
  unfolding alone
  episode_alone e q m f =
      ap (widened e) (episode_told (map fitted (samples_of e)) (fitted_room e) (subst (Episode c) (sym (samples_again e)) q) m f) ∙ fitted_told e q

  -- and leaves a state that episodes reach
  act_fit : (e : List (List ℕ)) {m : Moving} → Fit m → Fit (act s e m)
  unfolding act
  act_fit e {m} f =
      record {
        long = store_length (landed (burst_of s e)) m.memory ∙ f.long;
        valid = valid_moved family s.part d m.latch m.armed _ false f.valid (after_fits family s.registers.cr4 _ (risen_fits m f));
      }

  -- ---- a list of episodes
  abbrev Episodes : List (List Call) → Type 0
  Episodes k = Every (Episode c) (clocked k)

  run_acts : (k : List (List Call)) → RoomFor k → Episodes k → (m : Moving) → Fit m → runs (chip_at c m) k ≡ chip_at c (run_all (act s) m (clocked k))
  run_acts [] h q m f = refl
  run_acts (e ∷ k) h q m f =
      ap (λ (z : Chip). runs z k) (episode_acts e h.0 q.0 m f) ∙ run_acts k h.1 q.1 (act s (samples_of e) m) (act_fit (samples_of e) f)

  run_told : (k : List (List Call)) → RoomFor k → Episodes k → (m : Moving) → Fit m → all_replies (chip_at c m) k ≡ map (told s) k
  unfolding all_replies
  run_told [] h q m f = refl
  run_told (e ∷ k) h q m f =
      rw (episode_told e h.0 q.0 m f, episode_acts e h.0 q.0 m f, run_told k h.1 q.1 (act s (samples_of e) m) (act_fit (samples_of e) f))

  alone_told : (k : List (List Call)) → Episodes k → (m : Moving) → Fit m → map (alone (chip_at c m)) k ≡ map (told s) k
  alone_told [] q m f = refl
  alone_told (e ∷ k) q m f = rw (episode_alone e q.0 m f, alone_told k q.1 m f)

  run_fit : (l : List (List (List ℕ))) (m : Moving) → Fit m → Fit (run_all (act s) m l)
  run_fit [] m f = f
  run_fit (e ∷ l) m f = run_fit l (act s e m) (act_fit e f)

  -- ---- steps that touch no place in common commute
  acts_commute : (e f : List (List ℕ)) (m : Moving) → Apart s e f → act s f (act s e m) ≡ act s e (act s f m)
  unfolding act
  acts_commute e f m n =
      rw (bursts_commute (landed (burst_of s e)) (landed (burst_of s f)) m.memory (λ a p q. n a (landed_places (burst_of s e) a p) (landed_places (burst_of s f) a q)))

  -- ---- one byte
  act_left : (e : List (List ℕ)) (m : Moving) → Fit m → (a : ℕ) → a < length c.lent.memory
      → get_or (act s e m).memory a 0 ≡ left_at (burst_of s e) a (get_or m.memory a 0)
  unfolding act
  act_left e m f a h = rw (landed_all (burst_of s e) m.memory) (store_left (burst_of s e) m.memory a (rw f.long h))

  act_kept : (e : List (List ℕ)) (m : Moving) (a : ℕ) → (Mem a (touched s e) → ⊥) → get_or (act s e m).memory a 0 ≡ get_or m.memory a 0
  unfolding act
  act_kept e m a n = store_kept (landed (burst_of s e)) m.memory a (λ p. n (landed_places (burst_of s e) a p))

  run_kept : (l : List (List (List ℕ))) (m : Moving) (a : ℕ) → ((e : List (List ℕ)) → Mem e l → Mem a (touched s e) → ⊥)
      → get_or (run_all (act s) m l).memory a 0 ≡ get_or m.memory a 0
  run_kept [] m a n = refl
  run_kept (e ∷ l) m a n = run_kept l (act s e m) a (λ x k. n x (mem-cons_of_mem e k)) ∙ act_kept e m a (n e mem-cons_self)

  run_left : (l : List (List (List ℕ))) → Pairwise (Apart s) l → {e : List (List ℕ)} → Memᴰ e l → (m : Moving) → Fit m → (a : ℕ) → a < length c.lent.memory
      → Mem a (touched s e) → get_or (run_all (act s) m l).memory a 0 ≡ left_at (burst_of s e) a (get_or m.memory a 0)
  run_left [] _ {e = e} x m f a i k = elim x [ ]
  run_left (b ∷ l) (Pairwise.cons h t) {e} (Memᴰ.head p) m f a i k =
      run_kept l (act s b m) a (λ x q. h x q a (subst (λ (z : List (List ℕ)). Mem a (touched s z)) p k))
      ∙ act_left b m f a i
      ∙ ap (λ (z : List (List ℕ)). left_at (burst_of s z) a (get_or m.memory a 0)) (sym p)
  run_left (b ∷ l) (Pairwise.cons h t) {e} (Memᴰ.tail q) m f a i k =
      run_left l t q (act s b m) (act_fit b f) a i k ∙ ap (left_at (burst_of s e) a) (act_kept b m a (λ g. h e ∣ q ∣₁ a g k))

  -- ---- every touched place is in memory
  sizes : (9 ≤ s.n) × (length c.lent.memory ≡ 2 ^ s.n)
  unfolding sized_for offered
  sizes =
      let h₁ = both_true (offered s.part s.n) _ (both_true (known_part d.make.part) _ r.sized).1 in
      let h₂ = (both_true (leb (least_of s.part) s.n) (leb s.n (most_of s.part)) h₁.0).0 in
      let h₃ = (both_true (eqb (length c.lent.memory) (2 ^ s.n)) _ h₁.1).0 in
      (le_trans (least s.part) (leb-true (least_of s.part) s.n h₂), eqb-true (length c.lent.memory) (2 ^ s.n) h₃)
    where
      least : (p : Part) → 9 ≤ least_of p
      least M = lit≤ tt
      least P = lit≤ tt
      least M32 = lit≤ tt

  burst_below : (e : List (List ℕ)) (i : Bytes) → (burst_of s e).place i < 2 ^ s.n
  unfolding aimed
  burst_below [] i = write_below s sizes.0 _ i
  burst_below (x ∷ []) i = write_below s sizes.0 _ i
  burst_below (x ∷ y ∷ l) i = burst_below (y ∷ l) i

  touched_in : (e : List (List ℕ)) (a : ℕ) → Mem a (touched s e) → a < length c.lent.memory
  touched_in e a m = rw sizes.1 (places_below (burst_of s e) (2 ^ s.n) (burst_below e) a m)

-- DEMAND 3. The device is awake, in any valid state and has no transaction open, what is lent has its size; the calls of the two programs clock the same episodes, in two orders, with buffers
-- that have the room; no two episodes touch a place in common.
pub demand_3 : (c : Chip) → Ready c → {k₁ k₂ : List (List Call)} → Permᴰ (clocked k₁) (clocked k₂) → RoomFor k₁ → RoomFor k₂ → Every (Episode c) (clocked k₁)
    → Pairwise (Apart (setting_of c.device)) (clocked k₁) → AnyOrder c k₁ k₂
unfolding in_range
demand_3 c r {k₁} {k₂} order room₁ room₂ episodes apart =
    let s = setting_of c.device in
    let m : Moving = record { latch = c.device.volatile.latch; armed = c.device.volatile.armed; memory = c.lent.memory } in
    let f : Fit c r m = record { long = refl; valid = valid_range c.device r.valid } in
    let episodes₂ : Every (Episode c) (clocked k₂) = every_order (Episode c) order episodes in
    let own : (e : List Call) → Mem e k₁ → (a : ℕ) → a < length c.lent.memory
    → get_or (after_calls c e).lent.memory a 0 ≡ left_at (burst_of s (samples_of e)) a (get_or c.lent.memory a 0) =
    λ e k a i. ∥∥₁_elim k (ℕ_set _ _)
    (λ q. ap (λ (z : Chip). get_or z.lent.memory a 0) (episode_acts c r e (every_one (Every Roomy) q room₁) (every_one (Episode c) (mem_map samples_of q) episodes) m f)
    ∙ act_left c r (samples_of e) m f a i) in
    let ran = run_acts c r k₁ room₁ episodes m f in
    record {
      same =
          ran
          ∙ ap (chip_at c) (any_order (act s) (λ e g. Π_prop (λ a. Π_prop (λ p. Π_prop (λ q. ⊥_prop)))) (λ e g n a p q. n a q p) (acts_commute c r) order apart m)
          ∙ sym (run_acts c r k₂ room₂ episodes₂ m f);
      first = run_told c r k₁ room₁ episodes m f ∙ sym (alone_told c r k₁ episodes m f);
      second = run_told c r k₂ room₂ episodes₂ m f ∙ sym (alone_told c r k₂ episodes₂ m f);
      own = λ e k a t.
          let i = touched_in c r (samples_of e) a t in
          ap (λ (z : Chip). get_or z.lent.memory a 0) ran ∙ ∥∥₁_elim k (ℕ_set _ _) (λ q. run_left c r (clocked k₁) apart (mem_map samples_of q) m f a i t) ∙ sym (own e k a i);
      left = λ e k a t. own e k a (touched_in c r (samples_of e) a t);
      old = λ a n. ap (λ (z : Chip). get_or z.lent.memory a 0) ran ∙ run_kept c r (clocked k₁) m a n;
      size = ap (λ (z : Chip). length z.lent.memory) ran ∙ (run_fit c r (clocked k₁) m f).long;
      area = ap (λ (z : Chip). z.lent.area) ran;
    }
