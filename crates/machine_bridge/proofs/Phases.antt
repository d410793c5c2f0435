-- The five phases, the last one first: what the machine shows from the start of each on is what the paper reads from there.
-- Assumes nothing.
use Rattle.std.specs.Prelude.{◌≡◌, Bool, true, false, cond, leb}
use Rattle.std.proofs.Math.Path.{refl, sym, ap}
use Rattle.std.proofs.Common.{◌∙◌, zero-add, length-take}
use Prim.Native.Nat.{ℕ, suc, ◌+◌, ◌*◌, ◌%◌}
use Rattle.std.proofs.Math.Nat.{add-zero}
use native.Mathlib.Omega.{arith}
use mathlib.Core.List.{List, [], ◌∷◌}
use Rattle.std.proofs.Math.ListN.{length}
use Rattle.std.proofs.Math.Seq.{take-nil, drop-nil}
use Rattle.std.proofs.lemmas.Bool.{lt-leb}
use Rattle.basis.specs.Truth.{cond_same}
use Rattle.units.specs.declared.Clocks.{Clocks}
use Rattle.units.specs.declared.Wires.{Wires}
use Rattle.units.specs.Units.{clocks, per_byte, at_most, byte_clocks}
use Rattle.units.specs.Laws.{per_byte_pos}
use Rattle.wires.specs.Bits.{shift_of, gather_from, gather}
use Rattle.wires.proofs.Laws.{gather_byte}
use Rattle.parts.specs.Parts.{family_of}
use Rattle.kinds.specs.declared.Kind.{Kind}
use Rattle.kinds.specs.declared.Kind.TheVariants.{Unknown}
use Rattle.opcodes.specs.Opcodes.{kind_of}
use Rattle.commands.specs.declared.plans.Body.{Body}
use Rattle.commands.specs.declared.plans.Body.TheVariants.{Nothing, FixedRead, AnyRead, FixedWrite, AnyWrite}
use Rattle.counts.specs.Counts.{counted}
use Rattle.counts.specs.declared.Phase.TheVariants.{Address, Wait, Data, Rest}
use Rattle.progress.specs.declared.Tally.{Tally}
use Rattle.progress.specs.declared.Progress.{Progress}
use Rattle.progress.specs.Progress.{entered, onward, begin_of}
use Rattle.record.specs.declared.devices.Device.{Device}
use Rattle.record.specs.declared.devices.Setting.{Setting}
use Rattle.record.specs.Devices.{setting_of}
use Rattle.paper.specs.InForce.{command_clocks, address_clocks, wait_clocks}
use Rattle.paper.specs.Reading.{first, after, many, kind_read, address_read, data_part, rest_part}
use Rattle.paper.specs.Storing.{Lent}
use Rattle.paper.specs.Driving.{driven_at, along}
use Rattle.paper.specs.Transaction.{undriven}
use Rattle.paper.specs.Laws.{along_zero}
use Rattle.contract_words.specs.Words.{Held, Run, begun}
use Rattle.machine_phases.specs.Machine.{terms_of, full_at, to_data, to_wait, to_address, command_step, address_step, wait_step, holds, data_held, data_step, step_of, drive_of, run_of, outs_of}
use Rattle.machine_bridge.specs.Stage.{seen, behind, carried, place, stage, cut_first, cut_body}
use Rattle.machine_bridge.specs.Taking.{tick_for}
use Rattle.machine_bridge.specs.Phases.{Point, Steady, address_on, aim, body, command_on, counts, data_on, ends, entering, named, none, outset, past, placed, s, starting, tick, wait_on, waited, wires}

-- a choice of progress is a choice of runs
chosen : (b : Bool) (p q : Progress) (l : Lent) → record { progress = cond b p q; lent = l } ≡ cond {A = Run} b (record { progress = p; lent = l }) (record { progress = q; lent = l })
chosen true p q l = refl
chosen false p q l = refl

-- ---- no clocks left
pub data_nil : (b : Body) (w : Wires) → data_part b w [] ≡ []
data_nil Nothing w = refl
data_nil (FixedRead b) w = take-nil (b.0 * per_byte w)
data_nil AnyRead w = refl
data_nil (FixedWrite b) w = take-nil (b.0 * per_byte w)
data_nil AnyWrite w = refl

rest_nil : (b : Body) (w : Wires) → rest_part b w [] ≡ []
rest_nil Nothing w = refl
rest_nil (FixedRead b) w = drop-nil (b.0 * per_byte w)
rest_nil AnyRead w = refl
rest_nil (FixedWrite b) w = drop-nil (b.0 * per_byte w)
rest_nil AnyWrite w = refl

module _ (d : Device) where
  data_on_nil : (q : Point) → data_on d q [] ≡ ends (waited (counts q).wait q)
  unfolding data_on along carried
  data_on_nil q = rw (data_nil (body d q) (wires d q), rest_nil (body d q) (wires d q))

  wait_on_nil : (q : Point) → wait_on d q [] ≡ ends (waited none q)
  unfolding wait_on
  wait_on_nil q =
      let n = (wait_clocks (setting_of d) q.facts.kind q.facts.address).0 in rw (take-nil n, drop-nil n) (ap (behind []) (data_on_nil (waited none q)))

  -- no samples spell address 0, enough of them or not
  read_nil : (k : Kind) → address_read (setting_of d) k [] ≡ 0
  unfolding address_read gather_from
  read_nil k = cond_same (leb (address_clocks (setting_of d) k).0 0) 0

  address_on_nil : (q : Point) → address_on d q [] ≡ ends (placed 0 none q)
  unfolding address_on
  address_on_nil q =
      let n = (address_clocks (setting_of d) q.facts.kind).0 in
      rw (take-nil n, drop-nil n, read_nil q.facts.kind) (ap (behind []) (wait_on_nil (placed 0 none q)))

-- ---- the rest: every clock is counted and drives nothing
module _ (d : Device) (q : Point) (c : Clocks) (h : Held) where
  abbrev resting : ℕ → Run
  resting n =
      entering (entered Rest)
      (record {
        facts = record {
          kind = q.facts.kind;
          address = q.facts.address;
          tally = record { counts = counted (counts q).command (counts q).address (counts q).wait c (clocks n); value = h.taken.value };
        };
        lent = h.taken.lent;
      })

  rest_law : (n : ℕ) (xs : List ℕ) → seen d (resting n) xs ≡ past d q c h (clocks (n + length xs)) (undriven xs)
  unfolding run_of outs_of step_of drive_of
  rest_law n [] = rw add-zero
  rest_law n (x ∷ xs) =
      let e : n + 1 + length xs ≡ n + suc (length xs) = omega arith in
      ap (behind (0 ∷ [])) (rest_law (n + 1) xs) ∙ ap (λ (m : ℕ). past d q c h (clocks m) (undriven (x ∷ xs))) e

-- ---- data
-- what a read drives does not change while it goes on
drives_same : (b : Body) (d : Device) (q : Point) (c : Clocks) (h : Held) (x : ℕ) (u : Clocks)
    → let k = q.facts.kind in let a = q.facts.address in
    driven_at b d k a (tick_for b (wires d q) (holds (terms_of d) k) (aim d q) c h x).taken.lent u ≡ driven_at b d k a h.taken.lent u
drives_same Nothing d q c h x u = refl
drives_same (FixedRead m) d q c h x u = refl
drives_same AnyRead d q c h x u = refl
drives_same (FixedWrite m) d q c h x u = refl
drives_same AnyWrite d q c h x u = refl

module _ (d : Device) (q : Point) where
  abbrev data_tally : Clocks → Held → Tally
  data_tally c h = record { counts = counted (counts q).command (counts q).address (counts q).wait c none; value = h.taken.value }

  -- the machine past the data, and in it
  abbrev pub data_past : Clocks → Held → Run
  data_past c h = record { progress = entered Rest q.facts.kind q.facts.address (data_tally c h); lent = h.taken.lent }

  abbrev pub data_go : Clocks → Held → Run
  data_go c h =
      record {
        progress = record { phase = Data; kind = q.facts.kind; address = q.facts.address; number = h.number; tally = data_tally c h };
        lent = h.taken.lent;
      }

  data_enters : entering (to_data (setting_of d)) (waited (counts q).wait q) ≡ cond (full_at (body d q) (wires d q) none) (data_past none (starting d q)) (data_go none (starting d q))
  unfolding to_data
  data_enters = chosen (full_at (body d q) (wires d q) none) (data_past none (starting d q)).progress (data_go none (starting d q)).progress q.lent

  data_moves : (n : ℕ) (h : Held) (x : ℕ)
      → let t = clocks (n + 1) in let g = tick d q (clocks n) h x in
      step_of (terms_of d) (data_go (clocks n) h) x ≡ cond (full_at (body d q) (wires d q) t) (data_past t g) (data_go t g)
  unfolding data_step data_held step_of
  data_moves n h x =
      let t = clocks (n + 1) in
      let g = tick d q (clocks n) h x in
      chosen (full_at (body d q) (wires d q) t) (data_past t g).progress (data_go t g).progress g.taken.lent

  data_drives : (n : ℕ) (h : Held) → Steady d q h → drive_of d (data_go (clocks n) h) ≡ driven_at (body d q) d q.facts.kind q.facts.address q.lent (clocks n)
  unfolding drive_of
  data_drives n h ok = ok (clocks n)

  data_keeps : (n : ℕ) (h : Held) (x : ℕ) → Steady d q h → Steady d q (tick d q (clocks n) h x)
  data_keeps n h x ok u = drives_same (body d q) d q (clocks n) h x u ∙ ok u

  data_law : (xs : List ℕ) → seen d (entering (to_data (setting_of d)) (waited (counts q).wait q)) xs ≡ data_on d q xs
  unfolding data_on
  data_law xs =
      ap (λ (r : Run). seen d r xs) data_enters
      ∙ stage d (full_at (body d q) (wires d q)) data_past data_go (tick d q) (driven_at (body d q) d q.facts.kind q.facts.address q.lent) (Steady d q)
      data_moves data_drives data_keeps
      (λ c h ys. past d q c h (many ys) (undriven ys))
      (λ c h ys e. rest_law d q c h 0 ys ∙ rw zero-add)
      (λ c h e. refl)
      (cut_body (body d q) (wires d q) xs)
      (starting d q)
      (λ u. refl)

  pub data_place : (xs : List ℕ)
      → let b = body d q in let w = wires d q in
      let c = many (data_part b w xs) in let h = carried (tick d q) 0 (starting d q) (data_part b w xs) in
      run_of d (entering (to_data (setting_of d)) (waited (counts q).wait q)) xs ≡ cond (full_at b w c) (run_of d (data_past c h) (rest_part b w xs)) (data_go c h)
  data_place xs =
      ap (λ (r : Run). run_of d r xs) data_enters
      ∙ place d (full_at (body d q) (wires d q)) data_past data_go (tick d q) (driven_at (body d q) d q.facts.kind q.facts.address q.lent) (Steady d q)
      data_moves data_drives data_keeps
      (cut_body (body d q) (wires d q) xs)
      (starting d q)
      (λ u. refl)

-- ---- the phases before it, in which nothing is driven
module _ (d : Device) (q : Point) where
  abbrev waits : Clocks
  waits = wait_clocks (setting_of d) q.facts.kind q.facts.address

  abbrev pub wait_past : Clocks → Unit {0} → Run
  wait_past c u = entering (to_data (setting_of d)) (waited c q)

  abbrev pub wait_go : Clocks → Unit {0} → Run
  wait_go c u = entering (entered Wait) (waited c q)

  wait_enters : entering (to_wait (setting_of d)) (waited none q) ≡ cond (at_most waits none) (wait_past none tt) (wait_go none tt)
  unfolding to_wait
  wait_enters = chosen (at_most waits none) (wait_past none tt).progress (wait_go none tt).progress q.lent

  wait_moves : (m : ℕ) (u : Unit {0}) (x : ℕ)
      → let t = clocks (m + 1) in step_of (terms_of d) (wait_go (clocks m) u) x ≡ cond (at_most waits t) (wait_past t u) (wait_go t u)
  unfolding wait_step step_of
  wait_moves m u x = let t = clocks (m + 1) in chosen (at_most waits t) (wait_past t u).progress (wait_go t u).progress q.lent

  wait_drives : (m : ℕ) (u : Unit {0}) → Unit {0} → drive_of d (wait_go (clocks m) u) ≡ 0
  unfolding drive_of
  wait_drives m u ok = refl

  wait_law : (xs : List ℕ) → seen d (entering (to_wait (setting_of d)) (waited none q)) xs ≡ wait_on d q xs
  unfolding wait_on
  wait_law xs =
      ap (λ (r : Run). seen d r xs) wait_enters
      ∙ stage d (at_most waits) wait_past wait_go (λ c u x. u) (λ c. 0) (λ u. Unit {0}) wait_moves wait_drives (λ m u x ok. ok)
      (λ c u ys. data_on d (waited c q) ys)
      (λ c u ys e. data_law d (waited c q) ys)
      (λ c u e. sym (data_on_nil d (waited c q)))
      (cut_first waits xs) tt tt
      ∙ rw (along_zero (first waits xs) 0)

  pub wait_place : (xs : List ℕ)
      → let n = wait_clocks (setting_of d) q.facts.kind q.facts.address in let c = many (first n xs) in
      run_of d (entering (to_wait (setting_of d)) (waited none q)) xs ≡ cond (at_most n c) (run_of d (entering (to_data (setting_of d)) (waited c q)) (after n xs)) (entering (entered Wait) (waited c q))
  wait_place xs =
      ap (λ (r : Run). run_of d r xs) wait_enters
      ∙ place d (at_most waits) wait_past wait_go (λ c u x. u) (λ c. 0) (λ u. Unit {0}) wait_moves wait_drives (λ m u x ok. ok) (cut_first waits xs) tt tt

-- the number that is carried along is the one gathered
carried_gather : (w : Wires) (xs : List ℕ) (t number : ℕ) → carried (λ c v x. shift_of w v x) t number xs ≡ gather_from w number xs
unfolding carried gather_from
carried_gather w [] t number = refl
carried_gather w (x ∷ xs) t number = carried_gather w xs (t + 1) (shift_of w number x)

module _ (d : Device) (q : Point) where
  abbrev addressed : Clocks
  addressed = address_clocks (setting_of d) q.facts.kind

  abbrev shifting : Clocks → ℕ → ℕ → ℕ
  shifting c v x = shift_of (wires d q) v x

  abbrev pub address_past : Clocks → ℕ → Run
  address_past c v = entering (to_wait (setting_of d)) (placed v c q)

  abbrev pub address_go : Clocks → ℕ → Run
  address_go c v =
      record { progress = onward v (placed 0 c q).facts.tally (entered Address q.facts.kind 0 (placed 0 c q).facts.tally); lent = q.lent }

  address_enters : entering (λ k a t. to_address (setting_of d) k t) (placed 0 none q) ≡ cond (at_most addressed none) (address_past none 0) (address_go none 0)
  unfolding to_address
  address_enters = chosen (at_most addressed none) (address_past none 0).progress (address_go none 0).progress q.lent

  address_moves : (m v x : ℕ)
      → let t = clocks (m + 1) in let u = shifting (clocks m) v x in
      step_of (terms_of d) (address_go (clocks m) v) x ≡ cond (at_most addressed t) (address_past t u) (address_go t u)
  unfolding address_step step_of
  address_moves m v x =
      let t = clocks (m + 1) in
      let u = shifting (clocks m) v x in
      chosen (at_most addressed t) (address_past t u).progress (address_go t u).progress q.lent

  address_drives : (m v : ℕ) → Unit {0} → drive_of d (address_go (clocks m) v) ≡ 0
  unfolding drive_of
  address_drives m v ok = refl

  address_law : (xs : List ℕ) → seen d (entering (λ k a t. to_address (setting_of d) k t) (placed 0 none q)) xs ≡ address_on d q xs
  unfolding address_on address_read
  address_law xs =
      ap (λ (r : Run). seen d r xs) address_enters
      ∙ stage d (at_most addressed) address_past address_go shifting (λ c. 0) (λ v. Unit {0}) address_moves address_drives (λ m v x ok. ok)
      (λ c v ys. wait_on d (placed (cond (at_most addressed c) v 0) c q) ys)
      (λ c v ys e. rw e (wait_law d (placed v c q) ys))
      (λ c v e. rw e (sym (wait_on_nil d (placed 0 c q))))
      (cut_first addressed xs) 0 tt
      ∙ rw (along_zero (first addressed xs) 0, carried_gather (wires d q) (first addressed xs) 0 0)

  pub address_place : (xs : List ℕ)
      → let n = address_clocks (setting_of d) q.facts.kind in let c = many (first n xs) in let v = gather (wires d q) (first n xs) in
      run_of d (entering (λ k a t. to_address (setting_of d) k t) (placed 0 none q)) xs ≡ cond (at_most n c) (run_of d (address_past c v) (after n xs)) (address_go c v)
  address_place xs =
      ap (λ (r : Run). run_of d r xs) address_enters
      ∙ place d (at_most addressed) address_past address_go shifting (λ c. 0) (λ v. Unit {0}) address_moves address_drives (λ m v x ok. ok) (cut_first addressed xs) 0 tt
      ∙ rw (carried_gather (wires d q) (first addressed xs) 0 0)

-- a command has a clock
some_command : (s : Setting) → at_most (command_clocks s) none ≡ false
unfolding command_clocks
some_command s = lt-leb (byte_clocks s.wires).0 0 (omega (arith, per_byte_pos s.wires))

command_fits : (s : Setting) (xs : List ℕ) → gather s.wires (first (command_clocks s) xs) % 256 ≡ gather s.wires (first (command_clocks s) xs)
unfolding command_clocks
command_fits s xs =
    gather_byte s.wires (first (byte_clocks s.wires) xs) (omega (arith, length-take (byte_clocks s.wires).0 xs))

module _ (d : Device) (l : Lent) where
  abbrev commands : Clocks
  commands = command_clocks (setting_of d)

  abbrev spells : Clocks → ℕ → ℕ → ℕ
  spells c v x = shift_of (setting_of d).wires v x

  abbrev pub kind_on : ℕ → Kind
  kind_on v = kind_of (family_of (setting_of d).part) (setting_of d).wires (v % 256)

  abbrev pub command_past : Clocks → ℕ → Run
  command_past c v = entering (λ k a t. to_address (setting_of d) k t) (named (kind_on v) c (outset l))

  abbrev pub command_go : Clocks → ℕ → Run
  command_go c v = record { progress = onward v (named Unknown c (outset l)).facts.tally begin_of; lent = l }

  command_enters : begun l ≡ cond (at_most commands none) (command_past none 0) (command_go none 0)
  command_enters = rw (some_command (setting_of d))

  command_moves : (m v x : ℕ)
      → let t = clocks (m + 1) in let u = spells (clocks m) v x in
      step_of (terms_of d) (command_go (clocks m) v) x ≡ cond (at_most commands t) (command_past t u) (command_go t u)
  unfolding command_step step_of
  command_moves m v x =
      let t = clocks (m + 1) in
      let u = spells (clocks m) v x in
      chosen (at_most commands t) (command_past t u).progress (command_go t u).progress l

  command_drives : (m v : ℕ) → Unit {0} → drive_of d (command_go (clocks m) v) ≡ 0
  unfolding drive_of
  command_drives m v ok = refl

  -- FROM THE FIRST CLOCK ON
  pub command_law : (xs : List ℕ) → seen d (begun l) xs ≡ command_on d (outset l) xs
  unfolding command_on kind_read
  command_law xs =
      let q = outset l in
      ap (λ (r : Run). seen d r xs) command_enters
      ∙ stage d (at_most commands) command_past command_go spells (λ c. 0) (λ v. Unit {0}) command_moves command_drives (λ m v x ok. ok)
      (λ c v ys. address_on d (named (cond (at_most commands c) (kind_on v) Unknown) c q) ys)
      (λ c v ys e. rw e (address_law d (named (kind_on v) c q) ys))
      (λ c v e. rw e (sym (address_on_nil d (named Unknown c q))))
      (cut_first commands xs) 0 tt
      ∙ rw (along_zero (first commands xs) 0, carried_gather (setting_of d).wires (first commands xs) 0 0, command_fits (setting_of d) xs)

  pub command_place : (xs : List ℕ)
      → let n = command_clocks (setting_of d) in let c = many (first n xs) in let v = gather (setting_of d).wires (first n xs) in
      run_of d (begun l) xs ≡ cond (at_most n c) (run_of d (command_past c v) (after n xs)) (command_go c v)
  command_place xs =
      ap (λ (r : Run). run_of d r xs) command_enters
      ∙ place d (at_most commands) command_past command_go spells (λ c. 0) (λ v. Unit {0}) command_moves command_drives (λ m v x ok. ok) (cut_first commands xs) 0 tt
      ∙ rw (carried_gather (setting_of d).wires (first commands xs) 0 0)
