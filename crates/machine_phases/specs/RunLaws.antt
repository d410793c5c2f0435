-- Laws of a run: samples in chunks, an output for each sample, each clock counted once.
-- Assumes nothing.
use Rattle.std.specs.Prelude.{◌≡◌, ℕ, suc, ◌+◌, ◌%◌, Bool, true, false, cond, List, [], ◌∷◌, ◌++◌, length}
use Rattle.std.proofs.Math.Path.{refl}
use Rattle.std.proofs.Common.{ap, ◌∙◌, add-zero}
use native.Mathlib.Omega.{arith}
use Rattle.units.specs.Units.{clocks, at_most}
use Rattle.wires.specs.Bits.{shift_of}
use Rattle.parts.specs.Parts.{family_of}
use Rattle.kinds.specs.declared.Kind.{Kind}
use Rattle.opcodes.specs.Opcodes.{kind_of}
use Rattle.counts.specs.Counts.{total, command_tick, address_tick, wait_tick, body_tick}
use Rattle.record.specs.declared.devices.Device.{Device}
use Rattle.record.specs.declared.devices.Setting.{Setting}
use Rattle.paper.specs.InForce.{command_clocks, wires_for, address_clocks, wait_clocks, body_for}
use Rattle.counts.specs.declared.Phase.{Phase}
use Rattle.counts.specs.declared.Phase.TheVariants.{Command, Address, Wait, Data, Rest}
use Rattle.progress.specs.declared.Tally.{Tally}
use Rattle.progress.specs.declared.Progress.{Progress}
use Rattle.progress.specs.Progress.{counting}
use Rattle.contract_words.specs.Words.{Run}
use Rattle.machine_phases.specs.declared.Terms.{Terms}
use Rattle.machine_phases.specs.Machine.{terms_of, full_at, to_data, to_wait, to_address, command_step, address_step, wait_step, data_step, step_in, step_of, drive_of, run_of, outs_of}

-- the chunk law: running over samples and then over more is running over all
pub run_append : (d : Device) (r : Run) (xs ys : List ℕ) → run_of d r (xs ++ ys) ≡ run_of d (run_of d r xs) ys
unfolding run_of
run_append d r [] ys = refl
run_append d r (x ∷ xs) ys = run_append d (step_of (terms_of d) r x) xs ys

pub outs_append : (d : Device) (r : Run) (xs ys : List ℕ) → outs_of d r (xs ++ ys) ≡ outs_of d r xs ++ outs_of d (run_of d r xs) ys
unfolding run_of outs_of
outs_append d r [] ys = refl
outs_append d r (x ∷ xs) ys = ap (λ (l : List ℕ). drive_of d r ∷ l) (outs_append d (step_of (terms_of d) r x) xs ys)

pub outs_length : (d : Device) (r : Run) (xs : List ℕ) → length (outs_of d r xs) ≡ length xs
unfolding outs_of
outs_length d r [] = refl
outs_length d r (x ∷ xs) = ap suc (outs_length d (step_of (terms_of d) r x) xs)

-- ---- a clock is counted once
abbrev pub clocks_in : Progress → ℕ
clocks_in p = (total p.tally.counts).0

-- so many clocks are counted
record Counted (p : Progress) (n : ℕ) : Type 0 where
  is : clocks_in p ≡ n

-- the counts of a choice are those of what is chosen
chosen : (b : Bool) {p q : Progress} {n : ℕ} → Counted p n → Counted q n → Counted (cond b p q) n
chosen true e f = e
chosen false e f = f

more : {p : Progress} {m n : ℕ} → Counted p m → m ≡ n → Counted p n
more e f = record { is = e.is ∙ f }

module _ (s : Setting) (k : Kind) (a : ℕ) (t : Tally) where
  data_clocks_lem : Counted (to_data s k a t) (total t.counts).0
  unfolding to_data
  data_clocks_lem = chosen (full_at (body_for s k a) (wires_for s k) (clocks 0)) (record { is = refl }) (record { is = refl })

  wait_clocks_lem : Counted (to_wait s k a t) (total t.counts).0
  unfolding to_wait
  wait_clocks_lem = chosen (at_most (wait_clocks s k a) (clocks 0)) data_clocks_lem (record { is = refl })

address_clocks_lem : (s : Setting) (k : Kind) (t : Tally) → Counted (to_address s k t) (total t.counts).0
unfolding to_address
address_clocks_lem s k t = chosen (at_most (address_clocks s k) (clocks 0)) (wait_clocks_lem s k 0 t) (record { is = refl })

module _ (h : Terms) (r : Run) (x : ℕ) where
  abbrev p : Progress
  p = r.progress

  abbrev s : Setting
  s = h.setting

  command_one : Counted (command_step s p x) (clocks_in p + 1)
  unfolding command_step
  command_one =
      let t = counting (command_tick p.tally.counts) p.tally in
      chosen (at_most (command_clocks s) t.counts.command)
      (more (address_clocks_lem s (kind_of (family_of s.part) s.wires (shift_of s.wires p.number x % 256)) t) (omega arith))
      (record { is = omega arith })

  address_one : Counted (address_step s p x) (clocks_in p + 1)
  unfolding address_step
  address_one =
      let t = counting (address_tick p.tally.counts) p.tally in
      chosen (at_most (address_clocks s p.kind) t.counts.address)
      (more (wait_clocks_lem s p.kind (shift_of (wires_for s p.kind) p.number x) t) (omega arith))
      (record { is = omega arith })

  wait_one : Counted (wait_step s p) (clocks_in p + 1)
  unfolding wait_step
  wait_one =
      let t = counting (wait_tick p.tally.counts) p.tally in
      chosen (at_most (wait_clocks s p.kind p.address) t.counts.wait)
      (more (data_clocks_lem s p.kind p.address t) (omega arith))
      (record { is = omega arith })

  data_one : Counted (data_step h r x).progress (clocks_in p + 1)
  unfolding data_step
  data_one =
      chosen (full_at (body_for s p.kind p.address) (wires_for s p.kind) (body_tick p.tally.counts).body)
      (record { is = omega arith }) (record { is = omega arith })

  pub step_one : clocks_in (step_of h r x).progress ≡ clocks_in p + 1
  unfolding step_of
  step_one = (by p.phase).is
    where
      by : (f : Phase) → Counted (step_in f h r x).progress (clocks_in p + 1)
      by Command = command_one
      by Address = address_one
      by Wait = wait_one
      by Data = data_one
      by Rest = record { is = omega arith }

-- every clock of a run is counted
pub run_clocks : (d : Device) (r : Run) (xs : List ℕ) → clocks_in (run_of d r xs).progress ≡ clocks_in r.progress + length xs
unfolding run_of
run_clocks d r [] = rw add-zero
run_clocks d r (x ∷ xs) =
    let r' = step_of (terms_of d) r x in
    let e = step_one (terms_of d) r x in
    run_clocks d r' xs ∙ omega arith
