-- Laws of taking up and putting down: the clocks by phase come to all clocks, and the machine stands where the facts say.
-- Assumes nothing.
use Rattle.std.specs.Prelude.{◌≡◌, refl, Bool, true, false, cond, List, ltb, [], ◌∷◌, length, fold}
use Rattle.std.proofs.Math.Path.{ap}
use Rattle.std.proofs.Common.{◌∙◌, le_refl, ltb-true, ltb-false}
use Prim.Native.Nat.{ℕ, ◌+◌, ◌-◌, ◌≤◌}
use native.Mathlib.Omega.{arith}
use Rattle.units.specs.declared.Clocks.{Clocks}
use Rattle.units.specs.declared.Bytes.{Bytes}
use Rattle.units.specs.declared.Wires.{Wires}
use Rattle.units.specs.Units.{less, up_to, fewer_bytes, clocks_of, clocks_within, whole_of}
use Rattle.units.specs.Laws.{within_le}
use Rattle.wires.specs.Bits.{shift_of, gather_from}
use Rattle.commands.specs.declared.plans.Body.{Body}
use Rattle.commands.specs.declared.plans.Body.TheVariants.{Nothing, FixedRead, AnyRead, FixedWrite, AnyWrite}
use Rattle.counts.specs.Counts.{total}
use Rattle.progress.specs.declared.Progress.{Progress}
use Rattle.record.specs.declared.devices.Device.{Device}
use Rattle.record.specs.Devices.{setting_of}
use Rattle.record.specs.Fields.{underway_to, closed_of}
use Rattle.record.specs.declared.devices.Underway.{Underway}
use Rattle.record.specs.declared.devices.Setting.{Setting}
use Rattle.paper.specs.InForce.{command_clocks, wires_for, address_clocks, wait_clocks, body_for}
use Rattle.paper.specs.Reading.{data_of}
use Rattle.paper.specs.Underway.{kind_at, counts_at}
use Rattle.paper.specs.Transaction.{over}
use Rattle.contract_words.specs.Words.{lends, Run, run_as}
use Rattle.machine_phases.specs.Machine.{run_of, outs_of}
use Rattle.machine_phases.specs.RunLaws.{clocks_in, run_clocks}
use Rattle.machine_run.specs.Fed.{Feedable, Fed}
use Rattle.machine_chunks.specs.Chunks.{resume_of, opcode_after, paused_of, fed_to, run_on, Continued}

-- ---- no clock is lost between the phases
up_to_past : (most c : Clocks) (b : Bool) → ltb c.0 most.0 ≡ b → (cond b c most).0 + (c.0 - most.0) ≡ c.0
up_to_past most c true e = let h = ltb-true c.0 most.0 e in omega arith
up_to_past most c false e = let h = ltb-false c.0 most.0 e in omega arith

-- the first clocks, up to so many, and those past them
pub parted : (most c : Clocks) → (up_to most c).0 + (less c most).0 ≡ c.0
parted most c = up_to_past most c (ltb c.0 most.0) refl

within_all : (w : Wires) (b : Bytes) (all : Clocks) (q : Bool) → fewer_bytes (whole_of w all) b ≡ q → (cond q all (clocks_of w b)).0 ≤ all.0
within_all w b all true e = le_refl all.0
within_all w b all false e = within_le w all.0 b.0 (ltb-false _ _ e)

pub data_some : (b : Body) (w : Wires) (all : Clocks) → (data_of b w all).0 ≤ all.0
unfolding clocks_within
data_some Nothing w all = omega arith
data_some (FixedRead b) w all = within_all w b all (fewer_bytes (whole_of w all) b) refl
data_some AnyRead w all = le_refl all.0
data_some (FixedWrite b) w all = within_all w b all (fewer_bytes (whole_of w all) b) refl
data_some AnyWrite w all = le_refl all.0

-- ALL CLOCKS SO FAR are those of the phases
pub split_total : (s : Setting) (u : Underway) → (total (counts_at s u)).0 ≡ u.clocks.0
unfolding counts_at
split_total s u =
    let k = kind_at s u in
    let a = u.address in
    let t₁ = less u.clocks (command_clocks s) in
    let t₂ = less t₁ (address_clocks s k) in
    let t₃ = less t₂ (wait_clocks s k a) in
    let e₁ = parted (command_clocks s) u.clocks in
    let e₂ = parted (address_clocks s k) t₁ in
    let e₃ = parted (wait_clocks s k a) t₂ in
    let h = data_some (body_for s k a) (wires_for s k) t₃ in
    omega arith

-- ---- gathering is a fold
pub gather_fold : (w : Wires) (n : ℕ) (xs : List ℕ) → fold (shift_of w) n xs ≡ gather_from w n xs
unfolding gather_from
gather_fold w n [] = refl
gather_fold w n (x ∷ xs) = gather_fold w (shift_of w n x) xs

-- ---- the machine goes on over a chunk
module _
    (d : Device) (xs out : List ℕ) {e : Device} {p : Progress}
    (pre : (d.make.n ≤ 24) × ((d.underway.clocks.0 + length xs ≤ 65535) × (length xs ≤ length out)))
    (c : e ≡ closed_of d) (r : p ≡ resume_of (setting_of d) d.underway) where
  so_far_lem : clocks_in p ≡ d.underway.clocks.0
  unfolding resume_of
  so_far_lem = ap clocks_in r ∙ split_total (setting_of d) d.underway

  pub feedable : Feedable e p xs out
  feedable =
      let n = so_far_lem in
      let h = pre.1.0 in
      record { reach = rw c pre.0; few = omega arith; room = pre.1.1 }

  module _ {m a m' a' out' : List ℕ} {q : Progress} (f : Fed e (run_as p m a) xs out (run_as q m' a') out') where
    pub fed_few : clocks_in q ≤ 65535
    fed_few =
        let n = so_far_lem in
        let h = pre.1.0 in
        let k = ap (λ (z : Run). clocks_in z.progress) f.run ∙ run_clocks e (run_as p m a) xs in
        omega arith

    pub went_on : {opcode : ℕ} {u : Underway} {d' : Device} → opcode ≡ opcode_after (setting_of d) d.underway xs → u ≡ paused_of opcode q → d' ≡ underway_to u d
        → Continued d (lends m a) xs out d' (lends m' a') out'
    went_on o i j =
        let g : run_as q m' a' ≡ run_on d (lends m a) xs = f.run ∙ ap (λ (z : Device). run_of z (run_as p m a) xs) c ∙ ap (λ (z : Progress). run_of (closed_of d) (run_as z m a) xs) r in
        record {
          device = j ∙ ap (λ (z : Underway). underway_to z d) (i ∙ ap (λ (z : ℕ). paused_of z q) o) ∙ ap (fed_to d xs) g;
          lent = ap (λ (z : Run). z.lent) g;
          output = f.driven ∙ ap (λ (z : Device). over (outs_of z (run_as p m a) xs) out) c ∙ ap (λ (z : Progress). over (outs_of (closed_of d) (run_as z m a) xs) out) r;
        }
