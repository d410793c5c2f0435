-- Laws of one clock.
-- Assumes nothing.
use Rattle.std.specs.Prelude.{◌≡◌, refl, ℕ, zero, suc, Bool, true, false, cond, leb, eqb, set}
use Rattle.std.proofs.Common.{sym, ap, ◌∙◌}
use Rattle.std.proofs.Math.Dec.{leb-suc-zero, eqb-suc-zero}
use Rattle.basis.specs.Truth.{untrue, cond_same}
use Rattle.units.specs.declared.Bytes.{Bytes}
use Rattle.units.specs.declared.Clocks.{Clocks}
use Rattle.units.specs.declared.Wires.{Wires}
use Rattle.units.specs.Units.{clocks, next, at_most, unfinished_of}
use Rattle.commands.specs.declared.plans.Body.{Body}
use Rattle.commands.specs.declared.plans.Body.TheVariants.{Nothing, FixedRead, AnyRead, FixedWrite, AnyWrite}
use Rattle.commands.specs.Plans.{writes}
use Rattle.counts.specs.declared.Phase.{Phase}
use Rattle.progress.specs.declared.Progress.{Progress}
use Rattle.record.specs.declared.devices.Aim.{Aim}
use Rattle.paper.specs.InForce.{body_for, wires_for}
use Rattle.contract_words.specs.Words.{Taken, Run}
use Rattle.machine_phases.specs.declared.Terms.{Terms}
use Rattle.machine_phases.specs.Machine.{full_at, byte_for, byte_in, last_at, data_held, data_step, step_in, step_of}

-- a clock goes by its phase
pub step_at : (h : Terms) (r : Run) (x : ℕ) {f : Phase} → r.progress.phase ≡ f → step_in f h r x ≡ step_of h r x
unfolding step_of
step_at h r x e = ap (λ (g : Phase). step_in g h r x) (sym e)

-- a byte's last clock is that after which at most no clock is left over
none_left : (n : ℕ) → leb n 0 ≡ eqb n 0
none_left zero = refl
none_left (suc n) = leb-suc-zero n ∙ sym (eqb-suc-zero n)

pub last_at_lem : (w : Wires) (t : Clocks) → at_most (unfinished_of w (next t)) (clocks 0) ≡ last_at w t
last_at_lem w t = none_left (unfinished_of w (next t)).0

either : (b : Bool) (p q : Progress) → p.number ≡ 0 → q.number ≡ 0 → (cond b p q).number ≡ 0
either true p q u v = u
either false p q u v = v

-- READS GATHER NOTHING: the number is 0 all through the data of what is no write
pub idle_number : (h : Terms) (r : Run) (x : ℕ) → writes (body_for h.setting r.progress.kind r.progress.address) ≡ false
    → r.progress.number ≡ 0 → (data_step h r x).progress.number ≡ 0
unfolding data_step data_held
idle_number h r x e z = rw e (either (full_at (body_for h.setting r.progress.kind r.progress.address) (wires_for h.setting r.progress.kind) _) _ _ refl z)

-- ---- one whole byte, by what the data is
module _ (hold : Bool) (a : Aim) (i : Bytes) (x : ℕ) (t : Taken) where
  abbrev body : Body
  body = body_for a.setting a.kind a.address

  pub kept : (b : Body) → writes b ≡ false → t ≡ byte_for hold b a i x t
  kept Nothing e = rw (cond_same hold t.lent)
  kept (FixedRead m) e = rw (cond_same hold t.lent)
  kept AnyRead e = rw (cond_same hold t.lent)
  kept (FixedWrite m) e = untrue (sym e)
  kept AnyWrite e = untrue (sym e)

  -- what is no write leaves everything
  pub byte_kept : {b : Body} → body ≡ b → writes b ≡ false → t ≡ byte_in hold a i x t
  byte_kept {b} e n = rw e (kept b n)

  -- a register write leaves memory and area
  pub byte_valued : {m : Bytes} → body ≡ FixedWrite m → record { lent = t.lent; value = set t.value i.0 x } ≡ byte_in hold a i x t
  byte_valued e = rw (e, cond_same hold t.lent)
