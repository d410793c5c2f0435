-- What a run knows does not depend on what is lent to it, and what is lent keeps its size. Document 02, P1.
-- Assumes nothing.
use Rattle.std.specs.Prelude.{◌≡◌, ℕ, ◌%◌, Bool, List, [], ◌∷◌}
use Rattle.std.proofs.Math.Path.{refl, ap}
use Rattle.std.proofs.Common.{◌∙◌}
use Rattle.std.proofs.Math.Bool.{true, false, cond}
use Rattle.units.specs.declared.Bytes.{Bytes}
use Rattle.units.specs.declared.Clocks.{Clocks}
use Rattle.units.specs.declared.Wires.{Wires}
use Rattle.units.specs.Units.{whole_of}
use Rattle.wires.specs.Bits.{shift_of}
use Rattle.commands.specs.declared.plans.Body.{Body}
use Rattle.commands.specs.Plans.{writes}
use Rattle.counts.specs.declared.Phase.{Phase}
use Rattle.counts.specs.declared.Phase.TheVariants.{Command, Address, Wait, Data, Rest}
use Rattle.progress.specs.declared.Tally.{Tally}
use Rattle.progress.specs.declared.Progress.{Progress}
use Rattle.progress.specs.Progress.{entered, onward}
use Rattle.counts.specs.Counts.{body_tick}
use Rattle.record.specs.declared.devices.Aim.{Aim}
use Rattle.record.specs.declared.devices.Device.{Device}
use Rattle.record.specs.Devices.{aim_of}
use Rattle.paper.specs.InForce.{wires_for, body_for}
use Rattle.paper.specs.Storing.{Lent}
use Rattle.contract_words.specs.Words.{Held, Taken, Run}
use Rattle.machine_phases.specs.declared.Terms.{Terms}
use Rattle.machine_phases.specs.Machine.{terms_of, full_at, holds, byte_for, byte_in, last_at, held, held_in, data_held, data_step, step_in, step_of, run_of}
use Rattle.demand_1_2.specs.Kept.{SameSize}
use Rattle.demand_1_2.proofs.Kept.{byte_size}

-- a run with something else lent to it
abbrev lending : Progress → Lent → Run
lending p l = record { progress = p; lent = l }

-- ---- the data
-- what is known of the data: the number and the value
record Known : Type 0 where
  number : ℕ
  value : List ℕ

abbrev known : Held → Known
known h = record { number = h.number; value = h.taken.value }

module _ (h : Terms) (p : Progress) (x : ℕ) (l l' : Lent) where
  abbrev body : Body
  body = body_for h.setting p.kind p.address

  abbrev aim : Aim
  aim = aim_of h.setting p.kind p.address

  held_known : (w : Wires) (hold : Bool) (t : Clocks) → known (held w (byte_in hold aim) t (held_in (lending p l)) x) ≡ known (held w (byte_in hold aim) t (held_in (lending p l')) x)
  unfolding held
  held_known w hold t = by (last_at w t)
    where
      by : (b : Bool)
          → known (cond b (record { number = 0; taken = byte_in hold aim (whole_of w t) (shift_of w p.number x % 256) (held_in (lending p l)).taken }) (record { number = shift_of w p.number x; taken = (held_in (lending p l)).taken }))
          ≡ known (cond b (record { number = 0; taken = byte_in hold aim (whole_of w t) (shift_of w p.number x % 256) (held_in (lending p l')).taken }) (record { number = shift_of w p.number x; taken = (held_in (lending p l')).taken }))
      by true = refl
      by false = refl

  data_known : known (data_held h (lending p l) x) ≡ known (data_held h (lending p l') x)
  unfolding data_held
  data_known = by (writes body)
    where
      w : Wires
      w = wires_for h.setting p.kind

      by : (b : Bool)
          → known (cond b (held w (byte_in (holds h p.kind) aim) p.tally.counts.body (held_in (lending p l)) x) (held_in (lending p l)))
          ≡ known (cond b (held w (byte_in (holds h p.kind) aim) p.tally.counts.body (held_in (lending p l')) x) (held_in (lending p l')))
      by true = held_known w (holds h p.kind) p.tally.counts.body
      by false = refl

  -- ---- one clock
  step_known : (f : Phase) → (step_in f h (lending p l) x).progress ≡ (step_in f h (lending p l') x).progress
  unfolding data_step
  step_known Command = refl
  step_known Address = refl
  step_known Wait = refl
  step_known Data =
      let c = body_tick p.tally.counts in
      let t : Known → Tally = λ g. record { counts = c; value = g.value } in
      ap (λ (g : Known). cond (full_at body (wires_for h.setting p.kind) c.body) (entered Rest p.kind p.address (t g)) (onward g.number (t g) p)) data_known
  step_known Rest = refl

-- ALONG A RUN: what is known goes by the samples and what was known
pub run_known : (d : Device) (p : Progress) (l l' : Lent) (xs : List ℕ) → (run_of d (lending p l) xs).progress ≡ (run_of d (lending p l') xs).progress
unfolding run_of step_of
run_known d p l l' [] = refl
run_known d p l l' (x ∷ xs) =
    let h = terms_of d in
    let r = step_in p.phase h (lending p l) x in
    let r' = step_in p.phase h (lending p l') x in
    ap (λ (q : Progress). (run_of d (lending q r.lent) xs).progress) (step_known h p x l l' p.phase) ∙ run_known d r'.progress r.lent r'.lent xs

-- ---- sizes
module _ (h : Terms) (r : Run) (x : ℕ) where
  byte_kept : (hold : Bool) (b : Body) (a : Aim) (i : Bytes) (y : ℕ) (t : Taken) → SameSize t.lent (byte_for hold b a i y t).lent
  byte_kept true b a i y t = (refl, refl)
  byte_kept false b a i y t = byte_size b a i y t.lent

  held_kept : (w : Wires) (hold : Bool) (a : Aim) (t : Clocks) (b : Bool)
      → SameSize r.lent (cond {A = Held} b (record { number = 0; taken = byte_in hold a (whole_of w t) (shift_of w r.progress.number x % 256) (held_in r).taken }) (record { number = shift_of w r.progress.number x; taken = (held_in r).taken })).taken.lent
  held_kept w hold a t true = byte_kept hold (body_for a.setting a.kind a.address) a (whole_of w t) (shift_of w r.progress.number x % 256) (held_in r).taken
  held_kept w hold a t false = (refl, refl)

  data_kept : SameSize r.lent (data_held h r x).taken.lent
  unfolding data_held held
  data_kept = by (writes (body_for h.setting r.progress.kind r.progress.address))
    where
      w : Wires
      w = wires_for h.setting r.progress.kind

      a : Aim
      a = aim_of h.setting r.progress.kind r.progress.address

      by : (b : Bool) → SameSize r.lent (cond b (held w (byte_in (holds h r.progress.kind) a) r.progress.tally.counts.body (held_in r) x) (held_in r)).taken.lent
      by true = held_kept w (holds h r.progress.kind) a r.progress.tally.counts.body (last_at w r.progress.tally.counts.body)
      by false = (refl, refl)

  step_size : (f : Phase) → SameSize r.lent (step_in f h r x).lent
  unfolding data_step
  step_size Command = (refl, refl)
  step_size Address = (refl, refl)
  step_size Wait = (refl, refl)
  step_size Data = data_kept
  step_size Rest = (refl, refl)

pub run_size : (d : Device) (r : Run) (xs : List ℕ) → SameSize r.lent (run_of d r xs).lent
unfolding run_of step_of
run_size d r [] = (refl, refl)
run_size d r (x ∷ xs) =
    let one = step_size (terms_of d) r x r.progress.phase in
    let all = run_size d (step_in r.progress.phase (terms_of d) r x) xs in
    (all.0 ∙ one.0, all.1 ∙ one.1)
