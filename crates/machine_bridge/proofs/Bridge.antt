-- THE BRIDGE: running the machine over all samples and finishing leaves what the paper's transaction leaves, for every record, memory, area, list of samples and
-- output buffer (D23).
-- Assumes nothing.
use Rattle.std.specs.Prelude.{◌≡◌, refl, ℕ, true, cond, List, [], length}
use Rattle.std.proofs.Common.{ap, ◌∙◌, arith, length-take, drop_of_length-le, ltb-true}
use Rattle.std.proofs.Math.Seq.{drop-nil}
use Rattle.std.proofs.lemmas.Bool.{lt-leb}
use Rattle.units.specs.declared.Clocks.{Clocks}
use Rattle.units.specs.declared.Wires.{Wires}
use Rattle.units.specs.Units.{fewer}
use Rattle.kinds.specs.declared.Kind.TheVariants.{Unknown}
use Rattle.commands.specs.declared.plans.Body.{Body}
use Rattle.record.specs.declared.devices.Device.{Device}
use Rattle.record.specs.declared.devices.Setting.{Setting}
use Rattle.record.specs.Devices.{setting_of, aim_of}
use Rattle.paper.specs.InForce.{command_clocks, wires_for, address_clocks, wait_clocks, body_for}
use Rattle.paper.specs.Reading.{first, after, many, kind_read, data_part, reading_of, counts_in}
use Rattle.paper.specs.Storing.{Lent}
use Rattle.paper.specs.Answers.{judge}
use Rattle.paper.specs.Transaction.{sent_bytes, body_in, facts_of, stored_by, undriven, around, output_of, over, clocked_of}
use Rattle.contract_words.specs.Words.{Taken, Held, nothing_taken, begun}
use Rattle.machine_phases.specs.Machine.{terms_of, holds, run_of, outs_of}
use Rattle.machine_end.specs.Finish.{facts_in, outcome_of, finish_of}
use Rattle.machine_bridge.specs.Stage.{Seen, seen}
use Rattle.machine_bridge.specs.Taking.{held_all, taken_all}
use Rattle.machine_bridge.specs.Phases.{data_on, wait_on, address_on, command_on}
use Rattle.machine_bridge.proofs.Phases.{command_law, data_nil}
use Rattle.machine_bridge.specs.Silence.{at_end}
use Rattle.machine_bridge.specs.Bridge.{done, driven_by, held_back, world}

-- the machine has read what the paper reads
reading : (d : Device) (l : Lent) (xs : List ℕ)
    → let p = reading_of (setting_of d) xs in
    seen d (begun l) xs ≡ record { facts = facts_of (setting_of d) p; lent = held_back d l p; out = around p (driven_by d l p) }
unfolding command_on address_on wait_on data_on reading_of sent_bytes facts_of stored_by
reading d l xs =
    let s = setting_of d in
    let p = reading_of s xs in
    let b = body_in s p in
    let a = aim_of s p.kind p.address in
    let hold = holds (terms_of d) p.kind in
    let see : Taken → Seen = λ t. record { facts = record { kind = p.kind; address = p.address; tally = record { counts = counts_in p; value = t.value } }; lent = t.lent; out = around p (driven_by d l p) } in
    command_law d l xs
    ∙ ap see (ap (λ (h : Held). h.taken) (taken_all b (wires_for s p.kind) hold a p.data_part (nothing_taken l)) ∙ held_all b a hold (sent_bytes s p) (nothing_taken l))

-- of whatever samples: its kind, its address and its tally are theirs
pub facts_read : (d : Device) (l : Lent) (xs : List ℕ) → facts_in (run_of d (begun l) xs).progress ≡ facts_of (setting_of d) (reading_of (setting_of d) xs)
facts_read d l xs = ap (λ (z : Seen). z.facts) (reading d l xs)

-- a command that is cut has no kind, and an address that is cut no data
cut_command_lem : (s : Setting) (xs : List ℕ) → fewer (many (first (command_clocks s) xs)) (command_clocks s) ≡ true → kind_read s (first (command_clocks s) xs) ≡ Unknown
unfolding kind_read
cut_command_lem s xs e = rw (lt-leb (command_clocks s).0 (length (first (command_clocks s) xs)) (ltb-true _ _ e))

cut_address_lem : (c v : Clocks) (b : Body) (w : Wires) (xs : List ℕ) → fewer (many (first c xs)) c ≡ true → data_part b w (after v (after c xs)) ≡ []
cut_address_lem c v b w xs e =
    let h = ltb-true (length (first c xs)) c.0 e in
    let k = length-take c.0 xs in
    rw (drop_of_length-le xs {i = c.0} (omega arith), drop-nil v.0) (data_nil b w)

final : (d : Device) (l : Lent) (xs : List ℕ)
    → let p = reading_of (setting_of d) xs in
    (held_back d l p ≡ cond (done d xs) (stored_by (setting_of d) p l) l) × (driven_by d l p ≡ cond (done d xs) (driven_by d l p) (undriven p.data_part))
unfolding reading_of
final d l xs =
    let s = setting_of d in
    let p = reading_of s xs in
    at_end d l p (cut_command_lem s xs)
    (cut_address_lem (address_clocks s p.kind) (wait_clocks s p.kind p.address) (body_for s p.kind p.address) (wires_for s p.kind) (after (command_clocks s) xs))
    (done d xs) refl

pub bridge : (d : Device) (l : Lent) (xs out : List ℕ) → finish_of d (run_of d (begun l) xs) (over (outs_of d (begun l) xs) out) ≡ clocked_of d l xs out
unfolding finish_of outcome_of clocked_of judge output_of
bridge d l xs out =
    let s = setting_of d in
    let p = reading_of s xs in
    let f = facts_of s p in
    let e = final d l xs in
    ap (λ (z : Seen). world d z.facts z.lent z.out out) (reading d l xs)
    ∙ ap (λ (m : Lent). world d f m (around p (driven_by d l p)) out) e.0
    ∙ ap (λ (o : List ℕ). world d f (cond (done d xs) (stored_by s p l) l) (around p o) out) e.1
