-- THE DEVICE READS WHAT THE HOST BUILT, FOR THE PROGRAM (demand 2). A driver asks `host::build` for a command, hands the samples that it left to `device::transact`, and what came out in
-- these clocks to `host::gather`. The three are known here by their contracts alone: of each call a result and what it leaves in what was lent, equal to the paper's definition. Whatever program
-- makes the calls, with whatever buffers, the device has read the driver's command, and a read brings back the bytes that the paper says are read.
-- Assumes nothing.
use Rattle.std.specs.Prelude.{◌≡◌, true, List, ℕ, ◌≤◌, length, Result, Ok, Err, refl}
use Rattle.std.proofs.Common.{ap, ◌∙◌, sym, subst}
use Rattle.units.specs.declared.Clocks.{Clocks}
use Rattle.units.specs.declared.Bytes.{Bytes}
use Rattle.units.specs.Units.{wires_of}
use Rattle.basis.specs.Truth.{untrue}
use Rattle.commands.specs.Plans.{reads}
use Rattle.record.specs.declared.answers.Answer.{Answer}
use Rattle.record.specs.declared.answers.Answer.TheVariants.{Done}
use Rattle.record.specs.Answers.{is_done}
use Rattle.record.specs.declared.devices.Device.{Device}
use Rattle.record.specs.declared.devices.Outcome.{Outcome}
use Rattle.contract_words.specs.Words.{world_of}
use Rattle.paper.specs.Reading.{first, many}
use Rattle.paper.specs.Storing.{Lent}
use Rattle.paper.specs.Transaction.{World, over, transact_of}
use Rattle.paper.specs.Building as paper
use Rattle.paper.specs.Building.{Told, build_of}
use Rattle.paper.specs.Collecting.{collect_of}
use Rattle.host_order.specs.declared.Order.{Order}
use Rattle.host_order.specs.Orders.{order_as}
use Rattle.host.specs.Results.{built_as, gathered_as, NeverDone}
use Rattle.demand_1_2.specs.Built.{bytes_driven}
use Rattle.demand_1_2.specs.Meant.{Spelled, Meant, Lendable, sent, wires_in, body_meant, bytes_read, faultless}
use Rattle.demand_1_2.specs.Answered.{sent_told}
use Rattle.demand_1_2.specs.Understood.{Understood, understood}

-- THREE CALLS that were made, each with what was lent to it before and what stands there after it; each keeps to the contract of its function
pub record Driven (o : paper.Order) (d : Device) (l : Lent) : Type 0 where
  -- `build`, which was answered 0
  pub room : List ℕ
  pub built : Result Clocks Answer
  pub samples : List ℕ
  pub builds : built_as built samples ≡ build_of o room
  pub clocks : Clocks
  pub done : built ≡ Ok clocks
  -- `transact`, on as many samples as `build` told
  pub out : List ℕ
  pub outcome : Outcome
  pub memory : List ℕ
  pub area : List ℕ
  pub output : List ℕ
  pub transacts : world_of outcome memory area output ≡ transact_of d l (first clocks samples) out
  -- `gather`, on what these clocks put out
  pub store : List ℕ
  pub gathered : Result Bytes Answer
  pub bytes : List ℕ
  pub gathers : gathered_as gathered bytes ≡ collect_of (wires_of (wires_in o)) (first clocks output) store

-- WHAT A DRIVER HAS THEN
pub record Served (o : paper.Order) (d : Device) (l : Lent) (c : Driven o d l) : Type 0 where
  -- the device has read the command, the address and the data that were asked for
  pub understood : Understood o d l (first c.clocks c.samples) c.out
  -- and answers none of 1 to 7 and 11
  pub answer : faultless c.outcome.answer ≡ true
  -- a read is answered 0, and the bytes come back, as many as were asked for, over the front of the store
  pub done : reads (body_meant o) ≡ true → c.outcome.answer ≡ Done
  pub heard : reads (body_meant o) ≡ true → (bytes_driven (body_meant o) o.wanted).0 ≤ length c.store
      → gathered_as c.gathered c.bytes ≡ record { answer = Done; number = bytes_driven (body_meant o) o.wanted; buffer = over (bytes_read o d l) c.store }
  -- `gather` says then that it is done, since what it refuses is never answered 0
  pub gathered : NeverDone c.gathered → reads (body_meant o) ≡ true → (bytes_driven (body_meant o) o.wanted).0 ≤ length c.store → c.gathered ≡ Ok (bytes_driven (body_meant o) o.wanted)

-- what is told with 0 is no refusal
done_is_ok : (r : Result Bytes Answer) (b : List ℕ) {t : Told Bytes} → NeverDone r → gathered_as r b ≡ t → t.answer ≡ Done → r ≡ Ok t.number
done_is_ok (Ok u) b n e a = ap (λ (t : Told Bytes). Ok t.number) e
done_is_ok (Err v) b n e a = untrue (sym n ∙ ap is_done (ap (λ (t : Told Bytes). t.answer) e ∙ a))

module _ (q : Order) (written : List ℕ) (d : Device) (l : Lent) (sp : Spelled (order_as q written)) (m : Meant (order_as q written) d) (c : Driven (order_as q written) d l) where
  abbrev o : paper.Order
  o = order_as q written

  abbrev xs : List ℕ
  xs = first c.clocks c.samples

  -- the contract of `build` leaves no choice
  told : build_of o c.room ≡ record { answer = Done; number = c.clocks; buffer = c.samples }
  told = sym c.builds ∙ ap (λ (r : Result Clocks Answer). built_as r c.samples) c.done

  asked : (build_of o c.room).answer ≡ Done
  asked = ap (λ (t : Told Clocks). t.answer) told

  same_samples : sent (build_of o c.room) ≡ xs
  same_samples = ap sent told

  same_clocks : many xs ≡ c.clocks
  same_clocks = ap many (sym same_samples) ∙ sent_told o c.room asked ∙ ap (λ (t : Told Clocks). t.number) told

  pub served : Lendable d l xs c.out → Served o d l c
  served r =
      let u : Understood o d l xs c.out =
      subst (λ (ys : List ℕ). Understood o d l ys c.out) same_samples
      (understood o c.room asked sp d m l c.out (subst (λ (ys : List ℕ). Lendable d l ys c.out) (sym same_samples) r)) in
      let h : reads (body_meant o) ≡ true → (bytes_driven (body_meant o) o.wanted).0 ≤ length c.store
      → gathered_as c.gathered c.bytes ≡ record { answer = Done; number = bytes_driven (body_meant o) o.wanted; buffer = over (bytes_read o d l) c.store } =
      λ e f.
      c.gathers
      ∙ ap (λ (w : World). collect_of (wires_of (wires_in o)) (first c.clocks w.output) c.store) c.transacts
      ∙ ap (λ (n : Clocks). collect_of (wires_of (wires_in o)) (first n (transact_of d l xs c.out).output) c.store) (sym same_clocks)
      ∙ u.heard e c.store f in
      record {
        understood = u;
        answer = ap (λ (w : World). faultless w.answer) c.transacts ∙ u.answer;
        done = λ e. ap (λ (w : World). w.answer) c.transacts ∙ u.done e;
        heard = h;
        gathered = λ n e f. done_is_ok c.gathered c.bytes n (h e f) refl;
      }
