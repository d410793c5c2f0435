-- THE DEVICE READS WHAT THE HOST BUILT (demand 2). For a driver engineer: ask the host half for a command; if it answers 0, send the samples that it left to any device
-- that is awake and in a valid state, is of that part and in that bus mode, has (for 4B) that configuration 2, and has the address, with memory and area of its size and an output byte for
-- every clock. Then
-- - the device takes them for just that opcode, that address and that data, and for a read it drives as many bytes as were asked for (65 no more than its register has);
-- - it finds nothing wrong with the clocks: the answer is none of 1 to 7 and 11. What is left to decide lies in the device's own state and in the value of a
--   register write: 8, 9, 10, 12, and a read is answered 0;
-- - for a read, handing what these clocks put out, all of it, to the host's other function gives the bytes that the paper says are read there.
-- It is stated over the definitions that `build`, `gather` and `transact` are proved to equal.
-- Assumes nothing.
use Rattle.std.specs.Prelude.{◌≡◌, ℕ, ◌*◌, ◌≤◌, Bool, true, cond, List, length}
use Rattle.std.proofs.Common.{sym, subst, ◌∙◌}
use Rattle.std.proofs.Math.Path.{ap}
use Rattle.units.specs.declared.Wires.{Wires}
use Rattle.units.specs.Units.{clocks, wires_of, per_byte, clocks_of}
use Rattle.wires.specs.Bits.{gather}
use Rattle.parts.specs.declared.Part.{Part}
use Rattle.kinds.specs.declared.Kind.{Kind}
use Rattle.kinds.specs.declared.Source.TheVariants as From
use Rattle.kinds.specs.declared.Kind.TheVariants as Kinds
use Rattle.commands.specs.declared.plans.Body.{Body}
use Rattle.commands.specs.Plans.{later_wires, address_of, body_of, reads, writes}
use Rattle.record.specs.declared.answers.Answer.TheVariants.{Done}
use Rattle.record.specs.declared.devices.Device.{Device}
use Rattle.record.specs.Devices.{setting_of}
use Rattle.record.specs.declared.devices.Setting.{Setting}
use Rattle.paper.specs.InForce.{wires_for}
use Rattle.paper.specs.Reading.{first, many, reading_of, data_bytes}
use Rattle.paper.specs.Storing.{Lent}
use Rattle.paper.specs.Transaction.{over, transact_of}
use Rattle.paper.specs.Building.{Order, many_bytes, too_many, sent_on, kind_asked, addressed, built_of, build_of}
use Rattle.paper.specs.Collecting.{collect_of}
use Rattle.demand_1_2.specs.Driven.{blank_length}
use Rattle.demand_1_2.specs.Sent.{byte_read_lem}
use Rattle.demand_1_2.specs.Planned.{asked_same}
use Rattle.demand_1_2.specs.Built.{bytes_driven, shown_all}
use Rattle.demand_1_2.specs.Meant.{Spelled, Meant, Lendable, sent, wires_in, body_meant, bytes_read, faultless}
use Rattle.demand_1_2.specs.Answered.{no_refusal, sent_is, suits, carried_data, read_so, no_early, read_done, heard_so}

-- ---- the statement
pub record Understood (o : Order) (d : Device) (l : Lent) (xs out : List ℕ) : Type 0 where
  -- the command, its address where it has one, and its data
  pub opcode : gather (sent_on o) (reading_of (setting_of d) xs).command_part ≡ o.opcode
  pub kind : (reading_of (setting_of d) xs).kind ≡ kind_asked o
  pub address : addressed (address_of (kind_asked o)) ≡ true → (reading_of (setting_of d) xs).address ≡ o.address
  pub written : writes (body_meant o) ≡ true → data_bytes (wires_in o) (reading_of (setting_of d) xs).data_part ≡ o.written
  pub sent_all : writes (body_meant o) ≡ true → many (reading_of (setting_of d) xs).data_part ≡ clocks_of (wires_in o) (many_bytes o.written)
  pub wanted : reads (body_meant o) ≡ true → many (reading_of (setting_of d) xs).data_part ≡ clocks_of (wires_in o) (bytes_driven (body_meant o) o.wanted)
  pub all : reads (body_meant o) ≡ true → (kind_asked o ≡ Kinds.Read From.Map → ⊥) → bytes_driven (body_meant o) o.wanted ≡ o.wanted
  -- the answer
  pub answer : faultless (transact_of d l xs out).answer ≡ true
  pub done : reads (body_meant o) ≡ true → (transact_of d l xs out).answer ≡ Done
  -- what comes back
  pub heard : reads (body_meant o) ≡ true → (buffer : List ℕ) → (bytes_driven (body_meant o) o.wanted).0 ≤ length buffer
      → collect_of (wires_of (wires_in o)) (first (many xs) (transact_of d l xs out).output) buffer
      ≡ record { answer = Done; number = bytes_driven (body_meant o) o.wanted; buffer = over (bytes_read o d l) buffer }

-- ---- the words of the order are those of the device
module _ (o : Order) (room : List ℕ) (done : (build_of o room).answer ≡ Done) (sp : Spelled o) (d : Device) (m : Meant o d) where
  abbrev k : Kind
  k = kind_asked o

  abbrev s : Setting
  s = setting_of d

  abbrev body : Body
  body = body_of s.part k o.address

  abbrev v : Wires
  v = wires_for s k

  same_body : body_meant o ≡ body
  same_body = ap (λ (p : Part). body_of p k o.address) (sym (suits o room done sp d m).part)

  same_wires : wires_in o ≡ v
  unfolding wires_for
  same_wires = ap (later_wires k) (sym (suits o room done sp d m).wires)

  address_so : (b : Bool) → b ≡ true → cond b o.address 0 ≡ o.address
  address_so b e = rw e

  is_read : {B : Body} → B ≡ body → reads B ≡ true → reads body ≡ true
  is_read e h = ap reads (sym e) ∙ h

  understood_so : (l : Lent) (out : List ℕ) → Lendable d l (built_of o k) out → Understood o d l (built_of o k) out
  understood_so l out r =
      let e₁ = read_so o room done sp d m in
      let carries = carried_data o room done sp d m in
      record {
        opcode = rw (e₁, (suits o room done sp d m).wires) (byte_read_lem (sent_on o) o.opcode sp.opcode);
        kind = rw e₁;
        address = λ e. rw e₁ (address_so (addressed (address_of k)) e);
        written = λ e. rw (e₁, same_wires) (carries.written (ap writes (sym same_body) ∙ e));
        sent_all = λ e. rw (e₁, same_wires) (carries.sent_all (ap writes (sym same_body) ∙ e));
        wanted = λ e.
            rw (e₁, same_wires, same_body)
            (ap many (carries.wanted (is_read same_body e)) ∙ ap clocks (blank_length ((bytes_driven body o.wanted).0 * per_byte v)));
        all = λ e other.
            shown_all (body_meant o) o.wanted (many_bytes o.written) e
            (ap (λ (b : Body). too_many b o.wanted (many_bytes o.written)) (sym (asked_same k (body_meant o) other)) ∙ (no_refusal o room done).too_many);
        answer = no_early o room done sp d m l out r;
        done = λ e. read_done o room done sp d m l out r (is_read same_body e);
        heard = λ e buffer h.
            rw (same_wires, same_body)
            (heard_so o room done sp d m l out r (is_read same_body e) buffer (subst (λ (b : Body). (bytes_driven b o.wanted).0 ≤ length buffer) same_body h));
      }

-- THE DEVICE READS WHAT THE HOST BUILT
pub understood : (o : Order) (room : List ℕ) → (build_of o room).answer ≡ Done → Spelled o → (d : Device) → Meant o d
    → (l : Lent) (out : List ℕ) → Lendable d l (sent (build_of o room)) out → Understood o d l (sent (build_of o room)) out
understood o room done sp d m l out r =
    let e = sent_is o room done in
    subst (λ (xs : List ℕ). Understood o d l xs out) (sym e) (understood_so o room done sp d m l out (subst (λ (xs : List ℕ). Lendable d l xs out) e r))
