-- COUNTS (demand 2): the samples are those of the five phases in their order, so that the five counts add up to the clocks; and each count is its phase's length in
-- the definition, or what is left where the clocks end early.
-- Assumes nothing.
use Rattle.std.specs.Prelude.{◌≡◌, refl, ℕ, ◌+◌, ◌*◌, ◌-◌, min, false, List, ◌++◌, length, drop}
use Rattle.std.proofs.Common.{ap, ◌∙◌, arith, length-take, length-drop, length-append}
use Rattle.units.specs.declared.Clocks.{Clocks}
use Rattle.units.specs.declared.Wires.{Wires}
use Rattle.units.specs.Units.{clocks, less, per_byte, clocks_of}
use Rattle.commands.specs.declared.plans.Body.{Body}
use Rattle.commands.specs.declared.plans.Body.TheVariants.{Nothing, FixedRead, AnyRead, FixedWrite, AnyWrite}
use Rattle.counts.specs.declared.Counts.{Counts}
use Rattle.counts.specs.Counts.{total}
use Rattle.record.specs.declared.devices.Device.{Device}
use Rattle.record.specs.declared.devices.Setting.{Setting}
use Rattle.record.specs.Devices.{setting_of}
use Rattle.record.specs.Answers.{refuses}
use Rattle.paper.specs.InForce.{command_clocks, wires_for, address_clocks, wait_clocks, body_for}
use Rattle.paper.specs.Reading.{many, data_part, Reading, reading_of}
use Rattle.paper.specs.Storing.{Lent}
use Rattle.paper.specs.Transaction.{facts_of, clocked_of, transact_of}
use Rattle.paper.specs.ReadingLaws.{parts_together}
use Rattle.paper.proofs.CallLaws.{not_refused}

-- THE SUM
pub counts_add_up : (d : Device) (l : Lent) (xs out : List ℕ) → refuses (transact_of d l xs out).answer ≡ false → total (transact_of d l xs out).counts ≡ many xs
unfolding clocked_of facts_of
counts_add_up d l xs out e =
    let p = reading_of (setting_of d) xs in
    let s = ap length (parts_together (setting_of d) xs) in
    let a = length-append p.command_part (p.address_part ++ (p.wait_part ++ (p.data_part ++ p.rest_part))) in
    let b = length-append p.address_part (p.wait_part ++ (p.data_part ++ p.rest_part)) in
    let c = length-append p.wait_part (p.data_part ++ p.rest_part) in
    let f = length-append p.data_part p.rest_part in
    rw (not_refused d l xs out e) (ap clocks (omega arith))

-- ---- each count
-- a phase takes its clocks, or all that are left
abbrev pub share : Clocks → Clocks → Clocks
share c left = clocks (min c.0 left.0)

abbrev pub data_share : Body → Wires → Clocks → Clocks
data_share Nothing w left = clocks 0
data_share (FixedRead b) w left = share (clocks_of w b) left
data_share AnyRead w left = left
data_share (FixedWrite b) w left = share (clocks_of w b) left
data_share AnyWrite w left = left

-- the counts are the shares of the phases, in their order
pub record Shares (s : Setting) (p : Reading) (xs : List ℕ) (c : Counts) : Type 0 where
  pub command : c.command ≡ share (command_clocks s) (many xs)
  pub address : c.address ≡ share (address_clocks s p.kind) (less (many xs) (command_clocks s))
  pub wait : c.wait ≡ share (wait_clocks s p.kind p.address) (less (less (many xs) (command_clocks s)) (address_clocks s p.kind))
  pub body : c.body
      ≡ data_share (body_for s p.kind p.address) (wires_for s p.kind)
      (less (less (less (many xs) (command_clocks s)) (address_clocks s p.kind)) (wait_clocks s p.kind p.address))
  pub rest : c.rest ≡ less (less (less (less (many xs) c.command) c.address) c.wait) c.body

data_share_lem : (b : Body) (w : Wires) (xs : List ℕ) → many (data_part b w xs) ≡ data_share b w (many xs)
data_share_lem Nothing w xs = refl
data_share_lem (FixedRead b) w xs = ap clocks (length-take (b.0 * per_byte w) xs)
data_share_lem AnyRead w xs = refl
data_share_lem (FixedWrite b) w xs = ap clocks (length-take (b.0 * per_byte w) xs)
data_share_lem AnyWrite w xs = refl

-- what four of five leave of their sum
last_of : (a b c d e n : ℕ) → a + b + c + d + e ≡ n → e ≡ n - a - b - c - d
last_of a b c d e n h = omega arith

-- EACH COUNT
pub counts_are_shares : (d : Device) (l : Lent) (xs out : List ℕ) → refuses (transact_of d l xs out).answer ≡ false
    → Shares (setting_of d) (reading_of (setting_of d) xs) xs (transact_of d l xs out).counts
unfolding clocked_of facts_of reading_of
counts_are_shares d l xs out e =
    let s = setting_of d in
    let p = reading_of s xs in
    let n₁ = (command_clocks s).0 in
    let n₂ = (address_clocks s p.kind).0 in
    let n₃ = (wait_clocks s p.kind p.address).0 in
    let e₁ = length-drop n₁ xs in
    let e₂ = length-drop n₂ (drop n₁ xs) ∙ ap (λ (k : ℕ). k - n₂) e₁ in
    let e₃ = length-drop n₃ (drop n₂ (drop n₁ xs)) ∙ ap (λ (k : ℕ). k - n₃) e₂ in
    let sum = ap (λ (c : Clocks). c.0) (counts_add_up d l xs out e) in
    rw (not_refused d l xs out e)
    (record {
      rest = ap clocks (last_of _ _ _ _ _ (length xs) (rw (not_refused d l xs out e) at sum));
      command = ap clocks (length-take n₁ xs);
      address = ap clocks (length-take n₂ (drop n₁ xs) ∙ ap (min n₂) e₁);
      wait = ap clocks (length-take n₃ (drop n₂ (drop n₁ xs)) ∙ ap (min n₃) e₂);
      body =
          data_share_lem (body_for s p.kind p.address) (wires_for s p.kind) (drop n₃ (drop n₂ (drop n₁ xs)))
          ∙ ap (λ (k : ℕ). data_share (body_for s p.kind p.address) (wires_for s p.kind) (clocks k)) e₃;
    })
