-- Laws of the host half: a refusal leaves all as it was, and what is done was put over the front of the buffer.
-- Assumes nothing.
use Rattle.std.specs.Prelude.{◌≡◌, ℕ, ◌≤◌, true, false, List, [], length}
use Rattle.std.proofs.Common.{sym, ◌∙◌}
use Rattle.std.proofs.Math.Path.{ap}
use borrow.Author.Tests.{ltb-false}
use Rattle.basis.specs.Truth.{neither}
use Rattle.units.specs.declared.Clocks.{Clocks}
use Rattle.units.specs.declared.Bytes.{Bytes}
use Rattle.units.specs.Units.{clocks, bytes, fewer, longest}
use Rattle.kinds.specs.declared.Kind.{Kind}
use Rattle.record.specs.declared.answers.Answer.{Answer}
use Rattle.record.specs.Devices.{mode_wires}
use Rattle.buffers.specs.Page.{Page, page, puts_of}
use Rattle.buffers.specs.Laws.{puts_front}
use Rattle.record.specs.Answers.{is_done}
use Rattle.paper.specs.Reading.{many}
use Rattle.paper.specs.Laws.{unrefused_when, fit_when}
use Rattle.paper.specs.Transaction.{over}
use Rattle.paper.specs.Building.{Order, kind_asked, built_of, told, refusals_of, build_of}
use Rattle.paper.specs.Collecting.{collected, unfit_of, collect_of}
use Rattle.host_order.specs.declared.Order as code
use Rattle.host_order.specs.Orders.{order_as}
use Rattle.host_build.specs.Sizes as building
use Rattle.host_gather.specs.Refusals as collecting

-- ---- what a call tells, for any unit
module _ {U : Type 0} (unit : ℕ → U) (v : Answer) (xs out : List ℕ) where
  told_refused : is_done v ≡ false → record { answer = v; number = unit 0; buffer = out } ≡ told unit v xs out
  told_refused e = rw e

  told_done : {n : ℕ} {out' : List ℕ} → is_done v ≡ true → length xs ≤ length out → page n out' ≡ puts_of xs (page 0 out)
      → record { answer = v; number = unit n; buffer = out' } ≡ told unit v xs out
  unfolding over
  told_done e h p =
      let q = p ∙ puts_front xs out h in
      rw e (ap (λ (s : Page). record { answer = v; number = unit s.at; buffer = s.buffer }) q)

-- ---- building
-- the kind does not hang on what is to be written
pub kind_same : (o : code.Order) (written : List ℕ) {k : Kind} → k ≡ kind_asked (order_as o []) → k ≡ kind_asked (order_as o written)
unfolding kind_asked
kind_same o written e = e

module _ (o : Order) (out : List ℕ) {v : Answer} (e : v ≡ building.refusal_of o (kind_asked o) out) where
  abbrev xs : List ℕ
  xs = built_of o (kind_asked o)

  pub build_refused : is_done v ≡ false → record { answer = v; number = clocks 0; buffer = out } ≡ build_of o out
  unfolding building.refusal_of build_of
  build_refused n = told_refused clocks v xs out n ∙ ap (λ (u : Answer). told clocks u xs out) e

  -- a row that does not hold tells that there is room
  build_room : is_done v ≡ true → length xs ≤ length out
  unfolding building.refusal_of
  build_room d =
      ltb-false (length out) (length xs)
      (neither (fewer longest (many xs)) _ (unrefused_when (refusals_of o (kind_asked o) out) (ap is_done (sym e) ∙ d)).no_room).1

  pub build_done : {n : Clocks} {out' : List ℕ} → is_done v ≡ true → page n.0 out' ≡ puts_of xs (page 0 out)
      → record { answer = v; number = n; buffer = out' } ≡ build_of o out
  unfolding building.refusal_of build_of
  build_done d p = told_done clocks v xs out d (build_room d) p ∙ ap (λ (u : Answer). told clocks u xs out) e

-- ---- gathering
module _ (wires : ℕ) (driven out : List ℕ) {v : Answer} (e : v ≡ collecting.refusal_of wires driven out) where
  abbrev bs : List ℕ
  bs = collected (mode_wires wires) driven

  pub gather_refused : is_done v ≡ false → record { answer = v; number = bytes 0; buffer = out } ≡ collect_of wires driven out
  unfolding collecting.refusal_of collect_of
  gather_refused n = told_refused bytes v bs out n ∙ ap (λ (u : Answer). told bytes u bs out) e

  gather_room : is_done v ≡ true → length bs ≤ length out
  unfolding collecting.refusal_of
  gather_room d =
      ltb-false (length out) (length bs) (fit_when (unfit_of wires driven out) (ap is_done (sym e) ∙ d)).no_room

  pub gather_done : {n : Bytes} {out' : List ℕ} → is_done v ≡ true → page n.0 out' ≡ puts_of bs (page 0 out)
      → record { answer = v; number = n; buffer = out' } ≡ collect_of wires driven out
  unfolding collecting.refusal_of collect_of
  gather_done d p = told_done bytes v bs out d (gather_room d) p ∙ ap (λ (u : Answer). told bytes u bs out) e
