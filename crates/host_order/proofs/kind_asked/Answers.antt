-- `host_order::kind_asked` meets its contract: each way is the first test that fails, or the opcode's decision.
-- Assumes nothing.
use Rattle.std.specs.Prelude.{◌≡◌, ℕ, Bool, true, false, cond, refl, Ok, Err, MatchResult}
use Rattle.std.proofs.Common.{sym, ◌∙◌}
use Rattle.std.proofs.lemmas.Result.{MatchResult-at_ok, MatchResult-at_err}
use Rattle.parts.specs.Parts.{part_of, known_part, part_named}
use Rattle.paper.specs.Building.{kind_asked}
use Rattle.host_order.proofs.kind_asked.Goals as goal

either : {T E : Type 0} (b : Bool) (x : T) (e : E) → MatchResult (cond b (Ok x) (Err e)) (λ p. (b ≡ true) × (p ≡ x)) (λ f. b ≡ false)
either true x e = (refl, refl)
either false x e = refl

named : (k : ℕ) → MatchResult (part_named k) (λ p. (known_part k ≡ true) × (p ≡ part_of k)) (λ e. known_part k ≡ false)
named k = either (known_part k) (part_of k) _

pub returns-in_default : goal.returns-in_default
unfolding kind_asked
returns-in_default c = rw (MatchResult-at_err _ _ _ (sym c.try_from.ensures ∙ c.in_default.is) (named c.args.o.part))

pub returns-then-not-mode_allowed : goal.returns-then-not-mode_allowed
unfolding kind_asked
returns-then-not-mode_allowed c =
    let n = MatchResult-at_ok _ _ _ (sym c.try_from.ensures ∙ c.in-Ok.is) (named c.args.o.part) in
    rw (n.0, ← n.1, ← c.family-family.ensures, ← c.mode_allowed.ensures, c.if-not-mode_allowed.true)

pub returns : goal.returns
unfolding kind_asked
returns c =
    let n = MatchResult-at_ok _ _ _ (sym c.try_from.ensures ∙ c.in-Ok.is) (named c.args.o.part) in
    rw (n.0, ← n.1, ← c.family-family.ensures, ← c.mode_allowed.ensures, c.if-not-mode_allowed.false, c.kind_of.ensures, c.mode_wires.ensures)
