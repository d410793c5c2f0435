-- `image_check::is_valid` meets its contract: each way is a test of the definition.
-- Assumes nothing.
use Rattle.std.specs.Prelude.{◌≡◌, ℕ, Bool, true, false, cond, refl, Ok, Err, MatchResult}
use Rattle.std.proofs.Common.{sym, ◌∙◌}
use Rattle.std.proofs.lemmas.Result.{MatchResult-at_ok, MatchResult-at_err}
use Rattle.parts.specs.Parts.{part_of, known_part, part_named}
use Rattle.device_checks.specs.Laws.{offered_reach}
use Rattle.image_check.specs.Accepted.{valid_record}
use Rattle.image_check.proofs.is_valid.Goals as goal

either : {T E : Type 0} (b : Bool) (x : T) (e : E) → MatchResult (cond b (Ok x) (Err e)) (λ p. (b ≡ true) × (p ≡ x)) (λ f. b ≡ false)
either true x e = (refl, refl)
either false x e = refl

named : (k : ℕ) → MatchResult (part_named k) (λ p. (known_part k ≡ true) × (p ≡ part_of k)) (λ e. known_part k ≡ false)
named k = either (known_part k) (part_of k) _

pub returns-in_default : goal.returns-in_default
unfolding valid_record
returns-in_default c = rw (MatchResult-at_err _ _ _ (sym c.try_from.ensures ∙ c.in_default.is) (named c.args.d.make.part))

pub valid-requires : goal.valid-requires
valid-requires c =
    let n = MatchResult-at_ok _ _ _ (sym c.try_from.ensures ∙ c.in-Ok.is) (named c.args.d.make.part) in
    offered_reach _ _ (rw n.1 at (sym c.is_offered.ensures ∙ c.if-is_offered.true))

pub returns-then-is_offered : goal.returns-then-is_offered
unfolding valid_record
returns-then-is_offered c =
    let n = MatchResult-at_ok _ _ _ (sym c.try_from.ensures ∙ c.in-Ok.is) (named c.args.d.make.part) in
    rw (n.0, ← n.1, ← c.is_offered.ensures, c.if-is_offered.true, c.valid.ensures)

pub returns-else-is_offered : goal.returns-else-is_offered
unfolding valid_record
returns-else-is_offered c =
    let n = MatchResult-at_ok _ _ _ (sym c.try_from.ensures ∙ c.in-Ok.is) (named c.args.d.make.part) in
    rw (n.0, ← n.1, ← c.is_offered.ensures, c.if-is_offered.false)
