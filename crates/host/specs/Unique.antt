-- UNIQUE for the host half's two calls, and for the refusals that they begin with.
-- Assumes nothing.
use Rattle.std.specs.Prelude.{◌≡◌, refl, ℕ, false, cond, List, Ok, Err, MatchResult}
use Rattle.std.specs.declared.result.Result.{Result}
use Rattle.std.proofs.Common.{sym, ap, ◌∙◌, true≢false}
use Rattle.basis.specs.Unique.{check_unique}
use Rattle.kinds.specs.declared.Kind.{Kind}
use Rattle.units.specs.declared.Clocks.{Clocks}
use Rattle.units.specs.declared.Bytes.{Bytes}
use Rattle.units.specs.Units.{clocks, bytes}
use Rattle.record.specs.declared.answers.Answer.{Answer}
use Rattle.record.specs.declared.answers.Answer.TheVariants.{Done}
use Rattle.record.specs.Answers.{is_done}
use Rattle.paper.specs.Building.{Order, Told, build_of}
use Rattle.paper.specs.Collecting.{collect_of}
use Rattle.host_build.specs.Sizes.{refusal_of}
use Rattle.host_gather.specs.Refusals.{refusal_of as gathering_refused}
use Rattle.host.specs.Results.{result_as, built_as, gathered_as, NeverDone}

-- a result of either call, and the buffer as the call leaves it
pub record Ended (U : Type 0) : Type 0 where
  pub result : Result U Answer
  pub buffer : List ℕ

abbrev pub shows_built : Ended Clocks → Told Clocks
shows_built x = built_as x.result x.buffer

abbrev pub shows_gathered : Ended Bytes → Told Bytes
shows_gathered x = gathered_as x.result x.buffer

-- what is told is found again: what was done is `Ok`, and every other answer `Err`
abbrev found : {U : Type 0} → Told U → Ended U
found t = record { result = cond (is_done t.answer) (Ok t.number) (Err t.answer); buffer = t.buffer }

module _ {U : Type 0} (unit : ℕ → U) (out : List ℕ) where
  found_again : (r : Result U Answer) → NeverDone r → found (result_as unit r out) ≡ record { result = r; buffer = out }
  found_again (Ok u) n = refl
  found_again (Err v) n = rw n

one_end : {U : Type 0} (unit : ℕ → U) {x y : Ended U} {t : Told U} → NeverDone x.result → NeverDone y.result → result_as unit x.result x.buffer ≡ t → result_as unit y.result y.buffer ≡ t
    → x ≡ y
one_end unit {x} {y} n m e f = sym (found_again unit x.buffer x.result n) ∙ (ap found (e ∙ sym f) ∙ found_again unit y.buffer y.result m)

pub build_unique : (o : Order) (out : List ℕ) {x y : Ended Clocks} → NeverDone x.result → NeverDone y.result → shows_built x ≡ build_of o out → shows_built y ≡ build_of o out → x ≡ y
build_unique o out = one_end clocks

pub gather_unique : (wires : ℕ) (driven out : List ℕ) {x y : Ended Bytes} → NeverDone x.result → NeverDone y.result → shows_gathered x ≡ collect_of wires driven out
    → shows_gathered y ≡ collect_of wires driven out → x ≡ y
gather_unique wires driven out = one_end bytes

-- the refusals: what the contracts of `host_build::refusal` and `host_gather::refusal` say of each case of the result leaves one
abbrev pub Verdict : Answer → Result (Unit {0}) Answer → Type 0
Verdict v r = MatchResult r (λ u. v ≡ Done) (λ w. (w ≡ v) × (is_done w ≡ false))

one_verdict : (v : Answer) (r s : Result (Unit {0}) Answer) → Verdict v r → Verdict v s → r ≡ s
one_verdict v = check_unique (λ w. is_done w ≡ false) Done v (λ e. absurd (true≢false e))

pub build_refusal_unique : (o : Order) (k : Kind) (out : List ℕ) (r s : Result (Unit {0}) Answer) → Verdict (refusal_of o k out) r → Verdict (refusal_of o k out) s → r ≡ s
build_refusal_unique o k out = one_verdict (refusal_of o k out)

pub gather_refusal_unique : (wires : ℕ) (driven out : List ℕ) (r s : Result (Unit {0}) Answer) → Verdict (gathering_refused wires driven out) r → Verdict (gathering_refused wires driven out) s
    → r ≡ s
gather_refusal_unique wires driven out = one_verdict (gathering_refused wires driven out)
