-- Laws of the calls: each way through a call is one of its definition.
-- Assumes nothing.
use Rattle.std.specs.Prelude.{◌≡◌, ℕ, List, [], length, Result, Ok, Err}
use Rattle.std.proofs.Common.{ap, ◌∙◌, eq-eqb, ne_eqb}
use Rattle.units.specs.declared.Clocks.{Clocks}
use Rattle.units.specs.declared.Bytes.{Bytes}
use Rattle.record.specs.declared.answers.Answer.{Answer}
use Rattle.record.specs.Answers.{answer_number}
use Rattle.paper.specs.Storing.{Lent}
use Rattle.paper.specs.Building.{Order, Told, build_of}
use Rattle.paper.specs.Collecting.{collect_of}
use Rattle.contract_words.specs.Words.{lends}
use Rattle.image_calls.specs.declared.Reply.{Reply}
use Rattle.image_calls.specs.Calls.{Imaged, imaged_as}
use Rattle.image_calls.specs.Fresh.{Made, made_in}
use Rattle.words.specs.Words.{counts_over, number_over}
use Rattle.cabi.specs.Calls.{Call, answer_in, numbered_as, made_from, call_as, in_words, counted, unroomed_number, numbered}
use Rattle.cabi.specs.Fills.{filled_as, build_in, gather_in}

-- ---- fresh chips
pub made_told : {v : ℕ} (r : Result (Unit {0}) Answer) (image : List ℕ) {m : Made} → v ≡ answer_number (answer_in r) → made_in r image ≡ m → numbered_as v image ≡ made_from m
made_told (Ok u) image e f = rw e (ap made_from f)
made_told (Err v) image e f = rw e (ap made_from f)

-- ---- the device
-- a reply, told without words for counts
pub plain : {v : ℕ} (r : Reply) (image m a z : List ℕ) {k : Imaged} → v ≡ answer_number r.answer → imaged_as r image m a z ≡ k → call_as v image m a z [] ≡ in_words k []
unfolding counts_over
plain r image m a z e f = rw e (ap (λ (i : Imaged). in_words i []) f)

module _ (image : List ℕ) (l : Lent) (out counts : List ℕ) (k : Imaged) where
  -- no five words for the counts
  pub unroomed_told : {v : ℕ} (memory area : List ℕ) → l ≡ lends memory area → v ≡ unroomed_number image → (length counts ≡ 5 → ⊥) → call_as v image memory area out counts ≡ counted image l out counts k
  unroomed_told memory area e f n = rw (ne_eqb (length counts) 5 n, e, f)

  -- five words: what the call leaves, and the counts in them
  pub counted_told : {v : ℕ} {counts' : List ℕ} (r : Reply) (image' m a z : List ℕ) → length counts ≡ 5 → imaged_as r image' m a z ≡ k
      → call_as v [] [] [] [] counts' ≡ numbered r counts → call_as v image' m a z counts' ≡ counted image l out counts k
  counted_told r image' m a z n e t =
      ap (λ (c : Call). call_as c.answer image' m a z c.counts) t ∙ rw (eq-eqb (length counts) 5 n) (ap (λ (i : Imaged). in_words i counts) e)

-- ---- the host half
module _ (out number : List ℕ) (n : length number ≡ 1) where
  pub build_told : (o : Order) (t : Told Clocks) → t ≡ build_of o out → filled_as (answer_number t.answer) t.buffer (number_over t.number.0 number) ≡ build_in o out number
  unfolding build_in
  build_told o t e = rw (eq-eqb (length number) 1 n) (ap (λ (u : Told Clocks). filled_as (answer_number u.answer) u.buffer (number_over u.number.0 number)) e)

  pub gather_told : (wires : ℕ) (driven : List ℕ) (t : Told Bytes) → t ≡ collect_of wires driven out
      → filled_as (answer_number t.answer) t.buffer (number_over t.number.0 number) ≡ gather_in wires driven out number
  unfolding gather_in
  gather_told wires driven t e = rw (eq-eqb (length number) 1 n) (ap (λ (u : Told Bytes). filled_as (answer_number u.answer) u.buffer (number_over u.number.0 number)) e)
