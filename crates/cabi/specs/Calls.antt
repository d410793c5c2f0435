-- The calls over an image as C sees them: the answer as the papers' number, the counts in lent words.
use Rattle.std.specs.Prelude.{ℕ, cond, List, [], Result, Ok, Err}
use Rattle.record.specs.declared.answers.Answer.{Answer}
use Rattle.record.specs.declared.answers.Answer.TheVariants.{Done, Size, State}
use Rattle.record.specs.Answers.{answer_number}
use Rattle.paper.specs.Storing.{Lent}
use Rattle.contract_words.specs.Words.{lends}
use Rattle.image_check.specs.Accepted.{accepted}
use Rattle.image_calls.specs.declared.Reply.{Reply}
use Rattle.image_calls.specs.Calls.{Imaged, transact_in, power_in, open_in, feed_in, close_in}
use Rattle.image_calls.specs.Fresh.{Made, fresh_m_in, fresh_m32_in, fresh_p_in}
use Rattle.words.specs.Words.{has_counts, counts_over}

-- ---- fresh chips
-- the answer of a result: 0 of what was done, and otherwise the one that refuses
abbrev pub answer_in : {U : Type 0} → Result U Answer → Answer
answer_in (Ok u) = Done
answer_in (Err v) = v

pub record Numbered : Type 0 where
  pub answer : ℕ
  pub image : List ℕ

abbrev pub numbered_as : ℕ → List ℕ → Numbered
numbered_as v image = record { answer = v; image = image }

abbrev pub made_from : Made → Numbered
made_from m = numbered_as (answer_number m.answer) m.image

unfoldable pub fresh_m_from : ℕ → List ℕ → List ℕ → List ℕ → Numbered
fresh_m_from n device unique image = made_from (fresh_m_in n device unique image)

unfoldable pub fresh_m32_from : ℕ → List ℕ → List ℕ → List ℕ → Numbered
fresh_m32_from n device unique image = made_from (fresh_m32_in n device unique image)

unfoldable pub fresh_p_from : ℕ → List ℕ → List ℕ → Numbered
fresh_p_from n device image = made_from (fresh_p_in n device image)

-- ---- the device: all that a call leaves
pub record Call : Type 0 where
  pub answer : ℕ
  pub image : List ℕ
  pub lent : Lent
  pub output : List ℕ
  pub counts : List ℕ

abbrev pub call_as : ℕ → List ℕ → List ℕ → List ℕ → List ℕ → List ℕ → Call
call_as v image memory area output counts = record { answer = v; image = image; lent = lends memory area; output = output; counts = counts }

-- a call over an image, in numbers and words
abbrev pub in_words : Imaged → List ℕ → Call
in_words k counts = record { answer = answer_number k.answer; image = k.image; lent = k.lent; output = k.output; counts = counts_over k.counts counts }

-- 1 where there are not five words for the counts, but 3 comes first; nothing changes (D47)
abbrev pub unroomed_answer : List ℕ → Answer
unroomed_answer image = cond (accepted image) Size State

unfoldable pub unroomed_number : List ℕ → ℕ
unroomed_number image = answer_number (unroomed_answer image)

abbrev pub counted : List ℕ → Lent → List ℕ → List ℕ → Imaged → Call
counted image l out counts k =
    cond (has_counts counts) (in_words k counts) (record { answer = unroomed_number image; image = image; lent = l; output = out; counts = counts })

unfoldable pub transact_from : List ℕ → Lent → List ℕ → List ℕ → List ℕ → Call
transact_from image l xs out counts = counted image l out counts (transact_in image l xs out)

unfoldable pub close_from : List ℕ → Lent → List ℕ → Call
close_from image l counts = counted image l [] counts (close_in image l)

-- no words for counts, which are always 0 (D48)
unfoldable pub power_from : List ℕ → Lent → Call
power_from image l = in_words (power_in image l) []

unfoldable pub open_from : List ℕ → Lent → Call
open_from image l = in_words (open_in image l) []

unfoldable pub feed_from : List ℕ → Lent → List ℕ → List ℕ → Call
feed_from image l xs out = in_words (feed_in image l xs out) []

-- a reply in words, with nothing lent but these
abbrev pub numbered : Reply → List ℕ → Call
numbered r counts = call_as (answer_number r.answer) [] [] [] [] (counts_over r.counts counts)
