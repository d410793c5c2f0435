-- The device's calls over an image. Document 02, P8: the answer, the counts, the output, memory and area are those of the call over the record, and the image is that of the next record.
use Rattle.std.specs.Prelude.{ℕ, Bool, cond, not, List, []}
use Rattle.counts.specs.declared.Counts.{Counts}
use Rattle.counts.specs.Counts.{no_counts}
use Rattle.record.specs.declared.answers.Answer.{Answer}
use Rattle.record.specs.declared.answers.Answer.TheVariants.{State}
use Rattle.record.specs.declared.devices.Outcome.{Outcome}
use Rattle.paper.specs.Storing.{Lent}
use Rattle.paper.specs.Transaction.{World, transact_of, power_of}
use Rattle.machine_chunks.specs.Chunks.{open_of, feed_of, close_of}
use Rattle.contract_words.specs.Words.{lends}
use Rattle.image.specs.Image.{image_of, record_of}
use Rattle.image_check.specs.Accepted.{accepted}
use Rattle.image_calls.specs.declared.Reply.{Reply}

-- all that a call leaves
pub record Imaged : Type 0 where
  pub answer : Answer
  pub counts : Counts
  pub image : List ℕ
  pub lent : Lent
  pub output : List ℕ

-- of what a call over the record leaves
abbrev pub imaged : World → Imaged
imaged w = record { answer = w.answer; counts = w.counts; image = image_of w.device; lent = w.lent; output = w.output }

-- 3: nothing changes
abbrev pub strange_to : List ℕ → Lent → List ℕ → Imaged
strange_to image l out = record { answer = State; counts = no_counts; image = image; lent = l; output = out }

-- the check that comes first
abbrev pub image_check : List ℕ → Bool × Answer
image_check image = (not (accepted image), State)

-- A CALL OVER AN IMAGE, by what it leaves over the record: 3 comes before all that the call checks itself
abbrev pub over_image : List ℕ → Lent → List ℕ → World → Imaged
over_image image l out w = cond (accepted image) (imaged w) (strange_to image l out)

unfoldable pub transact_in : List ℕ → Lent → List ℕ → List ℕ → Imaged
transact_in image l xs out = over_image image l out (transact_of (record_of image) l xs out)

unfoldable pub power_in : List ℕ → Lent → Imaged
power_in image l = over_image image l [] (power_of (record_of image) l)

unfoldable pub open_in : List ℕ → Lent → Imaged
open_in image l = over_image image l [] (open_of (record_of image) l)

unfoldable pub feed_in : List ℕ → Lent → List ℕ → List ℕ → Imaged
feed_in image l xs out = over_image image l out (feed_of (record_of image) l xs out)

unfoldable pub close_in : List ℕ → Lent → Imaged
close_in image l = over_image image l [] (close_of (record_of image) l)

-- ---- the words of the contracts
abbrev pub strange_reply : Reply
strange_reply = record { answer = State; counts = no_counts }

pub record Leaves : Type 0 where
  pub reply : Reply
  pub image : List ℕ

abbrev pub leaves_as : Reply → List ℕ → Leaves
leaves_as r image = record { reply = r; image = image }

abbrev pub left_reply : Outcome → Leaves
left_reply o = leaves_as (record { answer = o.answer; counts = o.counts }) (image_of o.device)

abbrev pub imaged_as : Reply → List ℕ → List ℕ → List ℕ → List ℕ → Imaged
imaged_as r image memory area out = record { answer = r.answer; counts = r.counts; image = image; lent = lends memory area; output = out }
