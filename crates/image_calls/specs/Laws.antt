-- Laws of the calls over an image: each way through a call is one of its definition.
-- Assumes nothing.
use Rattle.std.specs.Prelude.{◌≡◌, ℕ, true, false, List}
use Rattle.std.proofs.Common.{ap, ◌∙◌}
use Rattle.record.specs.declared.devices.Outcome.{Outcome}
use Rattle.paper.specs.Storing.{Lent}
use Rattle.paper.specs.Transaction.{World}
use Rattle.contract_words.specs.Words.{lends, world_of}
use Rattle.image_check.specs.Accepted.{accepted}
use Rattle.image_calls.specs.declared.Reply.{Reply}
use Rattle.image_calls.specs.Calls.{Leaves, imaged, strange_reply, leaves_as, left_reply, imaged_as, over_image}

-- bytes that are no image's
pub turned_away : {r : Reply} (image memory area out : List ℕ) (w : World) → accepted image ≡ false → r ≡ strange_reply
    → imaged_as r image memory area out ≡ over_image image (lends memory area) out w
turned_away image memory area out w n e = rw (n, e)

-- what the call over the record leaves, put into the image
pub carried : {r : Reply} {image' : List ℕ} (image : List ℕ) (l : Lent) (out : List ℕ) (o : Outcome) (m a z : List ℕ) {w : World} → accepted image ≡ true
    → leaves_as r image' ≡ left_reply o → world_of o m a z ≡ w → imaged_as r image' m a z ≡ over_image image l out w
carried image l out o m a z y t e = ap (λ (k : Leaves). imaged_as k.reply k.image m a z) t ∙ rw y (ap imaged e)
