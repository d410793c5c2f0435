-- SAME: over the image of a valid record each call leaves what it leaves over the record: answer, counts, output, memory and area, and the image of the next record. Document 02, P8.
-- Assumes nothing.
use Rattle.std.specs.Prelude.{◌≡◌, ℕ, true}
use Rattle.std.proofs.Common.{ap}
use mathlib.Core.List.{List, []}
use Rattle.record.specs.declared.devices.Device.{Device}
use Rattle.paper.specs.Storing.{Lent}
use Rattle.paper.specs.Transaction.{World, transact_of, power_of}
use Rattle.machine_chunks.specs.Chunks.{open_of, feed_of, close_of}
use Rattle.image.specs.Image.{image_of, record_of}
use Rattle.image.specs.Back.{InTypes, read_back}
use Rattle.image_check.specs.Accepted.{valid_record}
use Rattle.image_check.proofs.Laws.{image_accepted}
use Rattle.image_calls.specs.Calls.{imaged, over_image, transact_in, power_in, open_in, feed_in, close_in}

module _ (d : Device) (t : InTypes d) (v : valid_record d ≡ true) (l : Lent) where
  -- for any call
  same : (out : List ℕ) (call : Device → World) → over_image (image_of d) l out (call (record_of (image_of d))) ≡ imaged (call d)
  same out call = rw (image_accepted d t v) (ap (λ (e : Device). imaged (call e)) (read_back d t))

  pub transact_same : (xs out : List ℕ) → transact_in (image_of d) l xs out ≡ imaged (transact_of d l xs out)
  unfolding transact_in
  transact_same xs out = same out (λ e. transact_of e l xs out)

  pub power_same : power_in (image_of d) l ≡ imaged (power_of d l)
  unfolding power_in
  power_same = same [] (λ e. power_of e l)

  pub open_same : open_in (image_of d) l ≡ imaged (open_of d l)
  unfolding open_in
  open_same = same [] (λ e. open_of e l)

  pub feed_same : (xs out : List ℕ) → feed_in (image_of d) l xs out ≡ imaged (feed_of d l xs out)
  unfolding feed_in
  feed_same xs out = same out (λ e. feed_of e l xs out)

  pub close_same : close_in (image_of d) l ≡ imaged (close_of d l)
  unfolding close_in
  close_same = same [] (λ e. close_of e l)
