-- REFUSED and EXACT ORDER over an image. A call that is refused changes nothing, also with 3 for bytes that are no image, whatever else is wrong; and that 3 comes first, then the call's own
-- checks in their order. Document 02, P8.
-- Assumes nothing.
use Rattle.std.specs.Prelude.{◌≡◌, ℕ, Bool, true, false, cond, not, eqb, length}
use Rattle.std.proofs.Math.Path.{refl}
use Rattle.std.proofs.Common.{ap, ◌∙◌}
use mathlib.Core.List.{List, [], ◌∷◌}
use Rattle.basis.specs.Truth.{untrue}
use Rattle.basis.specs.Decisions.{first_of}
use Rattle.counts.specs.Counts.{no_counts}
use Rattle.record.specs.declared.answers.Answer.{Answer}
use Rattle.record.specs.declared.answers.Answer.TheVariants.{Done, Size, State}
use Rattle.record.specs.declared.devices.Device.{Device}
use Rattle.record.specs.Answers.{refuses}
use Rattle.record.specs.Fields.{closed_of}
use Rattle.paper.specs.Storing.{Lent}
use Rattle.paper.specs.Transaction.{World, refusal, guarded, clocked_of, powered_up, transact_checks, power_checks, open_checks, feed_checks, close_checks, transact_of, power_of}
use Rattle.paper.specs.CallLaws.{Untouched}
use Rattle.paper.proofs.CallLaws.{refused_by, answer_by_lem, judge_refuses_none}
use Rattle.machine_end.specs.Finish.{finish_of, outcome_of}
use Rattle.machine_chunks.specs.Chunks.{opened_world, fed_world, closed_world, open_of, feed_of, close_of}
use Rattle.image.specs.Layout.{image_size}
use Rattle.image.specs.Image.{image_of, record_of}
use Rattle.image.specs.Back.{EachByte}
use Rattle.image_check.specs.Accepted.{accepted}
use Rattle.image_check.proofs.Laws.{accepted_back}
use Rattle.image_calls.specs.Calls.{Imaged, imaged, strange_to, image_check, over_image, transact_in, power_in, open_in, feed_in, close_in}
use Rattle.image_calls.specs.Fresh.{made_as, made}

-- nothing has changed, and no clock is counted
pub record Unmoved (image : List ℕ) (l : Lent) (out : List ℕ) (k : Imaged) : Type 0 where
  pub counts : k.counts ≡ no_counts
  pub image_kept : k.image ≡ image
  pub lent : k.lent ≡ l
  pub output : k.output ≡ out

-- ---- for any call behind checks
module _ (image : List ℕ) (l : Lent) (out : List ℕ) (cs : List (Bool × Answer)) (w : World) where
  abbrev call : World
  call = guarded cs (refusal (record_of image) l out) w

  abbrev over : Imaged
  over = over_image image l out call

  refused : EachByte image → refuses w.answer ≡ false → refuses over.answer ≡ true → Unmoved image l out over
  refused b n = by (accepted image) refl
    where
      kept : accepted image ≡ true → Untouched (record_of image) l out call → Unmoved image l out (imaged call)
      kept y u = record { counts = u.counts; image_kept = ap image_of u.device ∙ accepted_back image y b; lent = u.lent; output = u.output }

      by : (q : Bool) → accepted image ≡ q → refuses (cond q (imaged call) (strange_to image l out)).answer ≡ true → Unmoved image l out (cond q (imaged call) (strange_to image l out))
      by true y e = kept y (refused_by (record_of image) l out cs w n e)
      by false y e = record { counts = refl; image_kept = refl; lent = refl; output = refl }

  ordered : over.answer ≡ first_of w.answer (image_check image ∷ cs)
  ordered = by (accepted image)
    where
      by : (q : Bool) → (cond q (imaged call) (strange_to image l out)).answer ≡ first_of w.answer ((not q, State) ∷ cs)
      by true = answer_by_lem (record_of image) l out cs w
      by false = refl

-- ---- in the words of each call
module _ (image : List ℕ) (l : Lent) where
  abbrev d : Device
  d = record_of image

  -- REFUSED
  pub transact_refused : EachByte image → (xs out : List ℕ) → refuses (transact_in image l xs out).answer ≡ true → Unmoved image l out (transact_in image l xs out)
  unfolding transact_in transact_of clocked_of
  transact_refused b xs out = refused image l out (transact_checks d l xs out) (clocked_of d l xs out) b (judge_refuses_none d _)

  pub power_refused : EachByte image → refuses (power_in image l).answer ≡ true → Unmoved image l [] (power_in image l)
  unfolding power_in power_of
  power_refused b = refused image l [] (power_checks d l) (powered_up d l) b refl

  pub open_refused : EachByte image → refuses (open_in image l).answer ≡ true → Unmoved image l [] (open_in image l)
  unfolding open_in open_of
  open_refused b = refused image l [] (open_checks d l) (opened_world d l) b refl

  pub feed_refused : EachByte image → (xs out : List ℕ) → refuses (feed_in image l xs out).answer ≡ true → Unmoved image l out (feed_in image l xs out)
  unfolding feed_in feed_of
  feed_refused b xs out = refused image l out (feed_checks d l xs out) (fed_world d l xs out) b refl

  pub close_refused : EachByte image → refuses (close_in image l).answer ≡ true → Unmoved image l [] (close_in image l)
  unfolding close_in close_of finish_of outcome_of
  close_refused b = refused image l [] (close_checks d l) (closed_world d l) b (judge_refuses_none (closed_of d) _)

  -- EXACT ORDER
  pub transact_order : (xs out : List ℕ) → (transact_in image l xs out).answer ≡ first_of (clocked_of d l xs out).answer (image_check image ∷ transact_checks d l xs out)
  unfolding transact_in transact_of
  transact_order xs out = ordered image l out (transact_checks d l xs out) (clocked_of d l xs out)

  pub power_order : (power_in image l).answer ≡ first_of (powered_up d l).answer (image_check image ∷ power_checks d l)
  unfolding power_in power_of
  power_order = ordered image l [] (power_checks d l) (powered_up d l)

  pub open_order : (open_in image l).answer ≡ first_of (opened_world d l).answer (image_check image ∷ open_checks d l)
  unfolding open_in open_of
  open_order = ordered image l [] (open_checks d l) (opened_world d l)

  pub feed_order : (xs out : List ℕ) → (feed_in image l xs out).answer ≡ first_of (fed_world d l xs out).answer (image_check image ∷ feed_checks d l xs out)
  unfolding feed_in feed_of
  feed_order xs out = ordered image l out (feed_checks d l xs out) (fed_world d l xs out)

  pub close_order : (close_in image l).answer ≡ first_of (closed_world d l).answer (image_check image ∷ close_checks d l)
  unfolding close_in close_of
  close_order = ordered image l [] (close_checks d l) (closed_world d l)

-- ---- a fresh chip, of any part: 3 for a buffer of another length, then 1, and the buffer is as it was
module _ (fits : Bool) (d : Device) (image : List ℕ) where
  abbrev long : Bool
  long = eqb (length image) image_size

  pub fresh_refused : refuses (made fits d image).answer ≡ true → (made fits d image).image ≡ image
  fresh_refused = by long fits
    where
      by : (n f : Bool) → refuses (cond n (cond f (made_as Done (image_of d)) (made_as Size image)) (made_as State image)).answer ≡ true
          → (cond n (cond f (made_as Done (image_of d)) (made_as Size image)) (made_as State image)).image ≡ image
      by true true e = untrue e
      by true false e = refl
      by false f e = refl

  pub fresh_order : (made fits d image).answer ≡ first_of Done ((not long, State) ∷ (not fits, Size) ∷ [])
  fresh_order = by long fits
    where
      by : (n f : Bool) → (cond n (cond f (made_as Done (image_of d)) (made_as Size image)) (made_as State image)).answer ≡ first_of Done ((not n, State) ∷ (not f, Size) ∷ [])
      by true true = refl
      by true false = refl
      by false f = refl
