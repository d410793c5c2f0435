-- REFUSED and EXACT ORDER for the calls from C. A call that is refused changes nothing of what C lent, but that five words for counts are 0; words of another number are as they were. First comes 3
-- for bytes that are no image, then 1 where there are not five words, then the order of the call itself. Document 02, P8 (D47).
-- Assumes nothing.
use Rattle.std.specs.Prelude.{◌≡◌, ℕ, Bool, not, ◌&&◌, eqb, length, replicate}
use Rattle.std.proofs.Math.Path.{refl, ap}
use Rattle.std.proofs.Common.{sym, ◌∙◌}
use Rattle.std.proofs.Math.Bool.{true, false, cond}
use mathlib.Core.List.{List, [], ◌∷◌}
use Rattle.basis.specs.Decisions.{first_of}
use Rattle.parts.specs.declared.Part.{Part}
use Rattle.parts.specs.declared.Part.TheVariants.{M, P, M32}
use Rattle.parts.specs.Parts.{offered}
use Rattle.counts.specs.declared.Counts.{Counts}
use Rattle.counts.specs.Counts.{no_counts}
use Rattle.record.specs.declared.answers.Answer.{Answer}
use Rattle.record.specs.declared.answers.Answer.TheVariants.{Done, Size, State}
use Rattle.record.specs.declared.devices.Device.{Device}
use Rattle.record.specs.Answers.{answer_number, refuses, refusing}
use Rattle.record.specs.Fresh.{make_of, fresh_of}
use Rattle.record.specs.Laws.{refusing_is}
use Rattle.paper.specs.Storing.{Lent}
use Rattle.paper.specs.Transaction.{clocked_of, powered_up, transact_checks, power_checks, open_checks, feed_checks, close_checks}
use Rattle.machine_chunks.specs.Chunks.{opened_world, fed_world, closed_world}
use Rattle.image.specs.Layout.{image_size}
use Rattle.image.specs.Image.{record_of}
use Rattle.image.specs.Back.{EachByte}
use Rattle.image_check.specs.Accepted.{accepted}
use Rattle.image_calls.specs.Calls.{Imaged, image_check, transact_in, power_in, open_in, feed_in, close_in}
use Rattle.image_calls.specs.Refused.{Unmoved, transact_refused, power_refused, open_refused, feed_refused, close_refused, transact_order, power_order, open_order, feed_order, close_order, fresh_refused, fresh_order}
use Rattle.image_calls.specs.Fresh.{made, fresh_mram_in, fresh_p_in}
use Rattle.words.specs.Words.{has_counts, counts_over}
use Rattle.cabi.specs.Calls.{Call, in_words, unroomed_number, counted, made_from, fresh_m_from, fresh_m32_from, fresh_p_from, transact_from, power_from, open_from, feed_from, close_from}

-- nothing has changed
pub record Kept (image : List ℕ) (l : Lent) (out counts : List ℕ) (k : Call) : Type 0 where
  pub image_kept : k.image ≡ image
  pub lent_kept : k.lent ≡ l
  pub output_kept : k.output ≡ out
  pub counts_none : k.counts ≡ counts_over no_counts counts

-- ---- for any call
module _ (image : List ℕ) (l : Lent) (out counts : List ℕ) (k : Imaged) where
  -- a call over an image that is unmoved when it refuses is so in words
  abbrev Still : Type 0
  Still = refuses k.answer ≡ true → Unmoved image l out k

  in_words_lem : Still → refusing (in_words k counts).answer ≡ true → Kept image l out counts (in_words k counts)
  in_words_lem u e =
      let m = u (sym (refusing_is k.answer) ∙ e) in
      record { image_kept = m.image_kept; lent_kept = m.lent; output_kept = m.output; counts_none = ap (λ (c : Counts). counts_over c counts) m.counts }

  abbrev unroomed : Call
  unroomed = record { answer = unroomed_number image; image = image; lent = l; output = out; counts = counts }

  -- without five words nothing is written
  with_counts : Still → refusing (counted image l out counts k).answer ≡ true → Kept image l out counts (counted image l out counts k)
  unfolding counts_over
  with_counts u = by (has_counts counts) refl
    where
      by : (b : Bool) → has_counts counts ≡ b → refusing (cond b (in_words k counts) unroomed).answer ≡ true → Kept image l out counts (cond b (in_words k counts) unroomed)
      by true y e = in_words_lem u e
      by false n e = record { image_kept = refl; lent_kept = refl; output_kept = refl; counts_none = rw n }

  -- the order, where that of the call over the image is known
  counted_order : (v : Answer) (cs : List (Bool × Answer)) → k.answer ≡ first_of v (image_check image ∷ cs)
      → (counted image l out counts k).answer ≡ answer_number (first_of v (image_check image ∷ (not (has_counts counts), Size) ∷ cs))
  unfolding unroomed_number
  counted_order v cs e = by (has_counts counts)
    where
      sooner : (a : Bool) → cond a Size State ≡ first_of v ((not a, State) ∷ (true, Size) ∷ cs)
      sooner true = refl
      sooner false = refl

      later : (a : Bool) → first_of v ((not a, State) ∷ cs) ≡ first_of v ((not a, State) ∷ (false, Size) ∷ cs)
      later true = refl
      later false = refl

      by : (b : Bool) → (cond b (in_words k counts) unroomed).answer ≡ answer_number (first_of v (image_check image ∷ (not b, Size) ∷ cs))
      by true = ap answer_number (e ∙ later (accepted image))
      by false = ap answer_number (sooner (accepted image))

-- ---- in the words of each call
module _ (image : List ℕ) (b : EachByte image) (l : Lent) where
  -- REFUSED
  pub transact_kept : (xs out counts : List ℕ) → refusing (transact_from image l xs out counts).answer ≡ true → Kept image l out counts (transact_from image l xs out counts)
  unfolding transact_from
  transact_kept xs out counts = with_counts image l out counts (transact_in image l xs out) (transact_refused image l b xs out)

  pub close_kept : (counts : List ℕ) → refusing (close_from image l counts).answer ≡ true → Kept image l [] counts (close_from image l counts)
  unfolding close_from
  close_kept counts = with_counts image l [] counts (close_in image l) (close_refused image l b)

  pub power_kept : refusing (power_from image l).answer ≡ true → Kept image l [] [] (power_from image l)
  unfolding power_from
  power_kept = in_words_lem image l [] [] (power_in image l) (power_refused image l b)

  pub open_kept : refusing (open_from image l).answer ≡ true → Kept image l [] [] (open_from image l)
  unfolding open_from
  open_kept = in_words_lem image l [] [] (open_in image l) (open_refused image l b)

  pub feed_kept : (xs out : List ℕ) → refusing (feed_from image l xs out).answer ≡ true → Kept image l out [] (feed_from image l xs out)
  unfolding feed_from
  feed_kept xs out = in_words_lem image l out [] (feed_in image l xs out) (feed_refused image l b xs out)

module _ (image : List ℕ) (l : Lent) where
  abbrev d : Device
  d = record_of image

  -- EXACT ORDER
  pub transact_ordered : (xs out counts : List ℕ)
      → (transact_from image l xs out counts).answer ≡ answer_number (first_of (clocked_of d l xs out).answer (image_check image ∷ (not (has_counts counts), Size) ∷ transact_checks d l xs out))
  unfolding transact_from
  transact_ordered xs out counts =
      counted_order image l out counts (transact_in image l xs out) (clocked_of d l xs out).answer (transact_checks d l xs out) (transact_order image l xs out)

  pub close_ordered : (counts : List ℕ)
      → (close_from image l counts).answer ≡ answer_number (first_of (closed_world d l).answer (image_check image ∷ (not (has_counts counts), Size) ∷ close_checks d l))
  unfolding close_from
  close_ordered counts = counted_order image l [] counts (close_in image l) (closed_world d l).answer (close_checks d l) (close_order image l)

  pub power_ordered : (power_from image l).answer ≡ answer_number (first_of (powered_up d l).answer (image_check image ∷ power_checks d l))
  unfolding power_from
  power_ordered = ap answer_number (power_order image l)

  pub open_ordered : (open_from image l).answer ≡ answer_number (first_of (opened_world d l).answer (image_check image ∷ open_checks d l))
  unfolding open_from
  open_ordered = ap answer_number (open_order image l)

  pub feed_ordered : (xs out : List ℕ) → (feed_from image l xs out).answer ≡ answer_number (first_of (fed_world d l xs out).answer (image_check image ∷ feed_checks d l xs out))
  unfolding feed_from
  feed_ordered xs out = ap answer_number (feed_order image l xs out)

-- ---- fresh chips: refused, the image is as it was; 3 for its length comes first, then 1
module _ (n : ℕ) (device image : List ℕ) where
  abbrev long : Bool
  long = eqb (length image) image_size

  kept : (fits : Bool) (c : Device) → refusing (made_from (made fits c image)).answer ≡ true → (made_from (made fits c image)).image ≡ image
  kept fits c e = fresh_refused fits c image (sym (refusing_is (made fits c image).answer) ∙ e)

  ordered : (fits : Bool) (c : Device) → (made_from (made fits c image)).answer ≡ answer_number (first_of Done ((not long, State) ∷ (not fits, Size) ∷ []))
  ordered fits c = ap answer_number (fresh_order fits c image)

  -- what each asks for besides
  abbrev pub mram_fits : Part → List ℕ → Bool
  mram_fits p unique = offered p n && (eqb (length device) 4 && eqb (length unique) 8)

  abbrev pub psram_fits : Bool
  psram_fits = offered P n && eqb (length device) 8

  module _ (unique : List ℕ) where
    pub fresh_m_kept : refusing (fresh_m_from n device unique image).answer ≡ true → (fresh_m_from n device unique image).image ≡ image
    unfolding fresh_m_from fresh_mram_in
    fresh_m_kept = kept (mram_fits M unique) (fresh_of (make_of M n) device unique)

    pub fresh_m32_kept : refusing (fresh_m32_from n device unique image).answer ≡ true → (fresh_m32_from n device unique image).image ≡ image
    unfolding fresh_m32_from fresh_mram_in
    fresh_m32_kept = kept (mram_fits M32 unique) (fresh_of (make_of M32 n) device unique)

    pub fresh_m_ordered : (fresh_m_from n device unique image).answer ≡ answer_number (first_of Done ((not long, State) ∷ (not (mram_fits M unique), Size) ∷ []))
    unfolding fresh_m_from fresh_mram_in
    fresh_m_ordered = ordered (mram_fits M unique) (fresh_of (make_of M n) device unique)

    pub fresh_m32_ordered : (fresh_m32_from n device unique image).answer ≡ answer_number (first_of Done ((not long, State) ∷ (not (mram_fits M32 unique), Size) ∷ []))
    unfolding fresh_m32_from fresh_mram_in
    fresh_m32_ordered = ordered (mram_fits M32 unique) (fresh_of (make_of M32 n) device unique)

  pub fresh_p_kept : refusing (fresh_p_from n device image).answer ≡ true → (fresh_p_from n device image).image ≡ image
  unfolding fresh_p_from fresh_p_in
  fresh_p_kept = kept psram_fits (fresh_of (make_of P n) device (replicate 8 0))

  pub fresh_p_ordered : (fresh_p_from n device image).answer ≡ answer_number (first_of Done ((not long, State) ∷ (not psram_fits, Size) ∷ []))
  unfolding fresh_p_from fresh_p_in
  fresh_p_ordered = ordered psram_fits (fresh_of (make_of P n) device (replicate 8 0))
