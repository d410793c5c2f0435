-- UNIQUE for the calls over an image: the contract fixes the reply and every buffer as the call leaves it.
-- Assumes nothing.
use Rattle.std.specs.Prelude.{◌≡◌, refl, ℕ, false, cond, List, Result, Ok, Err, IfErr}
use Rattle.std.proofs.Common.{sym, ap, ◌∙◌}
use Rattle.basis.specs.Unique.{unique}
use Rattle.record.specs.declared.answers.Answer.{Answer}
use Rattle.record.specs.Answers.{is_done}
use Rattle.paper.specs.Storing.{Lent}
use Rattle.image_calls.specs.declared.Reply.{Reply}
use Rattle.image_calls.specs.Calls.{Imaged, imaged_as, transact_in, power_in, open_in, feed_in, close_in}
use Rattle.image_calls.specs.Fresh.{Made, made_in, fresh_m_in, fresh_m32_in, fresh_p_in}

-- a reply, and what is lent as the call leaves it
pub record Ended : Type 0 where
  pub reply : Reply
  pub image : List ℕ
  pub memory : List ℕ
  pub area : List ℕ
  pub output : List ℕ

abbrev pub shows : Ended → Imaged
shows x = imaged_as x.reply x.image x.memory x.area x.output

abbrev finds : Imaged → Ended
finds k = record { reply = record { answer = k.answer; counts = k.counts }; image = k.image; memory = k.lent.memory; area = k.lent.area; output = k.output }

one_end : {x y : Ended} {k : Imaged} → shows x ≡ k → shows y ≡ k → x ≡ y
one_end = unique shows finds (λ x. refl)

module _ (image : List ℕ) (l : Lent) {x y : Ended} where
  pub transact_unique : (xs out : List ℕ) → shows x ≡ transact_in image l xs out → shows y ≡ transact_in image l xs out → x ≡ y
  transact_unique xs out = one_end

  pub power_cycle_unique : shows x ≡ power_in image l → shows y ≡ power_in image l → x ≡ y
  power_cycle_unique = one_end

  pub open_unique : shows x ≡ open_in image l → shows y ≡ open_in image l → x ≡ y
  open_unique = one_end

  pub feed_unique : (xs out : List ℕ) → shows x ≡ feed_in image l xs out → shows y ≡ feed_in image l xs out → x ≡ y
  feed_unique xs out = one_end

  pub close_unique : shows x ≡ close_in image l → shows y ≡ close_in image l → x ≡ y
  close_unique = one_end

-- where the contract shows all that is left as it is
pub one : {L : Type 0} {x y v : L} → x ≡ v → y ≡ v → x ≡ y
one {L} = unique (λ (x : L). x) (λ (x : L). x) (λ x. refl)

-- a fresh chip
module _ (n : ℕ) (device image : List ℕ) {x y : Made} where
  pub fresh_m_unique : (identity : List ℕ) → x ≡ fresh_m_in n device identity image → y ≡ fresh_m_in n device identity image → x ≡ y
  fresh_m_unique identity = one

  pub fresh_m32_unique : (identity : List ℕ) → x ≡ fresh_m32_in n device identity image → y ≡ fresh_m32_in n device identity image → x ≡ y
  fresh_m32_unique identity = one

  pub fresh_p_unique : x ≡ fresh_p_in n device image → y ≡ fresh_p_in n device image → x ≡ y
  fresh_p_unique = one

-- and its result, an error that is never 0, with the buffer as the call leaves it
pub record Begun : Type 0 where
  pub result : Result (Unit {0}) Answer
  pub image : List ℕ

abbrev pub shows_begun : Begun → Made
shows_begun x = made_in x.result x.image

abbrev pub Refuses : Begun → Type 0
Refuses x = IfErr x.result (λ v. is_done v ≡ false)

-- what is told is found again: what was made is `Ok`, and every other answer an error
abbrev found : Made → Begun
found m = record { result = cond (is_done m.answer) (Ok tt) (Err m.answer); image = m.image }

found_again : (r : Result (Unit {0}) Answer) (image : List ℕ) → IfErr r (λ v. is_done v ≡ false) → found (made_in r image) ≡ record { result = r; image = image }
found_again (Ok u) image h = refl
found_again (Err v) image h = rw h

one_begun : (x y : Begun) {m : Made} → Refuses x → Refuses y → shows_begun x ≡ m → shows_begun y ≡ m → x ≡ y
one_begun x y g h e f = sym (found_again x.result x.image g) ∙ (ap found (e ∙ sym f) ∙ found_again y.result y.image h)

module _ (n : ℕ) (device image : List ℕ) (x y : Begun) where
  pub fresh_m_result_unique : (identity : List ℕ) → Refuses x → Refuses y → shows_begun x ≡ fresh_m_in n device identity image → shows_begun y ≡ fresh_m_in n device identity image → x ≡ y
  fresh_m_result_unique identity = one_begun x y

  pub fresh_m32_result_unique : (identity : List ℕ) → Refuses x → Refuses y → shows_begun x ≡ fresh_m32_in n device identity image → shows_begun y ≡ fresh_m32_in n device identity image
      → x ≡ y
  fresh_m32_result_unique identity = one_begun x y

  pub fresh_p_result_unique : Refuses x → Refuses y → shows_begun x ≡ fresh_p_in n device image → shows_begun y ≡ fresh_p_in n device image → x ≡ y
  fresh_p_result_unique = one_begun x y
