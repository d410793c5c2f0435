-- A number in decimal: its digits, the most significant first, and no zero in front of another digit. Document 01, "Bench tape": offsets and counts are printed so.
-- Assumes nothing.
use Rattle.std.specs.Prelude.{◌≡◌, refl, Bool, true, false, cond, List, [], ◌∷◌, ◌++◌, ℕ, zero, suc, ◌+◌, ◌-◌, ◌*◌, ◌/◌, ◌%◌, ◌^◌, ◌<◌, ◌≤◌, ltb, leb}
use Rattle.std.proofs.Common.{ap, ◌∙◌, mod-lt, mul-one, mul-le-mul_left, add-one, arith, lit<, pow-add, ltb-true, ltb-false, lt-ltb, leb-true, leb-false}
use Rattle.io.specs.Digits.{hex_digit_ascii, last_digits, IsDigitCount}
use Rattle.buffers.specs.Page.{Page, puts_of}
use Rattle.text.specs.Decimal.{decimal_in, decimal_of}

-- ---- the fewest digits that hold a number are those
glyph_is : (n : ℕ) → hex_digit_ascii (n % 10) ≡ 48 + n % 10
glyph_is n = rw (lt-ltb (n % 10) 10 (mod-lt n (lit< tt)))

-- a digit more holds ten times as many
ten_more : (k : ℕ) → 10 ^ (k + 1) ≡ 10 ^ k * 10
ten_more k = pow-add 10 k 1

ten_less : (r : ℕ) → 1 ≤ r → 10 ^ r ≡ 10 ^ (r - 1) * 10
ten_less r h = let e : r ≡ r - 1 + 1 = omega arith in ap (λ (k : ℕ). 10 ^ k) e ∙ ten_more (r - 1)

some_hold : (k : ℕ) → 1 ≤ 10 ^ k
some_hold zero = omega arith
some_hold (suc k) = let h = some_hold k in let e = ten_more k in rw (← add-one k, e) (omega arith)

-- a number below 10 is held by one digit, and a larger one by one more than what is left without its last
one_digit : (n r : ℕ) → n < 10 → 2 ≤ r → IsDigitCount 10 1 n r → ⊥
one_digit n r h g f =
    let e : 10 ^ (r - 1) ≤ n = f.2 g in
    omega (arith, ten_less (r - 1) (omega arith), some_hold (r - 1 - 1))

fewer_digits : (n r : ℕ) → 10 ≤ n → 2 ≤ r → IsDigitCount 10 1 n r → IsDigitCount 10 1 (n / 10) (r - 1)
fewer_digits n r h g f =
    let a : n < 10 ^ r = f.1 in
    let b : 10 ^ (r - 1) ≤ n = f.2 g in
    let c = ten_less r (omega arith) in
    let d = ten_less (r - 1) (omega arith) in
    (omega arith, omega arith, λ q. omega arith)

-- the digits but the last, and the last
digits_last : (k n : ℕ) → last_digits 10 (suc k) n ≡ last_digits 10 k (n / 10) ++ ((48 + n % 10) ∷ [])
digits_last k n = ap (λ (d : ℕ). last_digits 10 k (n / 10) ++ (d ∷ [])) (glyph_is n)

-- THE FEWEST DIGITS that hold a number are its decimal text
pub fewest_decimal : (f n r : ℕ) → r ≤ f + 1 → IsDigitCount 10 1 n r → last_digits 10 r n ≡ decimal_in f n
unfolding decimal_in
fewest_decimal f n zero l w = absurd (omega (arith, w.0))
fewest_decimal zero n (suc zero) l w = digits_last 0 n
fewest_decimal zero n (suc (suc k)) l w = absurd (omega arith)
fewest_decimal (suc f) n (suc k) l w = by (ltb n 10) refl (λ v. fewest_decimal f (n / 10) k (omega arith) v)
  where
    one : (j : ℕ) → n < 10 → IsDigitCount 10 1 n (suc j) → last_digits 10 (suc j) n ≡ (48 + n % 10) ∷ []
    one zero h v = digits_last 0 n
    one (suc j) h v = absurd (one_digit n (suc (suc j)) h (omega arith) v)

    more : (j : ℕ) → 10 ≤ n → IsDigitCount 10 1 n (suc j) → IsDigitCount 10 1 (n / 10) j
    more j h v =
        let a : n < 10 ^ suc j = v.1 in
        let g : 2 ≤ suc j = two j h a in
        let e : suc j - 1 ≡ j = omega arith in
        rw e at (fewer_digits n (suc j) h g v)
      where
        two : (i : ℕ) → 10 ≤ n → n < 10 ^ suc i → 2 ≤ suc i
        two zero h a = absurd (omega arith)
        two (suc i) h a = omega arith

    by : (b : Bool) → ltb n 10 ≡ b → (IsDigitCount 10 1 (n / 10) k → last_digits 10 k (n / 10) ≡ decimal_in f (n / 10))
        → last_digits 10 (suc k) n ≡ cond b ((48 + n % 10) ∷ []) (decimal_in f (n / 10) ++ ((48 + n % 10) ∷ []))
    by true e ih = one k (ltb-true n 10 e) w
    by false e ih = digits_last k n ∙ ap (λ (d : List ℕ). d ++ ((48 + n % 10) ∷ [])) (ih (more k (ltb-false n 10 e) w))

-- a machine's word has no more than twenty
more_hold : (i k : ℕ) → 10 ^ i ≤ 10 ^ (i + k)
more_hold i k = rw (pow-add 10 i k) (rw mul-one at (mul-le-mul_left (10 ^ i) (some_hold k)))

twenty : (n r : ℕ) → n < 2 ^ 64 → IsDigitCount 10 1 n r → r ≤ 20
twenty n r h f = by (leb r 20) refl
  where
    by : (b : Bool) → leb r 20 ≡ b → r ≤ 20
    by true e = leb-true r 20 e
    by false e =
        let l = leb-false r 20 e in
        let q : 10 ^ (r - 1) ≤ n = f.2 (omega arith) in
        let j : 20 + (r - 21) ≡ r - 1 = omega arith in
        let m : 10 ^ 20 ≤ 10 ^ (r - 1) = rw j at (more_hold 20 (r - 21)) in
        absurd (omega arith)

-- so whoever puts them puts the decimal text
pub decimal_put : {n r : ℕ} {l : List ℕ} (p : Page) {q : Page} → n < 2 ^ 64 → q ≡ puts_of l p → l ≡ last_digits 10 r n → IsDigitCount 10 1 n r → q ≡ puts_of (decimal_of n) p
decimal_put {n} {r} p h e f g = e ∙ ap (λ (l : List ℕ). puts_of l p) (f ∙ fewest_decimal 19 n r (twenty n r h g) g)
