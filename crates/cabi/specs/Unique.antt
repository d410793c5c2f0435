-- UNIQUE for the ten calls from C, a line for each by its name. What their contracts show is the answer and every buffer as the call leaves it, as they are, so that there is nothing to find again.
-- Assumes nothing.
use Rattle.std.specs.Prelude.{◌≡◌, List, ℕ}
use Rattle.image_calls.specs.Unique.{one}
use Rattle.paper.specs.Storing.{Lent}
use Rattle.paper.specs.Building.{Order}
use Rattle.cabi.specs.Calls.{Numbered, Call, fresh_m_from, fresh_m32_from, fresh_p_from, transact_from, power_from, open_from, feed_from, close_from}
use Rattle.cabi.specs.Fills.{Filled, build_in, gather_in}

module _ (n : ℕ) (device image : List ℕ) {x y : Numbered} where
  pub tondravik_fresh_m_unique : (identity : List ℕ) → x ≡ fresh_m_from n device identity image → y ≡ fresh_m_from n device identity image → x ≡ y
  tondravik_fresh_m_unique identity = one

  pub tondravik_fresh_m32_unique : (identity : List ℕ) → x ≡ fresh_m32_from n device identity image → y ≡ fresh_m32_from n device identity image → x ≡ y
  tondravik_fresh_m32_unique identity = one

  pub tondravik_fresh_p_unique : x ≡ fresh_p_from n device image → y ≡ fresh_p_from n device image → x ≡ y
  tondravik_fresh_p_unique = one

module _ (image : List ℕ) (l : Lent) {x y : Call} where
  pub tondravik_transact_unique : (samples output counts : List ℕ) → x ≡ transact_from image l samples output counts → y ≡ transact_from image l samples output counts → x ≡ y
  tondravik_transact_unique samples output counts = one

  pub tondravik_power_cycle_unique : x ≡ power_from image l → y ≡ power_from image l → x ≡ y
  tondravik_power_cycle_unique = one

  pub tondravik_open_unique : x ≡ open_from image l → y ≡ open_from image l → x ≡ y
  tondravik_open_unique = one

  pub tondravik_feed_unique : (samples output : List ℕ) → x ≡ feed_from image l samples output → y ≡ feed_from image l samples output → x ≡ y
  tondravik_feed_unique samples output = one

  pub tondravik_close_unique : (counts : List ℕ) → x ≡ close_from image l counts → y ≡ close_from image l counts → x ≡ y
  tondravik_close_unique counts = one

pub tondravik_build_unique : (o : Order) (samples number : List ℕ) {x y : Filled} → x ≡ build_in o samples number → y ≡ build_in o samples number → x ≡ y
tondravik_build_unique o samples number = one

pub tondravik_gather_unique : (wires : ℕ) (driven bytes number : List ℕ) {x y : Filled} → x ≡ gather_in wires driven bytes number → y ≡ gather_in wires driven bytes number → x ≡ y
tondravik_gather_unique wires driven bytes number = one
