-- UNIQUE for the device's five calls: the contract leaves no room for a second result.
-- Assumes nothing.
use Rattle.std.specs.Prelude.{◌≡◌, refl, ℕ, List}
use Rattle.basis.specs.Unique.{unique}
use Rattle.record.specs.declared.devices.Device.{Device}
use Rattle.paper.specs.Storing.{Lent}
use Rattle.paper.specs.Transaction.{World, transact_of, power_of}
use Rattle.record.specs.declared.devices.Outcome.{Outcome}
use Rattle.contract_words.specs.Words.{world_of, outcome_in}
use Rattle.machine_chunks.specs.Chunks.{open_of, feed_of, close_of}

-- a result, and what is lent as the call leaves it
pub record Ended : Type 0 where
  pub outcome : Outcome
  pub memory : List ℕ
  pub area : List ℕ
  pub output : List ℕ

abbrev pub shows : Ended → World
shows x = world_of x.outcome x.memory x.area x.output

abbrev finds : World → Ended
finds w = record { outcome = outcome_in w; memory = w.lent.memory; area = w.lent.area; output = w.output }

-- whatever the definition is, it fixes all four
pub one_end : {x y : Ended} {w : World} → shows x ≡ w → shows y ≡ w → x ≡ y
one_end = unique shows finds (λ x. refl)

module _ (d : Device) (l : Lent) {x y : Ended} where
  pub transact_unique : (xs out : List ℕ) → shows x ≡ transact_of d l xs out → shows y ≡ transact_of d l xs out → x ≡ y
  transact_unique xs out = one_end

  pub power_cycle_unique : shows x ≡ power_of d l → shows y ≡ power_of d l → x ≡ y
  power_cycle_unique = one_end

  pub open_unique : shows x ≡ open_of d l → shows y ≡ open_of d l → x ≡ y
  open_unique = one_end

  pub feed_unique : (xs out : List ℕ) → shows x ≡ feed_of d l xs out → shows y ≡ feed_of d l xs out → x ≡ y
  feed_unique xs out = one_end

  pub close_unique : shows x ≡ close_of d l → shows y ≡ close_of d l → x ≡ y
  close_unique = one_end
