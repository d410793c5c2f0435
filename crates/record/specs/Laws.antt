-- Laws of the record.
-- Assumes nothing.
use Rattle.std.specs.Prelude.{◌≡◌, refl, true, false, ℕ, List}
use Rattle.std.proofs.Common.{ap}
use Rattle.basis.specs.Truth.{untrue}
use Rattle.parts.specs.declared.Part.{Part}
use Rattle.parts.specs.declared.Part.TheVariants.{M, P, M32}
use Rattle.parts.specs.Parts.{part_of, family_of}
use Rattle.record.specs.declared.answers.Answer.{Answer}
use Rattle.record.specs.declared.answers.Answer.TheVariants.{Done, Size, Sample, State, Short, Unknown, Asleep, Address, Latch, Protected, Reserved, Long, Unarmed, Turn}
use Rattle.record.specs.declared.answers.Class.{Class}
use Rattle.record.specs.declared.answers.Class.TheVariants as Of
use Rattle.record.specs.declared.devices.Make.{Make}
use Rattle.record.specs.declared.devices.Device.{Device}
use Rattle.record.specs.Answers.{answer_number, done_in, refused_in, declined_in, refuses, refusing}
use Rattle.record.specs.Fresh.{fresh_registers, fresh_volatile, fresh_identity, fresh_of}
use Rattle.record.specs.Fields.{arm_to, sleep_to, no_underway}
use Rattle.record.specs.Resets.{reset_for, reset_of, powered_of}

module _ (m : Make) (device unique : List ℕ) where
  abbrev new : Part → Device
  new p = record { make = m; registers = fresh_registers p; volatile = fresh_volatile; identity = fresh_identity (family_of p) device unique; underway = no_underway }

  reset_new : (p : Part) → reset_for (family_of p) (new p) ≡ new p
  reset_new M = refl
  reset_new P = refl
  reset_new M32 = refl

  -- a fresh chip is as after a reset, and as after a power cycle
  pub reset_fresh : reset_of (fresh_of m device unique) ≡ fresh_of m device unique
  reset_fresh = reset_new (part_of m.part)

  pub powered_fresh : powered_of (fresh_of m device unique) ≡ fresh_of m device unique
  powered_fresh = ap (λ (d : Device). arm_to false (sleep_to false d)) (reset_new (part_of m.part))

-- what is declined is neither done nor refused
pub declined_only : (c : Class) → declined_in c ≡ true → (done_in c ≡ false) × (refused_in c ≡ false)
declined_only Of.Done e = untrue e
declined_only Of.Refused e = untrue e
declined_only Of.Declined e = (refl, refl)

-- an answer refuses as its number does
pub refusing_is : (v : Answer) → refusing (answer_number v) ≡ refuses v
refusing_is Done = refl
refusing_is Size = refl
refusing_is Sample = refl
refusing_is State = refl
refusing_is Short = refl
refusing_is Unknown = refl
refusing_is Asleep = refl
refusing_is Address = refl
refusing_is Latch = refl
refusing_is Protected = refl
refusing_is Reserved = refl
refusing_is Long = refl
refusing_is Unarmed = refl
refusing_is Turn = refl
