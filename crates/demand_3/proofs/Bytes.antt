-- What the bytes of a memory write leave is what its burst stores, and its places are protected as the burst's are. The paper stores byte by byte into memory and area; a burst knows memory alone.
-- Assumes nothing.
use Rattle.std.specs.Prelude.{◌≡◌, ℕ, ◌+◌, Bool, true, false, cond, length, set}
use Rattle.std.proofs.Math.Path.{refl, ap}
use Rattle.std.proofs.Common.{◌∙◌}
use mathlib.Core.List.{List, [], ◌∷◌}
use Rattle.units.specs.Units.{bytes}
use Rattle.kinds.specs.declared.WriteForm.{WriteForm}
use Rattle.kinds.specs.declared.Target.TheVariants as Into
use Rattle.kinds.specs.declared.Kind.TheVariants.{Write}
use Rattle.commands.specs.declared.plans.Body.TheVariants.{AnyWrite}
use Rattle.record.specs.declared.devices.Setting.{Setting}
use Rattle.record.specs.declared.devices.Aim.{Aim}
use Rattle.record.specs.Devices.{aim_of}
use Rattle.places.specs.Places.{write_place}
use Rattle.places.specs.Protection.{protected_of}
use Rattle.paper.specs.Storing.{Lent, protected_at, put_at, all_shut, stored, store_byte, take_each}
use Rattle.demand_3.specs.Bursts.{Burst, store_one, store_from, store, shut_all}

module _ (s : Setting) (z : WriteForm) (a : ℕ) (sent : List ℕ) where
  abbrev aim : Aim
  aim = aim_of s (Write (Into.Memory z)) a

  abbrev b : Burst
  b = record { place = write_place s a; shut = protected_of s; sent = sent }

  one_by : (q : Bool) (i x : ℕ) (l : Lent)
      → cond q l (record { memory = set l.memory (write_place s a (bytes i)) x; area = l.area })
      ≡ record { memory = cond q l.memory (set l.memory (write_place s a (bytes i)) x); area = l.area }
  one_by true i x l = refl
  one_by false i x l = refl

  one_taken : (i x : ℕ) (l : Lent) → stored aim (bytes i) x l ≡ record { memory = store_one b i x l.memory; area = l.area }
  unfolding protected_at put_at
  one_taken i x l = one_by (protected_of s (write_place s a (bytes i))) i x l

  all_taken : (i : ℕ) (xs : List ℕ) (l : Lent) → take_each (store_byte AnyWrite aim) i xs l ≡ record { memory = store_from b i xs l.memory; area = l.area }
  unfolding take_each store_from
  all_taken i [] l = refl
  all_taken i (x ∷ xs) l = ap (take_each (store_byte AnyWrite aim) (i + 1) xs) (one_taken i x l) ∙ all_taken (i + 1) xs (record { memory = store_one b i x l.memory; area = l.area })

  -- THE BYTES OF A MEMORY WRITE
  pub taken_so : (l : Lent) → take_each (store_byte AnyWrite aim) 0 sent l ≡ record { memory = store b l.memory; area = l.area }
  taken_so l = all_taken 0 sent l

  -- AND ITS PLACES
  pub shut_so : {m : ℕ} → length sent ≡ m → all_shut aim (bytes m) ≡ shut_all b
  unfolding protected_at all_shut shut_all
  shut_so e = rw (← e)
