-- What the code's types say of a record and of what is lent: every number in them is a byte. So is then all that a command reads.
-- Assumes nothing.
use Rattle.std.specs.Prelude.{◌≡◌, ℕ, zero, suc, ◌<◌, Bool, true, false, List, [], ◌∷◌, ltb, get_or, replicate, Option, Some, None}
use Rattle.std.proofs.Common.{arith, ltb-true}
use Rattle.std.proofs.Math.Dec.{lit<}
use Rattle.basis.specs.Truth.{both_true}
use Rattle.units.specs.declared.Bytes.{Bytes}
use Rattle.kinds.specs.declared.Register.{Register}
use Rattle.kinds.specs.declared.Register.TheVariants.{Status, AreaProtection, Configuration1, Configuration2, Configuration3, Configuration4, Configurations, Identity, Unique, Serial, ModeRegister, LongIdentity}
use Rattle.kinds.specs.declared.Source.TheVariants as From
use Rattle.kinds.specs.declared.Kind.{Kind}
use Rattle.kinds.specs.declared.Kind.TheVariants.{Unknown, Plain, Read, Write}
use Rattle.commands.specs.Registers.{mapped_of}
use Rattle.record.specs.declared.devices.Device.{Device}
use Rattle.record.specs.Devices.{setting_of}
use Rattle.record.specs.Shows.{status_shown, shown_byte}
use Rattle.places.specs.Places.{read_place, area_place}
use Rattle.paper.specs.Storing.{Lent}
use Rattle.paper.specs.Driving.{mapped_byte, byte_read}
use Rattle.demand_1_2.specs.Sent.{bytewise}

-- every number in a record and in what is lent with it is a byte
pub record Bytewise (d : Device) (l : Lent) : Type 0 where
  pub memory : bytewise l.memory ≡ true
  pub area : bytewise l.area ≡ true
  pub status : d.registers.status < 256
  pub protection : d.registers.protection < 256
  pub cr1 : d.registers.cr1 < 256
  pub cr2 : d.registers.cr2 < 256
  pub cr3 : d.registers.cr3 < 256
  pub cr4 : d.registers.cr4 < 256
  pub mr0 : d.registers.mr0 < 256
  pub device : bytewise d.identity.device ≡ true
  pub unique : bytewise d.identity.unique ≡ true
  pub serial : bytewise d.identity.serial ≡ true

pub byte_at_lem : (bs : List ℕ) (i : ℕ) → bytewise bs ≡ true → get_or bs i 0 < 256
unfolding bytewise
byte_at_lem [] i e = lit< tt
byte_at_lem (b ∷ bs) zero e = ltb-true b 256 (both_true (ltb b 256) (bytewise bs) e).0
byte_at_lem (b ∷ bs) (suc i) e = byte_at_lem bs i (both_true (ltb b 256) (bytewise bs) e).1

-- a byte before bytes, as a list of places shows it
next_at : (b : ℕ) (bs : List ℕ) → b < 256 → ((i : ℕ) → get_or bs i 0 < 256) → (i : ℕ) → get_or (b ∷ bs) i 0 < 256
next_at b bs h f zero = h
next_at b bs h f (suc i) = f i

nothing_at : (n i : ℕ) → get_or (replicate n 0) i 0 < 256
nothing_at zero i = lit< tt
nothing_at (suc n) zero = lit< tt
nothing_at (suc n) (suc i) = nothing_at n i

abbrev zeros : ℕ → List ℕ
zeros n = replicate n 0

one_at : (b : ℕ) → b < 256 → (i : ℕ) → get_or (b ∷ zeros 7) i 0 < 256
one_at b h i = next_at b (zeros 7) h (nothing_at 7) i

module _ (d : Device) (l : Lent) (w : Bytewise d l) where
  status_at : (latch : Bool) → status_shown d.registers.status latch < 256
  status_at true = omega (arith, w.status)
  status_at false = omega (arith, w.status)

  shown_at : (r : Register) (i : Bytes) → shown_byte d r i < 256
  shown_at Status i = one_at _ (status_at d.volatile.latch) i.0
  shown_at AreaProtection i = one_at _ w.protection i.0
  shown_at Configuration1 i = one_at _ w.cr1 i.0
  shown_at Configuration2 i = one_at _ w.cr2 i.0
  shown_at Configuration3 i = one_at _ w.cr3 i.0
  shown_at Configuration4 i = one_at _ w.cr4 i.0
  shown_at Configurations i =
      let r = d.registers in
      next_at r.cr1 (r.cr2 ∷ r.cr3 ∷ r.cr4 ∷ zeros 4) w.cr1
      (next_at r.cr2 (r.cr3 ∷ r.cr4 ∷ zeros 4) w.cr2 (next_at r.cr3 (r.cr4 ∷ zeros 4) w.cr3 (next_at r.cr4 (zeros 4) w.cr4 (nothing_at 4)))) i.0
  shown_at Identity i = byte_at_lem d.identity.device i.0 w.device
  shown_at Unique i = byte_at_lem d.identity.unique i.0 w.unique
  shown_at Serial i = byte_at_lem d.identity.serial i.0 w.serial
  shown_at ModeRegister i = one_at _ w.mr0 i.0
  shown_at LongIdentity i = byte_at_lem d.identity.device i.0 w.device

  mapped_at : (m : Option Register) (i : Bytes) → mapped_byte d m i < 256
  mapped_at (Some r) i = shown_at r i
  mapped_at None i = lit< tt

  -- WHAT IS READ IS BYTES
  pub read_at : (k : Kind) (a : ℕ) (i : Bytes) → byte_read d k a l i < 256
  unfolding byte_read
  read_at Unknown a i = lit< tt
  read_at (Plain c) a i = lit< tt
  read_at (Read (From.Register r)) a i = shown_at r i
  read_at (Read From.Map) a i = mapped_at (mapped_of (setting_of d).part a) i
  read_at (Read From.Mode) a i = shown_at ModeRegister i
  read_at (Read From.Identity) a i = shown_at LongIdentity i
  read_at (Read (From.Memory r)) a i = byte_at_lem l.memory (read_place (setting_of d) a i) w.memory
  read_at (Read From.Area) a i = byte_at_lem l.area (area_place (setting_of d).part a i) w.area
  read_at (Write t) a i = lit< tt
