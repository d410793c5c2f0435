-- What the whole data bytes of a write leave. Document 01, "Commands of part M", last paragraph: a protected byte is left out and the burst goes on; a byte counts
-- when its last clock has come. The bytes of a register write are kept until the end.
use Rattle.std.specs.Prelude.{ℕ, ◌+◌, Bool, true, false, cond, List, [], ◌∷◌, eqb, set}
use Rattle.basis.specs.Counting.{how_many}
use Rattle.units.specs.declared.Bytes.{Bytes}
use Rattle.units.specs.Units.{bytes}
use Rattle.kinds.specs.declared.Target.TheVariants as Into
use Rattle.kinds.specs.declared.Kind.{Kind}
use Rattle.kinds.specs.declared.Kind.TheVariants.{Unknown, Plain, Read, Write}
use Rattle.commands.specs.declared.plans.Body.{Body}
use Rattle.commands.specs.declared.plans.Body.TheVariants.{Nothing, FixedRead, AnyRead, FixedWrite, AnyWrite}
use Rattle.record.specs.declared.devices.Aim.{Aim}
use Rattle.places.specs.Places.{write_place, area_place}
use Rattle.places.specs.Protection.{protected_of, area_protected_of}

-- what is lent to a call and may change under it
pub record Lent : Type 0 where
  pub memory : List ℕ
  pub area : List ℕ

-- 42 goes to the area, every other burst to memory
abbrev pub into_area : Kind → Bool
into_area Unknown = false
into_area (Plain c) = false
into_area (Read s) = false
into_area (Write (Into.Register r)) = false
into_area (Write Into.Mode) = false
into_area (Write (Into.Memory r)) = false
into_area (Write Into.Area) = true

-- byte i of a write lies at a protected place
unfoldable pub protected_at : Aim → Bytes → Bool
protected_at a i =
    let s = a.setting in
    cond (into_area a.kind) (area_protected_of s (area_place s.part a.address i)) (protected_of s (write_place s a.address i))

-- byte i of a write, stored
unfoldable pub put_at : Aim → Bytes → ℕ → Lent → Lent
put_at a i b l =
    let s = a.setting in
    cond (into_area a.kind)
    (record { memory = l.memory; area = set l.area (area_place s.part a.address i) b })
    (record { memory = set l.memory (write_place s a.address i) b; area = l.area })

-- HOW MANY of the first m bytes of a write lie at protected places. It follows from the places alone, whatever the bytes are (D55).
abbrev pub shut_among : Aim → Bytes → Bytes
shut_among a m = bytes (how_many (λ i. protected_at a (bytes i)) m.0)

-- all of them do
unfoldable pub all_shut : Aim → Bytes → Bool
all_shut a m = eqb (shut_among a m).0 m.0

abbrev pub stored : Aim → Bytes → ℕ → Lent → Lent
stored a i b l = cond (protected_at a i) l (put_at a i b l)

-- one whole data byte: what it leaves in memory and area, and in the eight places of a register write
abbrev pub store_byte : Body → Aim → Bytes → ℕ → Lent → Lent
store_byte Nothing a i b l = l
store_byte (FixedRead m) a i b l = l
store_byte AnyRead a i b l = l
store_byte (FixedWrite m) a i b l = l
store_byte AnyWrite a i b l = stored a i b l

abbrev pub value_byte : Body → Bytes → ℕ → List ℕ → List ℕ
value_byte Nothing i b v = v
value_byte (FixedRead m) i b v = v
value_byte AnyRead i b v = v
value_byte (FixedWrite m) i b v = set v i.0 b
value_byte AnyWrite i b v = v

-- all of them, in their order
unfoldable pub take_each : {S : Type 0} → (Bytes → ℕ → S → S) → ℕ → List ℕ → S → S
take_each f i [] t = t
take_each f i (b ∷ bs) t = take_each f (i + 1) bs (f (bytes i) b t)
