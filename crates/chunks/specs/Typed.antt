-- AS THE TYPES OF THE CODE HAVE IT: the value of the facts of any samples has eight places, each a byte. Document 02, P1.
-- Assumes nothing.
use Rattle.std.specs.Prelude.{◌≡◌, refl, ℕ, zero, suc, ◌+◌, ◌<◌, true, List, [], ◌∷◌, ltb, length, take, drop, set, replicate}
use Rattle.std.proofs.Common.{◌∙◌, arith, length-set, length-take, lt-ltb}
use Rattle.basis.specs.Truth.{both_true}
use Rattle.units.specs.declared.Wires.{Wires}
use Rattle.units.specs.Units.{per_byte, whole_of}
use Rattle.wires.specs.Bits.{gather}
use Rattle.wires.proofs.Laws.{gather_byte}
use Rattle.commands.specs.declared.plans.Body.{Body}
use Rattle.commands.specs.declared.plans.Body.TheVariants.{Nothing, FixedRead, AnyRead, FixedWrite, AnyWrite}
use Rattle.record.specs.declared.devices.Underway.{Underway}
use Rattle.record.specs.declared.devices.Setting.{Setting}
use Rattle.record.specs.Fields.{no_underway}
use Rattle.paper.specs.InForce.{wires_for}
use Rattle.paper.specs.Reading.{many, reading_of, bytes_in, data_bytes}
use Rattle.paper.specs.Storing.{value_byte, take_each}
use Rattle.paper.specs.Transaction.{sent_bytes, body_in, facts_of}
use Rattle.paper.specs.Meanwhile.{underway_of}
use Rattle.paper.specs.Laws.{still}
use Rattle.demand_1_2.specs.Sent.{bytewise}

pub record Eight (v : List ℕ) : Type 0 where
  pub places : length v ≡ 8
  pub bytes : bytewise v ≡ true

abbrev pub Typed : Underway → Type 0
Typed u = Eight u.value

-- what the clocks of a byte spell is a byte
byte_lt : (w : Wires) (xs : List ℕ) → gather w (take (per_byte w) xs) < 256
byte_lt w xs =
    let n = length-take (per_byte w) xs in
    let e = gather_byte w (take (per_byte w) xs) (omega arith) in
    omega arith

sent_bytes_lem : (w : Wires) (n : ℕ) (xs : List ℕ) → bytewise (bytes_in w n xs) ≡ true
unfolding bytewise bytes_in
sent_bytes_lem w zero xs = refl
sent_bytes_lem w (suc n) xs = rw (lt-ltb (gather w (take (per_byte w) xs)) 256 (byte_lt w xs)) (sent_bytes_lem w n (drop (per_byte w) xs))

-- bytes put in places of the value
set_bytes : (v : List ℕ) (i b : ℕ) → bytewise v ≡ true → ltb b 256 ≡ true → bytewise (set v i b) ≡ true
unfolding bytewise
set_bytes [] i b e h = refl
set_bytes (x ∷ v) zero b e h = rw h (both_true (ltb x 256) (bytewise v) e).1
set_bytes (x ∷ v) (suc i) b e h = let c = both_true (ltb x 256) (bytewise v) e in rw c.0 (set_bytes v i b c.1 h)

put_eight : (bs : List ℕ) (i : ℕ) (v : List ℕ) → bytewise bs ≡ true → Eight v → Eight (take_each (λ j b t. set t j.0 b) i bs v)
unfolding take_each bytewise
put_eight [] i v e h = h
put_eight (b ∷ bs) i v e h =
    let c = both_true (ltb b 256) (bytewise bs) e in
    put_eight bs (i + 1) (set v i b) c.1 (record { places = length-set v i b ∙ h.places; bytes = set_bytes v i b h.bytes c.0 })

-- a fresh chip's, and any with none open
pub none_typed : Typed no_underway
unfolding bytewise
none_typed = record { places = refl; bytes = refl }

value_eight : (b : Body) (bs : List ℕ) → bytewise bs ≡ true → Eight (take_each (value_byte b) 0 bs (replicate 8 0))
value_eight Nothing bs e = rw (still (value_byte Nothing) (λ i x t. refl) bs 0 (replicate 8 0)) none_typed
value_eight (FixedRead m) bs e = rw (still (value_byte (FixedRead m)) (λ i x t. refl) bs 0 (replicate 8 0)) none_typed
value_eight AnyRead bs e = rw (still (value_byte AnyRead) (λ i x t. refl) bs 0 (replicate 8 0)) none_typed
value_eight (FixedWrite m) bs e = put_eight bs 0 (replicate 8 0) e none_typed
value_eight AnyWrite bs e = rw (still (value_byte AnyWrite) (λ i x t. refl) bs 0 (replicate 8 0)) none_typed

pub facts_typed : (s : Setting) (xs : List ℕ) → Typed (underway_of s xs)
unfolding underway_of facts_of sent_bytes data_bytes
facts_typed s xs =
    let p = reading_of s xs in
    let w = wires_for s p.kind in
    value_eight (body_in s p) (data_bytes w p.data_part) (sent_bytes_lem w (whole_of w (many p.data_part)).0 p.data_part)
