-- READ BACK and WRITTEN BACK: the image of a record is read as that record, and bytes in the shape of an image are the image of the record that they are read as. Document 02, P8.
-- Assumes nothing.
use Rattle.std.specs.Prelude.{◌≡◌, ℕ, zero, suc, ◌+◌, ◌*◌, ◌/◌, ◌%◌, ◌<◌, ◌≤◌, Bool, true, false, ◌&&◌, List, [], ◌∷◌, ◌++◌, eqb, leb, length, get_or, take, drop, replicate}
use Rattle.std.proofs.Math.Path.{refl, ap}
use Rattle.std.proofs.Common.{sym, ◌∙◌, add-one, arith, lit≤, lit<, length-drop, drop_of_length-le, take-append-drop, drop-cons, drop-drop, length-take-le, eqb-true, leb-true}
use Rattle.basis.specs.Truth.{both_true}
use Rattle.record.specs.declared.devices.Volatile.{Volatile}
use Rattle.record.specs.declared.devices.Identities.{Identities}
use Rattle.record.specs.declared.devices.Underway.{Underway}
use Rattle.record.specs.declared.devices.Device.{Device}
use Rattle.state_check.specs.States.{zeros}
use Rattle.state_check.specs.StateLaws.{zeros_all}
use Rattle.image.specs.declared.fields.Field.{Field}
use Rattle.image.specs.declared.fields.Field.TheVariants as At
use Rattle.image.specs.Layout.{image_size, offset_of, size_of, layout}
use Rattle.image.specs.Image.{bit_of, four_of, eight_from, field_of, joined, image_of, four_from, record_of, volatile_at, identities_at, underway_at, piece_at, is_flag, flagged, spared, shaped}
use Rattle.image.specs.Laws.{next, eight_is, eight_whole}

-- ---- as the types of the code have it
-- each is below 256
abbrev pub EachByte : List ℕ → Type 0
EachByte bs = (i : ℕ) → get_or bs i 0 < 256

-- arrays have eight places, numbers have four bytes
pub record InTypes (d : Device) : Type 0 where
  pub device : length d.identity.device ≡ 8
  pub unique : length d.identity.unique ≡ 8
  pub serial : length d.identity.serial ≡ 8
  pub value : length d.underway.value ≡ 8
  pub clocks : d.underway.clocks.0 < 4294967296
  pub address : d.underway.address < 4294967296
  pub number : d.underway.number < 4294967296

-- ---- flags
flag_back : (b : Bool) → eqb (bit_of b) 1 ≡ b
flag_back true = refl
flag_back false = refl

bit_flag : (b : Bool) → leb (bit_of b) 1 ≡ true
bit_flag true = refl
bit_flag false = refl

bit_back : (x : ℕ) → leb x 1 ≡ true → bit_of (eqb x 1) ≡ x
bit_back zero e = refl
bit_back (suc zero) e = refl
bit_back (suc (suc x)) e = let h = leb-true (suc (suc x)) 1 e in absurd (omega (arith, h))

-- ---- numbers in four bytes
pub four_back : (n : ℕ) → n < 4294967296 → four_from 0 (four_of n) ≡ n
four_back n h = omega arith

-- READ BACK
module _ (d : Device) (t : InTypes d) where
  volatile_back : volatile_at (image_of d) ≡ d.volatile
  unfolding image_of
  volatile_back = let v = d.volatile in rw (flag_back v.latch, flag_back v.armed, flag_back v.asleep, flag_back v.toggle)

  identities_back : identities_at (image_of d) ≡ d.identity
  unfolding image_of
  identities_back = let i = d.identity in rw (eight_whole i.device t.device, eight_whole i.unique t.unique, eight_whole i.serial t.serial)

  underway_back : underway_at (image_of d) ≡ d.underway
  unfolding image_of
  underway_back =
      let u = d.underway in
      rw (flag_back u.selected, four_back u.clocks.0 t.clocks, four_back u.address t.address, four_back u.number t.number, eight_whole u.value t.value)

  pub read_back : record_of (image_of d) ≡ d
  unfolding record_of image_of
  read_back =
      ap (λ (z : Volatile). with z (identities_at (image_of d)) (underway_at (image_of d))) volatile_back
      ∙ ap (λ (j : Identities). with d.volatile j (underway_at (image_of d))) identities_back
      ∙ ap (with d.volatile d.identity) underway_back
    where
      with : Volatile → Identities → Underway → Device
      with z j u = record { make = d.make; registers = d.registers; volatile = z; identity = j; underway = u }

-- an image has the shape of one
pub image_shaped : (d : Device) → shaped (image_of d) ≡ true
unfolding shaped flagged spared image_of zeros
image_shaped d =
    let v = d.volatile in
    rw (bit_flag v.latch, bit_flag v.armed, bit_flag v.asleep, bit_flag v.toggle, bit_flag d.underway.selected)

-- ---- bytes taken apart at the fields, and put together again
-- each field begins where the one before it ends, and the last ends with the image
abbrev ends : ℕ → List Field → Bool
ends at [] = eqb at image_size
ends at (f ∷ fs) = eqb at (offset_of f) && ends (at + size_of f) fs

cut_from : (bs : List ℕ) → length bs ≡ image_size → (at : ℕ) (fs : List Field) → ends at fs ≡ true → joined (piece_at bs) fs ≡ drop at bs
cut_from bs n at [] e = let h = eqb-true at image_size e in sym (drop_of_length-le bs {i = at} (omega arith))
cut_from bs n at (f ∷ fs) e =
    let (h, g) = both_true (eqb at (offset_of f)) (ends (at + size_of f) fs) e in
    ap (λ (r : List ℕ). piece_at bs f ++ r) (cut_from bs n (at + size_of f) fs g ∙ sym (drop-drop (size_of f) at bs))
    ∙ rw (← eqb-true at (offset_of f) h) (take-append-drop (size_of f) (drop at bs))

joined_same : {p q : Field → List ℕ} → ((f : Field) → p f ≡ q f) → (fs : List Field) → joined p fs ≡ joined q fs
joined_same e [] = refl
joined_same e (f ∷ fs) = rw (e f, joined_same e fs)

-- ---- what each field holds is what stands in its place
one_is : (l : List ℕ) (at : ℕ) → at < length l → get_or l at 0 ∷ [] ≡ take 1 (drop at l)
one_is l at h = rw (drop-cons l at 0 h)

-- four bytes, and the number that they are
module _ (a b c d : ℕ) (k : a < 256) (l : b < 256) (m : c < 256) (n : d < 256) where
  abbrev all : ℕ
  all = a + 256 * b + 65536 * (c + 256 * d)

  digits : four_of all ≡ a ∷ b ∷ c ∷ d ∷ []
  digits =
      let e₀ : all % 256 ≡ a = omega arith in
      let q₁ : all / 256 ≡ b + 256 * (c + 256 * d) = omega arith in
      let e₁ : (b + 256 * (c + 256 * d)) % 256 ≡ b = omega arith in
      let q₂ : (b + 256 * (c + 256 * d)) / 256 ≡ c + 256 * d = omega arith in
      let e₂ : (c + 256 * d) % 256 ≡ c = omega arith in
      let q₃ : (c + 256 * d) / 256 ≡ d = omega arith in
      let e₃ : d % 256 ≡ d = omega arith in
      rw (e₀, q₁, e₁, q₂, e₂, q₃, e₃)

four_is : (l : List ℕ) → EachByte l → (at : ℕ) → at + 4 ≤ length l → four_of (four_from at l) ≡ take 4 (drop at l)
four_is l b at h =
    digits (get_or l at 0) (get_or l (at + 1) 0) (get_or l (at + 2) 0) (get_or l (at + 3) 0) (b at) (b (at + 1)) (b (at + 2)) (b (at + 3))
    ∙ rw (
      drop-cons l at 0 (omega arith) ∙ ap (λ (k : ℕ). get_or l at 0 ∷ drop k l) (sym (add-one at)),
      next l at 1 (omega arith),
      next l at 2 (omega arith),
      next l at 3 (omega arith),
    )

module _ (bs : List ℕ) (n : length bs ≡ image_size) where
  byte_same : (at : ℕ) → at < 128 → get_or bs at 0 ∷ [] ≡ take 1 (drop at bs)
  byte_same at h = one_is bs at (omega arith)

  flag_same : (at : ℕ) → at < 128 → leb (get_or bs at 0) 1 ≡ true → bit_of (eqb (get_or bs at 0) 1) ∷ [] ≡ take 1 (drop at bs)
  flag_same at h f = rw (bit_back (get_or bs at 0) f) (byte_same at h)

  eight_same : (at : ℕ) → at + 8 ≤ 128 → eight_from at bs ≡ take 8 (drop at bs)
  eight_same at h = eight_is bs at (omega arith)

  spare_same : (at k : ℕ) → at + k ≤ 128 → zeros (take k (drop at bs)) ≡ true → replicate k 0 ≡ take k (drop at bs)
  spare_same at k h z =
      let m = length-drop at bs in
      sym (zeros_all (take k (drop at bs)) k (length-take-le k (drop at bs) (omega arith)) z)

-- what the shape tells of each flag, and of each stretch of spare bytes
record Flags (bs : List ℕ) : Type 0 where
  latch : is_flag At.Latch bs ≡ true
  armed : is_flag At.Armed bs ≡ true
  asleep : is_flag At.Asleep bs ≡ true
  toggle : is_flag At.Toggle bs ≡ true
  selected : is_flag At.Selected bs ≡ true

flags_so : (bs : List ℕ) → flagged bs ≡ true → Flags bs
unfolding flagged
flags_so bs e =
    let (latch, f) = both_true (is_flag At.Latch bs) _ e in
    let (armed, g) = both_true (is_flag At.Armed bs) _ f in
    let (asleep, h) = both_true (is_flag At.Asleep bs) _ g in
    let (toggle, selected) = both_true (is_flag At.Toggle bs) _ h in
    record { latch = latch; armed = armed; asleep = asleep; toggle = toggle; selected = selected }

record Spares (bs : List ℕ) : Type 0 where
  make : zeros (piece_at bs At.BesideMake) ≡ true
  identities : zeros (piece_at bs At.BesideIdentities) ≡ true
  opcode : zeros (piece_at bs At.BesideOpcode) ≡ true
  value : zeros (piece_at bs At.BesideValue) ≡ true

spares_so : (bs : List ℕ) → spared bs ≡ true → Spares bs
unfolding spared
spares_so bs e =
    let (make, f) = both_true (zeros (piece_at bs At.BesideMake)) _ e in
    let (identities, g) = both_true (zeros (piece_at bs At.BesideIdentities)) _ f in
    let (opcode, value) = both_true (zeros (piece_at bs At.BesideOpcode)) _ g in
    record { make = make; identities = identities; opcode = opcode; value = value }

pub shaped_long : (bs : List ℕ) → shaped bs ≡ true → length bs ≡ image_size
unfolding shaped
shaped_long bs s = eqb-true (length bs) image_size (both_true (eqb (length bs) image_size) (flagged bs && spared bs) s).0

-- WRITTEN BACK
module _ (bs : List ℕ) (b : EachByte bs) (s : shaped bs ≡ true) where
  n : length bs ≡ image_size
  n = shaped_long bs s

  rest : (flagged bs ≡ true) × (spared bs ≡ true)
  unfolding shaped
  rest = both_true (flagged bs) (spared bs) (both_true (eqb (length bs) image_size) (flagged bs && spared bs) s).1

  flags : Flags bs
  flags = flags_so bs rest.0

  spares : Spares bs
  spares = spares_so bs rest.1

  four_same : (at : ℕ) → at + 4 ≤ 128 → four_of (four_from at bs) ≡ take 4 (drop at bs)
  four_same at h = four_is bs b at (omega (arith, n))

  piece_same : (f : Field) → field_of (record_of bs) f ≡ piece_at bs f
  unfolding record_of
  piece_same At.Part = byte_same bs n 0 (lit< tt)
  piece_same At.N = byte_same bs n 1 (lit< tt)
  piece_same At.BesideMake = spare_same bs n 2 2 (lit≤ tt) spares.make
  piece_same At.Status = byte_same bs n 4 (lit< tt)
  piece_same At.AreaProtection = byte_same bs n 5 (lit< tt)
  piece_same At.Configuration1 = byte_same bs n 6 (lit< tt)
  piece_same At.Configuration2 = byte_same bs n 7 (lit< tt)
  piece_same At.Configuration3 = byte_same bs n 8 (lit< tt)
  piece_same At.Configuration4 = byte_same bs n 9 (lit< tt)
  piece_same At.ModeRegister = byte_same bs n 10 (lit< tt)
  piece_same At.BusMode = byte_same bs n 11 (lit< tt)
  piece_same At.Latch = flag_same bs n 12 (lit< tt) flags.latch
  piece_same At.Armed = flag_same bs n 13 (lit< tt) flags.armed
  piece_same At.Asleep = flag_same bs n 14 (lit< tt) flags.asleep
  piece_same At.Toggle = flag_same bs n 15 (lit< tt) flags.toggle
  piece_same At.DeviceIdentity = eight_same bs n 16 (lit≤ tt)
  piece_same At.UniqueNumber = eight_same bs n 24 (lit≤ tt)
  piece_same At.SerialNumber = eight_same bs n 32 (lit≤ tt)
  piece_same At.BesideIdentities = spare_same bs n 40 24 (lit≤ tt) spares.identities
  piece_same At.Selected = flag_same bs n 64 (lit< tt) flags.selected
  piece_same At.Opcode = byte_same bs n 65 (lit< tt)
  piece_same At.BesideOpcode = spare_same bs n 66 2 (lit≤ tt) spares.opcode
  piece_same At.Clocks = four_same 68 (lit≤ tt)
  piece_same At.Address = four_same 72 (lit≤ tt)
  piece_same At.Number = four_same 76 (lit≤ tt)
  piece_same At.Value = eight_same bs n 80 (lit≤ tt)
  piece_same At.BesideValue = spare_same bs n 88 40 (lit≤ tt) spares.value

  pub write_back : image_of (record_of bs) ≡ bs
  unfolding image_of
  write_back = joined_same piece_same layout ∙ cut_from bs n 0 layout refl

  -- the record that they are read as is one of the code's types
  four_below : (at : ℕ) → four_from at bs < 4294967296
  four_below at =
      let x = b at in
      let y = b (at + 1) in
      let z = b (at + 2) in
      let w = b (at + 3) in
      omega arith

  pub read_typed : InTypes (record_of bs)
  unfolding record_of
  read_typed =
      record { device = refl; unique = refl; serial = refl; value = refl; clocks = four_below 68; address = four_below 72; number = four_below 76 }
