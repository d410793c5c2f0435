-- EACH OFFSET HAS ITS FIELD, and what the code writes is the image.
-- Assumes nothing.
use Rattle.std.specs.Prelude.{◌≡◌, ℕ, suc, ◌+◌, ◌<◌, ◌≤◌, List, ◌∷◌, ◌++◌, length, get_or, take, drop}
use Rattle.std.proofs.Math.Path.{refl, ap}
use Rattle.std.proofs.Common.{sym, ◌∙◌, le_of_eq, add-one, arith, append-nil, drop_of_length-le, drop-cons, take_all}
use Rattle.buffers.specs.Page.{Page, page, puts_of}
use Rattle.buffers.specs.Laws.{puts_append, puts_front}
use Rattle.record.specs.declared.devices.Device.{Device}
use Rattle.image.specs.declared.fields.Field.{Field}
use Rattle.image.specs.declared.fields.Field.TheVariants as At
use Rattle.image.specs.Layout.{image_size}
use Rattle.image.specs.Image.{eight_from, eight_of, field_of, image_of, piece_at}
use Rattle.image.specs.Stretches.{front_bytes, back_bytes}

-- ---- an image has its length, and at each offset of the table stands its field
module _ (d : Device) where
  pub image_long : length (image_of d) ≡ image_size
  unfolding image_of
  image_long = refl

  pub field_at : (f : Field) → piece_at (image_of d) f ≡ field_of d f
  unfolding image_of
  field_at At.Part = refl
  field_at At.N = refl
  field_at At.BesideMake = refl
  field_at At.Status = refl
  field_at At.AreaProtection = refl
  field_at At.Configuration1 = refl
  field_at At.Configuration2 = refl
  field_at At.Configuration3 = refl
  field_at At.Configuration4 = refl
  field_at At.ModeRegister = refl
  field_at At.BusMode = refl
  field_at At.Latch = refl
  field_at At.Armed = refl
  field_at At.Asleep = refl
  field_at At.Toggle = refl
  field_at At.DeviceIdentity = refl
  field_at At.UniqueNumber = refl
  field_at At.SerialNumber = refl
  field_at At.BesideIdentities = refl
  field_at At.Selected = refl
  field_at At.Opcode = refl
  field_at At.BesideOpcode = refl
  field_at At.Clocks = refl
  field_at At.Address = refl
  field_at At.Number = refl
  field_at At.Value = refl
  field_at At.BesideValue = refl

-- ---- eight bytes, one by one
pub next : (l : List ℕ) (at k : ℕ) → at + k < length l → drop (at + k) l ≡ get_or l (at + k) 0 ∷ drop (at + suc k) l
next l at k h = let e : suc (at + k) ≡ at + suc k = omega arith in drop-cons l (at + k) 0 h ∙ rw e

pub eight_is : (l : List ℕ) (at : ℕ) → at + 8 ≤ length l → eight_from at l ≡ take 8 (drop at l)
eight_is l at h =
    rw (
      drop-cons l at 0 (omega arith) ∙ ap (λ (k : ℕ). get_or l at 0 ∷ drop k l) (sym (add-one at)),
      next l at 1 (omega arith),
      next l at 2 (omega arith),
      next l at 3 (omega arith),
      next l at 4 (omega arith),
      next l at 5 (omega arith),
      next l at 6 (omega arith),
      next l at 7 (omega arith),
    )

pub eight_whole : (l : List ℕ) → length l ≡ 8 → eight_of l ≡ l
eight_whole l e = eight_is l 0 (le_of_eq (sym e)) ∙ take_all 8 l (le_of_eq e)

-- ---- what is put, one stretch after the other
-- bytes after bytes
pub onto : (p : Page) {q r : Page} (xs ys : List ℕ) → q ≡ puts_of xs p → r ≡ puts_of ys q → r ≡ puts_of (xs ++ ys) p
onto p xs ys e f = f ∙ ap (puts_of ys) e ∙ sym (puts_append xs ys p)

-- over a whole buffer: they are what stands there
whole : (xs out : List ℕ) → length xs ≡ length out → puts_of xs (page 0 out) ≡ page (length xs) xs
whole xs out n = puts_front xs out (le_of_eq n) ∙ rw (drop_of_length-le out (le_of_eq (sym n)), append-nil xs)

pub image_put : (d : Device) (out : List ℕ) {q r : Page} → length out ≡ image_size → q ≡ puts_of (front_bytes d) (page 0 out) → r ≡ puts_of (back_bytes d.underway) q
    → r.buffer ≡ image_of d
unfolding image_of front_bytes back_bytes
image_put d out n e f = ap (λ (z : Page). z.buffer) (onto (page 0 out) (front_bytes d) (back_bytes d.underway) e f ∙ whole (image_of d) out (sym n))

-- so many bytes, each of which is named, are the bytes
pub eight_put : (p : Page) {q : Page} (l : List ℕ) → length l ≡ 8 → q ≡ puts_of l p → q ≡ puts_of (eight_of l) p
eight_put p l n e = rw (eight_whole l n) e
