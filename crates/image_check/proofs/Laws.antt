-- ACCEPTED EXACTLY: bytes are accepted where they are the image of a valid record, and nowhere else; each valid record has one image, and each image one record. Document 02, P8.
-- Assumes nothing.
use Rattle.std.specs.Prelude.{◌≡◌, ℕ, true, List, length}
use Rattle.std.proofs.Common.{sym, ap, ◌∙◌}
use Rattle.basis.specs.Truth.{both_true}
use Rattle.parts.specs.Parts.{part_of, known_part, offered}
use Rattle.record.specs.declared.devices.Device.{Device}
use Rattle.paper.specs.Underway.{valid_of}
use Rattle.image.specs.Layout.{image_size}
use Rattle.image.specs.Image.{image_of, record_of, shaped}
use Rattle.image.specs.Back.{EachByte, InTypes, image_shaped, shaped_long, read_back, write_back, read_typed}
use Rattle.image_check.specs.Accepted.{valid_record, accepted}
use Rattle.image_check.specs.Laws.{ImageOfChip}

-- ---- what an accepted image tells
module _ (bs : List ℕ) (a : accepted bs ≡ true) where
  abbrev d : Device
  d = record_of bs

  both_so : (shaped bs ≡ true) × (valid_record d ≡ true)
  unfolding accepted
  both_so = both_true (shaped bs) (valid_record d) a

  pub accepted_long : length bs ≡ image_size
  accepted_long = shaped_long bs both_so.0

  pub accepted_valid : valid_record (record_of bs) ≡ true
  accepted_valid = both_so.1

  pub accepted_back : EachByte bs → image_of (record_of bs) ≡ bs
  accepted_back b = write_back bs b both_so.0

  pub accepted_typed : EachByte bs → InTypes (record_of bs)
  accepted_typed b = read_typed bs b both_so.0

-- the state check is passed
pub valid_state : (d : Device) → valid_record d ≡ true → valid_of d ≡ true
unfolding valid_record
valid_state d v =
    let m = d.make in
    (both_true (offered (part_of m.part) m.n) (valid_of d) (both_true (known_part m.part) _ v).1).1

-- ---- the image of a valid record is accepted
pub image_accepted : (d : Device) → InTypes d → valid_record d ≡ true → accepted (image_of d) ≡ true
unfolding accepted
image_accepted d t v = rw (image_shaped d, read_back d t) v

pub accepted_only : (bs : List ℕ) → EachByte bs → accepted bs ≡ true → ImageOfChip bs
accepted_only bs b a = record { chip = record_of bs; typed = accepted_typed bs a b; valid = accepted_valid bs a; image = accepted_back bs a b }

pub accepted_all : (bs : List ℕ) → ImageOfChip bs → accepted bs ≡ true
accepted_all bs i = sym (ap accepted i.image) ∙ image_accepted i.chip i.typed i.valid

-- no two records have one image, and no two images stand for one record
pub one_record : (d e : Device) → InTypes d → InTypes e → image_of d ≡ image_of e → d ≡ e
one_record d e t u i = sym (read_back d t) ∙ ap record_of i ∙ read_back e u

pub one_image : (bs cs : List ℕ) → EachByte bs → EachByte cs → accepted bs ≡ true → accepted cs ≡ true → record_of bs ≡ record_of cs → bs ≡ cs
one_image bs cs b c a e i = sym (accepted_back bs a b) ∙ ap image_of i ∙ accepted_back cs e c
