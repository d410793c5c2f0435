-- Fresh chips, as images (D48).
use Rattle.std.specs.Prelude.{ℕ, Bool, cond, ◌&&◌, List, eqb, length, replicate, Result, Ok, Err}
use Rattle.parts.specs.declared.Part.{Part}
use Rattle.parts.specs.declared.Part.TheVariants.{M, P, M32}
use Rattle.parts.specs.Parts.{offered}
use Rattle.record.specs.declared.answers.Answer.{Answer}
use Rattle.record.specs.declared.answers.Answer.TheVariants.{Done, Size, State}
use Rattle.record.specs.declared.devices.Device.{Device}
use Rattle.record.specs.Fresh.{make_of, fresh_of}
use Rattle.image.specs.Layout.{image_size}
use Rattle.image.specs.Image.{image_of}

pub record Made : Type 0 where
  pub answer : Answer
  pub image : List ℕ

abbrev pub made_as : Answer → List ℕ → Made
made_as v image = record { answer = v; image = image }

-- what a call answers, and the buffer as it leaves it: the error is the answer that refuses
abbrev pub made_in : Result (Unit {0}) Answer → List ℕ → Made
made_in (Ok u) image = made_as Done image
made_in (Err v) image = made_as v image

-- 3 for a buffer that has not an image's length, 1 for anything asked for that no chip has; the buffer is then as it was
abbrev pub made : Bool → Device → List ℕ → Made
made fits d image = cond (eqb (length image) image_size) (cond fits (made_as Done (image_of d)) (made_as Size image)) (made_as State image)

-- a part of the MRAM, with four bytes of device identity and a unique number
unfoldable pub fresh_mram_in : Part → ℕ → List ℕ → List ℕ → List ℕ → Made
fresh_mram_in p n device unique image = made (offered p n && (eqb (length device) 4 && eqb (length unique) 8)) (fresh_of (make_of p n) device unique) image

abbrev pub fresh_m_in : ℕ → List ℕ → List ℕ → List ℕ → Made
fresh_m_in n device unique image = fresh_mram_in M n device unique image

abbrev pub fresh_m32_in : ℕ → List ℕ → List ℕ → List ℕ → Made
fresh_m32_in n device unique image = fresh_mram_in M32 n device unique image

unfoldable pub fresh_p_in : ℕ → List ℕ → List ℕ → Made
fresh_p_in n device image = made (offered P n && eqb (length device) 8) (fresh_of (make_of P n) device (replicate 8 0)) image
