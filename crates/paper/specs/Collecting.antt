-- The host half, second: bytes from driven samples. Document 01, "The host half", second paragraph (D30).
use Rattle.std.specs.Prelude.{ℕ, Bool, false, cond, not, ◌&&◌, ◌||◌, List, [], ◌∷◌, eqb}
use Rattle.units.specs.declared.Bytes.{Bytes}
use Rattle.units.specs.declared.Wires.{Wires}
use Rattle.units.specs.Units.{bytes, fewer_bytes}
use Rattle.basis.specs.Decisions.{first_of}
use Rattle.wires.specs.Levels.{seen_of, driven_of}
use Rattle.record.specs.declared.answers.Answer.{Answer}
use Rattle.record.specs.declared.answers.Answer.TheVariants.{Done, Size, Sample, Unknown}
use Rattle.record.specs.Devices.{mode_wires}
use Rattle.paper.specs.Reading.{data_bytes}
use Rattle.paper.specs.Building.{many_bytes, Told, told}

-- one, two or four wires (D38)
abbrev pub is_wires : ℕ → Bool
is_wires w = eqb w 1 || (eqb w 2 || eqb w 4)

-- the bits of the driven clocks; a clock of 00h is skipped, wherever it stands
unfoldable pub seen_in : Wires → List ℕ → List ℕ
seen_in w [] = []
seen_in w (x ∷ xs) = cond (eqb x 0) (seen_in w xs) (seen_of w x ∷ seen_in w xs)

-- some sample is neither silence nor a level of these wires
unfoldable pub strange : Wires → List ℕ → Bool
strange w [] = false
strange w (x ∷ xs) = (not (eqb x 0) && not (driven_of w x)) || strange w xs

-- the whole bytes that the driven clocks make; an unfinished last one is dropped
unfoldable pub collected : Wires → List ℕ → List ℕ
collected w xs = data_bytes w (seen_in w xs)

-- THE ROWS, a named test for each, and their order of checking (D54)
pub record Unfit : Type 0 where
  pub no_wires : Bool
  pub strange : Bool
  pub no_room : Bool

abbrev pub unfit_of : ℕ → List ℕ → List ℕ → Unfit
unfit_of wires xs out =
    let w = mode_wires wires in
    record {
      no_wires = not (is_wires wires);
      strange = strange w xs;
      no_room = fewer_bytes (many_bytes out) (many_bytes (collected w xs));
    }

abbrev pub sifted : Unfit → List (Bool × Answer)
sifted u =
    (u.no_wires, Unknown)
    ∷ (u.strange, Sample)
    ∷ (u.no_room, Size)
    ∷ []

abbrev pub collect_answer : ℕ → List ℕ → List ℕ → Answer
collect_answer wires xs out = first_of Done (sifted (unfit_of wires xs out))

-- GATHER: the bytes and how many they are, or a refusal
unfoldable pub collect_of : ℕ → List ℕ → List ℕ → Told Bytes
collect_of wires xs out = told bytes (collect_answer wires xs out) (collected (mode_wires wires) xs) out
