-- Laws of the reading: the parts of the five phases, put together, are the samples; and so is what they drive where nothing is driven.
-- Assumes nothing.
use Rattle.std.specs.Prelude.{◌≡◌, refl, ℕ, ◌*◌, List, ◌++◌, take, drop}
use Rattle.std.proofs.Common.{ap, ◌∙◌, append-nil, length-append, take-append-drop}
use Rattle.std.proofs.lemmas.List.{replicate-append-replicate}
use Rattle.units.specs.declared.Wires.{Wires}
use Rattle.units.specs.Units.{per_byte}
use Rattle.commands.specs.declared.plans.Body.{Body}
use Rattle.commands.specs.declared.plans.Body.TheVariants.{Nothing, FixedRead, AnyRead, FixedWrite, AnyWrite}
use Rattle.record.specs.declared.devices.Setting.{Setting}
use Rattle.paper.specs.InForce.{command_clocks, wires_for, address_clocks, wait_clocks, body_for}
use Rattle.paper.specs.Reading.{data_part, rest_part, Reading, reading_of}
use Rattle.paper.specs.Transaction.{undriven, around}

-- ---- the parts, put together, are the samples
abbrev pub together : Reading → List ℕ
together p = p.command_part ++ (p.address_part ++ (p.wait_part ++ (p.data_part ++ p.rest_part)))

pub data_and_rest : (b : Body) (w : Wires) (xs : List ℕ) → data_part b w xs ++ rest_part b w xs ≡ xs
data_and_rest Nothing w xs = refl
data_and_rest (FixedRead b) w xs = take-append-drop (b.0 * per_byte w) xs
data_and_rest AnyRead w xs = append-nil xs
data_and_rest (FixedWrite b) w xs = take-append-drop (b.0 * per_byte w) xs
data_and_rest AnyWrite w xs = append-nil xs

pub parts_together : (s : Setting) (xs : List ℕ) → together (reading_of s xs) ≡ xs
unfolding reading_of
parts_together s xs =
    let p = reading_of s xs in
    let n₁ = (command_clocks s).0 in
    let n₂ = (address_clocks s p.kind).0 in
    let n₃ = (wait_clocks s p.kind p.address).0 in
    let xs₁ = drop n₁ xs in
    let xs₂ = drop n₂ xs₁ in
    ap (λ (l : List ℕ). take n₁ xs ++ (take n₂ xs₁ ++ (take n₃ xs₂ ++ l))) (data_and_rest (body_for s p.kind p.address) (wires_for s p.kind) (drop n₃ xs₂))
    ∙ ap (λ (l : List ℕ). take n₁ xs ++ (take n₂ xs₁ ++ l)) (take-append-drop n₃ xs₂)
    ∙ ap (λ (l : List ℕ). take n₁ xs ++ l) (take-append-drop n₂ xs₁)
    ∙ take-append-drop n₁ xs

-- where no data clock is driven, no clock is
zeros_together : (p : Reading) → around p (undriven p.data_part) ≡ undriven (together p)
zeros_together p =
    rw (
      length-append p.command_part (p.address_part ++ (p.wait_part ++ (p.data_part ++ p.rest_part))),
      length-append p.address_part (p.wait_part ++ (p.data_part ++ p.rest_part)),
      length-append p.wait_part (p.data_part ++ p.rest_part),
      length-append p.data_part p.rest_part,
    )
    (simp replicate-append-replicate)

pub none_driven : (s : Setting) (xs : List ℕ) → around (reading_of s xs) (undriven (reading_of s xs).data_part) ≡ undriven xs
none_driven s xs = zeros_together (reading_of s xs) ∙ ap (λ (ys : List ℕ). undriven ys) (parts_together s xs)
