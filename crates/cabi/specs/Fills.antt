-- The host half as C sees it: the answer as a number, and how much was put into the buffer in one lent word.
use Rattle.std.specs.Prelude.{ℕ, cond, List}
use Rattle.units.specs.declared.Clocks.{Clocks}
use Rattle.units.specs.declared.Bytes.{Bytes}
use Rattle.record.specs.declared.answers.Answer.TheVariants.{Size}
use Rattle.record.specs.Answers.{answer_number}
use Rattle.paper.specs.Building.{Order, Told, build_of}
use Rattle.paper.specs.Collecting.{collect_of}
use Rattle.words.specs.Words.{has_number, number_over}

pub record Filled : Type 0 where
  pub answer : ℕ
  pub buffer : List ℕ
  pub number : List ℕ

abbrev pub filled_as : ℕ → List ℕ → List ℕ → Filled
filled_as v buffer number = record { answer = v; buffer = buffer; number = number }

abbrev pub order_in : ℕ → ℕ → ℕ → ℕ → ℕ → Bytes → List ℕ → Order
order_in part opcode mode address cr2 wanted written =
    record { part = part; opcode = opcode; mode = mode; address = address; cr2 = cr2; written = written; wanted = wanted }

-- what the host half tells; 1 where there is not one word for the number, and nothing changes (D47)
abbrev pub filled : {U : Type 0} → (U → ℕ) → Told U → List ℕ → List ℕ → Filled
filled count t buffer number =
    cond (has_number number) (filled_as (answer_number t.answer) t.buffer (number_over (count t.number) number)) (filled_as (answer_number Size) buffer number)

unfoldable pub build_in : Order → List ℕ → List ℕ → Filled
build_in o out number = filled (λ (c : Clocks). c.0) (build_of o out) out number

unfoldable pub gather_in : ℕ → List ℕ → List ℕ → List ℕ → Filled
gather_in wires driven out number = filled (λ (b : Bytes). b.0) (collect_of wires driven out) out number
