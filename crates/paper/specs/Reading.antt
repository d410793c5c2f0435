-- What the device reads off the samples: each phase takes its clocks off the front of what the phases before it have left. Document 01, "Answer numbers", the paragraph on counts.
use Rattle.std.specs.Prelude.{ℕ, zero, suc, Bool, cond, List, [], ◌∷◌, length, take, drop}
use Rattle.units.specs.declared.Clocks.{Clocks}
use Rattle.units.specs.declared.Wires.{Wires}
use Rattle.units.specs.Units.{clocks, at_most, per_byte, clocks_of, clocks_within, whole_of}
use Rattle.wires.specs.Bits.{gather}
use Rattle.parts.specs.Parts.{family_of}
use Rattle.kinds.specs.declared.Kind.{Kind}
use Rattle.kinds.specs.declared.Kind.TheVariants.{Unknown}
use Rattle.opcodes.specs.Opcodes.{kind_of}
use Rattle.counts.specs.declared.Counts.{Counts}
use Rattle.counts.specs.Counts.{counted}
use Rattle.commands.specs.declared.plans.Body.{Body}
use Rattle.commands.specs.declared.plans.Body.TheVariants.{Nothing, FixedRead, AnyRead, FixedWrite, AnyWrite}
use Rattle.record.specs.declared.devices.Setting.{Setting}
use Rattle.paper.specs.InForce.{command_clocks, wires_for, address_clocks, wait_clocks, body_for}

-- the first clocks of the samples, and those after them
abbrev pub first : Clocks → List ℕ → List ℕ
first c xs = take c.0 xs

abbrev pub after : Clocks → List ℕ → List ℕ
after c xs = drop c.0 xs

-- the clocks that the samples are
abbrev pub many : List ℕ → Clocks
many xs = clocks (length xs)

-- they are as many as a phase has, or more
abbrev pub full : Clocks → List ℕ → Bool
full c xs = at_most c (many xs)

-- the kind that the command spells; there is none while bits are missing
unfoldable pub kind_read : Setting → List ℕ → Kind
kind_read s xs = cond (full (command_clocks s) xs) (kind_of (family_of s.part) s.wires (gather s.wires xs)) Unknown

-- the address that the samples spell; 0 while bits are missing
unfoldable pub address_read : Setting → Kind → List ℕ → ℕ
address_read s k xs = cond (full (address_clocks s k) xs) (gather (wires_for s k) xs) 0

-- the data clocks among those that follow, and the rest
abbrev pub data_part : Body → Wires → List ℕ → List ℕ
data_part Nothing w xs = []
data_part (FixedRead b) w xs = first (clocks_of w b) xs
data_part AnyRead w xs = xs
data_part (FixedWrite b) w xs = first (clocks_of w b) xs
data_part AnyWrite w xs = xs

abbrev pub rest_part : Body → Wires → List ℕ → List ℕ
rest_part Nothing w xs = xs
rest_part (FixedRead b) w xs = after (clocks_of w b) xs
rest_part AnyRead w xs = []
rest_part (FixedWrite b) w xs = after (clocks_of w b) xs
rest_part AnyWrite w xs = []

-- how many of so many clocks are data clocks
abbrev pub data_of : Body → Wires → Clocks → Clocks
data_of Nothing w all = clocks 0
data_of (FixedRead b) w all = clocks_within w b all
data_of AnyRead w all = all
data_of (FixedWrite b) w all = clocks_within w b all
data_of AnyWrite w all = all

-- THE READING: the kind, the address, and the samples of each phase
pub record Reading : Type 0 where
  pub kind : Kind
  pub address : ℕ
  pub command_part : List ℕ
  pub address_part : List ℕ
  pub wait_part : List ℕ
  pub data_part : List ℕ
  pub rest_part : List ℕ

unfoldable pub reading_of : Setting → List ℕ → Reading
reading_of s xs =
    let k = kind_read s (first (command_clocks s) xs) in
    let xs₁ = after (command_clocks s) xs in
    let a = address_read s k (first (address_clocks s k) xs₁) in
    let xs₂ = after (address_clocks s k) xs₁ in
    let xs₃ = after (wait_clocks s k a) xs₂ in
    record {
      kind = k;
      address = a;
      command_part = first (command_clocks s) xs;
      address_part = first (address_clocks s k) xs₁;
      wait_part = first (wait_clocks s k a) xs₂;
      data_part = data_part (body_for s k a) (wires_for s k) xs₃;
      rest_part = rest_part (body_for s k a) (wires_for s k) xs₃;
    }

-- the five counts: the clocks of each phase
abbrev pub counts_in : Reading → Counts
counts_in p = counted (many p.command_part) (many p.address_part) (many p.wait_part) (many p.data_part) (many p.rest_part)

-- the whole bytes of data samples, the first first; an unfinished one is left out
unfoldable pub bytes_in : Wires → ℕ → List ℕ → List ℕ
bytes_in w zero xs = []
bytes_in w (suc n) xs = gather w (take (per_byte w) xs) ∷ bytes_in w n (drop (per_byte w) xs)

unfoldable pub data_bytes : Wires → List ℕ → List ℕ
data_bytes w xs = bytes_in w (whole_of w (many xs)).0 xs
