-- The samples parted by phase: where a part ends (D25), and what feeding it leaves. Document 01, "Forms by place": the data phase is the middle of the samples.
use Rattle.std.specs.Prelude.{ℕ, ◌+◌, ◌-◌, ◌≤◌, ◌≡◌, cond, List, ◌++◌, ltb, length, take, drop}
use Rattle.units.specs.declared.Clocks.{Clocks}
use Rattle.counts.specs.Counts.{total}
use Rattle.record.specs.declared.devices.Device.{Device}
use Rattle.record.specs.Devices.{setting_of}
use Rattle.paper.specs.InForce.{command_clocks, address_clocks, wait_clocks}
use Rattle.paper.specs.Reading.{first, many, reading_of}
use Rattle.paper.specs.Transaction.{over}
use Rattle.progress.specs.declared.Progress.{Progress}
use Rattle.contract_words.specs.Words.{Run}
use Rattle.machine_phases.specs.Machine.{run_of, outs_of}

-- so many clocks after a place, or the end of n samples
unfoldable pub reach_of : Clocks → Clocks → ℕ → ℕ
reach_of from c n = cond (ltb c.0 (n - from.0)) (from.0 + c.0) n

-- the place that a transaction has come to: as many clocks as it has counted
abbrev pub place_of : Run → ℕ
place_of r = (total r.progress.tally.counts).0

-- what the checks before a transaction leave: a chip whose memory an address reaches, few enough clocks, and room for what they drive
pub record Passed (d : Device) (xs out : List ℕ) : Type 0 where
  pub reach : d.make.n ≤ 24
  pub few : length xs ≤ 65535
  pub room : length xs ≤ length out

-- and a place among the samples
pub record Advancing (d : Device) (p : Progress) (xs out : List ℕ) : Type 0 where
  pub passed : Passed d xs out
  pub seen : (total p.tally.counts).0 ≤ length xs

-- the next clocks from a place on
abbrev pub upcoming : ℕ → Clocks → List ℕ → List ℕ
upcoming i c xs = first c (drop i xs)

-- the machine has run over the next clocks, and what they drove stands at their place in the output
pub record Advanced (d : Device) (r : Run) (xs out : List ℕ) (c : Clocks) (r' : Run) (out' : List ℕ) : Type 0 where
  pub run : r' ≡ run_of d r (upcoming (place_of r) c xs)
  pub driven : out' ≡ take (place_of r) out ++ over (outs_of d r (upcoming (place_of r) c xs)) (drop (place_of r) out)

-- THE FIRST CLOCKS: the machine has run over the samples up to its place, and the output has what they drove
pub record Going (d : Device) (r₀ : Run) (xs out : List ℕ) (r : Run) (o : List ℕ) : Type 0 where
  pub seen : place_of r ≤ length xs
  pub run : r ≡ run_of d r₀ (take (place_of r) xs)
  pub driven : o ≡ over (outs_of d r₀ (take (place_of r) xs)) out

-- ---- the paper's phases among the samples
-- the clocks that a whole head has: command, address and wait
abbrev pub head_of : Device → List ℕ → ℕ
head_of d xs =
    let s = setting_of d in
    let p = reading_of s xs in
    (command_clocks s).0 + ((address_clocks s p.kind).0 + (wait_clocks s p.kind p.address).0)

-- the clocks of the paper's data part (D69)
abbrev pub data_clocks : Device → List ℕ → Clocks
data_clocks d xs = many (reading_of (setting_of d) xs).data_part

-- the machine has come n clocks far, or to the end of the samples
pub record Come (d : Device) (r₀ : Run) (xs out : List ℕ) (n : ℕ) (r : Run) (o : List ℕ) : Type 0 where
  pub going : Going d r₀ xs out r o
  pub front : take (place_of r) xs ≡ take n xs
  pub left : drop (place_of r) xs ≡ drop n xs

-- THE DATA COMES NEXT: the kind and the address are those that the paper reads, and what is left begins past command, address and wait (D69)
pub record Ahead (d : Device) (p : Progress) (xs out : List ℕ) : Type 0 where
  pub advancing : Advancing d p xs out
  pub kind : p.kind ≡ (reading_of (setting_of d) xs).kind
  pub address : p.address ≡ (reading_of (setting_of d) xs).address
  pub left : drop (total p.tally.counts).0 xs ≡ drop (head_of d xs) xs
