-- What feeding a stretch of clocks asks, and what it leaves.
use Rattle.std.specs.Prelude.{ℕ, ◌+◌, ◌≤◌, ◌≡◌, List, length}
use Rattle.counts.specs.Counts.{total}
use Rattle.record.specs.declared.devices.Device.{Device}
use Rattle.paper.specs.Transaction.{over}
use Rattle.progress.specs.declared.Progress.{Progress}
use Rattle.contract_words.specs.Words.{Run}
use Rattle.machine_phases.specs.Machine.{run_of, outs_of}

-- a chip whose memory an address reaches, few enough clocks together with those before, and room for what they drive
pub record Feedable (d : Device) (p : Progress) (xs out : List ℕ) : Type 0 where
  pub reach : d.make.n ≤ 24
  pub few : (total p.tally.counts).0 + length xs ≤ 65535
  pub room : length xs ≤ length out

-- the machine has run over the samples, and the output has what it drove
pub record Fed (d : Device) (r : Run) (xs out : List ℕ) (r' : Run) (out' : List ℕ) : Type 0 where
  pub run : r' ≡ run_of d r xs
  pub driven : out' ≡ over (outs_of d r xs) out
