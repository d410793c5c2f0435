-- `digits::number_in` meets its contract. The invariant: the sum so far and what is left of the word come to the whole.
-- Assumes nothing.
use Rattle.std.proofs.Common.{◌≡◌, drop}
use Rattle.digits.specs.Digits.{number_from}
use Rattle.digits.proofs.number_in.Given as goal

abbrev pub invariant-loop-b : goal.invariant-loop-b
invariant-loop-b l = number_from l.base l.most l.sum (drop l.b-index l.word) ≡ number_from l.base l.most 0 l.word
