-- `state_check::are_zero` meets its contract: all bytes are 0.
-- Assumes nothing.
use Rattle.std.specs.Prelude.{eqb}
use Rattle.std.proofs.Common.{◌∙◌, rules}
use Rattle.std.proofs.lemmas.Iterator.{YieldsList-from_slice}
use Rattle.std.proofs.lemmas.Iterator.Search.{all_from_yields_List}
use Rattle.state_check.specs.StateLaws.{zeros_is}
use Rattle.state_check.proofs.are_zero.Goals as goal

pub returns : goal.returns
returns c = all_from_yields_List (λ x. eqb x 0) _ _ _ c.all.ensures.ran (YieldsList-from_slice c.args.bytes.now cc) (λ x b q k. search rules) ∙ zeros_is _
