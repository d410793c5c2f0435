-- `host_gather::is_strange` meets its contract: some sample is neither silence nor a level.
-- Assumes nothing.
use Rattle.std.specs.Prelude.{not, ◌&&◌, eqb}
use Rattle.std.proofs.Common.{◌∙◌, rules}
use Rattle.std.proofs.lemmas.Iterator.{YieldsList-from_slice}
use Rattle.std.proofs.lemmas.Iterator.Search.{any_from_yields_List}
use Rattle.wires.specs.Levels.{driven_of}
use Rattle.host_gather.specs.Laws.{strange_any}
use Rattle.host_gather.proofs.is_strange.Goals as goal

pub returns : goal.returns
returns c =
    any_from_yields_List (λ x. not (eqb x 0) && not (driven_of c.args.w x)) _ _ _ c.any.ensures.ran (YieldsList-from_slice c.args.driven.now cc) (λ x b q k. search rules)
    ∙ strange_any _ _
