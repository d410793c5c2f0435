-- `host_gather::bytes_driven` meets its contract: the whole bytes of the driven clocks.
-- Assumes nothing.
use Rattle.std.proofs.Common.{◌∙◌}
use Rattle.host_gather.specs.Laws.{collected_many}
use Rattle.host_gather.proofs.bytes_driven.Goals as goal

pub returns : goal.returns
returns c = c.clocks_to_bytes.ensures ∙ collected_many _ _ c.driven_clocks.ensures
