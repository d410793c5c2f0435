-- `host_samples::put_wanted` meets its contract: silent clocks, as many as the bytes take or as fill the buffer.
-- Assumes nothing.
use Rattle.std.proofs.Common.{◌∙◌}
use Rattle.host_samples.specs.Laws.{wanted_within}
use Rattle.host_samples.proofs.put_wanted.Goals as goal

pub returns-clause-put : goal.returns-clause-put
returns-clause-put c = c.put_silent.ensures.put ∙ rw (c.clocks_within.ensures, c.stated-room.ensures, c.room.ensures) (wanted_within _ _ _ _)
