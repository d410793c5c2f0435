-- `image::writes::put_back` meets its contract: one stretch after the other.
-- Assumes nothing.
use Rattle.std.proofs.Common.{rules}
use Rattle.image.specs.Laws.{onto, eight_put}
use Rattle.image.specs.Stretches.{back_bytes}
use Rattle.image.proofs.writes.put_back.Goals as goal

pub returns-clause-put : goal.returns-clause-put
unfolding back_bytes
returns-clause-put c = onto _ _ _ (onto _ _ _ c.put_open.ensures.put (eight_put _ _ (search rules) c.put_all.ensures.put)) c.put_all-2.ensures.put
