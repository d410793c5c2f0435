-- `image::writes::put_front` meets its contract: one stretch after the other.
-- Assumes nothing.
use Rattle.std.proofs.Common.{rules}
use Rattle.image.specs.Laws.{onto, eight_put}
use Rattle.image.specs.Stretches.{front_bytes}
use Rattle.image.proofs.writes.put_front.Goals as goal

pub returns-clause-put : goal.returns-clause-put
unfolding front_bytes
returns-clause-put c =
    onto _ _ _
    (onto _ _ _
    (onto _ _ _ (onto _ _ _ (rw c.bare_bytes.ensures at c.put_all.ensures.put) (eight_put _ _ (search rules) c.put_all-2.ensures.put)) (eight_put _ _ (search rules) c.put_all-3.ensures.put))
    (eight_put _ _ (search rules) c.put_all-4.ensures.put))
    c.put_all-5.ensures.put
