-- `image::writes::put_record` meets its contract: the two stretches are the image.
-- Assumes nothing.
use Rattle.std.proofs.Common.{◌∙◌, rules}
use Rattle.image.specs.Laws.{image_put}
use Rattle.image.proofs.writes.put_record.Goals as goal

pub returns : goal.returns
returns c = search rules ∙ image_put c.args.d c.args.image.now c.requires (rw c.begun-page.ensures.begun at c.put_front.ensures.put) c.put_back.ensures.put
