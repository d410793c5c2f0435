-- `cabi::tondravik_close` meets its contract: no words for the counts, or a close over the image.
-- Assumes nothing.
use mathlib.Core.Path.{refl}
use mathlib.Core.List.{[]}
use Rattle.contract_words.specs.Words.{lends}
use Rattle.image_calls.specs.Calls.{close_in}
use Rattle.cabi.specs.Calls.{close_from}
use Rattle.cabi.specs.Laws.{unroomed_told, counted_told}
use Rattle.cabi.proofs.tondravik_close.Goals as goal

pub returns-then-counts-ne-COUNTS : goal.returns-then-counts-ne-COUNTS
unfolding close_from
returns-then-counts-ne-COUNTS c = unroomed_told c.args.image.now _ [] c.args.counts.now (close_in c.args.image.now (lends c.args.memory.now c.args.area.now)) c.args.memory.now c.args.area.now refl c.unroomed.ensures c.if-counts-ne-COUNTS.true

pub returns : goal.returns
unfolding close_from
returns c = counted_told c.args.image.now _ [] c.args.counts.now _ _ _ _ _ _ c.if-counts-ne-COUNTS.false c.close.ensures c.tell.ensures
