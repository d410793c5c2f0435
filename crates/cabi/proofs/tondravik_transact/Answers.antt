-- `cabi::tondravik_transact` meets its contract: no words for the counts, or a transaction over the image.
-- Assumes nothing.
use mathlib.Core.Path.{refl}
use Rattle.contract_words.specs.Words.{lends}
use Rattle.image_calls.specs.Calls.{transact_in}
use Rattle.cabi.specs.Calls.{transact_from}
use Rattle.cabi.specs.Laws.{unroomed_told, counted_told}
use Rattle.cabi.proofs.tondravik_transact.Goals as goal

pub returns-then-counts-ne-COUNTS : goal.returns-then-counts-ne-COUNTS
unfolding transact_from
returns-then-counts-ne-COUNTS c = unroomed_told c.args.image.now _ c.args.output.now c.args.counts.now (transact_in c.args.image.now (lends c.args.memory.now c.args.area.now) c.args.samples.now c.args.output.now) c.args.memory.now c.args.area.now refl c.unroomed.ensures c.if-counts-ne-COUNTS.true

pub returns : goal.returns
unfolding transact_from
returns c = counted_told c.args.image.now _ c.args.output.now c.args.counts.now _ _ _ _ _ _ c.if-counts-ne-COUNTS.false c.transact.ensures c.tell.ensures
