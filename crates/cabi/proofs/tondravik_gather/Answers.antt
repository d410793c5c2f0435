-- `cabi::tondravik_gather` meets its contract: no word for the number, or what the host half tells.
-- Assumes nothing.
use Rattle.cabi.specs.Laws.{gather_told}
use Rattle.cabi.specs.Fills.{gather_in}
use borrow.Author.Tests.{ne_eqb}
use Rattle.cabi.proofs.tondravik_gather.Goals as goal

pub returns-then-number-ne-NUMBER : goal.returns-then-number-ne-NUMBER
unfolding gather_in
returns-then-number-ne-NUMBER c = rw (ne_eqb _ _ c.if-number-ne-NUMBER.true, c.from.ensures)

pub returns-in-Ok : goal.returns-in-Ok
returns-in-Ok c = rw (c.fill.ensures.answer, c.fill.ensures.number, c.in_bytes.ensures) (gather_told _ _ c.if-number-ne-NUMBER.false _ _ _ c.in-Ok.ensures.told)

pub returns-in-Err : goal.returns-in-Err
returns-in-Err c = rw (c.fill-in-Err.ensures.answer, c.fill-in-Err.ensures.number) (gather_told _ _ c.if-number-ne-NUMBER.false _ _ _ c.in-Err.ensures.told)
