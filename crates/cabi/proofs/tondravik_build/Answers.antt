-- `cabi::tondravik_build` meets its contract: no word for the number, or what the host half tells.
-- Assumes nothing.
use Rattle.cabi.specs.Laws.{build_told}
use Rattle.cabi.specs.Fills.{build_in}
use borrow.Author.Tests.{ne_eqb}
use Rattle.cabi.proofs.tondravik_build.Goals as goal

pub returns-then-clocks-ne-NUMBER : goal.returns-then-clocks-ne-NUMBER
unfolding build_in
returns-then-clocks-ne-NUMBER c = rw (ne_eqb _ _ c.if-clocks-ne-NUMBER.true, c.from.ensures)

pub returns-in-Ok : goal.returns-in-Ok
returns-in-Ok c = rw (c.fill.ensures.answer, c.fill.ensures.number, c.in_clocks.ensures) (build_told _ _ c.if-clocks-ne-NUMBER.false _ _ (rw c.stated.ensures at c.in-Ok.ensures.told))

pub returns-in-Err : goal.returns-in-Err
returns-in-Err c = rw (c.fill-in-Err.ensures.answer, c.fill-in-Err.ensures.number) (build_told _ _ c.if-clocks-ne-NUMBER.false _ _ (rw c.stated.ensures at c.in-Err.ensures.told))
