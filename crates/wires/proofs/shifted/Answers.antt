-- `wires::shifted` meets its contract: past its last bit a number has none, and before it a shift shows those above.
-- Assumes nothing.
use mathlib.Core.Path.{sym, ◌∙◌}
use borrow.Author.Tests.{leb-true}
use Rattle.units.specs.Compared.{le_is}
use Rattle.wires.proofs.Laws.{bits_many, none_past}
use Rattle.wires.proofs.shifted.Goals as goal

pub returns-then-le : goal.returns-then-le
returns-then-le c = none_past c.args.w c.args.c _ c.ranges.v.fits (bits_many c.args.w c.args.c.0 (leb-true _ _ (sym (rw (c.stated.ensures, le_is) at c.le.ensures) ∙ c.if-le.true)))

pub returns-then-bits-ge-NUMBER : goal.returns-then-bits-ge-NUMBER
returns-then-bits-ge-NUMBER c = none_past c.args.w c.args.c _ c.ranges.v.fits (rw c.bits_in-bits.ensures at c.if-bits-ge-NUMBER.true)
