-- `host_build::is_oversized` meets its contract: so much data is too long by itself; otherwise the clocks are counted.
-- Assumes nothing.
use borrow.Author.Tests.{ltb-false}
use mathlib.Core.Path.{sym, ◌∙◌}
use native.Mathlib.Omega.{arith}
use Rattle.host_order.specs.Orders.{order_as}
use Rattle.units.specs.Compared.{lt_is}
use Rattle.units.specs.Laws.{clocks_few}
use Rattle.host_build.specs.Laws.{front_le, data_over, built_is}
use Rattle.host_build.proofs.is_oversized.Goals as goal

pub returns-then-lt : goal.returns-then-lt
returns-then-lt c = rw (data_over (order_as c.args.o c.args.written.now) c.args.k (rw (c.body_asked.ensures, c.of_store.ensures) at c.bytes_sent-n.ensures) (sym (rw (c.stated.ensures, lt_is) at c.lt.ensures) ∙ c.if-lt.true))

pub add-requires : goal.add-requires
add-requires c = let h = ltb-false 65535 c.bytes_sent-n.result.0 (sym (rw (c.stated.ensures, lt_is) at c.lt.ensures) ∙ c.if-lt.false) in rw (c.bytes_to_clocks-body.ensures, c.front_clocks-front.ensures) (omega (arith, front_le c.args.k c.mode_wires-w.result c.args.o.cr2, clocks_few c.later_wires.result c.bytes_sent-n.result.0 h))

pub returns : goal.returns
returns c = rw (c.is_over.ensures, c.of_samples.ensures, built_is (order_as c.args.o c.args.written.now) c.args.k (rw (c.body_asked.ensures, c.of_store.ensures) at c.bytes_sent-n.ensures) (rw c.mode_wires-w.ensures at c.front_clocks-front.ensures) (rw (c.later_wires.ensures, c.mode_wires-w.ensures) at c.bytes_to_clocks-body.ensures) c.add.ensures)
