-- `host_build::put_built` meets its contract: each phase is put where the one before it ends.
-- Assumes nothing.
use Rattle.std.proofs.Common.{ap, rules}
use Rattle.units.specs.declared.Clocks.{Clocks}
use Rattle.buffers.specs.Laws.{ended}
use Rattle.host_order.specs.Orders.{order_as}
use Rattle.host_build.specs.Laws.{built_put}
use Rattle.host_build.proofs.put_built.Goals as goal

pub returns : goal.returns
returns c =
    ended
    (built_put (order_as c.args.o c.args.written.now) c.args.k _ (rw (c.begun-page.ensures.begun, c.mode_wires-w.ensures) at c.put_byte.ensures.put)
    (rw (c.address_length.ensures, c.address_of.ensures, c.later_wires-v.ensures, c.mode_wires-w.ensures) at c.put_number.ensures.put)
    (rw c.mode_wires-w.ensures at c.put_rest.ensures.put))
    (rw c.place.ensures at (ap (λ (k : Clocks). k.0) c.stated.ensures))
    (search rules)
