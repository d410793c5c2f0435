-- `host_build::put_rest` meets its contract: the data is put where the wait ends.
-- Assumes nothing.
use Rattle.host_order.specs.Orders.{order_as}
use Rattle.host_build.specs.Laws.{rest_put}
use Rattle.host_build.proofs.put_rest.Goals as goal

pub returns-clause-put : goal.returns-clause-put
returns-clause-put c = rest_put (order_as c.args.o c.args.written.now) c.args.k _ _ (rw c.wait_of.ensures at c.put_silent.ensures.put) (rw (c.later_wires.ensures, c.body_asked.ensures) at c.put_data.ensures.put)
