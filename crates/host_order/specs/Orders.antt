-- The code's order, with what is to be written beside it, as the paper's.
use Rattle.std.specs.Prelude.{ℕ, List}
use Rattle.paper.specs.Building as paper
use Rattle.host_order.specs.declared.Order.{Order}

abbrev pub order_as : Order → List ℕ → paper.Order
order_as o written =
    record { part = o.part; opcode = o.opcode; mode = o.mode; address = o.address; cr2 = o.cr2; written = written; wanted = o.wanted }
