-- `host::build` meets its contract: a refusal leaves all as it was, and what is done is put from the front.
-- Assumes nothing.
use Rattle.std.proofs.Common.{refl, sym}
use Rattle.std.proofs.lemmas.Result.{err_from_is_err_and}
use Rattle.host_order.specs.Orders.{order_as}
use Rattle.host.specs.Laws.{kind_same, build_refused, build_done}
use Rattle.host.proofs.build.Goals as goal

pub returns-in_err-refusal-clause-told : goal.returns-in_err-refusal-clause-told
returns-in_err-refusal-clause-told c =
    let p = err_from_is_err_and c.from_residual.result c.from_residual.ensures.1 in
    let o = order_as c.args.o c.args.written.now in
    rw (p.1, p.2) (build_refused o _ (rw (kind_same c.args.o c.args.written.now c.kind_asked-k.ensures) at c.in_err-refusal.ensures.0) c.in_err-refusal.ensures.1)

pub returns-clause-told : goal.returns-clause-told
returns-clause-told c =
    let o = order_as c.args.o c.args.written.now in
    let k = kind_same c.args.o c.args.written.now c.kind_asked-k.ensures in
    build_done o _ (sym (rw k at c.in_ok-refusal.ensures)) refl (rw k at c.put_built.ensures)
