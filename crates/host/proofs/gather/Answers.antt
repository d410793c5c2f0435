-- `host::gather` meets its contract: a refusal leaves all as it was, and what is done is put from the front.
-- Assumes nothing.
use Rattle.std.proofs.Common.{refl, sym}
use Rattle.std.proofs.lemmas.Result.{err_from_is_err_and}
use Rattle.host.specs.Laws.{gather_refused, gather_done}
use Rattle.host.proofs.gather.Goals as goal

pub returns-in_err-refusal-clause-told : goal.returns-in_err-refusal-clause-told
returns-in_err-refusal-clause-told c =
    let p = err_from_is_err_and c.from_residual.result c.from_residual.ensures.1 in
    rw (p.1, p.2) (gather_refused _ _ _ c.in_err-refusal.ensures.0 c.in_err-refusal.ensures.1)

pub returns-clause-told : goal.returns-clause-told
returns-clause-told c = gather_done _ _ _ (sym c.in_ok-refusal.ensures) refl (rw c.mode_wires.ensures at c.put_collected.ensures)
