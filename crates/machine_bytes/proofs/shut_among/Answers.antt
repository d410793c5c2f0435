-- `machine_bytes::shut_among` meets its contract. The invariant: those so far are counted.
-- Assumes nothing.
use Rattle.std.proofs.Common.{sym, ◌∙◌, arith}
use Rattle.basis.specs.Counting.{how_many, how_many_le, counted_in, passed_over}
use Rattle.machine_bytes.proofs.shut_among.Invariants.{shut}
use Rattle.machine_bytes.proofs.shut_among.Goals.{then-protected_at, else-protected_at}
use Rattle.machine_bytes.proofs.shut_among.Goals as goal

pub loop-i-init : goal.loop-i-init
unfolding how_many
loop-i-init c = c.none-shut.ensures

pub next-shut-requires : goal.next-shut-requires
next-shut-requires c = rw c.loop-i.invariant (omega (arith, how_many_le (shut c.args.a) c.loop-i.i, c.loop-i.auto.i-end, c.in_bytes-i-end.ensures, c.requires.1))

pub loop-i-preserved : goal.loop-i-preserved
loop-i-preserved c =
    let f = shut c.args.a in
    let i = c.loop-i.i in
    let e = rw c.stated.ensures at c.protected_at.ensures in
    elim c.if-protected_at.branch [
      | then-protected_at w ↦ rw (w.shut-is, w.next-shut.ensures, c.loop-i.invariant, counted_in f i (sym e ∙ w.if-protected_at.true))
      | else-protected_at w ↦ rw (w.shut-is, c.loop-i.invariant, passed_over f i (sym e ∙ w.if-protected_at.false))
    ]
