-- `host_gather::put_collected` meets its contract. The invariant: the byte that is begun, with all that is left, comes to the whole.
-- Assumes nothing.
use Rattle.std.proofs.Common.{refl, sym, ap, ◌∙◌, arith, rules}
use Rattle.units.specs.declared.Bytes.{Bytes}
use Rattle.buffers.specs.Laws.{all_put, ended}
use Rattle.host_gather.specs.Laws.{none_begun, begun_few, begun_skip, begun_more, begun_full, begun_end}
use Rattle.host_gather.proofs.put_collected.Goals as goal
use Rattle.host_gather.proofs.put_collected.Goals.{then-eq, else-eq}

pub loop-x-init : goal.loop-x-init
loop-x-init c = (refl, rw c.none-had.ensures (none_begun _ _ _))

pub loop-x-preserved-then-x-eq0 : goal.loop-x-preserved-then-x-eq0
loop-x-preserved-then-x-eq0 c = (c.loop-x.invariant.0, begun_skip c.loop-x.invariant.1 c.loop-x-test.true c.if-x-eq0.true)

pub next-requires : goal.next-requires
next-requires c = omega (arith, begun_few c.loop-x.invariant.1)

pub loop-x-preserved : goal.loop-x-preserved
loop-x-preserved c =
    elim c.if-eq.branch [
      | then-eq w ↦
          rw (w.page-is, w.number-is) (
            w.put.ensures.same_buffer ∙ c.loop-x.invariant.0,
            begun_full c.loop-x.invariant.1 c.loop-x-test.true c.if-x-eq0.false c.seen.ensures c.shift_in-number.ensures (rw c.next.ensures at c.unfinished-had.ensures)
                (sym (rw c.none.ensures at c.eq.ensures) ∙ w.if-eq.true) w.put.ensures.put,
          )
      | else-eq w ↦
          rw (w.page-is, w.number-is) (
            c.loop-x.invariant.0,
            begun_more c.loop-x.invariant.1 c.loop-x-test.true c.if-x-eq0.false c.seen.ensures c.shift_in-number.ensures (rw c.next.ensures at c.unfinished-had.ensures)
                (sym (rw c.none.ensures at c.eq.ensures) ∙ w.if-eq.false),
          )
    ]

pub returns : goal.returns
returns c =
    ended (rw c.begun-page.ensures.begun at (all_put (begun_end c.loop-x.invariant.1 c.loop-x-test.false) refl))
    (rw c.place.ensures at (ap (λ (b : Bytes). b.0) c.stated.ensures)) (search rules)
