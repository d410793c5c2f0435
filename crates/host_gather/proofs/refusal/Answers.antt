-- `host_gather::refusal` meets its contract: each way is the first row that holds.
-- Assumes nothing.
use Rattle.std.proofs.Common.{refl}
use Rattle.units.specs.Compared.{lt_is}
use Rattle.host_gather.specs.Refusals.{refusal_of}
use Rattle.host_gather.proofs.refusal.Goals as goal

pub returns-then-not-is_wires : goal.returns-then-not-is_wires
unfolding refusal_of
returns-then-not-is_wires c = (rw (← c.is_wires.ensures, c.if-not-is_wires.true), refl)

pub returns-then-is_strange : goal.returns-then-is_strange
unfolding refusal_of
returns-then-is_strange c = (rw (← c.is_wires.ensures, c.if-not-is_wires.false, ← c.mode_wires-w.ensures, ← c.is_strange.ensures, c.if-is_strange.true), refl)

pub returns-then-lt : goal.returns-then-lt
unfolding refusal_of
returns-then-lt c = (rw (← c.is_wires.ensures, c.if-not-is_wires.false, ← c.mode_wires-w.ensures, ← c.is_strange.ensures, c.if-is_strange.false, ← rw (c.of_store.ensures, c.bytes_driven.ensures, lt_is) at c.lt.ensures, c.if-lt.true), refl)

pub returns : goal.returns
unfolding refusal_of
returns c = rw (← c.is_wires.ensures, c.if-not-is_wires.false, ← c.mode_wires-w.ensures, ← c.is_strange.ensures, c.if-is_strange.false, ← rw (c.of_store.ensures, c.bytes_driven.ensures, lt_is) at c.lt.ensures, c.if-lt.false)
