-- `machine_chunks::opcode_after` meets its contract: where the command comes whole in this chunk, the fold of its samples is what they spell.
-- Assumes nothing.
use Rattle.std.proofs.Common.{sym, ◌∙◌, ltb-true}
use Rattle.std.proofs.lemmas.Bool.{lt-leb}
use Rattle.units.specs.Compared.{lt_is, le_is}
use Rattle.machine_chunks.specs.Laws.{gather_fold}
use Rattle.machine_chunks.specs.Chunks.{opcode_after}
use Rattle.machine_chunks.proofs.opcode_after.Goals as goal

pub returns-then-le : goal.returns-then-le
unfolding opcode_after
returns-then-le c =
    let short = ltb-true _ _ (sym (rw (c.command_clocks-command.ensures, lt_is) at c.lt.ensures) ∙ c.if-lt.true) in
    let whole = sym (rw (c.past-missing.ensures, c.of_samples.ensures, c.command_clocks-command.ensures, le_is) at c.le.ensures) ∙ c.if-le.true in
    rw (lt-leb _ _ short, whole, c.gathered.ensures, c.past-missing.ensures, c.command_clocks-command.ensures, gather_fold)
