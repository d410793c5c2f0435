-- `commands::plans::wait_of` meets its contract: every row but the last is read off the table.
-- Assumes nothing.
use Rattle.std.proofs.Common.{◌∙◌, sym}
use Rattle.commands.specs.PlanLaws.{row_some, wait_fixed}
use Rattle.commands.proofs.plans.wait_of.Goals as goal

pub returns : goal.returns
returns c =
    let b = row_some c.args.k c.in-Some.row (sym c.wait_row.ensures ∙ c.in-Some.is) in
    rw (c.stated-2.ensures, c.column.ensures, ← b.0) (wait_fixed c.args.k c.args.w c.args.cr2 b.1)
