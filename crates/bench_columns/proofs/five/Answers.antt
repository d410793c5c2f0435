-- `bench_columns::five` meets its contract: five columns, one after the other.
-- Assumes nothing.
use Rattle.bench_columns.specs.Columns.{five_of}
use Rattle.bench_columns.specs.Laws.{puts_then}
use Rattle.bench_columns.proofs.five.Goals as goal

pub returns-clause-put : goal.returns-clause-put
unfolding five_of
returns-clause-put c = puts_then _ _ _ c.clocks_column.ensures.put
    (puts_then _ _ _ c.clocks_column-2.ensures.put
    (puts_then _ _ _ c.clocks_column-3.ensures.put
    (puts_then _ _ _ c.clocks_column-4.ensures.put c.clocks_column-5.ensures.put)))
