-- `bench_columns::column` meets its contract: a space, and the number behind it.
-- Assumes nothing.
use Rattle.bench_columns.specs.Laws.{put_then}
use Rattle.bench_columns.proofs.column.Goals as goal

pub returns-clause-put : goal.returns-clause-put
returns-clause-put c = put_then _ _ _ c.put.ensures.put c.put_decimal.ensures.put
