-- `machine_stretches::over_data` meets its contract: the clocks that the plan gives the data are those of the paper's data part, and they are handed on from the machine's place.
-- Assumes nothing.
use Rattle.machine_stretches.specs.Laws.{data_planned, advanced_same}
use Rattle.machine_stretches.proofs.over_data.Goals as goal

pub returns : goal.returns
returns c = advanced_same
    (data_planned c.requires
    (rw c.setting-s.ensures at c.body_for-body.ensures)
    (rw c.setting-s.ensures at c.wires_for-w.ensures)
    (rw c.of_samples.ensures at c.data_clocks-data.ensures))
    c.advance.ensures
