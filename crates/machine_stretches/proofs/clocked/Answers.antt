-- `machine_stretches::clocked` meets its contract: the data and the rest after the clocks before them, and the bridge.
-- Assumes nothing.
use native.Mathlib.Nat.{le_trans}
use Rattle.machine_stretches.specs.Laws.{go_on, go_advancing, come_ahead, parts_end}
use Rattle.machine_stretches.proofs.clocked.Goals as goal

pub over_data-q-requires : goal.over_data-q-requires
over_data-q-requires c = come_ahead c.requires c.before_data-p.ensures

pub advance-r-requires : goal.advance-r-requires
advance-r-requires c = go_advancing c.requires (go_on c.before_data-p.ensures.going c.over_data-q.ensures)

pub finish-requires : goal.finish-requires
finish-requires c = (c.requires.reach, le_trans (go_on (go_on c.before_data-p.ensures.going c.over_data-q.ensures) c.advance-r.ensures).seen c.requires.few)

pub returns : goal.returns
returns c = parts_end (go_on c.before_data-p.ensures.going c.over_data-q.ensures) (rw c.of_samples-all.ensures at c.advance-r.ensures) c.finish.ensures
