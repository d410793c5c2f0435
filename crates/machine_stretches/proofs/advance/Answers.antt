-- `machine_stretches::advance` meets its contract: the part's bounds lie within the samples, and what it drives comes back at its place.
-- Assumes nothing.
use native.Mathlib.Nat.{le_trans}
use Rattle.machine_stretches.specs.Laws.{came, within, advanced}
use Rattle.machine_stretches.proofs.advance.Goals as goal

pub slice_bounds-feed-count : goal.slice_bounds-feed-count
slice_bounds-feed-count c = (within c.requires (came c.total-from.ensures c.of_samples.ensures c.reach-till.ensures c.in_clocks-a.ensures c.in_clocks-e.ensures)).0

pub slice_bounds-feed-start : goal.slice_bounds-feed-start
slice_bounds-feed-start c = (within c.requires (came c.total-from.ensures c.of_samples.ensures c.reach-till.ensures c.in_clocks-a.ensures c.in_clocks-e.ensures)).0

pub slice_bounds-feed-end : goal.slice_bounds-feed-end
slice_bounds-feed-end c = (within c.requires (came c.total-from.ensures c.of_samples.ensures c.reach-till.ensures c.in_clocks-a.ensures c.in_clocks-e.ensures)).1

pub slice_bounds-feed-count-2 : goal.slice_bounds-feed-count-2
slice_bounds-feed-count-2 c = (within c.requires (came c.total-from.ensures c.of_samples.ensures c.reach-till.ensures c.in_clocks-a.ensures c.in_clocks-e.ensures)).0

pub slice_bounds-feed-start-2 : goal.slice_bounds-feed-start-2
slice_bounds-feed-start-2 c = (within c.requires (came c.total-from.ensures c.of_samples.ensures c.reach-till.ensures c.in_clocks-a.ensures c.in_clocks-e.ensures)).0

pub slice_bounds-feed-end-2 : goal.slice_bounds-feed-end-2
slice_bounds-feed-end-2 c = le_trans (within c.requires (came c.total-from.ensures c.of_samples.ensures c.reach-till.ensures c.in_clocks-a.ensures c.in_clocks-e.ensures)).1 c.requires.passed.room

pub returns : goal.returns
returns c = advanced c.requires (came c.total-from.ensures c.of_samples.ensures c.reach-till.ensures c.in_clocks-a.ensures c.in_clocks-e.ensures) c.feed.ensures
