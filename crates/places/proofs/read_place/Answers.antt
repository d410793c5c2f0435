-- `places::read_place` meets its contract: store and group are not empty.
-- Assumes nothing.
use lib.Pow.{pow_pos}
use Rattle.places.specs.Laws.{read_span_pos}
use Rattle.places.proofs.read_place.Goals as goal

pub place_in-requires : goal.place_in-requires
place_in-requires c = rw (c.memory_size.ensures, c.read_span.ensures) (record { store = pow_pos c.args.s.n; group = read_span_pos c.args.s; few = c.requires.1 })
