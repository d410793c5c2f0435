-- `wires::fits` meets its contract: a number fits where nothing of it stands above.
-- Assumes nothing.
use mathlib.Core.Path.{refl}
use Rattle.wires.proofs.Laws.{fits_by}
use Rattle.wires.proofs.fits.Goals as goal

pub returns : goal.returns
returns c = rw c.shifted.ensures (fits_by _ _ _ _ refl)
