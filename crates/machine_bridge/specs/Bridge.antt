-- THE BRIDGE: running the machine over all samples and finishing leaves what the paper's transaction leaves, for every record, memory, area, list of samples and
-- output buffer (D23).
-- The definitions stand here, the theorems in proofs/Bridge.antt.
-- Assumes nothing.
use Rattle.std.specs.Prelude.{ℕ, Bool, cond, List}
use Rattle.record.specs.declared.devices.Device.{Device}
use Rattle.record.specs.Devices.{setting_of}
use Rattle.changes.specs.Changes.{settled_of}
use Rattle.record.specs.Answers.{is_done}
use Rattle.paper.specs.Reading.{Reading, reading_of}
use Rattle.paper.specs.Storing.{Lent}
use Rattle.paper.specs.Driving.{driven_at, along}
use Rattle.paper.specs.Answers.{Facts, judge}
use Rattle.paper.specs.Transaction.{World, body_in, facts_of, stored_by, over}
use Rattle.machine_phases.specs.Machine.{terms_of, holds}

-- what a whole read would drive in its data clocks
abbrev pub driven_by : Device → Lent → Reading → List ℕ
driven_by d l p = along (driven_at (body_in (setting_of d) p) d p.kind p.address l) 0 p.data_part

-- memory and area, held back where the latch is missing
abbrev pub held_back : Device → Lent → Reading → Lent
held_back d l p = cond (holds (terms_of d) p.kind) l (stored_by (setting_of d) p l)

-- what was stored and driven on the way is what the answer leaves
abbrev pub done : Device → List ℕ → Bool
done d xs = is_done (judge d (facts_of (setting_of d) (reading_of (setting_of d) xs)))

abbrev pub world : Device → Facts → Lent → List ℕ → List ℕ → World
world d f l o out =
    let v = judge d f in
    record { answer = v; counts = f.tally.counts; device = settled_of f.kind f.tally.value v d; lent = l; output = over o out }
