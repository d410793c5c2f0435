-- What the samples so far leave of a transaction that is not yet at its end: the facts that the record holds of it, as the paper reads them off. Document
-- 02, P1 (D85).
use Rattle.std.specs.Prelude.{ℕ, ◌*◌, true, cond, List, drop}
use Rattle.units.specs.Units.{per_byte, whole_of}
use Rattle.wires.specs.Bits.{gather}
use Rattle.commands.specs.Plans.{writes}
use Rattle.record.specs.declared.devices.Underway.{Underway}
use Rattle.record.specs.declared.devices.Setting.{Setting}
use Rattle.paper.specs.InForce.{command_clocks, wires_for, address_clocks}
use Rattle.paper.specs.Reading.{Reading, reading_of, many, full}
use Rattle.paper.specs.Transaction.{body_in, facts_of}

-- the number of what is not whole yet: the command, the address, or the last byte of a write
unfoldable pub pending_in : Setting → Reading → ℕ
pending_in s p =
    let w = wires_for s p.kind in
    cond (full (command_clocks s) p.command_part)
    (cond (full (address_clocks s p.kind) p.address_part)
    (cond (writes (body_in s p)) (gather w (drop ((whole_of w (many p.data_part)).0 * per_byte w) p.data_part)) 0)
    (gather w p.address_part))
    (gather s.wires p.command_part)

-- THE FACTS of an open transaction, of which these are all samples so far
unfoldable pub underway_of : Setting → List ℕ → Underway
underway_of s xs =
    let p = reading_of s xs in
    record {
      selected = true;
      clocks = many xs;
      opcode = cond (full (command_clocks s) p.command_part) (gather s.wires p.command_part) 0;
      address = p.address;
      number = pending_in s p;
      value = (facts_of s p).tally.value;
    }
