-- `machine_stretches::before_data` meets its contract: three parts, one after the other, of as many clocks as the paper gives command, address and wait.
-- Assumes nothing.
use mathlib.Core.Path.{refl}
use Rattle.machine_stretches.specs.Laws.{go_start, go_on, go_advancing, head_come}
use Rattle.machine_stretches.proofs.before_data.Goals as goal

pub advance-r-requires : goal.advance-r-requires
advance-r-requires c = go_advancing c.requires (go_on (go_start refl) (rw c.begin-p.ensures at c.advance-q.ensures))

pub advance-requires : goal.advance-requires
advance-requires c = go_advancing c.requires (go_on (go_on (go_start refl) (rw c.begin-p.ensures at c.advance-q.ensures)) c.advance-r.ensures)

pub returns : goal.returns
returns c = head_come
    (rw c.begin-p.ensures at c.advance-q.ensures) (rw c.setting-s.ensures at c.command_clocks-command.ensures)
    c.advance-r.ensures (rw c.setting-s.ensures at c.address_clocks-address.ensures)
    c.advance.ensures (rw c.setting-s.ensures at c.wait_clocks-wait.ensures)
