-- `host_build::front_clocks` meets its contract: the three counts are small, and so is their sum.
-- Assumes nothing.
use Rattle.std.specs.Prelude.{◌≡◌, ◌*◌}
use native.Mathlib.Omega.{arith}
use Rattle.units.specs.Units.{per_byte}
use Rattle.host_build.specs.Laws.{front_le}
use Rattle.host_build.specs.Sizes.{front_of}
use Rattle.host_build.proofs.front_clocks.Goals as goal

pub add-requires-2 : goal.add-requires-2
unfolding front_of
add-requires-2 c = rw (c.add.ensures, c.wait_of-wait.ensures, c.address_length-address.ensures, c.address_of.ensures, c.later_wires.ensures, c.byte_clocks-command.ensures) (omega (arith, front_le c.args.k c.args.w c.args.cr2))

pub returns : goal.returns
unfolding front_of
returns c =
    let e : 1 * per_byte c.args.w ≡ per_byte c.args.w = omega arith in
    rw (e, c.add-2.ensures, c.add.ensures, c.wait_of-wait.ensures, c.address_length-address.ensures, c.address_of.ensures, c.later_wires.ensures, c.byte_clocks-command.ensures)
