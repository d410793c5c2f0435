-- The five clock counts. Document 01, "Answer numbers", the paragraph on counts: command, address, wait, data, rest, in this order.
use Rattle.std.specs.Prelude.{◌+◌}
use Rattle.units.specs.declared.Clocks.{Clocks}
use Rattle.units.specs.Units.{clocks, next}
use Rattle.counts.specs.declared.Counts.{Counts}
use Rattle.counts.specs.declared.Phase.{Phase}
use Rattle.counts.specs.declared.Phase.TheVariants.{Command, Address, Wait, Data, Rest}

abbrev pub counted : Clocks → Clocks → Clocks → Clocks → Clocks → Counts
counted c a w b r = record { command = c; address = a; wait = w; body = b; rest = r }

abbrev pub no_counts : Counts
no_counts = counted (clocks 0) (clocks 0) (clocks 0) (clocks 0) (clocks 0)

-- all clocks together
abbrev pub total : Counts → Clocks
total c = clocks (c.command.0 + c.address.0 + c.wait.0 + c.body.0 + c.rest.0)

-- one clock more of a phase
abbrev pub command_tick : Counts → Counts
command_tick c = counted (next c.command) c.address c.wait c.body c.rest

abbrev pub address_tick : Counts → Counts
address_tick c = counted c.command (next c.address) c.wait c.body c.rest

abbrev pub wait_tick : Counts → Counts
wait_tick c = counted c.command c.address (next c.wait) c.body c.rest

abbrev pub body_tick : Counts → Counts
body_tick c = counted c.command c.address c.wait (next c.body) c.rest

abbrev pub rest_tick : Counts → Counts
rest_tick c = counted c.command c.address c.wait c.body (next c.rest)

abbrev pub tick : Phase → Counts → Counts
tick Command c = command_tick c
tick Address c = address_tick c
tick Wait c = wait_tick c
tick Data c = body_tick c
tick Rest c = rest_tick c
