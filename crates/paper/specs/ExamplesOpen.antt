-- Document 02, P1, worked out: which facts of an open transaction the state check lets pass, at the edges of each.
use Rattle.std.specs.Prelude.{ℕ, Bool, true, false, not, List, [], ◌∷◌, map, T, replicate}
use Rattle.basis.specs.Examples.{all}
use Rattle.units.specs.Units.{clocks, clocks_within}
use Rattle.wires.specs.Bits.{fits_in}
use Rattle.parts.specs.declared.Part.{Part}
use Rattle.parts.specs.declared.Part.TheVariants.{M, P}
use Rattle.opcodes.specs.Opcodes.{meaning_of}
use Rattle.commands.specs.Registers.{mapped_of}
use Rattle.record.specs.declared.devices.Underway.{Underway}
use Rattle.record.specs.declared.devices.Device.{Device}
use Rattle.record.specs.Fields.{sleep_to, mode_to, underway_to, no_underway, just_open}
use Rattle.record.specs.Fresh.{make_of, fresh_of}
use Rattle.state_check.specs.Values.{status_allowed, cr3_allowed, cr4_allowed, configurations_allowed, mode_register_allowed}
use Rattle.state_check.specs.States.{mode_allowed, zeros, mram_registers, psram_registers, mram_volatile, psram_volatile, mram_identity, psram_identity, in_range}
use Rattle.paper.specs.InForce.{asleep_for, refused_at, stopped, decided, command_clocks, wires_for, address_clocks, wait_clocks, body_for}
use Rattle.paper.specs.Underway.{kind_at, counts_at, number_reached, reached, factless, underway_valid, valid_of}
use Rattle.paper.specs.Examples.{blank}

-- chips of 1,024 bytes
abbrev pub chip : Part → Device
chip p = fresh_of (make_of p 10) (blank 8) (blank 8)

-- so many clocks, an opcode, an address, a number, and the first bytes of a value
abbrev pub facts : ℕ → ℕ → ℕ → ℕ → List ℕ → Underway
facts t o a n v = record { selected = true; clocks = clocks t; opcode = o; address = a; number = n; value = v }

abbrev none : List ℕ
none = replicate 8 0

-- the value with one byte of it, and with three
abbrev one : ℕ → List ℕ
one b = b ∷ replicate 7 0

abbrev three : ℕ → ℕ → ℕ → List ℕ
three b c d = b ∷ c ∷ d ∷ replicate 5 0

-- none open, and a number all the same
abbrev pub shut : ℕ → Underway
shut n = record { selected = false; clocks = clocks 0; opcode = 0; address = 0; number = n; value = none }

abbrev holds : Device → List Underway → Bool
holds d us = all (map (λ u. valid_of (underway_to u d)) us)

abbrev refused : Device → List Underway → Bool
refused d us = all (map (λ u. not (valid_of (underway_to u d))) us)

unfoldable pub examples : List Bool
examples =
    -- none open: no facts at all; just opened
    holds (chip M) (no_underway ∷ just_open ∷ [])
    ∷ refused (chip M) (shut 1 ∷ [])
    -- three clocks of the command: a number of three bits, and nothing else
    ∷ holds (chip M) (facts 3 0 0 0 none ∷ facts 3 0 0 7 none ∷ [])
    ∷ refused (chip M) (facts 3 0 0 8 none ∷ facts 3 2 0 7 none ∷ facts 3 0 1 7 none ∷ facts 3 0 0 7 (one 1) ∷ [])
    -- 02: the command is whole, and of the address nothing has come, then five clocks
    ∷ holds (chip M) (facts 8 0x02 0 0 none ∷ facts 13 0x02 0 31 none ∷ [])
    ∷ refused (chip M) (facts 8 0x02 0 1 none ∷ facts 13 0x02 0 32 none ∷ facts 13 0x02 1 31 none ∷ [])
    -- the address is whole, then three clocks of a byte, then a whole one; a burst keeps no value
    ∷ holds (chip M) (facts 32 0x02 0x3FF 0 none ∷ facts 35 0x02 0x3FF 7 none ∷ facts 40 0x02 0x3FF 0 none ∷ [])
    ∷ refused (chip M) (facts 32 0x02 0x3FF 1 none ∷ facts 35 0x02 0x3FF 8 none ∷ facts 40 0x02 0x3FF 1 none ∷ facts 40 0x02 0x3FF 0 (one 1) ∷ [])
    -- an address that the chip has not is kept, and what follows is rest
    ∷ holds (chip M) (facts 32 0x02 0xFFFFFF 0 none ∷ facts 35 0x02 0xFFFFFF 0 none ∷ [])
    ∷ refused (chip M) (facts 35 0x02 0xFFFFFF 1 none ∷ facts 32 0x02 0x1000000 0 none ∷ [])
    -- a read gathers nothing
    ∷ holds (chip M) (facts 35 0x03 0x3FF 0 none ∷ [])
    ∷ refused (chip M) (facts 35 0x03 0x3FF 1 none ∷ [])
    -- a register write keeps the bytes that have come whole
    ∷ holds (chip M) (facts 15 0x01 0 127 none ∷ facts 16 0x01 0 0 (one 0xFF) ∷ facts 19 0x01 0 0 (one 0xFF) ∷ [])
    ∷ refused (chip M) (facts 15 0x01 0 128 none ∷ facts 15 0x01 0 127 (one 1) ∷ facts 16 0x01 1 0 none ∷ facts 19 0x01 0 1 (one 0xFF) ∷ [])
    ∷ holds (chip M) (facts 24 0x87 0 0 (three 1 2 0) ∷ facts 31 0x87 0 127 (three 1 2 0) ∷ facts 32 0x87 0 0 (three 1 2 3) ∷ [])
    ∷ refused (chip M) (facts 24 0x87 0 0 (three 1 2 3) ∷ facts 31 0x87 0 127 (three 1 2 3) ∷ facts 31 0x87 0 128 (three 1 2 0) ∷ [])
    -- an opcode that the part has not, or a chip that sleeps: nothing but clocks and opcode
    ∷ holds (chip M) (facts 20 0x77 0 0 none ∷ facts 65535 0x77 0 0 none ∷ [])
    ∷ refused (chip M) (facts 20 0x77 0 1 none ∷ facts 20 0x77 1 0 none ∷ facts 65536 0x77 0 0 none ∷ [])
    ∷ holds (sleep_to true (chip M)) (facts 16 0x01 0 0 none ∷ [])
    ∷ refused (sleep_to true (chip M)) (facts 16 0x01 0 0 (one 0xFF) ∷ [])
    -- on two wires and on four a clock brings two bits and four
    ∷ holds (mode_to 2 (chip M)) (facts 3 0 0 63 none ∷ facts 7 0x01 0 63 none ∷ [])
    ∷ refused (mode_to 2 (chip M)) (facts 3 0 0 64 none ∷ facts 7 0x01 0 64 none ∷ [])
    ∷ holds (chip P) (facts 11 0xEB 0 4095 none ∷ facts 15 0x38 0x12 15 none ∷ [])
    ∷ refused (chip P) (facts 11 0xEB 0 4096 none ∷ facts 15 0x38 0x12 16 none ∷ facts 21 0xEB 0x12 1 none ∷ [])
    ∷ []

pub examples_hold : T (all examples)
unfolding examples clocks_within fits_in meaning_of mapped_of status_allowed cr3_allowed cr4_allowed configurations_allowed mode_register_allowed mode_allowed zeros mram_registers psram_registers mram_volatile psram_volatile mram_identity psram_identity in_range asleep_for refused_at stopped decided command_clocks wires_for address_clocks wait_clocks body_for kind_at counts_at number_reached reached factless underway_valid valid_of
examples_hold = tt
