-- CHUNKS is not empty: a write and a read of the PSRAM, each cut in two inside a byte, meet its premises; and the outputs that it speaks of are computed.
use Rattle.std.specs.Prelude.{refl, ℕ, ◌+◌, List, [], ◌∷◌, map, T, length, get_or, take, drop, replicate}
use Rattle.std.proofs.Common.{lit≤}
use Rattle.basis.specs.Counting.{how_many}
use Rattle.basis.specs.Examples.{same}
use Rattle.units.specs.Units.{clocks_within}
use Rattle.wires.specs.Bits.{shift_of, gather_from, fits_in, spelled, group_of}
use Rattle.parts.specs.declared.Part.TheVariants.{P}
use Rattle.parts.specs.Parts.{offered}
use Rattle.opcodes.specs.Opcodes.{meaning_of}
use Rattle.commands.specs.Registers.{mapped_of}
use Rattle.state_check.specs.Values.{mode_register_allowed}
use Rattle.state_check.specs.States.{mode_allowed, zeros, psram_registers, psram_volatile, psram_identity, in_range}
use Rattle.places.specs.Places.{read_span, write_span, place_in}
use Rattle.places.specs.Protection.{shut_memory, section_shut, protected_of, area_protected_of}
use Rattle.paper.specs.InForce.{asleep_for, refused_at, stopped, decided, command_clocks, wires_for, address_clocks, wait_clocks, body_for}
use Rattle.paper.specs.Underway.{kind_at, counts_at, number_reached, reached, factless, underway_valid, valid_of}
use Rattle.paper.specs.Storing.{protected_at, put_at, all_shut, take_each}
use Rattle.paper.specs.Driving.{byte_read, level_at}
use Rattle.paper.specs.Transaction.{sized_for, room_after, sampled, over}
use Rattle.paper.specs.Examples.{blank}
use Rattle.paper.specs.ExamplesOpen.{chip}
use Rattle.machine_phases.specs.Machine.{to_data, to_wait, to_address, command_step, address_step, wait_step, held, data_held, data_step, step_of, drive_of, run_of, outs_of}
use Rattle.machine_chunks.specs.Chunks.{phase_by, resume_of, opcode_after, open_of, feed_of}
use Rattle.machine_chunks.specs.Examples.{lent, writes, reads}
use Rattle.demand_3.specs.Episodes.{Chip, Call}
use Rattle.demand_3.specs.Programs.{joined}
use Rattle.chunks.specs.Chunks.{outputs, Unrefused, Idle, opened, InChunks, chunks}

abbrev c : Chip
c = record { device = chip P; lent = lent P }

-- in two chunks, three clocks into a byte, each with a buffer of its clocks and two bytes of room
abbrev cut : List ℕ → List Call
cut xs = map (λ (x : List ℕ). record { samples = x; room = replicate (length x + 2) 0xA5 }) (take 35 xs ∷ drop 35 xs ∷ [])

idle : Idle c
unfolding mode_register_allowed mode_allowed zeros psram_registers psram_volatile psram_identity in_range factless underway_valid valid_of offered sized_for
idle = record { sized = refl; valid = refl; none = refl }

writes_calm : Unrefused (opened c) (cut writes)
unfolding clocks_within shift_of gather_from fits_in spelled group_of meaning_of mapped_of mode_register_allowed mode_allowed zeros psram_registers psram_volatile psram_identity in_range read_span write_span place_in shut_memory section_shut protected_of area_protected_of asleep_for refused_at stopped decided command_clocks wires_for address_clocks wait_clocks body_for kind_at counts_at number_reached reached factless underway_valid valid_of protected_at put_at how_many all_shut take_each byte_read level_at offered sized_for room_after sampled over to_data to_wait to_address command_step address_step wait_step held data_held data_step step_of drive_of run_of outs_of phase_by resume_of opcode_after open_of feed_of
writes_calm = (refl, (refl, tt))

reads_calm : Unrefused (opened c) (cut reads)
unfolding clocks_within shift_of gather_from fits_in spelled group_of meaning_of mapped_of mode_register_allowed mode_allowed zeros psram_registers psram_volatile psram_identity in_range read_span write_span place_in shut_memory section_shut protected_of area_protected_of asleep_for refused_at stopped decided command_clocks wires_for address_clocks wait_clocks body_for kind_at counts_at number_reached reached factless underway_valid valid_of protected_at put_at how_many all_shut take_each byte_read level_at offered sized_for room_after sampled over to_data to_wait to_address command_step address_step wait_step held data_held data_step step_of drive_of run_of outs_of phase_by resume_of opcode_after open_of feed_of
reads_calm = (refl, (refl, tt))

pub write_in_chunks : InChunks c (cut writes) (blank 40)
unfolding joined clocks_within spelled
write_in_chunks = chunks c idle (cut writes) writes_calm (blank 40) (lit≤ tt)

pub read_in_chunks : InChunks c (cut reads) (blank 40)
unfolding joined clocks_within spelled
read_in_chunks = chunks c idle (cut reads) reads_calm (blank 40) (lit≤ tt)

-- what the second chunk of the read drives: five clocks of 00h, on one wire, and its room
pub read_shared : T (same (get_or (outputs (opened c) (cut reads)) 1 []) (0x20 ∷ 0x20 ∷ 0x20 ∷ 0x20 ∷ 0x20 ∷ 0xA5 ∷ 0xA5 ∷ []))
unfolding outputs clocks_within shift_of gather_from fits_in spelled group_of meaning_of mapped_of mode_register_allowed mode_allowed zeros psram_registers psram_volatile psram_identity in_range read_span write_span place_in shut_memory section_shut protected_of area_protected_of asleep_for refused_at stopped decided command_clocks wires_for address_clocks wait_clocks body_for kind_at counts_at number_reached reached factless underway_valid valid_of protected_at put_at how_many all_shut take_each byte_read level_at offered sized_for room_after sampled over to_data to_wait to_address command_step address_step wait_step held data_held data_step step_of drive_of run_of outs_of phase_by resume_of opcode_after open_of feed_of
read_shared = tt
