-- DEMAND 3 IS NOT EMPTY. Lists of episodes that meet every premise, computed: on part M three of them, one that runs past the top of memory out of its protected
-- bytes, one into protected bytes alone, one beside them; on part P two, one of which laps its group of 16 bytes; on part M32 the first two of part M's, turned round.
-- Then a pair that shares one place, and whose order shows.
-- Assumes nothing.
use Rattle.std.specs.Prelude.{◌≡◌, refl, Bool, true, false, [], ◌∷◌, T}
use mathlib.Core.List.Permᴰ
use Rattle.std.proofs.Common.{lit≤}
use Rattle.basis.specs.Counting.{how_many}
use Rattle.basis.specs.Examples.{all}
use Rattle.wires.specs.Bits.{shift_of, gather_from, spelled, group_of}
use Rattle.parts.specs.Parts.{offered}
use Rattle.kinds.specs.declared.WriteForm.TheVariants as Writes
use Rattle.opcodes.specs.Opcodes.{meaning_of}
use Rattle.commands.specs.Registers.{mapped_of}
use Rattle.record.specs.Devices.{setting_of}
use Rattle.changes.specs.Latches.{latch_missing}
use Rattle.state_check.specs.Values.{status_allowed, cr3_allowed, cr4_allowed, configurations_allowed, mode_register_allowed}
use Rattle.state_check.specs.States.{mode_allowed, zeros, mram_registers, psram_registers, mram_volatile, psram_volatile, mram_identity, psram_identity, in_range}
use Rattle.paper.specs.Underway.{valid_of, underway_valid, factless}
use Rattle.places.specs.Places.{read_span, write_span, place_in}
use Rattle.places.specs.Protection.{shut_memory, section_shut, protected_of, area_protected_of}
use Rattle.paper.specs.InForce.{asleep_for, refused_at, stopped, decided, command_clocks, wires_for, address_clocks, wait_clocks, body_for}
use Rattle.paper.specs.Reading.{kind_read, address_read, reading_of, bytes_in, data_bytes}
use Rattle.paper.specs.Storing.{protected_at, put_at, all_shut, take_each}
use Rattle.paper.specs.Driving.{byte_read, level_at, along}
use Rattle.paper.specs.Answers.{judge, unarmed}
use Rattle.paper.specs.Building.{spread_all}
use Rattle.paper.specs.Transaction.{sized_for, room_for, sampled, sent_bytes, facts_of, stored_by, output_of, over, clocked_of, transact_of}
use Rattle.demand_3.specs.Steps.{Every}
use Rattle.demand_3.specs.Bursts.{places_from}
use Rattle.demand_3.specs.Episodes.{after_calls, replies, aimed, Enabling, Episode, Ready, AnyOrder}
use Rattle.demand_3.proofs.Demand3.{demand_3}
use Rattle.demand_3.specs.Disjoint.{all_disjoint, pairwise_apart}
use Rattle.demand_3.specs.Examples.{beside, chip_m, chip_m32, chip_p, enables, examples, fitting, folded, lapping, list_m, list_m32, list_p, mram, past_top, protected, roomy}

-- ---- the premises hold
ready_mram : (first : Bool) → Ready (mram first)
unfolding shift_of gather_from spelled group_of spread_all meaning_of mapped_of status_allowed cr3_allowed cr4_allowed configurations_allowed mode_register_allowed mode_allowed zeros mram_registers psram_registers mram_volatile psram_volatile mram_identity psram_identity valid_of in_range underway_valid factless read_span write_span place_in shut_memory section_shut protected_of area_protected_of asleep_for refused_at stopped decided command_clocks wires_for address_clocks wait_clocks body_for kind_read address_read reading_of bytes_in data_bytes protected_at put_at how_many all_shut take_each byte_read level_at along judge unarmed latch_missing offered sized_for room_for sampled sent_bytes facts_of stored_by output_of over clocked_of transact_of
ready_mram true = record { sized = refl; valid = refl; idle = refl; awake = refl }
ready_mram false = record { sized = refl; valid = refl; idle = refl; awake = refl }

ready_P : Ready chip_p
unfolding shift_of gather_from spelled group_of spread_all meaning_of mapped_of status_allowed cr3_allowed cr4_allowed configurations_allowed mode_register_allowed mode_allowed zeros mram_registers psram_registers mram_volatile psram_volatile mram_identity psram_identity valid_of in_range underway_valid factless read_span write_span place_in shut_memory section_shut protected_of area_protected_of asleep_for refused_at stopped decided command_clocks wires_for address_clocks wait_clocks body_for kind_read address_read reading_of bytes_in data_bytes protected_at put_at how_many all_shut take_each byte_read level_at along judge unarmed latch_missing offered sized_for room_for sampled sent_bytes facts_of stored_by output_of over clocked_of transact_of
ready_P = record { sized = refl; valid = refl; idle = refl; awake = refl }

enabling : (first : Bool) → Enabling (mram first) enables
unfolding shift_of gather_from spelled group_of spread_all meaning_of mapped_of status_allowed cr3_allowed cr4_allowed configurations_allowed mode_register_allowed mode_allowed zeros mram_registers psram_registers mram_volatile psram_volatile mram_identity psram_identity valid_of in_range underway_valid factless read_span write_span place_in shut_memory section_shut protected_of area_protected_of asleep_for refused_at stopped decided command_clocks wires_for address_clocks wait_clocks body_for kind_read address_read reading_of bytes_in data_bytes protected_at put_at how_many all_shut take_each byte_read level_at along judge unarmed latch_missing offered sized_for room_for sampled sent_bytes facts_of stored_by output_of over clocked_of transact_of
enabling true = record { kind = refl; done = refl }
enabling false = record { kind = refl; done = refl }

first_two : (first : Bool) → Every (Episode (mram first)) list_m32
unfolding aimed shift_of gather_from spelled group_of spread_all meaning_of mapped_of status_allowed cr3_allowed cr4_allowed configurations_allowed mode_register_allowed mode_allowed zeros mram_registers psram_registers mram_volatile psram_volatile mram_identity psram_identity valid_of in_range underway_valid factless read_span write_span place_in shut_memory section_shut protected_of area_protected_of asleep_for refused_at stopped decided command_clocks wires_for address_clocks wait_clocks body_for kind_read address_read reading_of bytes_in data_bytes protected_at put_at how_many all_shut take_each byte_read level_at along judge unarmed latch_missing offered sized_for room_for sampled sent_bytes facts_of stored_by output_of over clocked_of transact_of
first_two true = (record { family = refl; enable = enabling true; write = record { few = refl; levels = refl; way = Writes.Plain; kind = refl; reach = refl; some = lit≤ tt } }, (record { family = refl; enable = enabling true; write = record { few = refl; levels = refl; way = Writes.Plain; kind = refl; reach = refl; some = lit≤ tt } }, tt))
first_two false = (record { family = refl; enable = enabling false; write = record { few = refl; levels = refl; way = Writes.Plain; kind = refl; reach = refl; some = lit≤ tt } }, (record { family = refl; enable = enabling false; write = record { few = refl; levels = refl; way = Writes.Plain; kind = refl; reach = refl; some = lit≤ tt } }, tt))

the_third : Episode chip_m beside
unfolding aimed shift_of gather_from spelled group_of spread_all meaning_of mapped_of status_allowed cr3_allowed cr4_allowed configurations_allowed mode_register_allowed mode_allowed zeros mram_registers psram_registers mram_volatile psram_volatile mram_identity psram_identity valid_of in_range underway_valid factless read_span write_span place_in shut_memory section_shut protected_of area_protected_of asleep_for refused_at stopped decided command_clocks wires_for address_clocks wait_clocks body_for kind_read address_read reading_of bytes_in data_bytes protected_at put_at how_many all_shut take_each byte_read level_at along judge unarmed latch_missing offered sized_for room_for sampled sent_bytes facts_of stored_by output_of over clocked_of transact_of
the_third = record { family = refl; enable = enabling true; write = record { few = refl; levels = refl; way = Writes.Plain; kind = refl; reach = refl; some = lit≤ tt } }

episodes_M : Every (Episode chip_m) list_m
episodes_M = ((first_two true).0, ((first_two true).1.0, (the_third, tt)))

episodes_P : Every (Episode chip_p) list_p
unfolding aimed shift_of gather_from spelled group_of spread_all meaning_of mapped_of status_allowed cr3_allowed cr4_allowed configurations_allowed mode_register_allowed mode_allowed zeros mram_registers psram_registers mram_volatile psram_volatile mram_identity psram_identity valid_of in_range underway_valid factless read_span write_span place_in shut_memory section_shut protected_of area_protected_of asleep_for refused_at stopped decided command_clocks wires_for address_clocks wait_clocks body_for kind_read address_read reading_of bytes_in data_bytes protected_at put_at how_many all_shut take_each byte_read level_at along judge unarmed latch_missing offered sized_for room_for sampled sent_bytes facts_of stored_by output_of over clocked_of transact_of
episodes_P = (
  record { family = refl; write = record { few = refl; levels = refl; way = Writes.Plain; kind = refl; reach = refl; some = lit≤ tt } },
  (
    record { family = refl; write = record { few = refl; levels = refl; way = Writes.Quad; kind = refl; reach = refl; some = lit≤ tt } },
    tt,
  ),
)

apart_M : (all_disjoint (setting_of chip_m.device) list_m ≡ true) × (all_disjoint (setting_of chip_m32.device) list_m32 ≡ true)
unfolding aimed places_from shift_of gather_from spelled group_of spread_all meaning_of mapped_of status_allowed cr3_allowed cr4_allowed configurations_allowed mode_register_allowed mode_allowed zeros mram_registers psram_registers mram_volatile psram_volatile mram_identity psram_identity valid_of in_range underway_valid factless read_span write_span place_in shut_memory section_shut protected_of area_protected_of asleep_for refused_at stopped decided command_clocks wires_for address_clocks wait_clocks body_for kind_read address_read reading_of bytes_in data_bytes protected_at put_at how_many all_shut take_each byte_read level_at along judge unarmed latch_missing offered sized_for room_for sampled sent_bytes facts_of stored_by output_of over clocked_of transact_of
apart_M = (refl, refl)

apart_P : all_disjoint (setting_of chip_p.device) list_p ≡ true
unfolding aimed places_from shift_of gather_from spelled group_of spread_all meaning_of mapped_of status_allowed cr3_allowed cr4_allowed configurations_allowed mode_register_allowed mode_allowed zeros mram_registers psram_registers mram_volatile psram_volatile mram_identity psram_identity valid_of in_range underway_valid factless read_span write_span place_in shut_memory section_shut protected_of area_protected_of asleep_for refused_at stopped decided command_clocks wires_for address_clocks wait_clocks body_for kind_read address_read reading_of bytes_in data_bytes protected_at put_at how_many all_shut take_each byte_read level_at along judge unarmed latch_missing offered sized_for room_for sampled sent_bytes facts_of stored_by output_of over clocked_of transact_of
apart_P = refl

-- SO DEMAND 3 SAYS SOMETHING OF THEM: for part M the list turned round, in longer buffers, for parts P and M32 the two exchanged
pub some_order_M : AnyOrder chip_m (fitting list_m) (roomy (beside ∷ protected ∷ past_top ∷ []))
unfolding spelled spread_all
some_order_M =
    demand_3 chip_m (ready_mram true)
    (Permᴰ.trans (Permᴰ.swap refl refl) (Permᴰ.trans (Permᴰ.cons refl (Permᴰ.swap refl refl)) (Permᴰ.swap refl refl)))
    ((refl, (refl, tt)), ((refl, (refl, tt)), ((refl, (refl, tt)), tt))) ((refl, (refl, tt)), ((refl, (refl, tt)), ((refl, (refl, tt)), tt)))
    episodes_M (pairwise_apart (setting_of chip_m.device) list_m apart_M.0)

pub some_order_P : AnyOrder chip_p (fitting list_p) (fitting (folded ∷ lapping ∷ []))
unfolding spelled spread_all
some_order_P =
    demand_3 chip_p ready_P (Permᴰ.swap refl refl) ((refl, tt), ((refl, tt), tt)) ((refl, tt), ((refl, tt), tt)) episodes_P (pairwise_apart (setting_of chip_p.device) list_p apart_P)

pub some_order_M32 : AnyOrder chip_m32 (fitting list_m32) (roomy (protected ∷ past_top ∷ []))
unfolding spelled spread_all
some_order_M32 =
    demand_3 chip_m32 (ready_mram false) (Permᴰ.swap refl refl) ((refl, (refl, tt)), ((refl, (refl, tt)), tt)) ((refl, (refl, tt)), ((refl, (refl, tt)), tt))
    (first_two false) (pairwise_apart (setting_of chip_m32.device) list_m32 apart_M.1)

pub examples_hold : T (all examples)
unfolding examples aimed places_from after_calls replies shift_of gather_from spelled group_of spread_all meaning_of mapped_of status_allowed cr3_allowed cr4_allowed configurations_allowed mode_register_allowed mode_allowed zeros mram_registers psram_registers mram_volatile psram_volatile mram_identity psram_identity valid_of in_range underway_valid factless read_span write_span place_in shut_memory section_shut protected_of area_protected_of asleep_for refused_at stopped decided command_clocks wires_for address_clocks wait_clocks body_for kind_read address_read reading_of bytes_in data_bytes protected_at put_at how_many all_shut take_each byte_read level_at along judge unarmed latch_missing offered sized_for room_for sampled sent_bytes facts_of stored_by output_of over clocked_of transact_of
examples_hold = tt
