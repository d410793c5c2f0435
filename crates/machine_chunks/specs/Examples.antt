-- Document 02, P1, worked out: transactions opened, fed and closed, cut where it matters, and the calls that are refused. Each call has the record, and what is
-- lent, as the call before it left them.
use Rattle.std.specs.Prelude.{ℕ, ◌+◌, Bool, true, not, ◌&&◌, List, [], ◌∷◌, ◌++◌, map, T, eqb, length, get_or, take, drop, replicate}
use Rattle.basis.specs.Counting.{how_many}
use Rattle.basis.specs.Examples.{all, same}
use Rattle.units.specs.declared.Wires.TheVariants.{One}
use Rattle.units.specs.Units.{clocks_within}
use Rattle.wires.specs.Bits.{shift_of, gather_from, fits_in, spelled, group_of}
use Rattle.parts.specs.declared.Part.{Part}
use Rattle.parts.specs.declared.Part.TheVariants.{M, P}
use Rattle.parts.specs.Parts.{area_of, offered}
use Rattle.opcodes.specs.Opcodes.{meaning_of}
use Rattle.commands.specs.Registers.{mapped_of}
use Rattle.record.specs.declared.devices.Device.{Device}
use Rattle.record.specs.Fields.{arm_to, underway_to}
use Rattle.changes.specs.Latches.{latch_missing}
use Rattle.state_check.specs.Values.{status_allowed, cr3_allowed, cr4_allowed, configurations_allowed, mode_register_allowed}
use Rattle.state_check.specs.States.{mode_allowed, zeros, mram_registers, psram_registers, mram_volatile, psram_volatile, mram_identity, psram_identity, in_range}
use Rattle.places.specs.Places.{read_span, write_span, place_in}
use Rattle.places.specs.Protection.{shut_memory, section_shut, protected_of, area_protected_of}
use Rattle.paper.specs.InForce.{asleep_for, refused_at, stopped, decided, command_clocks, wires_for, address_clocks, wait_clocks, body_for}
use Rattle.paper.specs.Underway.{kind_at, counts_at, number_reached, reached, factless, underway_valid, valid_of}
use Rattle.paper.specs.Storing.{Lent, protected_at, put_at, all_shut, take_each}
use Rattle.paper.specs.Driving.{byte_read, level_at}
use Rattle.paper.specs.Answers.{judge, unarmed}
use Rattle.paper.specs.Transaction.{World, sized_for, room_for, room_after, sampled, over, transact_of, power_of}
use Rattle.paper.specs.Examples.{blank, byte, address, answers}
use Rattle.paper.specs.ExamplesOpen.{chip, facts, shut}
use Rattle.machine_phases.specs.Machine.{to_data, to_wait, to_address, command_step, address_step, wait_step, held, data_held, data_step, step_of, drive_of, run_of, outs_of}
use Rattle.machine_end.specs.Finish.{outcome_of, finish_of}
use Rattle.machine_chunks.specs.Chunks.{phase_by, resume_of, opcode_after, open_of, feed_of, close_of}

abbrev pub lent : Part → Lent
lent p = record { memory = blank 1024; area = blank (area_of p).0 }

abbrev opened : Part → World
opened p = open_of (chip p) (lent p)

-- a chunk, with a buffer of its clocks and two bytes of room
abbrev fed : World → List ℕ → World
fed w xs = feed_of w.device w.lent xs (replicate (length xs + 2) 0xA5)

unfoldable pub fed_all : World → List (List ℕ) → World
fed_all w [] = w
fed_all w (x ∷ xs) = fed_all (fed w x) xs

abbrev closed : World → World
closed w = close_of w.device w.lent

-- a call that says a number and nothing else
abbrev says : World → ℕ → Bool
says w a = answers w a (0 ∷ 0 ∷ 0 ∷ 0 ∷ 0 ∷ [])

-- a write of 5Ah to 12h of the PSRAM, on one wire, and one byte read there
abbrev pub writes : List ℕ
writes = byte One 0x02 ++ (address One 0x12 ++ byte One 0x5A)

abbrev pub reads : List ℕ
reads = byte One 0x03 ++ (address One 0x12 ++ blank 8)

abbrev at12 : World → ℕ
at12 w = get_or w.lent.memory 0x12 0

-- facts that no clocks leave: with one open, a number of four bits after three clocks; with none open, any number
abbrev damaged : Device
damaged = underway_to (facts 3 0 0 8 (blank 8)) (chip M)

abbrev leftover : Device
leftover = underway_to (shut 1) (chip M)

unfoldable pub examples : List Bool
examples =
    -- opened and closed without a clock: 4, the arming falls, and none is open
    (let w = closed (open_of (arm_to true (chip M)) (lent M)) in says w 4 && (not w.device.volatile.armed && not w.device.underway.selected))
    -- a refused chunk: 2, and 1 for want of room; its clocks do not count, and the transaction goes on
    ∷ (let a = fed (fed (opened M) (take 5 (byte One 0x06))) (16 ∷ []) in
    let b = feed_of a.device a.lent (0 ∷ []) [] in
    says a 2
    && (says b 1
    && (eqb b.device.underway.clocks.0 5 && answers (closed (fed b (drop 5 (byte One 0x06)))) 0 (8 ∷ 0 ∷ 0 ∷ 0 ∷ 0 ∷ []))))
    -- a write enable, its eight clocks one by one, chunks without a clock before and behind them: no latch before the close
    ∷ (let c = fed_all (opened M) ([] ∷ map (λ x. x ∷ []) (byte One 0x06) ++ ([] ∷ [])) in
    let w = closed c in
    not c.device.volatile.latch && (answers w 0 (8 ∷ 0 ∷ 0 ∷ 0 ∷ 0 ∷ []) && w.device.volatile.latch))
    -- 66 arms at the close, and not before
    ∷ (let c = fed (opened P) (byte One 0x66) in not c.device.volatile.armed && (closed c).device.volatile.armed)
    -- a byte is stored with its last clock, wherever the cuts are: in the command, in the address and in the byte
    ∷ (let c = fed_all (opened P) (take 3 writes ∷ take 20 (drop 3 writes) ∷ take 16 (drop 23 writes) ∷ []) in
    let e = fed c (drop 39 writes) in
    eqb (at12 c) 0 && (eqb (at12 e) 0x5A && answers (closed e) 0 (8 ∷ 24 ∷ 0 ∷ 8 ∷ 0 ∷ [])))
    -- what a read drives comes with its clocks, and the room past each chunk is kept
    ∷ (let a = fed (open_of (chip P) (fed (opened P) writes).lent) (take 34 reads) in
    same (drop 32 a.output) (0x20 ∷ 0x22 ∷ 0xA5 ∷ 0xA5 ∷ [])
    && same (fed a (drop 34 reads)).output (0x20 ∷ 0x22 ∷ 0x22 ∷ 0x20 ∷ 0x22 ∷ 0x20 ∷ 0xA5 ∷ 0xA5 ∷ []))
    -- a good open and a good feed answer 0 with counts 0
    ∷ (says (opened M) 0 && says (fed (opened M) (blank 8)) 0)
    -- 13: a second open, a feed or a close with none open, a transaction or a power cycle meanwhile
    ∷ (let c = opened M in
    says (open_of c.device c.lent) 13
    && (says (feed_of (chip M) (lent M) (blank 8) (blank 8)) 13
    && (says (close_of (chip M) (lent M)) 13
    && (says (transact_of c.device c.lent (blank 8) (blank 8)) 13 && says (power_of c.device c.lent) 13))))
    -- 3 comes before it, and with none open a bad sample is 2
    ∷ (says (open_of damaged (lent M)) 3
    && (says (transact_of damaged (lent M) (blank 8) (blank 8)) 3
    && (says (power_of damaged (lent M)) 3
    && (says (feed_of leftover (lent M) (blank 1) (blank 1)) 3
    && (says (close_of leftover (lent M)) 3 && says (feed_of (chip M) (lent M) (16 ∷ []) (blank 1)) 2)))))
    -- 65,535 clocks are the most of all chunks together; one more is refused, none more is not
    ∷ (let d = feed_of (underway_to (facts 65534 0x77 0 0 (blank 8)) (chip M)) (lent M) (0 ∷ []) (blank 1) in
    eqb d.device.underway.clocks.0 65535
    && (says (fed d (0 ∷ [])) 1 && (says (fed d []) 0 && answers (closed d) 5 (8 ∷ 0 ∷ 0 ∷ 0 ∷ 65527 ∷ []))))
    ∷ []

pub examples_hold : T (all examples)
unfolding examples fed_all clocks_within shift_of gather_from fits_in spelled group_of meaning_of mapped_of status_allowed cr3_allowed cr4_allowed configurations_allowed mode_register_allowed mode_allowed zeros mram_registers psram_registers mram_volatile psram_volatile mram_identity psram_identity in_range read_span write_span place_in shut_memory section_shut protected_of area_protected_of asleep_for refused_at stopped decided command_clocks wires_for address_clocks wait_clocks body_for kind_at counts_at number_reached reached factless underway_valid valid_of protected_at put_at how_many all_shut take_each byte_read level_at judge unarmed latch_missing offered sized_for room_for room_after sampled over transact_of power_of to_data to_wait to_address command_step address_step wait_step held data_held data_step step_of drive_of run_of outs_of outcome_of finish_of phase_by resume_of opcode_after open_of feed_of close_of
examples_hold = tt
