-- Document 01's bench examples (a) to (l), one table under one computed proof over the definitions. (a) has the host build a command; every other row sends samples to a
-- fresh chip, or one with the registers that the example names, and looks at what comes back.
use Rattle.std.specs.Prelude.{ℕ, ◌+◌, Bool, true, not, ◌&&◌, List, [], ◌∷◌, ◌++◌, map, T, eqb, length, get_or, drop, take, replicate, set}
use Rattle.basis.specs.Counting.{how_many}
use Rattle.basis.specs.Examples.{all, same}
use Rattle.units.specs.declared.Clocks.{Clocks}
use Rattle.units.specs.declared.Bytes.{Bytes}
use Rattle.units.specs.declared.Wires.{Wires}
use Rattle.units.specs.declared.Wires.TheVariants.{One, Two, Four}
use Rattle.units.specs.Units.{bytes, clocks_of, byte_clocks}
use Rattle.wires.specs.Bits.{shift_of, gather_from, spelled, spread, group_of}
use Rattle.parts.specs.declared.Part.TheVariants.{M, P}
use Rattle.parts.specs.Parts.{offered}
use Rattle.opcodes.specs.Opcodes.{meaning_of}
use Rattle.commands.specs.Registers.{mapped_of}
use Rattle.record.specs.declared.devices.Device.{Device}
use Rattle.record.specs.Answers.{answer_number}
use Rattle.record.specs.Devices.{setting_of}
use Rattle.record.specs.Fresh.{make_of, fresh_of}
use Rattle.changes.specs.Latches.{latch_missing}
use Rattle.record.specs.Fields.{arm_to, latch_to, sleep_to, mode_to}
use Rattle.record.specs.Resets.{mode_register_to}
use Rattle.changes.specs.Changes.{status_to, configurations_to}
use Rattle.state_check.specs.Values.{status_allowed, cr3_allowed, cr4_allowed, configurations_allowed, mode_register_allowed}
use Rattle.state_check.specs.States.{mode_allowed, zeros, mram_registers, psram_registers, mram_volatile, psram_volatile, mram_identity, psram_identity, in_range}
use Rattle.paper.specs.Underway.{valid_of, underway_valid, factless}
use Rattle.places.specs.Places.{read_span, write_span, place_in}
use Rattle.places.specs.Protection.{shut_memory, section_shut, protected_of, area_protected_of}
use Rattle.paper.specs.InForce.{address_bytes, asleep_for, refused_at, stopped, decided, command_clocks, wires_for, address_clocks, wait_clocks, body_for}
use Rattle.paper.specs.Reading.{kind_read, address_read, reading_of, bytes_in, data_bytes}
use Rattle.paper.specs.Storing.{Lent, protected_at, put_at, all_shut, take_each}
use Rattle.paper.specs.Driving.{byte_read, level_at, along}
use Rattle.paper.specs.Answers.{judge, unarmed}
use Rattle.paper.specs.Collecting.{seen_in, strange, collected, collect_of}
use Rattle.paper.specs.Building.{Order, Told, kind_asked, beyond, overlong, spread_all, built_of, build_of}
use Rattle.paper.specs.Transaction.{World, power_of, sized_for, room_for, sampled, sent_bytes, facts_of, stored_by, output_of, over, clocked_of, transact_of}

-- chips of 1,024 bytes
abbrev m : Device
m = fresh_of (make_of M 10) (replicate 8 0) (replicate 8 0)

abbrev p : Device
p = fresh_of (make_of P 10) (replicate 8 0) (replicate 8 0)

abbrev pub blank : ℕ → List ℕ
blank n = replicate n 0

abbrev on_m : List ℕ → Lent
on_m memory = record { memory = memory; area = blank 256 }

abbrev on_p : List ℕ → Lent
on_p memory = record { memory = memory; area = [] }

-- a byte and an address on so many wires
abbrev pub byte : Wires → ℕ → List ℕ
byte w b = spread w (byte_clocks w) b

abbrev pub address : Wires → ℕ → List ℕ
address w a = spread w (clocks_of w address_bytes) a

abbrev pub sent : Device → Lent → List ℕ → World
sent d l xs = transact_of d l xs (replicate (length xs) 0)

abbrev pub answers : World → ℕ → List ℕ → Bool
answers r a five =
    eqb (answer_number r.answer) a
    && same (r.counts.command.0 ∷ r.counts.address.0 ∷ r.counts.wait.0 ∷ r.counts.body.0 ∷ r.counts.rest.0 ∷ []) five

abbrev memory_at : World → List ℕ → List ℕ
memory_at r places = map (λ i. get_or r.lent.memory i 0) places

-- the last sixteen places of such a memory
abbrev top_bytes : List ℕ
top_bytes = map (λ i. 0x3F0 + i) (0 ∷ 1 ∷ 2 ∷ 3 ∷ 4 ∷ 5 ∷ 6 ∷ 7 ∷ 8 ∷ 9 ∷ 10 ∷ 11 ∷ 12 ∷ 13 ∷ 14 ∷ 15 ∷ [])

-- what the host builds for a command without address and data on part M
abbrev plain : ℕ → ℕ → Told Clocks
plain opcode mode =
    let o : Order = record { part = 1; opcode = opcode; mode = mode; address = 0; cr2 = 0; written = []; wanted = bytes 0 } in
    build_of o (replicate 8 0xA5)

unfoldable pub examples : List Bool
examples =
    -- (a) 06 on two wires and on four; the room past the samples is kept
    (let t = plain 0x06 2 in
    eqb (answer_number t.answer) 0 && (eqb t.number.0 4 && same t.buffer (0x00 ∷ 0x00 ∷ 0x01 ∷ 0x02 ∷ replicate 4 0xA5)))
    ∷ (let t = plain 0x06 4 in
    eqb (answer_number t.answer) 0 && (eqb t.number.0 2 && same t.buffer (0x00 ∷ 0x06 ∷ replicate 6 0xA5)))
    -- (b) P, 0B, mode 4, one byte A5h
    ∷ (let r = sent (mode_to 4 p) (on_p (set (blank 1024) 0x12 0xA5)) (byte Four 0x0B ++ (address Four 0x12 ++ blank 6)) in
    answers r 0 (2 ∷ 6 ∷ 4 ∷ 2 ∷ 0 ∷ []) && same (drop 12 r.output) (0xFA ∷ 0xF5 ∷ []))
    -- (c) P, EB, mode 1, one byte
    ∷ answers (sent p (on_p (blank 1024)) (byte One 0xEB ++ (address Four 0 ++ blank 8))) 0 (8 ∷ 6 ∷ 6 ∷ 2 ∷ 0 ∷ [])
    -- (d) P, 03, A5h
    ∷ (let r = sent p (on_p (set (blank 1024) 0 0xA5)) (byte One 0x03 ++ (address One 0 ++ blank 8)) in
    same (drop 32 r.output) (0x22 ∷ 0x20 ∷ 0x22 ∷ 0x20 ∷ 0x20 ∷ 0x22 ∷ 0x20 ∷ 0x22 ∷ []))
    -- (e) M, 65, mode 2, one byte
    ∷ answers (sent (mode_to 2 m) (on_m (blank 1024)) (byte Two 0x65 ++ (address Two 0x02 ++ blank 8))) 0 (4 ∷ 12 ∷ 4 ∷ 4 ∷ 0 ∷ [])
    -- (f) P, group 16, four bytes at 0Eh
    ∷ (let r = sent (mode_register_to 0 p) (on_p (blank 1024)) (byte One 0x02 ++ (address One 0x0E ++ (byte One 1 ++ (byte One 2 ++ (byte One 3 ++ byte One 4))))) in
    answers r 0 (8 ∷ 24 ∷ 0 ∷ 32 ∷ 0 ∷ []) && same (memory_at r (0x0E ∷ 0x0F ∷ 0x00 ∷ 0x01 ∷ 0x10 ∷ [])) (1 ∷ 2 ∷ 3 ∷ 4 ∷ 0 ∷ []))
    -- (g) M, four at 3FEh
    ∷ (let r = sent m (on_m (blank 1024)) (byte One 0x02 ++ (address One 0x3FE ++ (byte One 1 ++ (byte One 2 ++ (byte One 3 ++ byte One 4))))) in
    same (memory_at r (0x3FE ∷ 0x3FF ∷ 0x000 ∷ 0x001 ∷ [])) (1 ∷ 2 ∷ 3 ∷ 4 ∷ []))
    -- (h) M, status 04h: 3F0h to 3FFh are protected and 3EFh is not; four at 3EEh: two are stored
    ∷ (all (map (protected_of (setting_of (status_to 0x04 m))) top_bytes) && not (protected_of (setting_of (status_to 0x04 m)) 0x3EF))
    ∷ (let r = sent (status_to 0x04 m) (on_m (blank 1024)) (byte One 0x02 ++ (address One 0x3EE ++ (byte One 1 ++ (byte One 2 ++ (byte One 3 ++ byte One 4))))) in
    answers r 0 (8 ∷ 24 ∷ 0 ∷ 32 ∷ 0 ∷ []) && same (memory_at r (0x3EE ∷ 0x3EF ∷ 0x3F0 ∷ 0x3F1 ∷ [])) (1 ∷ 2 ∷ 0 ∷ 0 ∷ []))
    -- (i) the same, two at 3F0h
    ∷ answers (sent (status_to 0x04 m) (on_m (blank 1024)) (byte One 0x02 ++ (address One 0x3F0 ++ (byte One 1 ++ byte One 2)))) 9 (8 ∷ 24 ∷ 0 ∷ 16 ∷ 0 ∷ [])
    -- (j) no clocks
    ∷ answers (sent m (on_m (blank 1024)) []) 4 (0 ∷ 0 ∷ 0 ∷ 0 ∷ 0 ∷ [])
    -- (k) write enable with nine clocks
    ∷ answers (sent m (on_m (blank 1024)) (byte One 0x06 ++ (0 ∷ []))) 11 (8 ∷ 0 ∷ 0 ∷ 0 ∷ 1 ∷ [])
    -- (l) M, address 400h; 3FFh is allowed
    ∷ answers (sent m (on_m (blank 1024)) (byte One 0x03 ++ (address One 0x400 ++ blank 8))) 7 (8 ∷ 24 ∷ 0 ∷ 0 ∷ 8 ∷ [])
    ∷ answers (sent m (on_m (blank 1024)) (byte One 0x03 ++ (address One 0x3FF ++ blank 8))) 0 (8 ∷ 24 ∷ 0 ∷ 8 ∷ 0 ∷ [])
    ∷ []

pub examples_hold : T (all examples)
unfolding examples kind_asked beyond overlong spread_all built_of build_of shift_of gather_from spelled group_of meaning_of mapped_of status_allowed cr3_allowed cr4_allowed configurations_allowed mode_register_allowed mode_allowed zeros mram_registers psram_registers mram_volatile psram_volatile mram_identity psram_identity valid_of in_range underway_valid factless read_span write_span place_in shut_memory section_shut protected_of area_protected_of asleep_for refused_at stopped decided command_clocks wires_for address_clocks wait_clocks body_for kind_read address_read reading_of bytes_in data_bytes protected_at put_at how_many all_shut take_each byte_read level_at along judge unarmed latch_missing offered sized_for room_for sampled sent_bytes facts_of stored_by output_of over clocked_of transact_of
examples_hold = tt

-- transactions on one chip, one after the other: their answers
unfoldable pub answers_in : Device → List (List ℕ) → List ℕ
answers_in d [] = []
answers_in d (xs ∷ rest) = let r = sent d (on_m (blank 1024)) xs in answer_number r.answer ∷ answers_in r.device rest

-- the chip that they leave
unfoldable pub left_in : Device → List (List ℕ) → Device
left_in d [] = d
left_in d (xs ∷ rest) = left_in (sent d (on_m (blank 1024)) xs).device rest

-- one byte to address 0, and a chip in a write mode
abbrev stores : List ℕ
stores = byte One 0x02 ++ (address One 0 ++ byte One 0x5A)

abbrev in_write_mode : ℕ → Device
in_write_mode mode = configurations_to (0x00 ∷ 0x08 ∷ 0x00 ∷ (0x04 + mode) ∷ []) m

-- register writes: a status with a share of 1/64, a status that no chip has, and configurations that change nothing but the write mode
abbrev protects : List ℕ
protects = byte One 0x01 ++ byte One 0x04

abbrev misprotects : List ℕ
misprotects = byte One 0x01 ++ byte One 0x80

abbrev configures : ℕ → List ℕ
configures mode = byte One 0x87 ++ (byte One 0x00 ++ (byte One 0x08 ++ (byte One 0x00 ++ byte One (0x04 + mode))))

-- chips whose identities show which byte is which
abbrev named_m : Device
named_m = fresh_of (make_of M 10) (1 ∷ 2 ∷ 3 ∷ 4 ∷ replicate 4 0) (11 ∷ 12 ∷ 13 ∷ 14 ∷ 15 ∷ 16 ∷ 17 ∷ 18 ∷ [])

abbrev named_p : Device
named_p = fresh_of (make_of P 10) (1 ∷ 2 ∷ 3 ∷ 4 ∷ 5 ∷ 6 ∷ 7 ∷ 8 ∷ []) (replicate 8 0)

-- so many bytes of part M's identity
abbrev reads9_f : ℕ → Order
reads9_f n = record { part = 1; opcode = 0x9F; mode = 1; address = 0; cr2 = 0; written = []; wanted = bytes n }

-- a read that the host builds, sent to a device, and gathered from what it drives on the wires of its data
abbrev pub asks : Device → Lent → ℕ → ℕ → ℕ → ℕ → ℕ → Told Bytes
asks d l opcode mode address wanted wires =
    let o : Order = record { part = d.make.part; opcode = opcode; mode = mode; address = address; cr2 = 0; written = []; wanted = bytes wanted } in
    let t = build_of o (replicate 128 0xA5) in
    collect_of wires (sent d l (take t.number.0 t.buffer)).output (replicate 10 0xA5)

-- the status that 05 shows
abbrev status_seen : Device → ℕ
status_seen d = get_or (asks d (on_m (blank 1024)) 0x05 1 0 1 1).buffer 0 0

-- Where (g) and (h) leave a way out: a burst that comes out of the protected bytes goes on, and part M's groups are for reads and not for writes. Then the way
-- from the host to the device and back: four bytes of part P by EB, and eight asked of a register that has one, by 65. Last,
-- the identities, and what one transaction leaves to the next (D26).
unfoldable pub further : List Bool
further =
    (let r = sent (status_to 0x04 m) (on_m (blank 1024)) (byte One 0x02 ++ (address One 0x3FE ++ (byte One 1 ++ (byte One 2 ++ (byte One 3 ++ byte One 4))))) in
    answers r 0 (8 ∷ 24 ∷ 0 ∷ 32 ∷ 0 ∷ []) && same (memory_at r (0x3FE ∷ 0x3FF ∷ 0x000 ∷ 0x001 ∷ [])) (0 ∷ 0 ∷ 3 ∷ 4 ∷ []))
    ∷ (let r = sent (configurations_to (0x00 ∷ 0x00 ∷ 0x10 ∷ 0x05 ∷ []) m) (on_m (blank 1024)) (byte One 0x02 ++ (address One 0x00F ++ (byte One 1 ++ byte One 2))) in
    answers r 0 (8 ∷ 24 ∷ 0 ∷ 16 ∷ 0 ∷ []) && same (memory_at r (0x00F ∷ 0x010 ∷ 0x000 ∷ [])) (1 ∷ 2 ∷ 0 ∷ []))
    ∷ (let t = asks p (on_p (set (set (blank 1024) 0x123 0xA5) 0x125 0x5A)) 0xEB 1 0x000123 4 4 in
    eqb t.number.0 4 && same t.buffer (0xA5 ∷ 0x00 ∷ 0x5A ∷ 0x00 ∷ replicate 6 0xA5))
    ∷ (let t = asks (status_to 0x04 m) (on_m (blank 1024)) 0x65 1 0x000000 8 1 in
    eqb t.number.0 1 && same t.buffer (0x04 ∷ replicate 9 0xA5))
    -- identities, byte 0 first: 9F and 4C of part M and the map's 30h and 40h, and part P's 9F
    ∷ same (asks named_m (on_m (blank 1024)) 0x9F 1 0 4 1).buffer (1 ∷ 2 ∷ 3 ∷ 4 ∷ replicate 6 0xA5)
    ∷ same (asks named_m (on_m (blank 1024)) 0x4C 1 0 8 1).buffer (11 ∷ 12 ∷ 13 ∷ 14 ∷ 15 ∷ 16 ∷ 17 ∷ 18 ∷ replicate 2 0xA5)
    ∷ same (asks named_m (on_m (blank 1024)) 0x65 1 0x30 8 1).buffer (1 ∷ 2 ∷ 3 ∷ 4 ∷ replicate 6 0xA5)
    ∷ same (asks named_m (on_m (blank 1024)) 0x65 1 0x40 3 1).buffer (11 ∷ 12 ∷ 13 ∷ replicate 7 0xA5)
    ∷ same (asks named_p (on_p (blank 1024)) 0x9F 1 0 8 1).buffer (1 ∷ 2 ∷ 3 ∷ 4 ∷ 5 ∷ 6 ∷ 7 ∷ 8 ∷ replicate 2 0xA5)
    -- a register write puts its value in, with a clock more it is 11; past a register's size clocks are rest
    ∷ eqb (sent (latch_to true m) (on_m (blank 1024)) (byte One 0x01 ++ byte One 0x1C)).device.registers.status 0x1C
    ∷ answers (sent (latch_to true m) (on_m (blank 1024)) (byte One 0x01 ++ (byte One 0x1C ++ (0 ∷ [])))) 11 (8 ∷ 0 ∷ 0 ∷ 8 ∷ 1 ∷ [])
    ∷ answers (sent m (on_m (blank 1024)) (byte One 0x05 ++ blank 12)) 0 (8 ∷ 0 ∷ 0 ∷ 8 ∷ 4 ∷ [])
    -- the host refuses a byte more than a register has
    ∷ eqb (answer_number (asks named_m (on_m (blank 1024)) 0x9F 1 0 4 1).answer) 0
    ∷ eqb (answer_number (build_of (reads9_f 5) (replicate 128 0xA5)).answer) 11
    -- power: part P forgets, part M does not
    ∷ same (power_of p (on_p (set (blank 1024) 5 0x77))).lent.memory (blank 1024)
    ∷ eqb (get_or (power_of m (on_m (set (blank 1024) 5 0x77))).lent.memory 5 0) 0x77
    -- arming: a reset right after 66, not once more, and not after something else
    ∷ same (answers_in m (byte One 0x66 ∷ byte One 0x99 ∷ byte One 0x99 ∷ [])) (0 ∷ 0 ∷ 12 ∷ [])
    ∷ same (answers_in m (byte One 0x66 ∷ byte One 0x00 ∷ byte One 0x99 ∷ [])) (0 ∷ 0 ∷ 12 ∷ [])
    -- sleep: nothing but AB is known, and a power cycle wakes too
    ∷ same (answers_in m (byte One 0xB9 ∷ byte One 0x06 ∷ byte One 0xAB ∷ byte One 0x06 ∷ [])) (0 ∷ 6 ∷ 0 ∷ 0 ∷ [])
    ∷ not (power_of (sleep_to true m) (on_m (blank 1024))).device.volatile.asleep
    -- the latch and bursts: write mode 0 wants it for each burst, 1 for none, 2 keeps it up from burst to burst
    ∷ same (answers_in (in_write_mode 0) (stores ∷ byte One 0x06 ∷ stores ∷ stores ∷ [])) (8 ∷ 0 ∷ 0 ∷ 8 ∷ [])
    ∷ same (answers_in (in_write_mode 1) (stores ∷ stores ∷ [])) (0 ∷ 0 ∷ [])
    ∷ same (answers_in (in_write_mode 2) (byte One 0x06 ∷ stores ∷ stores ∷ byte One 0x04 ∷ stores ∷ [])) (0 ∷ 0 ∷ 0 ∷ 0 ∷ 8 ∷ [])
    -- the latch and register writes (document 02, P3): in each write mode it is up before a status is written, as bit 1 of the status shows, and down after it,
    -- so that a burst that needs it is answered 8; the same where the write mode itself is written; a register write that is declined leaves it up; and in each
    -- write mode a second register write is answered 8
    ∷ all (map (λ mode. eqb (status_seen (left_in (in_write_mode mode) (byte One 0x06 ∷ []))) 0x02) (0 ∷ 1 ∷ 2 ∷ []))
    ∷ all (map (λ mode. eqb (status_seen (left_in (in_write_mode mode) (byte One 0x06 ∷ protects ∷ []))) 0x04) (0 ∷ 1 ∷ 2 ∷ []))
    ∷ same (answers_in (in_write_mode 0) (byte One 0x06 ∷ protects ∷ stores ∷ [])) (0 ∷ 0 ∷ 8 ∷ [])
    ∷ same (answers_in (in_write_mode 1) (byte One 0x06 ∷ protects ∷ stores ∷ [])) (0 ∷ 0 ∷ 0 ∷ [])
    ∷ same (answers_in (in_write_mode 2) (byte One 0x06 ∷ stores ∷ protects ∷ stores ∷ [])) (0 ∷ 0 ∷ 0 ∷ 8 ∷ [])
    ∷ same (answers_in (in_write_mode 2) (byte One 0x06 ∷ configures 0 ∷ stores ∷ [])) (0 ∷ 0 ∷ 8 ∷ [])
    ∷ same (answers_in (in_write_mode 1) (byte One 0x06 ∷ configures 2 ∷ stores ∷ [])) (0 ∷ 0 ∷ 8 ∷ [])
    ∷ same (answers_in (in_write_mode 2) (byte One 0x06 ∷ misprotects ∷ stores ∷ [])) (0 ∷ 10 ∷ 0 ∷ [])
    ∷ all (map (λ mode. same (answers_in (in_write_mode mode) (byte One 0x06 ∷ protects ∷ protects ∷ [])) (0 ∷ 0 ∷ 8 ∷ [])) (0 ∷ 1 ∷ 2 ∷ []))
    -- a refusal: the output is as it was, and the chip is still armed
    ∷ (let r = transact_of (arm_to true m) (on_m (blank 1024)) (0x10 ∷ []) (7 ∷ 8 ∷ []) in answers r 2 (blank 5) && (same r.output (7 ∷ 8 ∷ []) && r.device.volatile.armed))
    ∷ []

pub further_hold : T (all further)
unfolding further answers_in left_in power_of kind_asked beyond overlong spread_all built_of build_of seen_in strange collected collect_of shift_of gather_from spelled group_of meaning_of mapped_of status_allowed cr3_allowed cr4_allowed configurations_allowed mode_register_allowed mode_allowed zeros mram_registers psram_registers mram_volatile psram_volatile mram_identity psram_identity valid_of in_range underway_valid factless read_span write_span place_in shut_memory section_shut protected_of area_protected_of asleep_for refused_at stopped decided command_clocks wires_for address_clocks wait_clocks body_for kind_read address_read reading_of bytes_in data_bytes protected_at put_at how_many all_shut take_each byte_read level_at along judge unarmed latch_missing offered sized_for room_for sampled sent_bytes facts_of stored_by output_of over clocked_of transact_of
further_hold = tt
