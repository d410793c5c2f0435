-- Document 02, P4, worked out over the definitions: part 3, the MRAM of 32 Mbit, and beside it part 1, which is as before.
use Rattle.std.specs.Prelude.{◌≡◌, ℕ, ◌+◌, ◌-◌, ◌^◌, Bool, true, not, ◌&&◌, List, [], ◌∷◌, ◌++◌, map, T, eqb, length, get_or, set, replicate}
use Rattle.std.proofs.Math.Path.{refl}
use Rattle.basis.specs.Counting.{how_many}
use Rattle.basis.specs.Examples.{all, same}
use Rattle.units.specs.declared.Wires.TheVariants.{One}
use Rattle.units.specs.Units.{bytes}
use Rattle.wires.specs.Bits.{shift_of, gather_from, spelled, group_of}
use Rattle.parts.specs.declared.Part.{Part}
use Rattle.parts.specs.declared.Part.TheVariants.{M, M32}
use Rattle.parts.specs.Parts.{area_of, offered}
use Rattle.opcodes.specs.Opcodes.{meaning_of}
use Rattle.commands.specs.Registers.{mapped_of}
use Rattle.record.specs.declared.devices.Registers.{Registers}
use Rattle.record.specs.declared.devices.Device.{Device}
use Rattle.record.specs.declared.answers.Answer.TheVariants.{Done, Size, Address}
use Rattle.record.specs.Answers.{answer_number}
use Rattle.record.specs.Devices.{setting_of}
use Rattle.record.specs.Fields.{latch_to}
use Rattle.record.specs.Fresh.{make_of, fresh_of}
use Rattle.changes.specs.Latches.{latch_missing}
use Rattle.changes.specs.Changes.{status_to, protection_to, configurations_to, serial_to}
use Rattle.state_check.specs.Values.{status_allowed, cr3_allowed, cr4_allowed, configurations_allowed, mode_register_allowed}
use Rattle.state_check.specs.States.{mode_allowed, zeros, mram_registers, psram_registers, mram_volatile, psram_volatile, mram_identity, psram_identity, in_range}
use Rattle.paper.specs.Underway.{valid_of, underway_valid, factless}
use Rattle.places.specs.Places.{read_span, write_span, place_in}
use Rattle.places.specs.Protection.{shut_memory, section_shut, protected_of, area_protected_of}
use Rattle.paper.specs.InForce.{asleep_for, refused_at, stopped, decided, command_clocks, wires_for, address_clocks, wait_clocks, body_for}
use Rattle.paper.specs.Reading.{kind_read, address_read, reading_of, bytes_in, data_bytes}
use Rattle.paper.specs.Storing.{Lent, protected_at, put_at, all_shut, take_each}
use Rattle.paper.specs.Driving.{byte_read, level_at, along}
use Rattle.paper.specs.Answers.{judge, unarmed}
use Rattle.paper.specs.Building.{Order, kind_asked, beyond, overlong, spread_all, built_of, build_of}
use Rattle.paper.specs.Collecting.{seen_in, strange, collected, collect_of}
use Rattle.paper.specs.Transaction.{World, sized_for, room_for, sampled, sent_bytes, facts_of, stored_by, output_of, over, clocked_of, transact_of}
use Rattle.paper.specs.Examples.{blank, byte, address, sent, answers, asks}

-- a fresh chip of 2^n bytes, its serial number 1 to 8; and such a memory, of zeros, with the part's area
abbrev chip : Part → ℕ → Device
chip p n = serial_to (1 ∷ 2 ∷ 3 ∷ 4 ∷ 5 ∷ 6 ∷ 7 ∷ 8 ∷ []) (fresh_of (make_of p n) (blank 8) (blank 8))

abbrev on : Part → List ℕ → Lent
on p memory = record { memory = memory; area = blank (area_of p).0 }

-- a configuration 3 beside fresh ones, put in by hand and written
abbrev grouped : ℕ → Device → Device
grouped cr3 d = configurations_to (0x00 ∷ 0x08 ∷ cr3 ∷ 0x05 ∷ []) d

abbrev configures : ℕ → List ℕ
configures cr3 = byte One 0x87 ++ (byte One 0x00 ++ (byte One 0x08 ++ (byte One cr3 ++ byte One 0x05)))

-- the answer to writing it, on a chip with its latch up, and to any transaction of a chip that has it
abbrev writing : Part → ℕ → ℕ
writing p cr3 = answer_number (sent (latch_to true (chip p 10)) (on p (blank 1024)) (configures cr3)).answer

abbrev having : Part → ℕ → ℕ
having p cr3 = answer_number (sent (grouped cr3 (chip p 10)) (on p (blank 1024)) (byte One 0x00)).answer

abbrev codes : List ℕ
codes = 0 ∷ 1 ∷ 2 ∷ 3 ∷ 4 ∷ 5 ∷ 6 ∷ 7 ∷ []

-- such answers for each code, while wrapping is off and while it is on
abbrev for_codes : (ℕ → ℕ) → List ℕ → Bool
for_codes f told = same (map f codes) told && same (map (λ code. f (0x10 + code)) codes) told

abbrev area_at : World → List ℕ → List ℕ
area_at r places = map (λ i. get_or r.lent.area i 0) places

-- two bytes to the area
abbrev area_write : ℕ → List ℕ
area_write a = byte One 0x42 ++ (address One a ++ (byte One 1 ++ byte One 2))

-- whether a status protects a place of the largest memory
abbrev shut : ℕ → ℕ → Bool
shut status place = protected_of (setting_of (status_to status (chip M32 22))) place

-- Table 15: the status of each share of 1/64 to 1/2 at the top, and where that share begins
abbrev uppers : List (ℕ × ℕ)
uppers = (0x04, 0x3F0000) ∷ (0x08, 0x3E0000) ∷ (0x0C, 0x3C0000) ∷ (0x10, 0x380000) ∷ (0x14, 0x300000) ∷ (0x18, 0x200000) ∷ []

abbrev values : Registers → List ℕ
values r = r.status ∷ r.protection ∷ r.cr1 ∷ r.cr2 ∷ r.cr3 ∷ r.cr4 ∷ r.mr0 ∷ []

-- a write enable, for a part by its number
abbrev enables : ℕ → Order
enables part = record { part = part; opcode = 0x06; mode = 1; address = 0; cr2 = 0; written = []; wanted = bytes 0 }

unfoldable pub examples : List Bool
examples =
    -- a memory read in a group of 1,024: four bytes at 7FEh of 2,048
    (let memory = set (set (set (set (blank 2048) 0x7FE 1) 0x7FF 2) 0x400 3) 0x401 4 in
    same (asks (grouped 0x16 (chip M32 11)) (on M32 memory) 0x03 1 0x7FE 4 1).buffer (1 ∷ 2 ∷ 3 ∷ 4 ∷ replicate 6 0xA5))
    -- the same in one of 512
    ∷ (let memory = set (set (set (set (blank 1024) 0x1FE 1) 0x1FF 2) 0x000 3) 0x001 4 in
    same (asks (grouped 0x15 (chip M32 10)) (on M32 memory) 0x03 1 0x1FE 4 1).buffer (1 ∷ 2 ∷ 3 ∷ 4 ∷ replicate 6 0xA5))
    -- an area write from 1FFh goes on at 000h; 200h is past the area, and on part 1 so is 100h
    ∷ (let r = sent (chip M32 10) (on M32 (blank 1024)) (area_write 0x1FF) in
    answers r 0 (8 ∷ 24 ∷ 0 ∷ 16 ∷ 0 ∷ []) && same (area_at r (0x1FF ∷ 0x000 ∷ 0x0FF ∷ 0x100 ∷ [])) (1 ∷ 2 ∷ 0 ∷ 0 ∷ []))
    ∷ answers (sent (chip M32 10) (on M32 (blank 1024)) (area_write 0x200)) 7 (8 ∷ 24 ∷ 0 ∷ 0 ∷ 16 ∷ [])
    ∷ answers (sent (chip M 10) (on M (blank 1024)) (area_write 0x100)) 7 (8 ∷ 24 ∷ 0 ∷ 0 ∷ 16 ∷ [])
    -- section 1 is 040h to 07Fh; on part 1 it is 020h to 03Fh
    ∷ (let r = sent (protection_to 0x02 (chip M32 10)) (on M32 (blank 1024)) (area_write 0x03F) in same (area_at r (0x03F ∷ 0x040 ∷ [])) (1 ∷ 0 ∷ []))
    ∷ (let r = sent (protection_to 0x02 (chip M32 10)) (on M32 (blank 1024)) (area_write 0x07F) in same (area_at r (0x07F ∷ 0x080 ∷ [])) (0 ∷ 2 ∷ []))
    ∷ answers (sent (protection_to 0x02 (chip M32 10)) (on M32 (blank 1024)) (area_write 0x05F)) 9 (8 ∷ 24 ∷ 0 ∷ 16 ∷ 0 ∷ [])
    ∷ (let r = sent (protection_to 0x02 (chip M 10)) (on M (blank 1024)) (area_write 0x03F) in same (area_at r (0x03F ∷ 0x040 ∷ [])) (0 ∷ 2 ∷ []))
    -- 65 at 80h: the eight bytes of the serial number; on part 1 it is answered 7
    ∷ same (asks (chip M32 10) (on M32 (blank 1024)) 0x65 1 0x80 8 1).buffer (1 ∷ 2 ∷ 3 ∷ 4 ∷ 5 ∷ 6 ∷ 7 ∷ 8 ∷ replicate 2 0xA5)
    ∷ answers (sent (chip M32 10) (on M32 (blank 1024)) (byte One 0x65 ++ (address One 0x80 ++ blank 72))) 0 (8 ∷ 24 ∷ 8 ∷ 64 ∷ 0 ∷ [])
    ∷ answers (sent (chip M 10) (on M (blank 1024)) (byte One 0x65 ++ (address One 0x80 ++ blank 72))) 7 (8 ∷ 24 ∷ 0 ∷ 0 ∷ 72 ∷ [])
    -- code 7 is reserved on part 3, and 5, 6 and 7 on part 1: 10 where it is written, 3 where a record has it, whether wrapping is on or off
    ∷ for_codes (writing M32) (0 ∷ 0 ∷ 0 ∷ 0 ∷ 0 ∷ 0 ∷ 0 ∷ 10 ∷ [])
    ∷ for_codes (having M32) (0 ∷ 0 ∷ 0 ∷ 0 ∷ 0 ∷ 0 ∷ 0 ∷ 3 ∷ [])
    ∷ for_codes (writing M) (0 ∷ 0 ∷ 0 ∷ 0 ∷ 0 ∷ 10 ∷ 10 ∷ 10 ∷ [])
    ∷ for_codes (having M) (0 ∷ 0 ∷ 0 ∷ 0 ∷ 0 ∷ 3 ∷ 3 ∷ 3 ∷ [])
    -- shares of a memory of 2^22 bytes: each upper one begins where Table 15 says, and the byte before it is not protected; all of it is
    ∷ all (map (λ (r : ℕ × ℕ). shut r.0 r.1 && not (shut r.0 (r.1 - 1))) uppers)
    ∷ shut 0x1C 0x000000
    -- and each lower one ends at its share
    ∷ all (map (λ (r : ℕ × ℕ). shut (0x20 + r.0) (0x3FFFFF - r.1) && not (shut (0x20 + r.0) (0x400000 - r.1))) uppers)
    -- an area of 256 bytes is not part 3's, nor one of 512 part 1's
    ∷ eqb (answer_number (sent (chip M32 10) (on M (blank 1024)) (byte One 0x00)).answer) 1
    ∷ eqb (answer_number (sent (chip M 10) (on M32 (blank 1024)) (byte One 0x00)).answer) 1
    -- a fresh chip of part 3 has part 1's registers, as document 01 gives them
    ∷ all (map (λ (p : Part). same (values (chip p 10).registers) (0x00 ∷ 0x00 ∷ 0x00 ∷ 0x08 ∷ 0x00 ∷ 0x05 ∷ 0x00 ∷ [])) (M ∷ M32 ∷ []))
    -- part 4 is none: 1 in a record, 5 in the host half
    ∷ eqb (answer_number (sent (fresh_of (record { part = 4; n = 10 }) (blank 8) (blank 8)) (on M (blank 1024)) (byte One 0x00)).answer) 1
    ∷ same (map (λ part. answer_number (build_of (enables part) (blank 8)).answer) (0 ∷ 1 ∷ 3 ∷ 4 ∷ [])) (5 ∷ 0 ∷ 0 ∷ 5 ∷ [])
    ∷ []

pub examples_hold : T (all examples)
unfolding examples kind_asked beyond overlong spread_all built_of build_of seen_in strange collected collect_of shift_of gather_from spelled group_of meaning_of mapped_of status_allowed cr3_allowed cr4_allowed configurations_allowed mode_register_allowed mode_allowed zeros mram_registers psram_registers mram_volatile psram_volatile mram_identity psram_identity valid_of in_range underway_valid factless read_span write_span place_in shut_memory section_shut protected_of area_protected_of asleep_for refused_at stopped decided command_clocks wires_for address_clocks wait_clocks body_for kind_read address_read reading_of bytes_in data_bytes protected_at put_at how_many all_shut take_each byte_read level_at along judge unarmed latch_missing offered sized_for room_for sampled sent_bytes facts_of stored_by output_of over clocked_of transact_of
examples_hold = tt

-- The largest memory, whatever it holds: part 3 answers 0 to a read of its last byte, and 7 to one past it; part 1 has no such memory.
abbrev reads : ℕ → List ℕ
reads a = byte One 0x03 ++ (address One a ++ blank 8)

module _ (memory : List ℕ) (long : length memory ≡ 2 ^ 22) where
  pub largest : ((sent (chip M32 22) (on M32 memory) (reads 0x3FFFFF)).answer ≡ Done) × ((sent (chip M32 22) (on M32 memory) (reads 0x400000)).answer ≡ Address)
  unfolding shift_of gather_from spelled group_of meaning_of mapped_of status_allowed cr3_allowed cr4_allowed configurations_allowed mode_allowed zeros mram_registers mram_volatile mram_identity valid_of in_range underway_valid factless asleep_for refused_at stopped decided command_clocks wires_for address_clocks wait_clocks body_for kind_read address_read reading_of bytes_in data_bytes how_many all_shut take_each judge unarmed latch_missing offered sized_for room_for sampled sent_bytes facts_of clocked_of transact_of
  largest = (rw long, rw long)

  pub none_of_part_1 : (xs out : List ℕ) → (transact_of (chip M 22) (on M memory) xs out).answer ≡ Size
  unfolding offered sized_for transact_of
  none_of_part_1 xs out = refl
