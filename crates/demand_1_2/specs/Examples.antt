-- THE HOST THEOREM IS NOT EMPTY. Orders, devices and memories that meet every premise of `understood`, computed, so that the theorem says something of each: a read of
-- part P whose address and data travel on four wires; on part M a read of the area, whose wait stands in configuration 2, a read by the register map that asks for more
-- than the register has, and a write that runs past the top of memory; on part M32 a read of the serial number by its map.
-- Assumes nothing.
use Rattle.std.specs.Prelude.{◌≡◌, refl, ℕ, true, List, [], ◌∷◌, replicate}
use Rattle.std.proofs.Common.{lit<, lit≤}
use Rattle.basis.specs.Truth.{untrue}
use Rattle.units.specs.declared.Bytes.{Bytes}
use Rattle.units.specs.Units.{bytes}
use Rattle.wires.specs.Bits.{shift_of, gather_from, spelled}
use Rattle.parts.specs.declared.Part.{Part}
use Rattle.parts.specs.declared.Part.TheVariants.{M, P, M32}
use Rattle.parts.specs.Parts.{area_of, offered}
use Rattle.opcodes.specs.Opcodes.{meaning_of}
use Rattle.commands.specs.Registers.{mapped_of}
use Rattle.record.specs.declared.devices.Device.{Device}
use Rattle.record.specs.Fresh.{make_of, fresh_of}
use Rattle.state_check.specs.Values.{status_allowed, cr3_allowed, cr4_allowed, configurations_allowed, mode_register_allowed}
use Rattle.state_check.specs.States.{mode_allowed, zeros, mram_registers, psram_registers, mram_volatile, psram_volatile, mram_identity, psram_identity, in_range}
use Rattle.paper.specs.Underway.{valid_of, underway_valid, factless}
use Rattle.paper.specs.InForce.{refused_at}
use Rattle.paper.specs.Storing.{Lent}
use Rattle.paper.specs.Transaction.{sized_for, over}
use Rattle.paper.specs.Building.{Order, kind_asked, beyond, overlong, spread_all, built_of, build_of}
use Rattle.demand_1_2.specs.Sent.{bytewise}
use Rattle.demand_1_2.specs.Bytewise.{Bytewise, byte_at_lem}
use Rattle.demand_1_2.specs.Meant.{sent}
use Rattle.demand_1_2.specs.Understood.{Understood, understood}

-- an order of part, opcode, address, bytes to write and number of bytes to read, on one wire, with configuration 2 as in a fresh chip
abbrev asks : ℕ → ℕ → ℕ → List ℕ → Bytes → Order
asks part opcode address written wanted =
    record { part = part; opcode = opcode; mode = 1; address = address; cr2 = 8; written = written; wanted = wanted }

-- room for the samples and for what they drive
abbrev room : List ℕ
room = replicate 128 0

-- fresh chips with some memory
abbrev chip : Part → Device
chip p = fresh_of (make_of p 10) (1 ∷ 2 ∷ 3 ∷ 4 ∷ replicate 4 0) (replicate 8 5)

abbrev lent : Part → Lent
lent p = record { memory = replicate 1024 0x5A; area = replicate (area_of p).0 0xA5 }

-- a chip is made of bytes where its lists are
abbrev values : Device → List ℕ
values d = d.registers.status ∷ d.registers.protection ∷ d.registers.cr1 ∷ d.registers.cr2 ∷ d.registers.cr3 ∷ d.registers.cr4 ∷ d.registers.mr0 ∷ []

module _ (d : Device) (l : Lent) where
  whole : bytewise l.memory ≡ true → bytewise l.area ≡ true → bytewise (values d) ≡ true → bytewise d.identity.device ≡ true
      → bytewise d.identity.unique ≡ true → bytewise d.identity.serial ≡ true → Bytewise d l
  whole m a v device unique serial =
      record {
        memory = m;
        area = a;
        status = byte_at_lem (values d) 0 v;
        protection = byte_at_lem (values d) 1 v;
        cr1 = byte_at_lem (values d) 2 v;
        cr2 = byte_at_lem (values d) 3 v;
        cr3 = byte_at_lem (values d) 4 v;
        cr4 = byte_at_lem (values d) 5 v;
        mr0 = byte_at_lem (values d) 6 v;
        device = device;
        unique = unique;
        serial = serial;
      }

whole_M : Bytewise (chip M) (lent M)
unfolding bytewise
whole_M = whole (chip M) (lent M) refl refl refl refl refl refl

whole_P : Bytewise (chip P) (lent P)
unfolding bytewise
whole_P = whole (chip P) (lent P) refl refl refl refl refl refl

whole_M32 : Bytewise (chip M32) (lent M32)
unfolding bytewise
whole_M32 = whole (chip M32) (lent M32) refl refl refl refl refl refl

-- what the theorem says of an order to a chip
abbrev Says : Order → Device → Lent → Type 0
Says o d l = Understood o d l (sent (build_of o room)) room

-- EB on part P, four bytes
pub quad_read : Says (asks 2 0xEB 0x0003FE [] (bytes 4)) (chip P) (lent P)
unfolding kind_asked beyond overlong spread_all built_of build_of bytewise shift_of gather_from spelled meaning_of mapped_of status_allowed cr3_allowed cr4_allowed configurations_allowed mode_register_allowed mode_allowed zeros mram_registers psram_registers mram_volatile psram_volatile mram_identity psram_identity valid_of in_range underway_valid factless refused_at offered sized_for over
quad_read =
    understood (asks 2 0xEB 0x0003FE [] (bytes 4)) room refl (record { opcode = lit< tt; written = refl }) (chip P)
    (record { part = refl; mode = refl; valid = refl; idle = refl; awake = refl; waits = λ e. untrue e; allows = refl }) (lent P) room
    (record { sized = refl; room = lit≤ tt; whole = whole_P })

-- 4B on part M: the wait is configuration 2's
pub area_read : Says (asks 1 0x4B 0x000010 [] (bytes 3)) (chip M) (lent M)
unfolding kind_asked beyond overlong spread_all built_of build_of bytewise shift_of gather_from spelled meaning_of mapped_of status_allowed cr3_allowed cr4_allowed configurations_allowed mode_register_allowed mode_allowed zeros mram_registers psram_registers mram_volatile psram_volatile mram_identity psram_identity valid_of in_range underway_valid factless refused_at offered sized_for over
area_read =
    understood (asks 1 0x4B 0x000010 [] (bytes 3)) room refl (record { opcode = lit< tt; written = refl }) (chip M)
    (record { part = refl; mode = refl; valid = refl; idle = refl; awake = refl; waits = λ e. refl; allows = refl }) (lent M) room
    (record { sized = refl; room = lit≤ tt; whole = whole_M })

-- 65 at status, eight bytes asked for
pub mapped_read : Says (asks 1 0x65 0x000000 [] (bytes 8)) (chip M) (lent M)
unfolding kind_asked beyond overlong spread_all built_of build_of bytewise shift_of gather_from spelled meaning_of mapped_of status_allowed cr3_allowed cr4_allowed configurations_allowed mode_register_allowed mode_allowed zeros mram_registers psram_registers mram_volatile psram_volatile mram_identity psram_identity valid_of in_range underway_valid factless refused_at offered sized_for over
mapped_read =
    understood (asks 1 0x65 0x000000 [] (bytes 8)) room refl (record { opcode = lit< tt; written = refl }) (chip M)
    (record { part = refl; mode = refl; valid = refl; idle = refl; awake = refl; waits = λ e. untrue e; allows = refl }) (lent M) room
    (record { sized = refl; room = lit≤ tt; whole = whole_M })

-- 02 on part M, three bytes from the last but one
pub write : Says (asks 1 0x02 0x0003FE (1 ∷ 2 ∷ 3 ∷ []) (bytes 0)) (chip M) (lent M)
unfolding kind_asked beyond overlong spread_all built_of build_of bytewise shift_of gather_from spelled meaning_of mapped_of status_allowed cr3_allowed cr4_allowed configurations_allowed mode_register_allowed mode_allowed zeros mram_registers psram_registers mram_volatile psram_volatile mram_identity psram_identity valid_of in_range underway_valid factless refused_at offered sized_for over
write =
    understood (asks 1 0x02 0x0003FE (1 ∷ 2 ∷ 3 ∷ []) (bytes 0)) room refl (record { opcode = lit< tt; written = refl }) (chip M)
    (record { part = refl; mode = refl; valid = refl; idle = refl; awake = refl; waits = λ e. untrue e; allows = refl }) (lent M) room
    (record { sized = refl; room = lit≤ tt; whole = whole_M })

-- 65 at 80h on part M32, the serial number
pub serial_read : Says (asks 3 0x65 0x000080 [] (bytes 8)) (chip M32) (lent M32)
unfolding kind_asked beyond overlong spread_all built_of build_of bytewise shift_of gather_from spelled meaning_of mapped_of status_allowed cr3_allowed cr4_allowed configurations_allowed mode_register_allowed mode_allowed zeros mram_registers psram_registers mram_volatile psram_volatile mram_identity psram_identity valid_of in_range underway_valid factless refused_at offered sized_for over
serial_read =
    understood (asks 3 0x65 0x000080 [] (bytes 8)) room refl (record { opcode = lit< tt; written = refl }) (chip M32)
    (record { part = refl; mode = refl; valid = refl; idle = refl; awake = refl; waits = λ e. untrue e; allows = refl }) (lent M32) room
    (record { sized = refl; room = lit≤ tt; whole = whole_M32 })
