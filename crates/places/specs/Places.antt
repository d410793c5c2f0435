-- Where the bytes of a burst lie. Every burst runs inside an aligned group and comes round in it; a burst that runs through to the top and on from 0
-- is one whose group is the whole memory, or the whole area (D20). Document 01, "Commands of part M" (the paragraph on memory and area) and "Commands of
-- part P" (last paragraph).
use Rattle.std.specs.Prelude.{ℕ, ◌+◌, ◌*◌, ◌/◌, ◌%◌, Bool, cond, eqb}
use Rattle.units.specs.declared.Bytes.{Bytes}
use Rattle.units.specs.Units.{bytes}
use Rattle.parts.specs.declared.Family.{Family}
use Rattle.parts.specs.declared.Family.TheVariants.{Mram, Psram}
use Rattle.parts.specs.declared.Part.{Part}
use Rattle.parts.specs.Parts.{family_of, area_of}
use Rattle.parts.specs.Lengths.{wrap_length, group_length}
use Rattle.record.specs.declared.devices.Setting.{Setting}
use Rattle.places.specs.Addresses.{memory_size}

-- the PSRAM's group: the toggle picks 32 bytes, and MR0 the length otherwise (D15)
abbrev pub group_in_force : ℕ → Bool → Bytes
group_in_force mr0 toggle = cond toggle (bytes 32) (group_length mr0)

-- the MRAM's reads: CR3[4] turns its groups on (D15)
abbrev pub wrap_in_force : ℕ → ℕ → Bytes
wrap_in_force n cr3 = cond (eqb (cr3 / 16 % 2) 1) (wrap_length cr3) (memory_size n)

-- the PSRAM's group holds for every memory read and write, the MRAM's for memory reads alone (D15)
abbrev pub read_span_for : Family → Setting → Bytes
read_span_for Mram s = wrap_in_force s.n s.registers.cr3
read_span_for Psram s = group_in_force s.registers.mr0 s.toggle

abbrev pub write_span_for : Family → Setting → Bytes
write_span_for Mram s = memory_size s.n
write_span_for Psram s = group_in_force s.registers.mr0 s.toggle

-- the group of memory reads, and of memory writes
unfoldable pub read_span : Setting → Bytes
read_span s = read_span_for (family_of s.part) s

unfoldable pub write_span : Setting → Bytes
write_span s = write_span_for (family_of s.part) s

-- byte i of a burst at an address, in a store of so many bytes and a group of so many: bits past the store are dropped, the group is aligned (D15, D20)
unfoldable pub place_in : Bytes → Bytes → ℕ → Bytes → ℕ
place_in size span address i = address % size.0 / span.0 * span.0 + (address % size.0 + i.0) % span.0

abbrev pub read_place : Setting → ℕ → Bytes → ℕ
read_place s address i = place_in (memory_size s.n) (read_span s) address i

abbrev pub write_place : Setting → ℕ → Bytes → ℕ
write_place s address i = place_in (memory_size s.n) (write_span s) address i

-- reads and writes of the area alike; the PSRAM has none (D15)
abbrev pub area_place_for : Family → Part → ℕ → Bytes → ℕ
area_place_for Mram p address i = place_in (area_of p) (area_of p) address i
area_place_for Psram p address i = 0

abbrev pub area_place : Part → ℕ → Bytes → ℕ
area_place p address i = area_place_for (family_of p) p address i
