-- The image in the stretches that the code writes.
use Rattle.std.specs.Prelude.{ℕ, List, [], ◌∷◌, ◌++◌, replicate}
use Rattle.record.specs.declared.devices.Underway.{Underway}
use Rattle.record.specs.declared.devices.Device.{Device}
use Rattle.image.specs.Image.{bit_of, four_of, eight_of}

abbrev pub bare_bytes : Device → List ℕ
bare_bytes d =
    let r = d.registers in
    let v = d.volatile in
    d.make.part
    ∷ d.make.n
    ∷ 0
    ∷ 0
    ∷ r.status
    ∷ r.protection
    ∷ r.cr1
    ∷ r.cr2
    ∷ r.cr3
    ∷ r.cr4
    ∷ r.mr0
    ∷ v.mode
    ∷ bit_of v.latch
    ∷ bit_of v.armed
    ∷ bit_of v.asleep
    ∷ bit_of v.toggle
    ∷ []

abbrev pub open_bytes : Underway → List ℕ
open_bytes u = bit_of u.selected ∷ u.opcode ∷ 0 ∷ 0 ∷ (four_of u.clocks.0 ++ (four_of u.address ++ four_of u.number))

unfoldable pub front_bytes : Device → List ℕ
front_bytes d = bare_bytes d ++ (eight_of d.identity.device ++ (eight_of d.identity.unique ++ (eight_of d.identity.serial ++ replicate 24 0)))

unfoldable pub back_bytes : Underway → List ℕ
back_bytes u = open_bytes u ++ (eight_of u.value ++ replicate 40 0)
