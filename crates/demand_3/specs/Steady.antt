-- A command that is no write and no reset looks at neither latch nor arming: answered 0 once, it is answered 0 again whatever they and memory are. A write enable is one (D33).
-- The definitions stand here, the theorems in proofs/Steady.antt.
-- Assumes nothing.
use Rattle.std.specs.Prelude.{◌≡◌, ℕ, false, List}
use Rattle.units.specs.declared.Bytes.{Bytes}
use Rattle.parts.specs.Parts.{family_of}
use Rattle.kinds.specs.declared.Kind.{Kind}
use Rattle.record.specs.declared.devices.Setting.{Setting}
use Rattle.record.specs.Devices.{aim_of}
use Rattle.changes.specs.Latches.{latch_needed}
use Rattle.paper.specs.InForce.{body_for}
use Rattle.paper.specs.Answers.{resetting, reserved_for, shut_data}

-- a command whose answer looks at neither
pub record Steady (s : Setting) (k : Kind) (a : ℕ) : Type 0 where
  pub reset : resetting k ≡ false
  pub latch : latch_needed (family_of s.part) s.registers.cr4 k ≡ false
  pub value : (v : List ℕ) → reserved_for s.part k v ≡ false
  pub burst : (m : Bytes) → shut_data (body_for s k a) (aim_of s k a) m ≡ false
