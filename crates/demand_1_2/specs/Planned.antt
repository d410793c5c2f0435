-- What the host takes a command for and what the device does: the same plan, kind by kind.
-- Assumes nothing.
use Rattle.std.specs.Prelude.{◌≡◌, ℕ, Bool, true, false, cond, List, Option, Some, None}
use Rattle.std.proofs.Math.Path.{refl}
use Rattle.std.proofs.Common.{sym, ◌∙◌}
use Rattle.kinds.specs.declared.Register.{Register}
use Rattle.basis.specs.Truth.{untrue}
use Rattle.units.specs.declared.Bytes.{Bytes}
use Rattle.units.specs.Units.{bytes}
use Rattle.parts.specs.declared.Part.{Part}
use Rattle.parts.specs.Parts.{family_of}
use Rattle.kinds.specs.declared.Source.TheVariants as From
use Rattle.kinds.specs.declared.Target.{Target}
use Rattle.kinds.specs.declared.Target.TheVariants as Into
use Rattle.kinds.specs.declared.Kind.{Kind}
use Rattle.kinds.specs.declared.Kind.TheVariants.{Unknown, Plain, Read, Write}
use Rattle.commands.specs.declared.plans.Address.{Address}
use Rattle.commands.specs.declared.plans.Address.TheVariants.{Absent, InMemory, InArea, InMap, LowNibbleZero, Ignored}
use Rattle.commands.specs.declared.plans.Body.{Body}
use Rattle.commands.specs.declared.plans.Body.TheVariants.{Nothing, FixedRead, AnyRead, FixedWrite, AnyWrite}
use Rattle.commands.specs.Registers.{mapped_of}
use Rattle.commands.specs.Plans.{address_of, mapped_body, write_body, body_of, reads}
use Rattle.record.specs.declared.devices.Device.{Device}
use Rattle.record.specs.declared.devices.Setting.{Setting}
use Rattle.changes.specs.Latches.{latch_missing}
use Rattle.changes.specs.Laws.{no_latch}
use Rattle.places.specs.Addresses.{is_mapped, allowed_of}
use Rattle.paper.specs.Storing.{Lent}
use Rattle.paper.specs.Driving.{byte_read}
use Rattle.paper.specs.Answers.{unarmed, reserved_for}
use Rattle.paper.specs.Building.{asked, addressed}

-- ---- the address that the device reads: the one given, and 0 where the command has none
abbrev pub address_in : Address → ℕ → ℕ
address_in k a = cond (addressed k) a 0

-- what allows the one given allows that
pub allowed_in : (s : Setting) (k : Address) (a : ℕ) → allowed_of s k a ≡ true → allowed_of s k (address_in k a) ≡ true
allowed_in s Absent a e = refl
allowed_in s InMemory a e = e
allowed_in s InArea a e = e
allowed_in s InMap a e = e
allowed_in s LowNibbleZero a e = e
allowed_in s Ignored a e = refl

-- and the command has the same data
pub body_in_lem : (p : Part) (k : Kind) (a : ℕ) → body_of p k (address_in (address_of k) a) ≡ body_of p k a
body_in_lem p Unknown a = refl
body_in_lem p (Plain c) a = refl
body_in_lem p (Read (From.Register r)) a = refl
body_in_lem p (Read From.Map) a = refl
body_in_lem p (Read From.Mode) a = refl
body_in_lem p (Read From.Identity) a = refl
body_in_lem p (Read (From.Memory r)) a = refl
body_in_lem p (Read From.Area) a = refl
body_in_lem p (Write t) a = refl

-- of the same bytes
pub read_in : (d : Device) (k : Kind) (a : ℕ) (l : Lent) (i : Bytes) → byte_read d k (address_in (address_of k) a) l i ≡ byte_read d k a l i
unfolding byte_read
read_in d Unknown a l i = refl
read_in d (Plain c) a l i = refl
read_in d (Read (From.Register r)) a l i = refl
read_in d (Read From.Map) a l i = refl
read_in d (Read From.Mode) a l i = refl
read_in d (Read From.Identity) a l i = refl
read_in d (Read (From.Memory r)) a l i = refl
read_in d (Read From.Area) a l i = refl
read_in d (Write t) a l i = refl

-- ---- the data: the host's is the device's, but for the size of a register that 65 reads
abbrev pub Alike : Body → Body → Type 0
Alike Nothing a = a ≡ Nothing
Alike (FixedRead b) a = (c : Bytes) × (a ≡ FixedRead c)
Alike AnyRead a = a ≡ AnyRead
Alike (FixedWrite b) a = a ≡ FixedWrite b
Alike AnyWrite a = a ≡ AnyWrite

alike_self : (b : Body) → Alike b b
alike_self Nothing = refl
alike_self (FixedRead b) = (b, refl)
alike_self AnyRead = refl
alike_self (FixedWrite b) = refl
alike_self AnyWrite = refl

mapped_alike : (m : Option Register) → is_mapped m ≡ true → Alike (mapped_body m) (FixedRead (bytes 8))
mapped_alike (Some r) e = (bytes 8, refl)
mapped_alike None e = untrue e

pub alike : (s : Setting) (k : Kind) (a : ℕ) → allowed_of s (address_of k) a ≡ true → Alike (body_of s.part k a) (asked k (body_of s.part k a))
alike s Unknown a e = refl
alike s (Plain c) a e = refl
alike s (Read (From.Register r)) a e = (_, refl)
alike s (Read From.Map) a e = mapped_alike (mapped_of s.part a) e
alike s (Read From.Mode) a e = (_, refl)
alike s (Read From.Identity) a e = (_, refl)
alike s (Read (From.Memory r)) a e = refl
alike s (Read From.Area) a e = refl
alike s (Write t) a e = alike_self (write_body t)

-- ---- a read asks nothing of latch and arming, and brings no value
pub record Calm (s : Setting) (up on : Bool) (v : List ℕ) (k : Kind) : Type 0 where
  pub armed : unarmed on k ≡ false
  pub latch : latch_missing (family_of s.part) s.registers.cr4 up k ≡ false
  pub value : reserved_for s.part k v ≡ false

write_no_read : (t : Target) → reads (write_body t) ≡ false
write_no_read (Into.Register r) = refl
write_no_read Into.Mode = refl
write_no_read (Into.Memory r) = refl
write_no_read Into.Area = refl

module _ (s : Setting) (up on : Bool) (v : List ℕ) where
  pub calm : (k : Kind) (a : ℕ) → reads (body_of s.part k a) ≡ true → Calm s up on v k
  unfolding unarmed
  calm Unknown a e = untrue e
  calm (Plain c) a e = untrue e
  calm (Read r) a e = record { armed = refl; latch = no_latch (family_of s.part) s.registers.cr4 up (Read r) refl; value = refl }
  calm (Write t) a e = untrue (sym (write_no_read t) ∙ e)

-- ---- a command other than 65 is asked for just what it has
pub asked_same : (k : Kind) (b : Body) → (k ≡ Read From.Map → ⊥) → asked k b ≡ b
asked_same Unknown b e = refl
asked_same (Plain c) b e = refl
asked_same (Read (From.Register r)) b e = refl
asked_same (Read From.Map) b e = absurd (e refl)
asked_same (Read From.Mode) b e = refl
asked_same (Read From.Identity) b e = refl
asked_same (Read (From.Memory r)) b e = refl
asked_same (Read From.Area) b e = refl
asked_same (Write t) b e = refl
