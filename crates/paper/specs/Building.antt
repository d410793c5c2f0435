-- The host half, first: a command becomes samples. Document 01, "The host half", first paragraph (D30).
use Rattle.std.specs.Prelude.{ℕ, Bool, true, false, cond, ◌&&◌, ◌||◌, List, [], ◌∷◌, ◌++◌, ltb, length, replicate}
use Rattle.units.specs.declared.Clocks.{Clocks}
use Rattle.units.specs.declared.Bytes.{Bytes}
use Rattle.units.specs.declared.Wires.{Wires}
use Rattle.units.specs.Units.{clocks, bytes, clocks_of, byte_clocks, fewer, fewer_bytes, longest}
use Rattle.basis.specs.Decisions.{first_of}
use Rattle.wires.specs.Bits.{spread}
use Rattle.parts.specs.Parts.{part_of, family_of, known_part}
use Rattle.kinds.specs.declared.Source.{Source}
use Rattle.kinds.specs.declared.Source.TheVariants as From
use Rattle.kinds.specs.declared.Kind.{Kind}
use Rattle.kinds.specs.declared.Kind.TheVariants as Kinds
use Rattle.opcodes.specs.Opcodes.{kind_of}
use Rattle.kinds.specs.Tests.{unknown}
use Rattle.commands.specs.declared.plans.Address.{Address}
use Rattle.commands.specs.declared.plans.Address.TheVariants.{Absent, InMemory, InArea, InMap, LowNibbleZero, Ignored}
use Rattle.commands.specs.declared.plans.Body.{Body}
use Rattle.commands.specs.declared.plans.Body.TheVariants.{Nothing, FixedRead, AnyRead, FixedWrite, AnyWrite}
use Rattle.commands.specs.Plans.{later_wires, address_of, waits_by_register, wait_of, body_of}
use Rattle.record.specs.declared.answers.Answer.{Answer}
use Rattle.record.specs.declared.answers.Answer.TheVariants.{Done, Size, Short, Unknown, Address as Refused, Reserved, Long}
use Rattle.record.specs.Devices.{mode_wires}
use Rattle.record.specs.Answers.{is_done}
use Rattle.state_check.specs.States.{mode_allowed}
use Rattle.paper.specs.InForce.{address_length}
use Rattle.paper.specs.Reading.{many}
use Rattle.paper.specs.Transaction.{over}

-- what the host is asked to build: a read has a number of bytes, a write has its bytes
pub record Order : Type 0 where
  pub part : ℕ
  pub opcode : ℕ
  pub mode : ℕ
  pub address : ℕ
  pub cr2 : ℕ
  pub written : List ℕ
  pub wanted : Bytes

-- the bytes of a list
abbrev pub many_bytes : List ℕ → Bytes
many_bytes bs = bytes (length bs)

-- the wires of the command, and its kind; a part or a mode that there is not has no kind
abbrev pub sent_on : Order → Wires
sent_on o = mode_wires o.mode

unfoldable pub kind_asked : Order → Kind
kind_asked o = cond (known_part o.part && mode_allowed (family_of (part_of o.part)) o.mode) (kind_of (family_of (part_of o.part)) (sent_on o) o.opcode) Kinds.Unknown

-- The data that the host may ask for. It does not look at 65's map: that takes up to eight bytes whatever the address (D30).
abbrev pub asked_of : Source → Body → Body
asked_of (From.Register r) b = b
asked_of From.Map b = FixedRead (bytes 8)
asked_of From.Mode b = b
asked_of From.Identity b = b
asked_of (From.Memory r) b = b
asked_of From.Area b = b

abbrev pub asked : Kind → Body → Body
asked Kinds.Unknown b = b
asked (Kinds.Plain c) b = b
asked (Kinds.Read s) b = asked_of s b
asked (Kinds.Write t) b = b

abbrev pub body_asked : Order → Kind → Body
body_asked o k = asked k (body_of (part_of o.part) k o.address)

-- ---- the refusals
abbrev pub addressed : Address → Bool
addressed Absent = false
addressed InMemory = true
addressed InArea = true
addressed InMap = true
addressed LowNibbleZero = true
addressed Ignored = true

-- 7: an address that 24 bits do not hold, where the command has one; the PSRAM's 9F has one too (D16)
unfoldable pub beyond : Kind → ℕ → Bool
beyond k address = addressed (address_of k) && ltb 0xFFFFFF address

-- 10 is for the command whose wait stands in configuration 2
unfoldable pub overlong : Kind → ℕ → Bool
overlong k cr2 = waits_by_register k && ltb 0x0F cr2

-- 4: fewer bytes than the command can do with (D22). A register write wants all of its own, everything else one.
abbrev pub too_few : Body → Bytes → Bytes → Bool
too_few Nothing wanted written = false
too_few (FixedRead b) wanted written = fewer_bytes wanted (bytes 1)
too_few AnyRead wanted written = fewer_bytes wanted (bytes 1)
too_few (FixedWrite b) wanted written = fewer_bytes written b
too_few AnyWrite wanted written = fewer_bytes written (bytes 1)

-- 11: more than the size, or anything at all where there is no data
abbrev pub too_many : Body → Bytes → Bytes → Bool
too_many Nothing wanted written = fewer_bytes (bytes 0) written || fewer_bytes (bytes 0) wanted
too_many (FixedRead b) wanted written = fewer_bytes b wanted
too_many AnyRead wanted written = false
too_many (FixedWrite b) wanted written = fewer_bytes b written
too_many AnyWrite wanted written = false

-- ---- the samples
-- each byte of a write, the first first
unfoldable pub spread_all : Wires → List ℕ → List ℕ
spread_all w [] = []
spread_all w (b ∷ bs) = spread w (byte_clocks w) b ++ spread_all w bs

abbrev pub silent : Clocks → List ℕ
silent c = replicate c.0 0

abbrev pub data_sent : Body → Wires → Order → List ℕ
data_sent Nothing w o = []
data_sent (FixedRead b) w o = silent (clocks_of w o.wanted)
data_sent AnyRead w o = silent (clocks_of w o.wanted)
data_sent (FixedWrite b) w o = spread_all w o.written
data_sent AnyWrite w o = spread_all w o.written

-- command, address, wait and data, one after the other
unfoldable pub built_of : Order → Kind → List ℕ
built_of o k =
    let w = sent_on o in
    let v = later_wires k w in
    spread w (byte_clocks w) o.opcode
    ++ (spread v (address_length (address_of k) v) o.address
    ++ (silent (wait_of k w o.cr2)
    ++ data_sent (body_asked o k) v o))

-- THE ROWS, a named test for each, and their order of checking (D54)
pub record Refusals : Type 0 where
  pub unknown : Bool
  pub beyond : Bool
  pub overlong : Bool
  pub too_few : Bool
  pub too_many : Bool
  pub no_room : Bool

abbrev pub refusals_of : Order → Kind → List ℕ → Refusals
refusals_of o k out =
    record {
      unknown = unknown k;
      beyond = beyond k o.address;
      overlong = overlong k o.cr2;
      too_few = too_few (body_asked o k) o.wanted (many_bytes o.written);
      too_many = too_many (body_asked o k) o.wanted (many_bytes o.written);
      no_room = fewer longest (many (built_of o k)) || fewer (many out) (many (built_of o k));
    }

abbrev pub checked : Refusals → List (Bool × Answer)
checked r =
    (r.unknown, Unknown)
    ∷ (r.beyond, Refused)
    ∷ (r.overlong, Reserved)
    ∷ (r.too_few, Short)
    ∷ (r.too_many, Long)
    ∷ (r.no_room, Size)
    ∷ []

abbrev pub build_answer : Order → Kind → List ℕ → Answer
build_answer o k out = first_of Done (checked (refusals_of o k out))

-- What a call of the host half tells, and what it leaves in the buffer. The number is of clocks where samples are built, and of bytes where bytes are
-- gathered: the unit is part of the type (D31).
pub record Told (U : Type 0) : Type 0 where
  pub answer : Answer
  pub number : U
  pub buffer : List ℕ

-- what was made, over the front of the buffer, and how much it is; a refusal writes nothing and tells 0 (D30)
abbrev pub told : {U : Type 0} → (ℕ → U) → Answer → List ℕ → List ℕ → Told U
told unit v xs out =
    cond (is_done v) (record { answer = v; number = unit (length xs); buffer = over xs out }) (record { answer = v; number = unit 0; buffer = out })

-- BUILD: the samples and how many clocks they are, or a refusal
unfoldable pub build_of : Order → List ℕ → Told Clocks
build_of o out =
    let k = kind_asked o in
    told clocks (build_answer o k out) (built_of o k) out
