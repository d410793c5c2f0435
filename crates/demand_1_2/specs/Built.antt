-- What the host builds falls into the phases that the device reads: the laws behind Understood.antt.
-- Assumes nothing.
use Rattle.std.specs.Prelude.{◌≡◌, ℕ, zero, suc, ◌*◌, ◌/◌, ◌<◌, min, Bool, cond, ◌&&◌, List, [], ◌∷◌, ◌++◌, ltb, leb, length, take, drop}
use Rattle.std.proofs.Math.Path.{refl, ap}
use Rattle.std.proofs.Common.{sym, ◌∙◌, mul-div_cancel, arith, drop_of_length-le, take_all}
use Rattle.std.proofs.Math.Nat.{zero-min, min-zero, suc-min-suc, min-eq_left}
use Rattle.std.proofs.Math.Bool.{true, false, not}
use Rattle.std.proofs.lemmas.List.{length-replicate}
use Rattle.std.proofs.Math.Seq.{take_at, drop_at}
use borrow.Author.Tests.{ltb-false, le-leb}
use Rattle.basis.specs.Truth.{untrue}
use Rattle.units.specs.declared.Clocks.{Clocks}
use Rattle.units.specs.declared.Bytes.{Bytes}
use Rattle.units.specs.declared.Wires.{Wires}
use Rattle.units.specs.Units.{clocks, bytes, per_byte, clocks_of}
use Rattle.units.specs.Laws.{per_byte_pos}
use Rattle.units.specs.declared.Wires.TheVariants.{One, Two, Four}
use Rattle.wires.specs.Bits.{gather_from, gather, spelled}
use Rattle.wires.proofs.Laws.{spread_length}
use Rattle.parts.specs.Parts.{part_of, family_of, known_part}
use Rattle.kinds.specs.declared.Kind.{Kind}
use Rattle.kinds.specs.declared.Kind.TheVariants as Kinds
use Rattle.opcodes.specs.Opcodes.{kind_of}
use Rattle.kinds.specs.Tests.{unknown}
use Rattle.commands.specs.declared.plans.Address.{Address}
use Rattle.commands.specs.declared.plans.Address.TheVariants.{Absent, InMemory, InArea, InMap, LowNibbleZero, Ignored}
use Rattle.commands.specs.declared.plans.Body.{Body}
use Rattle.commands.specs.declared.plans.Body.TheVariants.{Nothing, FixedRead, AnyRead, FixedWrite, AnyWrite}
use Rattle.commands.specs.Plans.{address_of, wait_of, body_of, waits_by_register, reads, writes}
use Rattle.commands.specs.PlanLaws.{wait_by}
use Rattle.record.specs.declared.devices.Setting.{Setting}
use Rattle.state_check.specs.States.{mode_allowed}
use Rattle.places.specs.Addresses.{allowed_of}
use Rattle.paper.specs.InForce.{asleep_for, refused_at, stopped, decided, address_length, command_clocks, wires_for, address_clocks, wait_clocks, body_for}
use Rattle.paper.specs.Reading.{many, kind_read, address_read, data_part, rest_part, reading_of, data_bytes}
use Rattle.paper.specs.Answers.{short_data, long_rest}
use Rattle.paper.specs.Laws.{sent_many}
use Rattle.paper.specs.Transaction.{sampled}
use Rattle.paper.specs.Building.{Order, many_bytes, sent_on, kind_asked, asked, addressed, beyond, too_few, too_many, spread_all, silent, data_sent, built_of}
use Rattle.demand_1_2.specs.Driven.{blank}
use Rattle.demand_1_2.specs.Sent.{bytewise, sampled_silent, sampled_data, byte_read_lem, address_read_lem, data_read}
use Rattle.demand_1_2.specs.Planned.{address_in, allowed_in, body_in_lem, Alike}

-- ---- the setting of a device that an order is for
pub record Suits (o : Order) (s : Setting) : Type 0 where
  pub part : s.part ≡ part_of o.part
  pub wires : s.wires ≡ sent_on o
  pub awake : s.asleep ≡ false
  pub waits : waits_by_register (kind_asked o) ≡ true → s.registers.cr2 ≡ o.cr2
  pub allows : refused_at s (kind_asked o) o.address ≡ false

-- ---- what an order that is built has
-- the kind is the opcode's
kind_known : (o : Order) (b : Bool) → unknown (cond b (kind_of (family_of (part_of o.part)) (sent_on o) o.opcode) Kinds.Unknown) ≡ false
    → cond b (kind_of (family_of (part_of o.part)) (sent_on o) o.opcode) Kinds.Unknown ≡ kind_of (family_of (part_of o.part)) (sent_on o) o.opcode
kind_known o true e = refl
kind_known o false e = untrue (sym e)

kind_is : (o : Order) → unknown (kind_asked o) ≡ false → kind_asked o ≡ kind_of (family_of (part_of o.part)) (sent_on o) o.opcode
unfolding kind_asked
kind_is o e = kind_known o (known_part o.part && mode_allowed (family_of (part_of o.part)) o.mode) e

-- ---- samples put together phase by phase are read phase by phase
full_of : (n : ℕ) (xs : List ℕ) → length xs ≡ n → leb n (length xs) ≡ true
full_of n xs e = le-leb n (length xs) (omega arith)

module _ (s : Setting) (c a w xs : List ℕ) (k : Kind) (n : ℕ)
    (hk : kind_of (family_of s.part) s.wires (gather s.wires c) ≡ k) (hc : length c ≡ (command_clocks s).0)
    (hn : gather (wires_for s k) a ≡ n) (ha : length a ≡ (address_clocks s k).0)
    (hw : length w ≡ (wait_clocks s k n).0) where
  kind_built : kind_read s c ≡ k
  unfolding kind_read
  kind_built = rw (full_of (command_clocks s).0 c hc) hk

  address_built : address_read s k a ≡ n
  unfolding address_read
  address_built = rw (full_of (address_clocks s k).0 a ha) hn

  pub parts_built :
      reading_of s (c ++ (a ++ (w ++ xs)))
      ≡ record {
        kind = k;
        address = n;
        command_part = c;
        address_part = a;
        wait_part = w;
        data_part = data_part (body_for s k n) (wires_for s k) xs;
        rest_part = rest_part (body_for s k n) (wires_for s k) xs;
      }
  unfolding reading_of
  parts_built =
      rw (
        take_at c (a ++ (w ++ xs)) (command_clocks s).0 hc,
        drop_at c (a ++ (w ++ xs)) (command_clocks s).0 hc,
        kind_built,
        take_at a (w ++ xs) (address_clocks s k).0 ha,
        drop_at a (w ++ xs) (address_clocks s k).0 ha,
        address_built,
        take_at w xs (wait_clocks s k n).0 hw,
        drop_at w xs (wait_clocks s k n).0 hw,
      )

-- ---- the plan that the host sends by is the plan in force
module _ (o : Order) (s : Setting) (m : Suits o s) (known : unknown (kind_asked o) ≡ false) where
  abbrev pub k : Kind
  k = kind_asked o

  abbrev pub n : ℕ
  n = address_in (address_of k) o.address

  pub allowed : allowed_of s (address_of k) o.address ≡ true
  unfolding refused_at
  allowed = by (allowed_of s (address_of k) o.address) m.allows
    where
      by : (b : Bool) → not b ≡ false → b ≡ true
      by true e = refl
      by false e = untrue (sym e)

  pub goes : stopped s k ≡ false
  unfolding stopped asleep_for
  goes = rw (m.awake, known)

  pub unrefused : refused_at s k n ≡ false
  unfolding refused_at
  unrefused = rw (allowed_in s (address_of k) o.address allowed)

  pub free : decided s k n ≡ false
  unfolding decided
  free = rw (goes, unrefused)

  pub body_same : body_for s k n ≡ body_of s.part k o.address
  unfolding body_for
  body_same = rw free (body_in_lem s.part k o.address)

  -- ---- the phases, in the device's words
  abbrev pub v : Wires
  v = wires_for s k

  abbrev pub sent_command : List ℕ
  sent_command = spelled s.wires (per_byte s.wires) o.opcode

  abbrev pub sent_address : List ℕ
  sent_address = spelled v (address_length (address_of k) v).0 o.address

  abbrev pub sent_wait : List ℕ
  sent_wait = silent (wait_of k s.wires o.cr2)

  abbrev pub sent_data : List ℕ
  sent_data = data_sent (asked k (body_of s.part k o.address)) v o

  pub built_so : built_of o k ≡ sent_command ++ (sent_address ++ (sent_wait ++ sent_data))
  unfolding built_of wires_for
  built_so = rw (m.wires, m.part)

  pub command_full : length sent_command ≡ (command_clocks s).0
  unfolding command_clocks
  command_full = spread_length s.wires (per_byte s.wires) o.opcode

  pub address_full : length sent_address ≡ (address_clocks s k).0
  unfolding address_clocks
  address_full = rw goes (spread_length v (address_length (address_of k) v).0 o.address)

  pub wait_full : length sent_wait ≡ (wait_clocks s k n).0
  unfolding wait_clocks
  wait_full = rw free (length-replicate {A = ℕ} (wait_of k s.wires o.cr2).0 0 ∙ ap (λ (c : Clocks). c.0) (sym (wait_by k s.wires s.registers.cr2 o.cr2 m.waits)))

  pub command_spelled : o.opcode < 256 → kind_of (family_of s.part) s.wires (gather s.wires sent_command) ≡ k
  command_spelled h = ap (kind_of (family_of s.part) s.wires) (byte_read_lem s.wires o.opcode h) ∙ rw (m.part, m.wires) (sym (kind_is o known))

  -- the address that the samples spell is the one given, or 0 where there is none
  pub address_spelled : beyond k o.address ≡ false → gather v sent_address ≡ n
  unfolding beyond gather_from spelled
  address_spelled e = by (address_of k) e
    where
      fits : (ltb 0xFFFFFF o.address) ≡ false → gather v (spelled v (3 * per_byte v) o.address) ≡ o.address
      fits e = address_read_lem v o.address (let h = ltb-false 0xFFFFFF o.address e in omega arith)

      by : (a : Address) → (addressed a && ltb 0xFFFFFF o.address) ≡ false → gather v (spelled v (address_length a v).0 o.address) ≡ address_in a o.address
      by Absent e = refl
      by InMemory e = fits e
      by InArea e = fits e
      by InMap e = fits e
      by LowNibbleZero e = fits e
      by Ignored e = fits e

-- ---- the data
-- how many bytes a read of so many drives: of a register no more than it has
abbrev pub bytes_driven : Body → Bytes → Bytes
bytes_driven Nothing asked = bytes 0
bytes_driven (FixedRead b) asked = bytes (min asked.0 b.0)
bytes_driven AnyRead asked = asked
bytes_driven (FixedWrite b) asked = bytes 0
bytes_driven AnyWrite asked = bytes 0

-- what the device has of the data that is sent
pub record Carried (b : Body) (w : Wires) (o : Order) (xs : List ℕ) : Type 0 where
  pub enough : short_data b w (many (data_part b w xs)) ≡ false
  pub ended : long_rest b (many (rest_part b w xs)) ≡ false
  pub written : writes b ≡ true → data_bytes w (data_part b w xs) ≡ o.written
  pub sent_all : writes b ≡ true → many (data_part b w xs) ≡ clocks_of w (many_bytes o.written)
  pub wanted : reads b ≡ true → data_part b w xs ≡ blank ((bytes_driven b o.wanted).0 * per_byte w)
  pub samples : sampled xs ≡ true

few_of : (w : Wires) (b n : ℕ) → min (b * per_byte w) (n * per_byte w) ≡ min n b * per_byte w
few_of One b n = omega arith
few_of Two b n = omega arith
few_of Four b n = omega arith

take_blank : (n m : ℕ) → take n (blank m) ≡ blank (min n m)
take_blank zero m = ap blank (sym (zero-min m))
take_blank (suc n) zero = ap blank (sym (min-zero (suc n)))
take_blank (suc n) (suc m) = ap (λ (l : List ℕ). 0 ∷ l) (take_blank n m) ∙ ap blank (sym (suc-min-suc n m))

-- so many bytes are what their clocks carry
whole_data : (w : Wires) (bs : List ℕ) → length (spread_all w bs) / per_byte w ≡ length bs
whole_data w bs = rw (sent_many w bs) (mul-div_cancel (length bs) (per_byte_pos w))

module _ (w : Wires) (o : Order) (h : bytewise o.written ≡ true) where
  pub carried : (b a : Body) → Alike b a → too_few a o.wanted (many_bytes o.written) ≡ false → too_many a o.wanted (many_bytes o.written) ≡ false
      → Carried b w o (data_sent a w o)
  carried Nothing a e few lots = rw e (record { enough = refl; ended = refl; written = λ z. untrue z; sent_all = λ z. untrue z; wanted = λ z. untrue z; samples = sampled_silent 0 })
  carried (FixedRead b) a (c, e) few lots =
      rw e (record {
        enough = refl;
        ended = refl;
        written = λ z. untrue z;
        sent_all = λ z. untrue z;
        wanted = λ z. take_blank (b.0 * per_byte w) (o.wanted.0 * per_byte w) ∙ ap blank (few_of w b.0 o.wanted.0);
        samples = sampled_silent (o.wanted.0 * per_byte w);
      })
  carried AnyRead a e few lots =
      rw e (record { enough = refl; ended = refl; written = λ z. untrue z; sent_all = λ z. untrue z; wanted = λ z. refl; samples = sampled_silent (o.wanted.0 * per_byte w) })
  carried (FixedWrite b) a e few lots =
      let xs = spread_all w o.written in
      let few₁ = rw e at few in
      let lots₁ = rw e at lots in
      let l : length xs ≡ b.0 * per_byte w =
      sent_many w o.written ∙ ap (λ (n : ℕ). n * per_byte w) (omega (arith, ltb-false (length o.written) b.0 few₁, ltb-false b.0 (length o.written) lots₁)) in
      let t : take (b.0 * per_byte w) xs ≡ xs = take_all (b.0 * per_byte w) xs (omega arith) in
      let r : drop (b.0 * per_byte w) xs ≡ [] = drop_of_length-le xs {i = b.0 * per_byte w} (omega arith) in
      rw e (record {
        enough = rw (t, whole_data w o.written) few₁;
        ended = rw r refl;
        written = λ z. rw t (data_read w o.written h);
        sent_all = λ z. rw t (ap clocks (sent_many w o.written));
        wanted = λ z. untrue z;
        samples = sampled_data w o.written;
      })
  carried AnyWrite a e few lots =
      let few₁ = rw e at few in
      rw e (record {
        enough = rw (whole_data w o.written) few₁;
        ended = refl;
        written = λ z. data_read w o.written h;
        sent_all = λ z. ap clocks (sent_many w o.written);
        wanted = λ z. untrue z;
        samples = sampled_data w o.written;
      })

-- where no more is asked for than there is, all of it is driven
pub shown_all : (b : Body) (asked written : Bytes) → reads b ≡ true → too_many b asked written ≡ false → bytes_driven b asked ≡ asked
shown_all Nothing asked written e few = untrue e
shown_all (FixedRead b) asked written e few = ap bytes (min-eq_left (ltb-false b.0 asked.0 few))
shown_all AnyRead asked written e few = refl
shown_all (FixedWrite b) asked written e few = untrue e
shown_all AnyWrite asked written e few = untrue e
