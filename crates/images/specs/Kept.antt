-- KEPT OVER IMAGES: what a call over an accepted image leaves is an accepted image again, whatever is lent and whatever is answered; and the image of a fresh chip is accepted. Document 02, P8.
-- Assumes nothing.
use Rattle.std.specs.Prelude.{◌≡◌, ℕ, ◌*◌, ◌<◌, ◌≤◌, Bool, ◌&&◌, ltb, length, get_or, replicate}
use Rattle.std.proofs.Math.Path.{refl, ap, subst}
use Rattle.std.proofs.Common.{sym, ◌∙◌, le_refl, lt_of_lt_of_le, mul-zero, arith, pow_mono}
use Rattle.std.proofs.Math.Nat.{mod-lt}
use Rattle.std.proofs.Math.Bool.{true, false, cond}
use mathlib.Core.List.{List, []}
use Rattle.std.proofs.Math.Dec.{eqb}
use borrow.Author.Tests.{lt-ltb, ltb-true, leb-true, eqb-true}
use Rattle.basis.specs.Truth.{both_true, untrue, not_untrue}
use Rattle.basis.specs.Decisions.{NoneHolds}
use Rattle.units.specs.declared.Clocks.{Clocks}
use Rattle.units.specs.declared.Wires.{Wires}
use Rattle.units.specs.Units.{clocks, less, up_to, at_most, fewer, longest, wires_of, per_byte, unfinished_of}
use Rattle.units.specs.Laws.{per_byte_pos}
use Rattle.wires.specs.Bits.{fits_in}
use Rattle.wires.proofs.Laws.{fits_lt}
use Rattle.parts.specs.declared.Family.{Family}
use Rattle.parts.specs.declared.Family.TheVariants.{Mram, Psram}
use Rattle.parts.specs.declared.Part.{Part}
use Rattle.parts.specs.declared.Part.TheVariants.{M, P, M32}
use Rattle.parts.specs.Parts.{part_number, part_of, family_of, known_part, offered}
use Rattle.parts.specs.Laws.{part_back}
use Rattle.kinds.specs.declared.Control.{Control}
use Rattle.kinds.specs.declared.Control.TheVariants.{NoOperation, WriteEnable, WriteDisable, ToOne, ToTwo, ToFour, Sleep, Wake, ResetEnable, Reset, Toggle}
use Rattle.kinds.specs.declared.Register.{Register}
use Rattle.kinds.specs.declared.Register.TheVariants as At
use Rattle.kinds.specs.declared.Target.TheVariants as Into
use Rattle.kinds.specs.declared.Kind.{Kind}
use Rattle.kinds.specs.declared.Kind.TheVariants.{Unknown, Plain, Read, Write}
use Rattle.commands.specs.Plans.{writes}
use Rattle.record.specs.declared.answers.Answer.{Answer}
use Rattle.record.specs.declared.answers.Answer.TheVariants.{Done, Size, State}
use Rattle.record.specs.declared.answers.Class.{Class}
use Rattle.record.specs.declared.answers.Class.TheVariants as Of
use Rattle.record.specs.declared.devices.Identities.{Identities}
use Rattle.record.specs.declared.devices.Make.{Make}
use Rattle.record.specs.declared.devices.Underway.{Underway}
use Rattle.record.specs.declared.devices.Device.{Device}
use Rattle.record.specs.declared.devices.Setting.{Setting}
use Rattle.record.specs.Answers.{class_of, is_protected, refuses}
use Rattle.record.specs.Devices.{setting_of}
use Rattle.record.specs.Fields.{closed_of, arm_to}
use Rattle.record.specs.Fresh.{make_of, fresh_identity, fresh_of}
use Rattle.record.specs.Resets.{reset_for}
use Rattle.changes.specs.Changes.{controlled, written_to, burst_done, effect_of, declined_to, settled_in, settled_of}
use Rattle.paper.specs.InForce.{command_clocks, wires_for, address_clocks, body_for}
use Rattle.paper.specs.Reading.{reading_of}
use Rattle.paper.specs.Underway.{kind_at, counts_at, spelling, begun_in, number_reached, reached, factless, valid_of}
use Rattle.paper.specs.UnderwayLaws.{open_reached, idle_facts}
use Rattle.paper.specs.Meanwhile.{underway_of}
use Rattle.paper.specs.Storing.{Lent}
use Rattle.paper.specs.Answers.{Facts, judge}
use Rattle.paper.specs.Transaction.{World, facts_of, refusal, guarded, transact_checks, power_checks, open_checks, feed_checks, close_checks, clocked_of, powered_up, transact_of, power_of}
use Rattle.paper.proofs.CallLaws.{by_checks, made_by, accepting, chunk_accepting}
use Rattle.machine_end.specs.Finish.{facts_in, finish_of, outcome_of}
use Rattle.machine_chunks.specs.Chunks.{resume_of, opened_world, fed_world, closed_world, open_of, feed_of, close_of}
use Rattle.demand_1_2.specs.Sent.{bytewise}
use Rattle.demand_1_2.specs.Kept.{Kept}
use Rattle.demand_1_2.proofs.Kept.{transact_kept, power_kept, fresh_kept}
use Rattle.chunks.specs.Kept.{byte_bits, address_bits}
use Rattle.chunks.specs.Typed.{Eight, facts_typed}
use Rattle.chunks.specs.Promises.{open_kept, open_typed, transact_typed, power_typed, feed_kept, feed_typed, close_kept, close_typed}
use Rattle.image.specs.Layout.{image_size}
use Rattle.image.specs.Image.{image_of, record_of}
use Rattle.image.specs.Back.{EachByte, InTypes}
use Rattle.image_check.specs.Accepted.{valid_record, accepted}
use Rattle.image_check.proofs.Laws.{accepted_valid, accepted_typed, valid_state, image_accepted}
use Rattle.image_calls.specs.Calls.{over_image, transact_in, power_in, open_in, feed_in, close_in}
use Rattle.image_calls.specs.Fresh.{Made, made_as, made, fresh_mram_in, fresh_p_in}

-- ---- in a valid record no number of the open transaction has more than four bytes
-- what fits the clocks of a byte or of an address
few_bits : (w : Wires) (c : Clocks) (v : ℕ) → wires_of w * c.0 ≤ 24 → fits_in w c v ≡ true → v < 4294967296
few_bits w c v h e =
    let l : v < 16777216 = lt_of_lt_of_le (fits_lt w c v e) (pow_mono {i = wires_of w * c.0} {j = 24} h) in
    omega arith

-- the same where the clocks count, and none where they do not
counting : (w : Wires) (q : Bool) (c : Clocks) (v : ℕ) → wires_of w * c.0 ≤ 24 → fits_in w (cond q c (clocks 0)) v ≡ true → v < 4294967296
counting w true c v h e = few_bits w c v h e
counting w false c v h e = few_bits w (clocks 0) v (rw mul-zero (omega arith)) e

up_few : (most c : Clocks) → (up_to most c).0 ≤ most.0
up_few most c = by (fewer c most) refl
  where
    by : (q : Bool) → fewer c most ≡ q → (cond q c most).0 ≤ most.0
    by true e = let h = ltb-true c.0 most.0 e in omega arith
    by false e = le_refl most.0

record Below (u : Underway) : Type 0 where
  clocks : u.clocks.0 < 4294967296
  address : u.address < 4294967296
  number : u.number < 4294967296

module _ (s : Setting) (u : Underway) where
  abbrev k : Kind
  k = kind_at s u

  command_few : wires_of s.wires * (counts_at s u).command.0 ≤ 24
  unfolding counts_at command_clocks
  command_few = byte_bits s.wires (up_to (command_clocks s) u.clocks).0 (up_few (command_clocks s) u.clocks)

  address_few : wires_of (wires_for s k) * (counts_at s u).address.0 ≤ 24
  unfolding counts_at
  address_few =
      let t = less u.clocks (command_clocks s) in
      address_bits s k (up_to (address_clocks s k) t).0 (up_few (address_clocks s k) t)

  number_below : number_reached s u ≡ true → u.number < 4294967296
  unfolding number_reached
  number_below = by (at_most (command_clocks s) (counts_at s u).command) (at_most (address_clocks s k) (counts_at s u).address)
    where
      by : (p q : Bool)
          → cond p
          (cond q (fits_in (wires_for s k) (begun_in (body_for s k u.address) (unfinished_of (wires_for s k) (counts_at s u).body)) u.number) (fits_in (wires_for s k) (counts_at s u).address u.number))
          (fits_in s.wires (counts_at s u).command u.number)
          ≡ true
          → u.number < 4294967296
      by true true e =
          let w = wires_for s k in
          let c = unfinished_of w (counts_at s u).body in
          let h : c.0 < per_byte w = mod-lt (counts_at s u).body.0 (per_byte_pos w) in
          counting w (writes (body_for s k u.address)) c u.number (byte_bits w c.0 (omega arith)) e
      by true false e = few_bits (wires_for s k) (counts_at s u).address u.number address_few e
      by false q e = few_bits s.wires (counts_at s u).command u.number command_few e

  reached_below : reached s u ≡ true → Below u
  unfolding reached
  reached_below e =
      let c = counts_at s u in
      let b₁ = both_true (at_most u.clocks longest) _ e in
      let b₂ = both_true (fits_in s.wires (spelling (command_clocks s) c.command) u.opcode) _ b₁.1 in
      let b₃ = both_true (fits_in (wires_for s k) (spelling (address_clocks s k) c.address) u.address) _ b₂.1 in
      let b₄ = both_true (number_reached s u) _ b₃.1 in
      let h = leb-true u.clocks.0 65535 b₁.0 in
      record {
        clocks = omega arith;
        address = counting (wires_for s k) (at_most (address_clocks s k) c.address) c.address u.address address_few b₃.0;
        number = number_below b₄.0;
      }

none_below : (u : Underway) → factless u ≡ true → Below u
unfolding factless
none_below u e =
    let b₁ = both_true (at_most u.clocks (clocks 0)) _ e in
    let b₂ = both_true (eqb u.opcode 0) _ b₁.1 in
    let b₃ = both_true (eqb u.address 0) _ b₂.1 in
    let b₄ = both_true (eqb u.number 0) _ b₃.1 in
    let c = leb-true u.clocks.0 0 b₁.0 in
    let a = eqb-true u.address 0 b₃.0 in
    let n = eqb-true u.number 0 b₄.0 in
    record { clocks = omega arith; address = omega arith; number = omega arith }

valid_below : (d : Device) → valid_of d ≡ true → Below d.underway
valid_below d v = by d.underway.selected refl
  where
    by : (q : Bool) → d.underway.selected ≡ q → Below d.underway
    by true e = reached_below (setting_of d) d.underway (open_reached d v e)
    by false e = none_below d.underway (idle_facts d v e)

-- ---- identities have eight places: only a write of the serial number changes one, and it brings eight
record Places (i : Identities) : Type 0 where
  device : length i.device ≡ 8
  unique : length i.unique ≡ 8
  serial : length i.serial ≡ 8

reset_same : (f : Family) (d : Device) → (reset_for f d).identity ≡ d.identity
reset_same Mram d = refl
reset_same Psram d = refl

control_same : (c : Control) (d : Device) → (controlled c d).identity ≡ d.identity
control_same NoOperation d = refl
control_same WriteEnable d = refl
control_same WriteDisable d = refl
control_same ToOne d = refl
control_same ToTwo d = refl
control_same ToFour d = refl
control_same Sleep d = refl
control_same Wake d = refl
control_same ResetEnable d = refl
control_same Reset d = reset_same (family_of (part_of d.make.part)) d
control_same Toggle d = refl

module _ (v : List ℕ) (e : length v ≡ 8) where
  written_places : (r : Register) (d : Device) → Places d.identity → Places (written_to r v d).identity
  written_places At.Status d p = p
  written_places At.AreaProtection d p = p
  written_places At.Configuration1 d p = p
  written_places At.Configuration2 d p = p
  written_places At.Configuration3 d p = p
  written_places At.Configuration4 d p = p
  written_places At.Configurations d p = p
  written_places At.Identity d p = p
  written_places At.Unique d p = p
  written_places At.Serial d p = record { device = p.device; unique = p.unique; serial = e }
  written_places At.ModeRegister d p = p
  written_places At.LongIdentity d p = p

  effect_places : (k : Kind) (d : Device) → Places d.identity → Places (effect_of k v d).identity
  effect_places Unknown d p = p
  effect_places (Plain c) d p = subst Places (sym (control_same c d)) p
  effect_places (Read s) d p = p
  effect_places (Write (Into.Register r)) d p = written_places r d p
  effect_places (Write Into.Mode) d p = p
  effect_places (Write (Into.Memory z)) d p = p
  effect_places (Write Into.Area) d p = p

  declined_places : (a : Answer) (d : Device) → Places d.identity → Places (declined_to a d).identity
  declined_places a d p = by (is_protected a)
    where
      by : (q : Bool) → Places (cond q (burst_done d) d).identity
      by true = p
      by false = p

  settled_places : (k : Kind) (a : Answer) (d : Device) → Places d.identity → Places (settled_of k v a d).identity
  settled_places k a d p = by (class_of a)
    where
      by : (c : Class) → Places (settled_in c k v a d).identity
      by Of.Done = effect_places k (arm_to false d) p
      by Of.Refused = p
      by Of.Declined = declined_places a (arm_to false d) p

-- by the facts of a transaction
judged_places : (d : Device) (x : Facts) → length x.tally.value ≡ 8 → Places d.identity → Places (settled_of x.kind x.tally.value (judge d x) d).identity
judged_places d x e p = settled_places x.tally.value e x.kind (judge d x) d p

-- ---- the next record
-- what a call over a record keeps of it
record Next (d e : Device) : Type 0 where
  make : e.make ≡ d.make
  valid : valid_of e ≡ true
  places : Places e.identity
  value : length e.underway.value ≡ 8

typed : (d : Device) → valid_of d ≡ true → Places d.identity → length d.underway.value ≡ 8 → InTypes d
typed d v p e =
    let b = valid_below d v in
    record { device = p.device; unique = p.unique; serial = p.serial; value = e; clocks = b.clocks; address = b.address; number = b.number }

-- of the same make, and valid
still : (d e : Device) → valid_record d ≡ true → e.make ≡ d.make → valid_of e ≡ true → valid_record e ≡ true
unfolding valid_record
still d e v m w =
    let p = d.make.part in
    let (known, rest) = both_true (known_part p) (offered (part_of p) d.make.n && valid_of d) v in
    let (size, z) = both_true (offered (part_of p) d.make.n) (valid_of d) rest in
    rw (w, m, known, size)

next_accepted : (d e : Device) → valid_record d ≡ true → Next d e → accepted (image_of e) ≡ true
next_accepted d e v n = image_accepted e (typed e n.valid n.places n.value) (still d e v n.make n.valid)

-- ---- KEPT, by call
module _ (image : List ℕ) (b : EachByte image) (y : accepted image ≡ true) where
  abbrev d : Device
  d = record_of image

  v : valid_of d ≡ true
  v = valid_state d (accepted_valid image y)

  places : Places d.identity
  places = let t = accepted_typed image y b in record { device = t.device; unique = t.unique; serial = t.serial }

  below : (i : ℕ) → ltb (get_or image i 0) 256 ≡ true
  below i = lt-ltb (get_or image i 0) 256 (b i)

  eight : Eight d.underway.value
  unfolding record_of bytewise
  eight = record { places = refl; bytes = rw (below 80, below 81, below 82, below 83, below 84, below 85, below 86, below 87) }

  module _ (l : Lent) where
    -- any call behind checks: a refusal leaves the record as it was, and where no check fails the sizes are right
    module _ (out : List ℕ) (cs : List (Bool × Answer)) (w : World) where
      abbrev call : World
      call = guarded cs (refusal d l out) w

      kept : (NoneHolds cs → Kept d l out call) → (NoneHolds cs → Eight call.device.underway.value) → (NoneHolds cs → Places w.device.identity)
          → accepted (over_image image l out call).image ≡ true
      kept k t p =
          rw y
          (next_accepted d call.device (accepted_valid image y)
          (by_checks d l out cs w (λ (z : World). Next d z.device) (λ a. record { make = refl; valid = v; places = places; value = eight.places })
          (λ c.
          let m = made_by d l out cs w c in
          let q = subst (Kept d l out) m (k c) in
          record { make = q.make; valid = q.valid; places = p c; value = (subst (λ (z : World). Eight z.device.underway.value) m (t c)).places })))

    pub transact_image : (xs out : List ℕ) → accepted (transact_in image l xs out).image ≡ true
    unfolding transact_in transact_of clocked_of underway_of
    transact_image xs out =
        let s = setting_of d in
        kept out (transact_checks d l xs out) (clocked_of d l xs out) (λ c. transact_kept d l v (accepting d l xs out c).sized xs out) (λ c. transact_typed d l xs out v eight)
        (λ c. judged_places d (facts_of s (reading_of s xs)) (facts_typed s xs).places places)

    pub power_image : accepted (power_in image l).image ≡ true
    unfolding power_in power_of
    power_image =
        kept [] (power_checks d l) (powered_up d l) (λ c. power_kept d l v (not_untrue _ c.0)) (λ c. power_typed d l v eight)
        (λ c. subst Places (sym (reset_same (family_of (part_of d.make.part)) d)) places)

    pub open_image : accepted (open_in image l).image ≡ true
    unfolding open_in open_of
    open_image = kept [] (open_checks d l) (opened_world d l) (λ c. open_kept d l v (not_untrue _ c.0)) (λ c. open_typed d l eight) (λ c. places)

    pub feed_image : (xs out : List ℕ) → accepted (feed_in image l xs out).image ≡ true
    unfolding feed_in feed_of
    feed_image xs out =
        kept out (feed_checks d l xs out) (fed_world d l xs out) (λ c. feed_kept d l eight v (chunk_accepting d l xs out c).sized xs out)
        (λ c. feed_typed d l eight v (chunk_accepting d l xs out c).sized xs out) (λ c. places)

    pub close_image : accepted (close_in image l).image ≡ true
    unfolding close_in close_of finish_of outcome_of resume_of
    close_image =
        kept [] (close_checks d l) (closed_world d l) (λ c. close_kept d l eight v (not_untrue _ c.0)) (λ c. close_typed d l eight v (not_untrue _ c.0))
        (λ c. judged_places (closed_of d) (facts_in (resume_of (setting_of d) d.underway)) eight.places places)

-- ---- A FRESH CHIP
-- an image that is made is that of the chip, and what was asked for is a chip's
made_done : (fits : Bool) (d : Device) (image : List ℕ) → (made fits d image).answer ≡ Done → (fits ≡ true) × ((made fits d image).image ≡ image_of d)
made_done fits d image = by (eqb (length image) image_size) fits
  where
    with : Bool → Bool → Made
    with q f = cond q (cond f (made_as Done (image_of d)) (made_as Size image)) (made_as State image)

    by : (q f : Bool) → (with q f).answer ≡ Done → (f ≡ true) × ((with q f).image ≡ image_of d)
    by true true e = (refl, refl)
    by true false e = untrue (sym (ap refuses e))
    by false f e = untrue (sym (ap refuses e))

-- a chip with eight places in each identity, of a part and a size that there is
fresh_accepted : (m : Make) (device unique : List ℕ) → known_part m.part ≡ true → offered (part_of m.part) m.n ≡ true → Places (fresh_of m device unique).identity
    → accepted (image_of (fresh_of m device unique)) ≡ true
unfolding valid_record
fresh_accepted m device unique known size p =
    let d = fresh_of m device unique in
    let v = fresh_kept m device unique in
    image_accepted d (typed d v p refl) (rw (known, size, v))

number_known : (p : Part) → known_part (part_number p) ≡ true
number_known M = refl
number_known P = refl
number_known M32 = refl

module _ (n : ℕ) (device : List ℕ) where
  -- part M and part M32
  pub fresh_mram_image : (p : Part) → family_of p ≡ Mram → (unique image : List ℕ) → (fresh_mram_in p n device unique image).answer ≡ Done
      → accepted (fresh_mram_in p n device unique image).image ≡ true
  unfolding fresh_mram_in
  fresh_mram_image p family unique image e =
      let (fits, i) = made_done (offered p n && (eqb (length device) 4 && eqb (length unique) 8)) (fresh_of (make_of p n) device unique) image e in
      let (size, lengths) = both_true (offered p n) (eqb (length device) 4 && eqb (length unique) 8) fits in
      let u = eqb-true (length unique) 8 (both_true (eqb (length device) 4) (eqb (length unique) 8) lengths).1 in
      let q : Places (fresh_identity Mram device unique) = record { device = refl; unique = u; serial = refl } in
      ap accepted i
      ∙ fresh_accepted (make_of p n) device unique (number_known p) (ap (λ (z : Part). offered z n) (part_back p) ∙ size)
      (subst (λ (f : Family). Places (fresh_identity f device unique)) (sym (ap family_of (part_back p) ∙ family)) q)

  -- part P
  pub fresh_psram_image : (image : List ℕ) → (fresh_p_in n device image).answer ≡ Done → accepted (fresh_p_in n device image).image ≡ true
  unfolding fresh_p_in
  fresh_psram_image image e =
      let (fits, i) = made_done (offered P n && eqb (length device) 8) (fresh_of (make_of P n) device (replicate 8 0)) image e in
      let (size, long) = both_true (offered P n) (eqb (length device) 8) fits in
      ap accepted i
      ∙ fresh_accepted (make_of P n) device (replicate 8 0) (number_known P) size (record { device = eqb-true (length device) 8 long; unique = refl; serial = refl })
