-- NO FACT HAS BITS THAT HAVE NOT COME: the facts of any samples pass the state check. Document 02, P1.
-- Assumes nothing.
use Rattle.std.specs.Prelude.{◌≡◌, ℕ, zero, suc, ◌+◌, ◌-◌, ◌*◌, ◌/◌, ◌%◌, ◌≤◌, Bool, false, cond, List, [], ◌∷◌, eqb, length, take, drop, set, replicate}
use Rattle.std.proofs.Math.Path.{refl, ap}
use Rattle.std.proofs.Common.{◌∙◌, mul-le-mul_left, le_trans, add-zero, add-one, arith, length-take, length-drop, drop-set-lt}
use Rattle.std.proofs.Math.Bool.{true}
use borrow.Author.Tests.{le-leb}
use Rattle.basis.specs.Truth.{both_true}
use Rattle.units.specs.declared.Clocks.{Clocks}
use Rattle.units.specs.declared.Bytes.{Bytes}
use Rattle.units.specs.declared.Wires.{Wires}
use Rattle.units.specs.declared.Wires.TheVariants.{One, Two, Four}
use Rattle.units.specs.Units.{clocks, wires_of, per_byte, whole_of, unfinished_of}
use Rattle.wires.specs.Bits.{gather, fits_in}
use Rattle.wires.proofs.Laws.{gather_lt, lt_fits, zero_fits}
use Rattle.kinds.specs.declared.Kind.{Kind}
use Rattle.commands.specs.declared.plans.Address.{Address}
use Rattle.commands.specs.declared.plans.Address.TheVariants.{Absent, InMemory, InArea, InMap, LowNibbleZero, Ignored}
use Rattle.commands.specs.declared.plans.Body.{Body}
use Rattle.commands.specs.declared.plans.Body.TheVariants.{Nothing, FixedRead, AnyRead, FixedWrite, AnyWrite}
use Rattle.commands.specs.Plans.{address_of, writes}
use Rattle.record.specs.declared.devices.Setting.{Setting}
use Rattle.state_check.specs.States.{zeros}
use Rattle.paper.specs.InForce.{stopped, address_length, command_clocks, wires_for, address_clocks}
use Rattle.paper.specs.Reading.{first, many, full, address_read, Reading, reading_of, data_bytes}
use Rattle.paper.specs.Underway.{spelling, begun_in, kept_in, number_reached, reached}
use Rattle.paper.specs.Storing.{value_byte, take_each}
use Rattle.paper.specs.Transaction.{sent_bytes, body_in, facts_of}
use Rattle.paper.specs.Meanwhile.{pending_in, underway_of}
use Rattle.paper.specs.Laws.{still, data_many}
use Rattle.demand_1_2.specs.Sent.{three_bytes}
use Rattle.chunks.specs.Standing.{left_over, kind_same, counts_same}

-- ---- numbers fit the clocks that spell them
gather_fits : (w : Wires) (xs : List ℕ) → wires_of w * length xs ≤ 24 → fits_in w (many xs) (gather w xs) ≡ true
gather_fits w xs h = lt_fits w (many xs) (gather w xs) (gather_lt w xs h)

-- no more clocks than those of a byte, or of an address
pub byte_bits : (w : Wires) (n : ℕ) → n ≤ per_byte w → wires_of w * n ≤ 24
byte_bits One n h = omega arith
byte_bits Two n h = omega arith
byte_bits Four n h = omega arith

address_long : (a : Address) (w : Wires) → (address_length a w).0 ≤ 3 * per_byte w
address_long Absent w = omega arith
address_long InMemory w = omega arith
address_long InArea w = omega arith
address_long InMap w = omega arith
address_long LowNibbleZero w = omega arith
address_long Ignored w = omega arith

address_few : (s : Setting) (k : Kind) → (address_clocks s k).0 ≤ 3 * per_byte (wires_for s k)
unfolding address_clocks
address_few s k = by (stopped s k)
  where
    by : (b : Bool) → (cond b (clocks 0) (address_length (address_of k) (wires_for s k))).0 ≤ 3 * per_byte (wires_for s k)
    by true = omega arith
    by false = address_long (address_of k) (wires_for s k)

pub address_bits : (s : Setting) (k : Kind) (n : ℕ) → n ≤ (address_clocks s k).0 → wires_of (wires_for s k) * n ≤ 24
address_bits s k n h =
    let w = wires_for s k in
    let e : wires_of w * n ≤ wires_of w * (3 * per_byte w) = mul-le-mul_left (wires_of w) (le_trans h (address_few s k)) in
    rw three_bytes at e

first_few : (c : Clocks) (xs : List ℕ) → length (first c xs) ≤ c.0
first_few c xs = omega (arith, length-take c.0 xs)

-- a number that is whole, or 0
whole_fits : (w : Wires) (all : Clocks) (xs : List ℕ) → wires_of w * length xs ≤ 24 → fits_in w (spelling all (many xs)) (cond (full all xs) (gather w xs) 0) ≡ true
whole_fits w all xs h = by (full all xs)
  where
    by : (b : Bool) → fits_in w (cond b (many xs) (clocks 0)) (cond b (gather w xs) 0) ≡ true
    by true = gather_fits w xs h
    by false = zero_fits w (clocks 0)

-- the clocks past the last whole byte
over_long : (w : Wires) (xs : List ℕ) → length (left_over w xs) ≡ length xs % per_byte w
over_long w xs = length-drop (length xs / per_byte w * per_byte w) xs ∙ by w
  where
    by : (w : Wires) → length xs - length xs / per_byte w * per_byte w ≡ length xs % per_byte w
    by One = omega arith
    by Two = omega arith
    by Four = omega arith

over_few : (w : Wires) (n : ℕ) → n % per_byte w ≤ per_byte w
over_few One n = omega arith
over_few Two n = omega arith
over_few Four n = omega arith

over_fits : (w : Wires) (b : Body) (xs : List ℕ) → fits_in w (begun_in b (unfinished_of w (many xs))) (cond (writes b) (gather w (left_over w xs)) 0) ≡ true
over_fits w b xs = by (writes b)
  where
    by : (q : Bool) → fits_in w (cond q (unfinished_of w (many xs)) (clocks 0)) (cond q (gather w (left_over w xs)) 0) ≡ true
    by true = rw (← over_long w xs) (gather_fits w (left_over w xs) (byte_bits w (length (left_over w xs)) (rw (over_long w xs) (over_few w (length xs)))))
    by false = zero_fits w (clocks 0)

-- ---- bytes that have not come are 0
zeros_next : (v : List ℕ) (i : ℕ) → zeros (drop i v) ≡ true → zeros (drop (suc i) v) ≡ true
unfolding zeros
zeros_next [] i e = refl
zeros_next (x ∷ v) zero e = (both_true (eqb x 0) (zeros v) e).1
zeros_next (x ∷ v) (suc i) e = zeros_next v i e

zeros_past : (bs : List ℕ) (i : ℕ) (v : List ℕ) → zeros (drop i v) ≡ true → zeros (drop (i + length bs) (take_each (λ j b t. set t j.0 b) i bs v)) ≡ true
unfolding take_each
zeros_past [] i v e = rw add-zero e
zeros_past (b ∷ bs) i v e =
    let n : i + suc (length bs) ≡ i + 1 + length bs = omega arith in
    rw n (zeros_past bs (i + 1) (set v i b) (rw (add-one, drop-set-lt (suc i) v i b (omega arith)) (zeros_next v i e)))

value_zeros : (b : Body) (bs : List ℕ) (m : Bytes) → length bs ≡ m.0 → zeros (drop (kept_in b m).0 (take_each (value_byte b) 0 bs (replicate 8 0))) ≡ true
unfolding zeros
value_zeros Nothing bs m e = rw (still (value_byte Nothing) (λ i x t. refl) bs 0 (replicate 8 0))
value_zeros (FixedRead c) bs m e = rw (still (value_byte (FixedRead c)) (λ i x t. refl) bs 0 (replicate 8 0))
value_zeros AnyRead bs m e = rw (still (value_byte AnyRead) (λ i x t. refl) bs 0 (replicate 8 0))
value_zeros (FixedWrite c) bs m e =
    let n : 0 + length bs ≡ m.0 = omega arith in
    rw (← n) (zeros_past bs 0 (replicate 8 0) refl)
value_zeros AnyWrite bs m e = rw (still (value_byte AnyWrite) (λ i x t. refl) bs 0 (replicate 8 0))

-- ---- the number
module _ (s : Setting) (p : Reading) where
  abbrev w : Wires
  w = wires_for s p.kind

  number_read : wires_of s.wires * length p.command_part ≤ 24 → wires_of w * length p.address_part ≤ 24 → (f g : Bool)
      → cond f (cond g (fits_in w (begun_in (body_in s p) (unfinished_of w (many p.data_part))) (cond (writes (body_in s p)) (gather w (left_over w p.data_part)) 0)) (fits_in w (many p.address_part) (gather w p.address_part)))
      (fits_in s.wires (many p.command_part) (gather s.wires p.command_part))
      ≡ true
  number_read h k true true = over_fits w (body_in s p) p.data_part
  number_read h k true false = gather_fits w p.address_part k
  number_read h k false g = gather_fits s.wires p.command_part h

-- a test is made once: what follows may look at it again
again : (b : Bool) {x y u v : Bool} → (b ≡ true → x ≡ u) → (b ≡ false → y ≡ v) → cond b x y ≡ cond b u v
again true f g = f refl
again false f g = g refl

module _ (s : Setting) (xs : List ℕ) where
  abbrev r : Reading
  r = reading_of s xs

  command_short : wires_of s.wires * length r.command_part ≤ 24
  unfolding reading_of command_clocks
  command_short = byte_bits s.wires (length (take (per_byte s.wires) xs)) (first_few (command_clocks s) xs)

  address_short : wires_of (wires_for s r.kind) * length r.address_part ≤ 24
  unfolding reading_of
  address_short = address_bits s r.kind (length r.address_part) (first_few (address_clocks s r.kind) (drop (command_clocks s).0 xs))

  number_so : number_reached s (underway_of s xs) ≡ true
  unfolding number_reached underway_of pending_in
  number_so =
      rw (kind_same s xs, counts_same s xs)
      (again (full (command_clocks s) r.command_part) (λ e. rw e (again (full (address_clocks s r.kind) r.address_part) (λ f. rw f) (λ f. rw f))) (λ e. rw e)
      ∙ number_read s r command_short address_short (full (command_clocks s) r.command_part) (full (address_clocks s r.kind) r.address_part))

  address_so : r.address ≡ cond (full (address_clocks s r.kind) r.address_part) (gather (wires_for s r.kind) r.address_part) 0
  unfolding reading_of address_read
  address_so = refl

  value_so : zeros (drop (kept_in (body_in s r) (whole_of (wires_for s r.kind) (many r.data_part))).0 (facts_of s r).tally.value) ≡ true
  unfolding facts_of sent_bytes
  value_so = value_zeros (body_in s r) (data_bytes (wires_for s r.kind) r.data_part) (whole_of (wires_for s r.kind) (many r.data_part)) (data_many (wires_for s r.kind) r.data_part)

  -- THE FACTS OF ANY SAMPLES pass the state check
  pub facts_reached : length xs ≤ 65535 → reached s (underway_of s xs) ≡ true
  unfolding reached underway_of
  facts_reached h =
      let w = wires_for s r.kind in
      let n = address_clocks s r.kind in
      let e : fits_in w (spelling n (many r.address_part)) r.address ≡ true = ap (fits_in w (spelling n (many r.address_part))) address_so ∙ whole_fits w n r.address_part address_short in
      rw (kind_same s xs, counts_same s xs, le-leb (length xs) 65535 h, number_so)
      (rw (whole_fits s.wires (command_clocks s) r.command_part command_short, value_so, e))
