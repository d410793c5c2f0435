-- Laws of building: how many samples there are, and the phases put one after the other.
-- Assumes nothing.
use Rattle.std.specs.Prelude.{◌≡◌, ℕ, zero, suc, ◌+◌, ◌*◌, ◌%◌, ◌≤◌, Bool, true, ◌&&◌, List, [], ◌∷◌, ◌++◌, T, leb, length, get_or}
use Rattle.std.proofs.Math.Path.{sym, ap}
use Rattle.std.proofs.Common.{◌∙◌, zero-mul, arith, lit≤, lt-ltb, ltb-true}
use Rattle.std.proofs.Math.Nat.{one-mul}
use Rattle.std.proofs.Math.ListN.{length-append, length-replicate}
use Rattle.basis.specs.Truth.{both}
use Rattle.units.specs.declared.Clocks.{Clocks}
use Rattle.units.specs.declared.Bytes.{Bytes}
use Rattle.units.specs.declared.Wires.{Wires}
use Rattle.units.specs.declared.Wires.TheVariants.{One, Two, Four}
use Rattle.units.specs.Units.{clocks, bytes, plus, per_byte, clocks_of, fewer, fewer_bytes, longest}
use Rattle.units.specs.Laws.{per_byte_le}
use Rattle.wires.specs.Bits.{spelled}
use Rattle.wires.proofs.Laws.{spread_length}
use Rattle.kinds.specs.declared.Kind.{Kind}
use Rattle.commands.specs.declared.plans.Address.{Address}
use Rattle.commands.specs.declared.plans.Address.TheVariants.{Absent, InMemory, InArea, InMap, LowNibbleZero, Ignored}
use Rattle.commands.specs.declared.plans.Body.{Body}
use Rattle.commands.specs.declared.plans.Body.TheVariants.{Nothing, FixedRead, AnyRead, FixedWrite, AnyWrite}
use Rattle.commands.specs.Plans.{fixed_waits, wait_row, column_of, later_wires, address_of, wait_of}
use Rattle.buffers.specs.Page.{Page, puts_of}
use Rattle.buffers.specs.Laws.{puts_append}
use Rattle.paper.specs.InForce.{address_length}
use Rattle.paper.specs.Reading.{many}
use Rattle.paper.specs.Laws.{sent_many}
use Rattle.paper.specs.Building.{Order, sent_on, many_bytes, body_asked, silent, data_sent, built_of}
use Rattle.host_build.specs.Sizes.{rest_of, bytes_sent, front_of}

-- ---- how many
data_length : (b : Body) (w : Wires) (o : Order) → length (data_sent b w o) ≡ (clocks_of w (bytes_sent b o.wanted (many_bytes o.written))).0
data_length Nothing w o = sym (zero-mul (per_byte w))
data_length (FixedRead b) w o = length-replicate {A = ℕ} _ 0
data_length AnyRead w o = length-replicate {A = ℕ} _ 0
data_length (FixedWrite b) w o = sent_many w o.written
data_length AnyWrite w o = sent_many w o.written

-- no wait is longer than four bits say: the table's own are computed, and configuration 2 brings no more
abbrev few : List ℕ → Bool
few [] = true
few (x ∷ xs) = leb x 15 && few xs

few_at : (xs : List ℕ) (y i : ℕ) → T (few xs) → y ≤ 15 → get_or (xs ++ (y ∷ y ∷ y ∷ [])) i 0 ≤ 15
few_at [] y zero t h = h
few_at [] y (suc zero) t h = h
few_at [] y (suc (suc zero)) t h = h
few_at [] y (suc (suc (suc i))) t h = omega arith
few_at (x ∷ xs) y zero t h = lit≤ (both (leb x 15) (few xs) t).0
few_at (x ∷ xs) y (suc i) t h = few_at xs y i (both (leb x 15) (few xs) t).1 h

wait_le : (k : Kind) (w : Wires) (cr2 : ℕ) → (wait_of k w cr2).0 ≤ 15
wait_le k w cr2 = few_at fixed_waits (cr2 % 16) (3 * wait_row k + column_of w) tt (omega arith)

-- and no address longer than three bytes on one wire
address_le : (a : Address) (w : Wires) → (address_length a w).0 ≤ 24
address_le Absent w = omega arith
address_le InMemory w = omega (arith, per_byte_le w)
address_le InArea w = omega (arith, per_byte_le w)
address_le InMap w = omega (arith, per_byte_le w)
address_le LowNibbleZero w = omega (arith, per_byte_le w)
address_le Ignored w = omega (arith, per_byte_le w)

pub front_le : (k : Kind) (w : Wires) (cr2 : ℕ) → (front_of k w cr2).0 ≤ 47
unfolding front_of
front_le k w cr2 = omega (arith, per_byte_le w, address_le (address_of k) (later_wires k w), wait_le k w cr2, one-mul (per_byte w))

bytes_le : (w : Wires) (n : ℕ) → n ≤ n * per_byte w
bytes_le One n = omega arith
bytes_le Two n = omega arith
bytes_le Four n = omega arith

-- ---- an order of some kind: the wires past its command, and its data
module _ (o : Order) (k : Kind) where
  abbrev v : Wires
  v = later_wires k (sent_on o)

  abbrev size : Bytes
  size = bytes_sent (body_asked o k) o.wanted (many_bytes o.written)

  built_length : length (built_of o k) ≡ (front_of k (sent_on o) o.cr2).0 + (clocks_of v size).0
  unfolding built_of front_of
  built_length =
      let w = sent_on o in
      let c = spelled w (per_byte w) o.opcode in
      let a = spelled v (address_length (address_of k) v).0 o.address in
      let q = silent (wait_of k w o.cr2) in
      let d = data_sent (body_asked o k) v o in
      rw (
        length-append c (a ++ (q ++ d)),
        length-append a (q ++ d),
        length-append q d,
        spread_length w (per_byte w) o.opcode,
        spread_length v (address_length (address_of k) v).0 o.address,
        length-replicate {A = ℕ} (wait_of k w o.cr2).0 0,
        data_length (body_asked o k) v o,
        one-mul,
      ) (omega arith)

  -- so much data is too long by itself
  pub data_over : {n : Bytes} → n ≡ size → fewer_bytes (bytes 65535) n ≡ true → fewer longest (many (built_of o k)) ≡ true
  data_over e t =
      let h = ltb-true 65535 size.0 (rw e at t) in
      lt-ltb 65535 (length (built_of o k)) (omega (arith, built_length, bytes_le v size.0))

  -- and otherwise the clocks are the sum
  pub built_is : {n : Bytes} {f c s : Clocks} → n ≡ size → f ≡ front_of k (sent_on o) o.cr2 → c ≡ clocks_of v n → s ≡ plus f c → s ≡ many (built_of o k)
  built_is e f c s = rw (s, c, f, e) (ap clocks (sym built_length))

  -- ---- one after the other
  pub rest_put : (w : Wires) (p : Page) {q r : Page} → q ≡ puts_of (silent (wait_of k w o.cr2)) p → r ≡ puts_of (data_sent (body_asked o k) (later_wires k w) o) q
      → r ≡ puts_of (rest_of o k w) p
  unfolding rest_of
  rest_put w p e d =
      let xs = silent (wait_of k w o.cr2) in
      let ys = data_sent (body_asked o k) (later_wires k w) o in
      d ∙ ap (puts_of ys) e ∙ sym (puts_append xs ys p)

  pub built_put : (p : Page) {q r t : Page} → q ≡ puts_of (spelled (sent_on o) (per_byte (sent_on o)) o.opcode) p
      → r ≡ puts_of (spelled v (address_length (address_of k) v).0 o.address) q → t ≡ puts_of (rest_of o k (sent_on o)) r → t ≡ puts_of (built_of o k) p
  unfolding built_of rest_of
  built_put p {q} e d f =
      let w = sent_on o in
      let xs = spelled w (per_byte w) o.opcode in
      let ys = spelled v (address_length (address_of k) v).0 o.address in
      let zs = rest_of o k w in
      f ∙ ap (puts_of zs) d ∙ sym (puts_append ys zs q) ∙ ap (puts_of (ys ++ zs)) e ∙ sym (puts_append xs (ys ++ zs) p)
