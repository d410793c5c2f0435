-- REACHED, the data: samples that leave a given number and a given value. Document 02, P1.
-- Assumes nothing.
use Rattle.std.specs.Prelude.{◌≡◌, refl, ℕ, zero, suc, ◌+◌, ◌-◌, ◌*◌, ◌/◌, ◌%◌, ◌^◌, ◌<◌, ◌≤◌, Bool, true, false, cond, List, [], ◌∷◌, ◌++◌, ltb, length, take, drop, set, replicate, Option, Some, None}
use Rattle.std.proofs.Common.{sym, ◌∙◌, add-zero, mod-lt, mul-div_cancel, div-add-mod', arith, append-nil, append_assoc, lit≤, length-drop, length-append, take-append-drop, take_all, take_at, drop_at, length-take-le, ltb-true, ltb-false}
use Rattle.std.proofs.Math.Path.{ap}
use Rattle.std.proofs.lemmas.List.{length-replicate, replicate-append-replicate}
use Rattle.basis.specs.Truth.{both_true}
use Rattle.units.specs.declared.Bytes.{Bytes}
use Rattle.units.specs.declared.Wires.{Wires}
use Rattle.units.specs.declared.Wires.TheVariants.{One, Two, Four}
use Rattle.units.specs.Units.{clocks, wires_of, per_byte, clocks_of, clocks_within, whole_of, unfinished_of, fewer_bytes}
use Rattle.units.specs.Laws.{per_byte_pos, within_le, lt_whole}
use Rattle.wires.specs.Bits.{gather, fits_in, spelled}
use Rattle.wires.proofs.Laws.{fits_lt, fits_none, gather_spread, spread_length}
use Rattle.kinds.specs.declared.Register.{Register}
use Rattle.kinds.specs.declared.Register.TheVariants as At
use Rattle.kinds.specs.declared.Target.{Target}
use Rattle.kinds.specs.declared.Target.TheVariants as Into
use Rattle.kinds.specs.declared.Source.{Source}
use Rattle.kinds.specs.declared.Source.TheVariants as From
use Rattle.kinds.specs.declared.Kind.{Kind}
use Rattle.kinds.specs.declared.Kind.TheVariants.{Unknown, Plain, Read, Write}
use Rattle.commands.specs.declared.plans.Body.{Body}
use Rattle.commands.specs.declared.plans.Body.TheVariants.{Nothing, FixedRead, AnyRead, FixedWrite, AnyWrite}
use Rattle.commands.specs.Registers.{bytes_of, mapped_of}
use Rattle.commands.specs.Plans.{writes, body_of, read_body, write_body, mapped_body}
use Rattle.record.specs.declared.devices.Setting.{Setting}
use Rattle.state_check.specs.States.{zeros}
use Rattle.state_check.specs.StateLaws.{zeros_all}
use Rattle.paper.specs.InForce.{decided, body_for}
use Rattle.paper.specs.Reading.{data_part, data_of, bytes_in, data_bytes}
use Rattle.paper.specs.Underway.{begun_in, kept_in}
use Rattle.paper.specs.Storing.{value_byte, take_each}
use Rattle.paper.specs.Transaction.{sampled}
use Rattle.paper.specs.Building.{spread_all}
use Rattle.paper.specs.Laws.{still, sent_many}
use Rattle.parts.specs.declared.Part.{Part}
use Rattle.demand_1_2.specs.Sent.{bytewise, sampled_append, sampled_silent, sampled_spread, sampled_data, byte_read_lem}
use Rattle.chunks.specs.Standing.{left_over}
use Rattle.chunks.specs.Kept.{byte_bits}

-- ---- eight places
abbrev nought : ℕ → List ℕ
nought n = replicate n 0

set_at : (xs ys : List ℕ) (y b : ℕ) → set (xs ++ (y ∷ ys)) (length xs) b ≡ (xs ++ (b ∷ [])) ++ ys
set_at [] ys y b = refl
set_at (x ∷ xs) ys y b = ap (λ (l : List ℕ). x ∷ l) (set_at xs ys y b)

-- bytes put one after the other stand one after the other
put_all : (bs xs ys : List ℕ) (i : ℕ) → length xs ≡ i → length bs ≤ length ys → take_each (λ j b t. set t j.0 b) i bs (xs ++ ys) ≡ (xs ++ bs) ++ drop (length bs) ys
unfolding take_each
put_all [] xs ys i h g = rw append-nil
put_all (b ∷ bs) xs [] i h g = absurd (omega arith)
put_all (b ∷ bs) xs (y ∷ ys) i h g =
    let n : length (xs ++ (b ∷ [])) ≡ i + 1 = length-append xs (b ∷ []) ∙ omega arith in
    rw (← h) (ap (λ (t : List ℕ). take_each (λ j c t. set t j.0 c) (length xs + 1) bs t) (set_at xs ys y b)
    ∙ ap (λ (k : ℕ). take_each (λ j c t. set t j.0 c) k bs ((xs ++ (b ∷ [])) ++ ys)) (ap (λ (k : ℕ). k + 1) h ∙ sym n)
    ∙ put_all bs (xs ++ (b ∷ [])) ys (length (xs ++ (b ∷ []))) refl (omega arith)
    ∙ ap (λ (l : List ℕ). l ++ drop (length bs) ys) (append_assoc xs (b ∷ []) bs))

-- the bytes that have come, in a value whose others are 0
kept_so : (v : List ℕ) (q : ℕ) → length v ≡ 8 → q ≤ 8 → zeros (drop q v) ≡ true → take_each (λ j b t. set t j.0 b) 0 (take q v) (replicate 8 0) ≡ v
kept_so v q h g e =
    let n : length (take q v) ≡ q = length-take-le q v (omega arith) in
    let i : q + (8 - q) ≡ 8 = omega arith in
    let a : nought q ++ nought (8 - q) ≡ nought 8 = replicate-append-replicate q (8 - q) 0 ∙ ap nought i in
    let c : drop q (nought 8) ≡ nought (8 - q) = ap (drop q) (sym a) ∙ drop_at (nought q) (nought (8 - q)) q (length-replicate q 0) in
    let z : drop q v ≡ nought (8 - q) = zeros_all (drop q v) (8 - q) (length-drop q v ∙ ap (λ (k : ℕ). k - q) h) e in
    put_all (take q v) [] (nought 8) 0 refl (rw (n, length-replicate) g)
    ∙ ap (λ (k : ℕ). take q v ++ drop k (nought 8)) n
    ∙ ap (λ (l : List ℕ). take q v ++ l) (c ∙ sym z)
    ∙ take-append-drop q v

-- ---- the bytes of samples that spell them, and then some more
bytes_front : (w : Wires) (bs rest : List ℕ) → bytewise bs ≡ true → bytes_in w (length bs) (spread_all w bs ++ rest) ≡ bs
unfolding spread_all bytes_in bytewise
bytes_front w [] rest e = refl
bytes_front w (b ∷ bs) rest e =
    let h = both_true (ltb b 256) (bytewise bs) e in
    let n = per_byte w in
    let k = spread_length w n b in
    rw (
      append_assoc (spelled w n b) (spread_all w bs) rest,
      take_at (spelled w n b) (spread_all w bs ++ rest) n k,
      drop_at (spelled w n b) (spread_all w bs ++ rest) n k,
      byte_read_lem w b (ltb-true b 256 h.0),
      bytes_front w bs rest h.1,
    )

-- ---- THE DATA
-- samples for so many clocks of data and rest, after which the number and the value are these
pub record DataFor (b : Body) (w : Wires) (t n : ℕ) (v : List ℕ) : Type 0 where
  pub samples : List ℕ
  pub long : length samples ≡ t
  pub levels : sampled samples ≡ true
  pub number : cond (writes b) (gather w (left_over w (data_part b w samples))) 0 ≡ n
  pub value : take_each (value_byte b) 0 (data_bytes w (data_part b w samples)) (replicate 8 0) ≡ v

-- a register's bytes fit the eight places
abbrev pub fixed_bytes : Body → ℕ
fixed_bytes Nothing = 0
fixed_bytes (FixedRead b) = 0
fixed_bytes AnyRead = 0
fixed_bytes (FixedWrite b) = b.0
fixed_bytes AnyWrite = 0

-- nothing is gathered, and nothing kept
silent_data : (b : Body) (w : Wires) (t n : ℕ) (v : List ℕ) → writes b ≡ false → ((i : Bytes) (x : ℕ) (u : List ℕ) → value_byte b i x u ≡ u)
    → n ≡ 0 → v ≡ replicate 8 0 → DataFor b w t n v
silent_data b w t n v e k z y =
    record {
      samples = replicate t 0;
      long = length-replicate t 0;
      levels = sampled_silent t;
      number = rw (e, z);
      value = still (value_byte b) k (data_bytes w (data_part b w (replicate t 0))) 0 (replicate 8 0) ∙ sym y;
    }

-- whole bytes and some clocks more
div_back : (w : Wires) (q r : ℕ) → r < per_byte w → (q * per_byte w + r) / per_byte w ≡ q
div_back One q r h = omega arith
div_back Two q r h = omega arith
div_back Four q r h = omega arith

abbrev beginning : Wires → List ℕ → ℕ → ℕ → List ℕ
beginning w bs r n = spread_all w bs ++ spelled w r n

module _ (w : Wires) (bs : List ℕ) (r n : ℕ) (h : r < per_byte w) (f : n < 2 ^ (wires_of w * r)) where
  abbrev begins : List ℕ
  begins = beginning w bs r n

  begins_long : length begins ≡ length bs * per_byte w + r
  begins_long = length-append (spread_all w bs) (spelled w r n) ∙ rw (sent_many w bs, spread_length w r n)

  begins_over : gather w (left_over w begins) ≡ n
  begins_over =
      ap (λ (k : ℕ). gather w (drop (k / per_byte w * per_byte w) begins)) begins_long
      ∙ ap (λ (k : ℕ). gather w (drop (k * per_byte w) begins)) (div_back w (length bs) r h)
      ∙ ap (gather w) (drop_at (spread_all w bs) (spelled w r n) (length bs * per_byte w) (sent_many w bs))
      ∙ gather_spread w r n (byte_bits w r (omega arith)) f

  begins_bytes : bytewise bs ≡ true → data_bytes w begins ≡ bs
  unfolding data_bytes
  begins_bytes e =
      ap (λ (k : ℕ). bytes_in w (k / per_byte w) begins) begins_long
      ∙ ap (λ (k : ℕ). bytes_in w k begins) (div_back w (length bs) r h)
      ∙ bytes_front w bs (spelled w r n) e

  begins_levels : sampled begins ≡ true
  begins_levels = sampled_append (spread_all w bs) (spelled w r n) (sampled_data w bs) (sampled_spread w r n)

none_over : (w : Wires) (m : ℕ) → m * per_byte w % per_byte w ≡ 0
none_over One m = omega arith
none_over Two m = omega arith
none_over Four m = omega arith

bytewise_take : (v : List ℕ) (q : ℕ) → bytewise v ≡ true → bytewise (take q v) ≡ true
unfolding bytewise
bytewise_take v zero e = refl
bytewise_take [] (suc q) e = refl
bytewise_take (x ∷ v) (suc q) e = let b = both_true (ltb x 256) (bytewise v) e in rw b.0 (bytewise_take v q b.1)

-- a register write: q bytes, a byte begun, and what comes after its data
module _
    (m : Bytes) (w : Wires) (t n : ℕ) (v : List ℕ) (q r : ℕ) (h : length v ≡ 8) (y : bytewise v ≡ true) (few : q ≤ 8) (z : zeros (drop q v) ≡ true)
    (g : r < per_byte w) (k : n < 2 ^ (wires_of w * r)) (rest : List ℕ) where
  abbrev sent : List ℕ
  sent = beginning w (take q v) r n

  fixed_data : data_part (FixedWrite m) w (sent ++ rest) ≡ sent → length (sent ++ rest) ≡ t → sampled rest ≡ true → DataFor (FixedWrite m) w t n v
  fixed_data e l i =
      record {
        samples = sent ++ rest;
        long = l;
        levels = sampled_append sent rest (begins_levels w (take q v) r n g k) i;
        number = ap (λ (xs : List ℕ). gather w (left_over w xs)) e ∙ begins_over w (take q v) r n g k;
        value =
            ap (λ (xs : List ℕ). take_each (value_byte (FixedWrite m)) 0 (data_bytes w xs) (nought 8)) e
            ∙ ap (λ (bs : List ℕ). take_each (value_byte (FixedWrite m)) 0 bs (nought 8)) (begins_bytes w (take q v) r n g k (bytewise_take v q y))
            ∙ kept_so v q h few z;
      }

  sent_long : length sent ≡ q * per_byte w + r
  sent_long = begins_long w (take q v) r n g k ∙ ap (λ (i : ℕ). i * per_byte w + r) (length-take-le q v (omega arith))

-- the data of each body
module _ (m : Bytes) (w : Wires) (t n : ℕ) (v : List ℕ) (few : m.0 ≤ 8) (h : length v ≡ 8) (y : bytewise v ≡ true) where
  fixed_by : (b : Bool) → fewer_bytes (whole_of w (clocks t)) m ≡ b
      → let e = cond b (clocks t) (clocks_of w m) in
      fits_in w (unfinished_of w e) n ≡ true → zeros (drop (whole_of w e).0 v) ≡ true → DataFor (FixedWrite m) w t n v
  fixed_by true c f z =
      let q = t / per_byte w in
      let r = t % per_byte w in
      let l = ltb-true q m.0 c in
      let g = mod-lt t (per_byte_pos w) in
      let k = fits_lt w (clocks r) n f in
      let i : length (beginning w (take q v) r n) ≡ t = sent_long m w t n v q r h y (omega arith) z g k [] ∙ div-add-mod' t (per_byte w) in
      let j : length (beginning w (take q v) r n ++ []) ≡ t = ap length (append-nil (beginning w (take q v) r n)) ∙ i in
      let u = lt_whole w t m.0 l in
      fixed_data m w t n v q r h y (omega arith) z g k []
      (ap (take (m.0 * per_byte w)) (append-nil (beginning w (take q v) r n)) ∙ take_all (m.0 * per_byte w) (beginning w (take q v) r n) (omega arith)) j (sampled_silent 0)
  fixed_by false c f z =
      let p = m.0 * per_byte w in
      let a : p / per_byte w ≡ m.0 = mul-div_cancel m.0 (per_byte_pos w) in
      let o : p % per_byte w ≡ 0 = none_over w m.0 in
      let f' = rw o at f in
      let z' = rw a at z in
      let k : n < 2 ^ (wires_of w * 0) = fits_lt w (clocks 0) n f' in
      let l = within_le w t m.0 (ltb-false _ _ c) in
      let i : length (beginning w (take m.0 v) 0 n) ≡ p = sent_long m w t n v m.0 0 h y few z' (per_byte_pos w) k [] ∙ add-zero p in
      fixed_data m w t n v m.0 0 h y few z' (per_byte_pos w) k (nought (t - p))
      (take_at (beginning w (take m.0 v) 0 n) (nought (t - p)) p i)
      (length-append (beginning w (take m.0 v) 0 n) (nought (t - p)) ∙ rw (i, length-replicate) (omega arith))
      (sampled_silent (t - p))

pub data_for : (b : Body) (w : Wires) (t n : ℕ) (v : List ℕ) → fixed_bytes b ≤ 8 → length v ≡ 8 → bytewise v ≡ true
    → fits_in w (begun_in b (unfinished_of w (data_of b w (clocks t)))) n ≡ true → zeros (drop (kept_in b (whole_of w (data_of b w (clocks t)))).0 v) ≡ true → DataFor b w t n v
unfolding clocks_within
data_for Nothing w t n v few h y f z = silent_data Nothing w t n v refl (λ i x u. refl) (fits_none w n f) (zeros_all v 8 h z)
data_for (FixedRead m) w t n v few h y f z = silent_data (FixedRead m) w t n v refl (λ i x u. refl) (fits_none w n f) (zeros_all v 8 h z)
data_for AnyRead w t n v few h y f z = silent_data AnyRead w t n v refl (λ i x u. refl) (fits_none w n f) (zeros_all v 8 h z)
data_for (FixedWrite m) w t n v few h y f z = fixed_by m w t n v few h y (fewer_bytes (whole_of w (clocks t)) m) refl f z
data_for AnyWrite w t n v few h y f z =
    let q = t / per_byte w in
    let r = t % per_byte w in
    let g = mod-lt t (per_byte_pos w) in
    let k = fits_lt w (clocks r) n f in
    record {
      samples = beginning w (nought q) r n;
      long = begins_long w (nought q) r n g k ∙ rw length-replicate (div-add-mod' t (per_byte w));
      levels = begins_levels w (nought q) r n g k;
      number = begins_over w (nought q) r n g k;
      value = still (value_byte AnyWrite) (λ i x u. refl) (data_bytes w (beginning w (nought q) r n)) 0 (nought 8) ∙ sym (zeros_all v 8 h z);
    }

-- a register has at most eight bytes
register_few : (r : Register) → (bytes_of r).0 ≤ 8
register_few At.Status = lit≤ tt
register_few At.AreaProtection = lit≤ tt
register_few At.Configuration1 = lit≤ tt
register_few At.Configuration2 = lit≤ tt
register_few At.Configuration3 = lit≤ tt
register_few At.Configuration4 = lit≤ tt
register_few At.Configurations = lit≤ tt
register_few At.Identity = lit≤ tt
register_few At.Unique = lit≤ tt
register_few At.Serial = lit≤ tt
register_few At.ModeRegister = lit≤ tt
register_few At.LongIdentity = lit≤ tt

mapped_few : (p : Part) (x : Option Register) → fixed_bytes (mapped_body x) ≤ 8
mapped_few p (Some r) = lit≤ tt
mapped_few p None = lit≤ tt

read_few : (p : Part) (x : Source) (a : ℕ) → fixed_bytes (read_body p x a) ≤ 8
read_few p (From.Register r) a = lit≤ tt
read_few p From.Map a = mapped_few p (mapped_of p a)
read_few p From.Mode a = lit≤ tt
read_few p From.Identity a = lit≤ tt
read_few p (From.Memory r) a = lit≤ tt
read_few p From.Area a = lit≤ tt

write_few : (x : Target) → fixed_bytes (write_body x) ≤ 8
write_few (Into.Register r) = register_few r
write_few Into.Mode = register_few At.ModeRegister
write_few (Into.Memory r) = lit≤ tt
write_few Into.Area = lit≤ tt

body_few : (p : Part) (k : Kind) (a : ℕ) → fixed_bytes (body_of p k a) ≤ 8
body_few p Unknown a = lit≤ tt
body_few p (Plain c) a = lit≤ tt
body_few p (Read x) a = read_few p x a
body_few p (Write x) a = write_few x

pub fixed_few : (s : Setting) (k : Kind) (a : ℕ) → fixed_bytes (body_for s k a) ≤ 8
unfolding body_for
fixed_few s k a = by (decided s k a)
  where
    by : (b : Bool) → fixed_bytes (cond b Nothing (body_of s.part k a)) ≤ 8
    by true = lit≤ tt
    by false = body_few s.part k a
