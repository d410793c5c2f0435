-- What the host sends, phase by phase, as the device gathers it: the laws behind Understood.antt.
-- Assumes nothing.
use Rattle.std.specs.Prelude.{◌≡◌, refl, ℕ, zero, suc, ◌*◌, ◌/◌, ◌^◌, ◌<◌, ◌≤◌, Bool, true, ◌&&◌, List, [], ◌∷◌, ◌++◌, ltb, length, replicate}
use Rattle.std.proofs.Common.{ap, ◌∙◌, mod-lt, mul-div_cancel, lt_of_lt_of_le, arith, pow_pos, take_at, drop_at, ltb-true, lt-ltb}
use Rattle.basis.specs.Truth.{both_true}
use Rattle.units.specs.declared.Wires.{Wires}
use Rattle.units.specs.declared.Wires.TheVariants.{One, Two, Four}
use Rattle.units.specs.Units.{wires_of, per_byte}
use Rattle.units.specs.Laws.{bits_of_byte, per_byte_pos}
use Rattle.wires.specs.Bits.{gather, above, spelled}
use Rattle.wires.proofs.Laws.{spread_length, gather_spread}
use Rattle.paper.specs.Reading.{bytes_in, data_bytes}
use Rattle.paper.specs.Building.{spread_all}
use Rattle.paper.specs.Laws.{sent_many}
use Rattle.paper.specs.Transaction.{sampled}

-- every number of the list is a byte
unfoldable pub bytewise : List ℕ → Bool
bytewise [] = true
bytewise (b ∷ bs) = ltb b 256 && bytewise bs

-- ---- every sample that is sent is one of 0 to 15
pub sampled_append : (xs ys : List ℕ) → sampled xs ≡ true → sampled ys ≡ true → sampled (xs ++ ys) ≡ true
unfolding sampled
sampled_append [] ys e f = f
sampled_append (x ∷ xs) ys e f = let h = both_true (ltb x 16) (sampled xs) e in rw h.0 (sampled_append xs ys h.1 f)

pub sampled_all : (xs ys zs us : List ℕ) → sampled xs ≡ true → sampled ys ≡ true → sampled zs ≡ true → sampled us ≡ true
    → sampled (xs ++ (ys ++ (zs ++ us))) ≡ true
sampled_all xs ys zs us a b c d = sampled_append xs (ys ++ (zs ++ us)) a (sampled_append ys (zs ++ us) b (sampled_append zs us c d))

pub sampled_silent : (n : ℕ) → sampled (replicate n 0) ≡ true
unfolding sampled
sampled_silent zero = refl
sampled_silent (suc n) = sampled_silent n

few_bits : (w : Wires) → 2 ^ wires_of w ≤ 16
few_bits One = omega arith
few_bits Two = omega arith
few_bits Four = omega arith

pub sampled_spread : (w : Wires) (n v : ℕ) → sampled (spelled w n v) ≡ true
unfolding sampled spelled
sampled_spread w zero v = refl
sampled_spread w (suc n) v =
    rw (lt-ltb (above w n v) 16 (lt_of_lt_of_le (mod-lt (v / 2 ^ (wires_of w * n)) (pow_pos (wires_of w))) (few_bits w))) (sampled_spread w n v)

pub sampled_data : (w : Wires) (bs : List ℕ) → sampled (spread_all w bs) ≡ true
unfolding spread_all sampled
sampled_data w [] = refl
sampled_data w (b ∷ bs) = sampled_append (spelled w (per_byte w) b) (spread_all w bs) (sampled_spread w (per_byte w) b) (sampled_data w bs)

-- ---- numbers
-- a byte is gathered from the samples that spell it
pub byte_read_lem : (w : Wires) (b : ℕ) → b < 256 → gather w (spelled w (per_byte w) b) ≡ b
byte_read_lem w b h = gather_spread w (per_byte w) b (rw (bits_of_byte w) (omega arith)) (rw (bits_of_byte w) h)

-- and so is an address
pub three_bytes : (w : Wires) → wires_of w * (3 * per_byte w) ≡ 24
three_bytes One = refl
three_bytes Two = refl
three_bytes Four = refl

pub address_read_lem : (w : Wires) (a : ℕ) → a < 2 ^ 24 → gather w (spelled w (3 * per_byte w) a) ≡ a
address_read_lem w a h = gather_spread w (3 * per_byte w) a (rw (three_bytes w) (omega arith)) (rw (three_bytes w) h)

-- ---- data
-- so many bytes of what spells them
data_from : (w : Wires) (bs : List ℕ) → bytewise bs ≡ true → bytes_in w (length bs) (spread_all w bs) ≡ bs
unfolding spread_all bytes_in bytewise
data_from w [] e = refl
data_from w (b ∷ bs) e =
    let h = both_true (ltb b 256) (bytewise bs) e in
    let n = per_byte w in
    let k = spread_length w n b in
    rw (
      take_at (spelled w n b) (spread_all w bs) n k,
      drop_at (spelled w n b) (spread_all w bs) n k,
      byte_read_lem w b (ltb-true b 256 h.0),
      data_from w bs h.1,
    )

-- THE DATA THAT IS SENT IS THE DATA THAT IS READ
pub data_read : (w : Wires) (bs : List ℕ) → bytewise bs ≡ true → data_bytes w (spread_all w bs) ≡ bs
unfolding data_bytes
data_read w bs e =
    let q : length (spread_all w bs) / per_byte w ≡ length bs = rw (sent_many w bs) (mul-div_cancel (length bs) (per_byte_pos w)) in
    ap (λ (n : ℕ). bytes_in w n (spread_all w bs)) q ∙ data_from w bs e
