-- Numbers on wires. Document 01, "Samples", first paragraph. High bits go before low ones (D6), and each clock carries as many as there are wires. The
-- higher bit of a pair stands on the higher wire, and so do the bits of a nibble: the bits of a clock are the low bits of its sample, as a number.
use Rattle.std.specs.Prelude.{ℕ, zero, suc, ◌+◌, ◌*◌, ◌/◌, ◌%◌, ◌^◌, ◌-◌, Bool, List, [], ◌∷◌, ltb}
use Rattle.units.specs.declared.Clocks.{Clocks}
use Rattle.units.specs.declared.Wires.{Wires}
use Rattle.units.specs.Units.{wires_of, per_byte, bits_in}

-- the bits of one clock; the sample's other wires say nothing
abbrev pub bits_of : Wires → ℕ → ℕ
bits_of w x = x % 2 ^ wires_of w

-- The number gathered so far, with one more clock's bits below it. What is gathered is a byte or an address, and the register that gathers it is as
-- wide as an address, 24 bits: older bits leave it at the top (D19).
unfoldable pub shift_of : Wires → ℕ → ℕ → ℕ
shift_of w number x = (number * 2 ^ wires_of w + bits_of w x) % 2 ^ 24

-- the number that the samples spell, after one that is gathered already
unfoldable pub gather_from : Wires → ℕ → List ℕ → ℕ
gather_from w number [] = number
gather_from w number (x ∷ xs) = gather_from w (shift_of w number x) xs

abbrev pub gather : Wires → List ℕ → ℕ
gather w xs = gather_from w 0 xs

-- a number has no more bits than so many clocks bring; 0 has none
unfoldable pub fits_in : Wires → Clocks → ℕ → Bool
fits_in w c v = ltb v (2 ^ bits_in w c)

-- the bits of v that have so many clocks' bits below them
abbrev pub above : Wires → ℕ → ℕ → ℕ
above w below v = v / 2 ^ (wires_of w * below) % 2 ^ wires_of w

-- the samples that spell the low bits of v in n clocks, wires that are not in use at 0
unfoldable pub spelled : Wires → ℕ → ℕ → List ℕ
spelled w zero v = []
spelled w (suc n) v = above w n v ∷ spelled w n v

abbrev pub spread : Wires → Clocks → ℕ → List ℕ
spread w c v = spelled w c.0 v

-- the bits of a byte in its clock k, counted from 0; after the last clock of a byte the first comes round again
unfoldable pub group_of : Wires → Clocks → ℕ → ℕ
group_of w k b = above w (per_byte w - 1 - k.0 % per_byte w) b
