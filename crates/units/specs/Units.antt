-- Clocks and bytes. Document 01, "Samples", last sentence: the two are never taken for one another. Each is a type of its own here too, and every
-- way from one to the other names the wires (D64).
use Rattle.std.specs.Prelude.{ℕ, ◌+◌, ◌-◌, ◌*◌, ◌/◌, ◌%◌, Bool, cond, ltb, leb, eqb}
use Rattle.units.specs.declared.Clocks.{Clocks}
use Rattle.units.specs.declared.Bytes.{Bytes}
use Rattle.units.specs.declared.Wires.{Wires}
use Rattle.units.specs.declared.Wires.TheVariants.{One, Two, Four}

abbrev pub clocks : ℕ → Clocks
clocks k = record { 0 = k }

abbrev pub bytes : ℕ → Bytes
bytes k = record { 0 = k }

-- one clock more, and one byte
abbrev pub next : Clocks → Clocks
next c = clocks (c.0 + 1)

abbrev pub next_byte : Bytes → Bytes
next_byte b = bytes (b.0 + 1)

-- clocks and more clocks, and clocks without some of them
abbrev pub plus : Clocks → Clocks → Clocks
plus c d = clocks (c.0 + d.0)

abbrev pub less : Clocks → Clocks → Clocks
less c d = clocks (c.0 - d.0)

-- clocks are compared with clocks, and bytes with bytes (D64)
abbrev pub fewer : Clocks → Clocks → Bool
fewer c d = ltb c.0 d.0

abbrev pub at_most : Clocks → Clocks → Bool
at_most c d = leb c.0 d.0

abbrev pub fewer_bytes : Bytes → Bytes → Bool
fewer_bytes b c = ltb b.0 c.0

abbrev pub at_most_bytes : Bytes → Bytes → Bool
at_most_bytes b c = leb b.0 c.0

abbrev pub same_bytes : Bytes → Bytes → Bool
same_bytes b c = eqb b.0 c.0

-- clocks, but no more than so many
abbrev pub up_to : Clocks → Clocks → Clocks
up_to most c = cond (fewer c most) c most

-- no transaction has more clocks. Document 01, "Samples", first sentence, and "Answer numbers", row 1
abbrev pub longest : Clocks
longest = clocks 65535

-- how many wires they are, which is how many bits travel in a clock
abbrev pub wires_of : Wires → ℕ
wires_of One = 1
wires_of Two = 2
wires_of Four = 4

-- the rate: the eight bits of a byte, so many to a clock, take so many clocks
abbrev pub per_byte : Wires → ℕ
per_byte w = 8 / wires_of w

-- bytes to clocks
abbrev pub clocks_of : Wires → Bytes → Clocks
clocks_of w b = clocks (b.0 * per_byte w)

-- those of one byte
abbrev pub byte_clocks : Wires → Clocks
byte_clocks w = clocks (per_byte w)

-- clocks to whole bytes
abbrev pub whole_of : Wires → Clocks → Bytes
whole_of w c = bytes (c.0 / per_byte w)

-- bytes to clocks, but no more than there are: all of them where they carry fewer bytes
unfoldable pub clocks_within : Wires → Bytes → Clocks → Clocks
clocks_within w b all = cond (fewer_bytes (whole_of w all) b) all (clocks_of w b)

-- the clocks past the last whole byte
abbrev pub unfinished_of : Wires → Clocks → Clocks
unfinished_of w c = clocks (c.0 % per_byte w)

-- the clocks of its byte that come after clock k, counted from 0
abbrev pub coming_of : Wires → Clocks → Clocks
coming_of w k = clocks (per_byte w - 1 - k.0 % per_byte w)

-- the bits that so many clocks carry
abbrev pub bits_in : Wires → Clocks → ℕ
bits_in w c = wires_of w * c.0
