-- A burst into memory, told by itself: where its bytes lie, which places are protected, what was sent. Document 01, "Commands of part M" and "Commands of part P",
-- the paragraphs on memory, and "What the promises have to nail", last sentence.
use Rattle.std.specs.Prelude.{ℕ, ◌+◌, ◌%◌, Bool, cond, not, List, [], ◌∷◌, ◌++◌, T, eqb, length, replicate, set}
use Rattle.basis.specs.Counting.{how_many}
use Rattle.basis.specs.Examples.{all, same}
use Rattle.units.specs.declared.Bytes.{Bytes}
use Rattle.units.specs.Units.{bytes}

pub record Burst : Type 0 where
  -- the place of byte i
  pub place : Bytes → ℕ
  -- the place is protected
  pub shut : ℕ → Bool
  -- the whole data bytes, the first first
  pub sent : List ℕ

-- byte i, stored unless its place is protected
abbrev pub store_one : Burst → ℕ → ℕ → List ℕ → List ℕ
store_one b i x memory = cond (b.shut (b.place (bytes i))) memory (set memory (b.place (bytes i)) x)

-- bytes from byte i on
unfoldable pub store_from : Burst → ℕ → List ℕ → List ℕ → List ℕ
store_from b i [] memory = memory
store_from b i (x ∷ xs) memory = store_from b (i + 1) xs (store_one b i x memory)

abbrev pub store : Burst → List ℕ → List ℕ
store b memory = store_from b 0 b.sent memory

-- THE TOUCHED PLACES: of each whole data byte, protected or not
unfoldable pub places_from : Burst → ℕ → List ℕ → List ℕ
places_from b i [] = []
places_from b i (x ∷ xs) = b.place (bytes i) ∷ places_from b (i + 1) xs

abbrev pub places_of : Burst → List ℕ
places_of b = places_from b 0 b.sent

-- all of its places are protected: as many as it has bytes
unfoldable pub shut_all : Burst → Bool
shut_all b = eqb (how_many (λ i. b.shut (b.place (bytes i))) (length b.sent)) (length b.sent)

-- the byte sent last for the place a, or the old one where none was
unfoldable pub last_from : Burst → ℕ → ℕ → List ℕ → ℕ → ℕ
last_from b a i [] old = old
last_from b a i (x ∷ xs) old = last_from b a (i + 1) xs (cond (eqb (b.place (bytes i)) a) x old)

-- WHAT THE RULES LEAVE at the place a: the byte sent last, or the old one where it is protected
abbrev pub left_at : Burst → ℕ → ℕ → ℕ
left_at b a old = cond (b.shut a) old (last_from b a 0 b.sent old)

-- WHAT IS STORED of a burst: nothing where it is answered 9. Under the paper's rule 9 is the answer where every place is protected.
abbrev pub landed : Burst → Burst
landed b = record { place = b.place; shut = b.shut; sent = cond (shut_all b) [] b.sent }

-- ---- worked out: four bytes from 0Eh in a group of 16, whose place 00h is protected
abbrev four : Burst
four = record { place = λ i. (0x0E + i.0) % 16; shut = λ a. eqb a 0x00; sent = 1 ∷ 2 ∷ 3 ∷ 4 ∷ [] }

unfoldable pub examples : List Bool
examples =
    same (places_of four) (0x0E ∷ 0x0F ∷ 0x00 ∷ 0x01 ∷ [])
    ∷ same (store four (replicate 16 9)) (9 ∷ 4 ∷ replicate 12 9 ++ (1 ∷ 2 ∷ []))
    ∷ not (shut_all four)
    ∷ eqb (left_at four 0x00 9) 9
    ∷ eqb (left_at four 0x01 9) 4
    ∷ eqb (left_at four 0x02 9) 9
    ∷ []

pub examples_hold : T (all examples)
unfolding examples store_from places_from how_many shut_all last_from
examples_hold = tt
