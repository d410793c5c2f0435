-- A page: bytes in a buffer, and the place where the next one goes.
use Rattle.std.specs.Prelude.{ℕ, ◌+◌, cond, List, [], ◌∷◌, ltb, length, set}

pub record Page : Type 0 where
  pub at : ℕ
  pub buffer : List ℕ

abbrev pub page : ℕ → List ℕ → Page
page at buffer = record { at = at; buffer = buffer }

-- a byte, where there is room
unfoldable pub put_of : ℕ → Page → Page
put_of b p = cond (ltb p.at (length p.buffer)) (page (p.at + 1) (set p.buffer p.at b)) p

-- bytes, one after the other
unfoldable pub puts_of : List ℕ → Page → Page
puts_of [] p = p
puts_of (b ∷ bs) p = puts_of bs (put_of b p)
