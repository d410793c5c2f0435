-- Bytes in hexadecimal, one after the other, and the zeros in front of one.
-- Assumes nothing.
use Rattle.std.specs.Prelude.{◌≡◌, ℕ, ◌+◌, ◌<◌, ◌≤◌, List, [], ◌∷◌, ◌++◌, length, get_or, drop, replicate}
use Rattle.std.proofs.Common.{sym, ap, ◌∙◌, drop_of_length-le}
use Rattle.std.proofs.lemmas.List.{replicate_more}
use Rattle.buffers.specs.Page.{Page, put_of, puts_of}
use Rattle.buffers.specs.Laws.{drop_one, puts_append}
use Rattle.text.specs.Hexadecimal.{hex_of, hexes_of}

-- a zero more
pub zeros_more : (i : ℕ) (p : Page) {q r : Page} → q ≡ puts_of (replicate i 48) p → r ≡ put_of 48 q → r ≡ puts_of (replicate (i + 1) 48) p
unfolding puts_of
zeros_more i p e f =
    f ∙ ap (put_of 48) e ∙ sym (puts_append (replicate i 48) (48 ∷ []) p) ∙ ap (λ (zs : List ℕ). puts_of zs p) (replicate_more i 48)

module _ (width : ℕ) (bs : List ℕ) (i : ℕ) where
  pub byte_next : i < length bs → hexes_of width (drop i bs) ≡ hex_of width (get_or bs i 0) ++ hexes_of width (drop (i + 1) bs)
  unfolding hexes_of
  byte_next h = rw (drop_one bs i h)

  pub byte_none : length bs ≤ i → hexes_of width (drop i bs) ≡ []
  unfolding hexes_of
  byte_none h = rw (drop_of_length-le bs h)
