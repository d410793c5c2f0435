-- Text after text.
-- Assumes nothing.
use Rattle.std.specs.Prelude.{◌≡◌, List, [], ◌∷◌, ◌++◌, ℕ}
use Rattle.std.proofs.Common.{ap, sym, ◌∙◌}
use Rattle.buffers.specs.Page.{Page, put_of, puts_of}
use Rattle.buffers.specs.Laws.{puts_append}

-- a text that is put, and then another
pub puts_then : (xs ys : List ℕ) (p : Page) {q r : Page} → q ≡ puts_of xs p → r ≡ puts_of ys q → r ≡ puts_of (xs ++ ys) p
puts_then xs ys p e f = f ∙ ap (puts_of ys) e ∙ sym (puts_append xs ys p)

-- a byte, and then a text; and a text, and then a byte
pub put_then : (b : ℕ) (ys : List ℕ) (p : Page) {q r : Page} → q ≡ put_of b p → r ≡ puts_of ys q → r ≡ puts_of (b ∷ ys) p
unfolding puts_of
put_then b ys p e f = f ∙ ap (puts_of ys) e

pub puts_put : (xs : List ℕ) (b : ℕ) (p : Page) {q r : Page} → q ≡ puts_of xs p → r ≡ put_of b q → r ≡ puts_of (xs ++ (b ∷ [])) p
unfolding puts_of
puts_put xs b p e f = puts_then xs (b ∷ []) p e f
