-- `image::writes::put_open` meets its contract: one stretch after the other.
-- Assumes nothing.
use Rattle.std.specs.Prelude.{◌≡◌, ℕ, ◌/◌, ◌%◌, [], ◌∷◌}
use Rattle.std.proofs.Common.{arith}
use Rattle.image.specs.Image.{four_of}
use Rattle.image.specs.Laws.{onto}
use Rattle.image.proofs.writes.put_open.Goals as goal

-- each byte by one division, or by one more than the byte before it
le_four : (n : ℕ) → n % 256 ∷ n / 256 % 256 ∷ n / 65536 % 256 ∷ n / 16777216 % 256 ∷ [] ≡ four_of n
le_four n =
    let a : n / 65536 ≡ n / 256 / 256 = omega arith in
    let b : n / 16777216 ≡ n / 256 / 256 / 256 = omega arith in
    rw (a, b)

pub returns-clause-put : goal.returns-clause-put
returns-clause-put c =
    onto _ _ _
    (onto _ _ _ (onto _ _ _ (rw c.from.ensures at c.put_all.ensures.put) (rw (c.four_of.ensures, c.in_clocks.ensures) at c.put_all-2.ensures.put)) (rw (c.to_le_bytes.ensures, le_four c.args.u.address) at c.put_all-3.ensures.put))
    (rw (c.to_le_bytes-2.ensures, le_four c.args.u.number) at c.put_all-4.ensures.put)
