-- Laws of the plan: the rule of the table of waits.
-- Assumes nothing.
use Rattle.std.specs.Prelude.{◌≡◌, refl, ℕ, ◌+◌, ◌*◌, ◌%◌, ◌<◌, ◌≤◌, Bool, true, false, [], ◌∷◌, length, get_or, Some, None}
use Rattle.std.proofs.Common.{sym, ap, ◌∙◌, arith, lit≤, lit<}
use Rattle.std.proofs.lemmas.Bool.{eqb-false}
use Rattle.std.proofs.Math.ListN.{get_or-append}
use Rattle.units.specs.declared.Wires.{Wires}
use Rattle.units.specs.declared.Wires.TheVariants.{One, Two, Four}
use Rattle.units.specs.Units.{clocks}
use Rattle.kinds.specs.declared.ReadForm.TheVariants as Reads
use Rattle.kinds.specs.declared.Source.TheVariants as From
use Rattle.kinds.specs.declared.Kind.{Kind}
use Rattle.kinds.specs.declared.Kind.TheVariants.{Unknown, Plain, Read, Write}
use Rattle.commands.specs.Plans.{fixed_waits, wait_table, wait_row, waits_by_register, fixed_row, column_of, wait_of}

pub column_lt : (w : Wires) → column_of w < 3
column_lt One = lit< tt
column_lt Two = lit< tt
column_lt Four = lit< tt

-- the rows are 0 to 5
pub row_le : (k : Kind) → wait_row k ≤ 5
row_le Unknown = lit≤ tt
row_le (Plain c) = lit≤ tt
row_le (Read (From.Register r)) = lit≤ tt
row_le (Read From.Map) = lit≤ tt
row_le (Read From.Mode) = lit≤ tt
row_le (Read From.Identity) = lit≤ tt
row_le (Read (From.Memory Reads.Plain)) = lit≤ tt
row_le (Read (From.Memory Reads.Fast)) = lit≤ tt
row_le (Read (From.Memory Reads.Quad)) = lit≤ tt
row_le (Read (From.Memory Reads.Wrapped)) = lit≤ tt
row_le (Read From.Area) = lit≤ tt
row_le (Write t) = lit≤ tt

module _ (k : Kind) (w : Wires) (cr2 : ℕ) where
  -- a row before the last is fixed
  pub wait_fixed : (wait_row k ≡ 5 → ⊥) → clocks (get_or fixed_waits (3 * wait_row k + column_of w) 0) ≡ wait_of k w cr2
  wait_fixed n =
      let l = row_le k in
      let m = column_lt w in
      let h : 3 * wait_row k + column_of w < length fixed_waits = omega arith in
      ap clocks (sym (get_or-append fixed_waits (cr2 % 16 ∷ cr2 % 16 ∷ cr2 % 16 ∷ []) 0 (3 * wait_row k + column_of w) h))

  last : (v : Wires) → cr2 % 16 ≡ get_or (wait_table cr2) (3 * 5 + column_of v) 0
  last One = refl
  last Two = refl
  last Four = refl

  -- the last is configuration 2
  pub wait_configured : wait_row k ≡ 5 → clocks (cr2 % 16) ≡ wait_of k w cr2
  wait_configured e = rw e (ap clocks (last w))

-- two configurations 2 give the same wait, but where it stands there
pub wait_by : (k : Kind) (w : Wires) (a b : ℕ) → (waits_by_register k ≡ true → a ≡ b) → wait_of k w a ≡ wait_of k w b
wait_by k w a b e = by (waits_by_register k) refl e
  where
    by : (t : Bool) → waits_by_register k ≡ t → (t ≡ true → a ≡ b) → wait_of k w a ≡ wait_of k w b
    by true h e = ap (wait_of k w) (e refl)
    by false h e = let n = eqb-false (wait_row k) 5 h in sym (wait_fixed k w a n) ∙ wait_fixed k w b n

-- a row of the fixed waits is the command's row, and not the last
pub row_some : (k : Kind) (r : ℕ) → fixed_row k ≡ Some r → (wait_row k ≡ r) × (wait_row k ≡ 5 → ⊥)
row_some k r h = by (waits_by_register k) refl
  where
    by : (t : Bool) → waits_by_register k ≡ t → (wait_row k ≡ r) × (wait_row k ≡ 5 → ⊥)
    by true e = let i : None ≡ Some r = rw e at h in absurd (cc i)
    by false e = let i : Some (wait_row k) ≡ Some r = rw e at h in (cc i, eqb-false (wait_row k) 5 e)
