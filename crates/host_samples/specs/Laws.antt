-- Laws of sending: what a clock carries, and what is left after it.
-- Assumes nothing.
use Rattle.std.specs.Prelude.{◌≡◌, refl, ℕ, suc, ◌+◌, ◌-◌, ◌*◌, ◌/◌, ◌^◌, ◌<◌, ◌≤◌, Bool, true, false, cond, List, [], ◌∷◌, ◌++◌, length, get_or, drop, replicate}
use Rattle.std.proofs.Common.{sym, ap, ◌∙◌, lt_of_lt_of_le, arith, drop_of_length-le, pow_mono, ltb-true}
use Rattle.std.proofs.Math.Nat.{div-eq_of_lt, zero-mod}
use Rattle.std.proofs.lemmas.List.{length-replicate, replicate-append-replicate}
use Rattle.units.specs.declared.Bytes.{Bytes}
use Rattle.units.specs.declared.Wires.{Wires}
use Rattle.units.specs.Units.{clocks, fewer_bytes, wires_of, per_byte, clocks_of, whole_of, clocks_within}
use Rattle.units.specs.Laws.{lt_whole}
use Rattle.wires.specs.Bits.{above, spelled}
use Rattle.buffers.specs.Page.{page, puts_of}
use Rattle.buffers.specs.Laws.{drop_one, puts_past}
use Rattle.paper.specs.Building.{spread_all, silent}

-- ---- the bits of a clock
-- past its last bit a number has none
pub none_above : (w : Wires) (below v : ℕ) → v < 2 ^ 32 → 32 ≤ wires_of w * below → 0 ≡ above w below v
none_above w below v h l =
    let e : v / 2 ^ (wires_of w * below) ≡ 0 = div-eq_of_lt (lt_of_lt_of_le h (pow_mono {i = 32} {j = wires_of w * below} l)) in
    rw (e, zero-mod)

-- ---- what is left to send: one of n clocks and then the others, or nothing
pub spread_next : (w : Wires) (n v : ℕ) → 0 < n → spelled w n v ≡ above w (n - 1) v ∷ spelled w (n - 1) v
unfolding spelled
spread_next w n v h = let e : n ≡ suc (n - 1) = omega arith in ap (λ (k : ℕ). spelled w k v) e

pub spread_none : (w : Wires) (n v : ℕ) → n ≤ 0 → spelled w n v ≡ []
unfolding spelled
spread_none w n v h = let e : n ≡ 0 = omega arith in rw e

pub silent_next : (n i : ℕ) → i < n → replicate {A = ℕ} (n - i) 0 ≡ 0 ∷ replicate {A = ℕ} (n - (i + 1)) 0
silent_next n i h = let e : n - i ≡ suc (n - (i + 1)) = omega arith in rw e

pub silent_none : (n i : ℕ) → n ≤ i → replicate {A = ℕ} (n - i) 0 ≡ []
silent_none n i h = let e : n - i ≡ 0 = omega arith in rw e

module _ (w : Wires) (bs : List ℕ) (i : ℕ) where
  pub written_next : i < length bs → spread_all w (drop i bs) ≡ spelled w (per_byte w) (get_or bs i 0) ++ spread_all w (drop (i + 1) bs)
  unfolding spread_all
  written_next h = rw (drop_one bs i h)

  pub written_none : length bs ≤ i → spread_all w (drop i bs) ≡ []
  unfolding spread_all
  written_none h = rw (drop_of_length-le bs h)

-- ---- no more silent clocks than the buffer has samples
pub wanted_within : (w : Wires) (b : Bytes) (at : ℕ) (out : List ℕ)
    → puts_of (silent (clocks_within w b (clocks (length out)))) (page at out) ≡ puts_of (silent (clocks_of w b)) (page at out)
unfolding clocks_within
wanted_within w b at out = by (fewer_bytes (whole_of w (clocks (length out))) b) refl
  where
    by : (t : Bool) → fewer_bytes (whole_of w (clocks (length out))) b ≡ t
        → puts_of (silent (cond t (clocks (length out)) (clocks_of w b))) (page at out) ≡ puts_of (silent (clocks_of w b)) (page at out)
    by true e =
        let n = length out in
        let m = (clocks_of w b).0 in
        let h : n < m = lt_whole w n b.0 (ltb-true _ _ e) in
        let s : n + (m - n) ≡ m = omega arith in
        sym (puts_past (replicate n 0) (replicate (m - n) 0) (page at out) (rw (length-replicate {A = ℕ} n 0) (omega arith)))
        ∙ ap (λ (zs : List ℕ). puts_of zs (page at out)) (replicate-append-replicate n (m - n) 0 ∙ rw s)
    by false e = refl
