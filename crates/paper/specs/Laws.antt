-- How many bytes are gathered, how many samples are sent, what a value for each sample comes to; bytes that leave nothing; what the host half refuses nothing of.
-- Assumes nothing.
use Rattle.std.specs.Prelude.{◌≡◌, true, false, length, drop, get_or, replicate}
use Rattle.std.proofs.Math.Path.{refl, sym, ap}
use Rattle.std.proofs.Common.{◌∙◌, zero-mul, suc-mul, add-zero, arith, length-append}
use Prim.Native.Nat.{ℕ, zero, suc, ◌+◌, ◌*◌, ◌/◌, ◌<◌}
use mathlib.Core.List.{List, [], ◌∷◌}
use Rattle.basis.specs.Decisions.{first_of, NoneHolds, none_holds}
use Rattle.units.specs.declared.Clocks.{Clocks}
use Rattle.units.specs.declared.Bytes.{Bytes}
use Rattle.units.specs.declared.Wires.{Wires}
use Rattle.units.specs.Units.{clocks, bytes, per_byte}
use Rattle.wires.specs.Bits.{spelled}
use Rattle.wires.proofs.Laws.{spread_length}
use Rattle.paper.specs.Reading.{bytes_in, data_bytes}
use Rattle.record.specs.declared.answers.Answer.TheVariants.{Done}
use Rattle.record.specs.Answers.{is_done}
use Rattle.paper.specs.Storing.{take_each}
use Rattle.paper.specs.Driving.{along}
use Rattle.paper.specs.Building.{spread_all, Refusals, checked}
use Rattle.paper.specs.Collecting.{Unfit, sifted}

module _ (w : Wires) where
  pub bytes_many : (n : ℕ) (xs : List ℕ) → length (bytes_in w n xs) ≡ n
  unfolding bytes_in
  bytes_many zero xs = refl
  bytes_many (suc n) xs = ap suc (bytes_many n (drop (per_byte w) xs))

  -- the whole bytes of the clocks
  pub data_many : (xs : List ℕ) → length (data_bytes w xs) ≡ length xs / per_byte w
  unfolding data_bytes
  data_many xs = bytes_many (length xs / per_byte w) xs

  -- the clocks of the bytes
  pub sent_many : (bs : List ℕ) → length (spread_all w bs) ≡ length bs * per_byte w
  unfolding spread_all
  sent_many [] = sym (zero-mul (per_byte w))
  sent_many (b ∷ bs) =
      rw (length-append (spelled w (per_byte w) b) (spread_all w bs), spread_length w (per_byte w) b, sent_many bs, suc-mul) (omega arith)

-- ---- a value for each sample, by its place
pub along_length : (f : Clocks → ℕ) (t : ℕ) (xs : List ℕ) → length (along f t xs) ≡ length xs
unfolding along
along_length f t [] = refl
along_length f t (x ∷ xs) = ap suc (along_length f (t + 1) xs)

pub along_zero : (xs : List ℕ) (t : ℕ) → along (λ c. 0) t xs ≡ replicate (length xs) 0
unfolding along
along_zero [] t = refl
along_zero (x ∷ xs) t = ap (λ (l : List ℕ). 0 ∷ l) (along_zero xs (t + 1))

pub along_at : (f : Clocks → ℕ) (xs : List ℕ) (t i : ℕ) → i < length xs → get_or (along f t xs) i 0 ≡ f (clocks (t + i))
unfolding along
along_at f [] t i h = absurd (omega arith)
along_at f (x ∷ xs) t zero h = rw add-zero
along_at f (x ∷ xs) t (suc i) h =
    let e : t + 1 + i ≡ t + suc i = omega arith in along_at f xs (t + 1) i (omega arith) ∙ ap (λ (n : ℕ). f (clocks n)) e

-- ---- whole bytes
-- bytes of which none leaves anything leave nothing
pub still : {S : Type 0} (f : Bytes → ℕ → S → S) → ((i : Bytes) (x : ℕ) (t : S) → f i x t ≡ t) → (bs : List ℕ) (i : ℕ) (t : S) → take_each f i bs t ≡ t
unfolding take_each
still f h [] i t = refl
still f h (x ∷ bs) i t = still f h bs (i + 1) (f (bytes i) x t) ∙ h (bytes i) x t

-- ---- an order that is refused nothing
pub record Unrefused (r : Refusals) : Type 0 where
  pub unknown : r.unknown ≡ false
  pub beyond : r.beyond ≡ false
  pub overlong : r.overlong ≡ false
  pub too_few : r.too_few ≡ false
  pub too_many : r.too_many ≡ false
  pub no_room : r.no_room ≡ false

named : (r : Refusals) → NoneHolds (checked r) → Unrefused r
named r (a, (b, (c, (d, (e, (f, z)))))) = record { unknown = a; beyond = b; overlong = c; too_few = d; too_many = e; no_room = f }

pub unrefused_when : (r : Refusals) → is_done (first_of Done (checked r)) ≡ true → Unrefused r
unrefused_when r e = named r (none_holds Done is_done (checked r) (refl, (refl, (refl, (refl, (refl, (refl, tt)))))) e)

-- ---- and driven samples that are refused nothing
pub record Fit (u : Unfit) : Type 0 where
  pub no_wires : u.no_wires ≡ false
  pub strange : u.strange ≡ false
  pub no_room : u.no_room ≡ false

named_fit : (u : Unfit) → NoneHolds (sifted u) → Fit u
named_fit u (a, (b, (c, z))) = record { no_wires = a; strange = b; no_room = c }

pub fit_when : (u : Unfit) → is_done (first_of Done (sifted u)) ≡ true → Fit u
fit_when u e = named_fit u (none_holds Done is_done (sifted u) (refl, (refl, (refl, tt))) e)
