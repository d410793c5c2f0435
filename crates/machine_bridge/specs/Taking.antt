-- What the data clocks leave, by what the data is: a write its whole bytes, held back or not, a read nothing.
-- Assumes nothing.
use Rattle.std.specs.Prelude.{◌≡◌, ℕ, ◌+◌, ◌*◌, ◌/◌, ◌<◌, Bool, true, false, cond, length, drop}
use Rattle.std.proofs.Math.Path.{refl}
use Rattle.std.proofs.Common.{sym, ap, ◌∙◌, arith}
use mathlib.Core.List.{List, [], ◌∷◌}
use borrow.Author.Tests.{eqb-true}
use Rattle.basis.specs.Counting.{how_many, each_passes}
use Rattle.units.specs.declared.Clocks.{Clocks}
use Rattle.units.specs.declared.Wires.{Wires}
use Rattle.units.specs.Units.{bytes, per_byte}
use Rattle.wires.specs.Bits.{gather}
use Rattle.commands.specs.declared.plans.Body.{Body}
use Rattle.commands.specs.Plans.{writes}
use Rattle.record.specs.declared.devices.Aim.{Aim}
use Rattle.paper.specs.Reading.{data_bytes}
use Rattle.paper.specs.Storing.{Lent, protected_at, all_shut, stored, store_byte, value_byte, take_each}
use Rattle.paper.specs.Laws.{still}
use Rattle.contract_words.specs.Words.{Taken, Held}
use Rattle.machine_phases.specs.Machine.{byte_for, held}
use Rattle.machine_phases.specs.Laws.{kept}
use Rattle.machine_bridge.specs.Stage.{carried}
use Rattle.machine_bridge.specs.Gathering.{whole_bytes}

-- ---- memory and area on one side, the value on the other
module _ (b : Body) (a : Aim) where
  apart : (hold : Bool) (bs : List ℕ) (i : ℕ) (t : Taken)
      → take_each (byte_for hold b a) i bs t
      ≡ record { lent = take_each (λ j x l. cond hold l (store_byte b a j x l)) i bs t.lent; value = take_each (value_byte b) i bs t.value }
  unfolding take_each
  apart hold [] i t = refl
  apart hold (x ∷ bs) i t = apart hold bs (i + 1) (byte_for hold b a (bytes i) x t)

  held_lent : (hold : Bool) (bs : List ℕ) (l : Lent) → take_each (λ j x m. cond hold m (store_byte b a j x m)) 0 bs l ≡ cond hold l (take_each (store_byte b a) 0 bs l)
  held_lent true bs l = still (λ j x m. m) (λ i x m. refl) bs 0 l
  held_lent false bs l = refl

  -- holding back each byte is holding back all
  pub held_all : (hold : Bool) (bs : List ℕ) (t : Taken)
      → take_each (byte_for hold b a) 0 bs t
      ≡ record { lent = cond hold t.lent (take_each (store_byte b a) 0 bs t.lent); value = take_each (value_byte b) 0 bs t.value }
  held_all hold bs t = apart hold bs 0 t ∙ rw (held_lent hold bs t.lent)

-- ---- clock by clock
abbrev pub tick_for : Body → Wires → Bool → Aim → Clocks → Held → ℕ → Held
tick_for b w hold a t h x = cond (writes b) (held w (byte_for hold b a) t h x) h

idle : (xs : List ℕ) (t : ℕ) (h : Held) → carried (λ c g x. g) t h xs ≡ h
unfolding carried
idle [] t h = refl
idle (x ∷ xs) t h = idle xs (t + 1) h

-- THE DATA: clock by clock comes to byte by byte, and a write has the number of the byte that is not whole
pub taken_all : (b : Body) (w : Wires) (hold : Bool) (a : Aim) (xs : List ℕ) (t : Taken)
    → carried (tick_for b w hold a) 0 (record { number = 0; taken = t }) xs
    ≡ record { number = cond (writes b) (gather w (drop (length xs / per_byte w * per_byte w) xs)) 0; taken = take_each (byte_for hold b a) 0 (data_bytes w xs) t }
taken_all b w hold a xs t = by (writes b) refl
  where
    by : (c : Bool) → writes b ≡ c
        → carried (λ u h x. cond c (held w (byte_for hold b a) u h x) h) 0 (record { number = 0; taken = t }) xs
        ≡ record { number = cond c (gather w (drop (length xs / per_byte w * per_byte w) xs)) 0; taken = take_each (byte_for hold b a) 0 (data_bytes w xs) t }
    by true e = whole_bytes w (byte_for hold b a) xs t
    by false e =
        idle xs 0 (record { number = 0; taken = t })
        ∙ ap (λ (u : Taken). record { number = 0; taken = u }) (sym (still (byte_for hold b a) (λ i x u. sym (kept hold a i x u b e)) (data_bytes w xs) 0 t))

-- ---- a burst into protected places only stores nothing
module _ (a : Aim) where
  shut_from : (bs : List ℕ) (i : ℕ) (l : Lent) → ((j : ℕ) → j < i + length bs → protected_at a (bytes j) ≡ true) → take_each (stored a) i bs l ≡ l
  unfolding take_each
  shut_from [] i l h = refl
  shut_from (x ∷ bs) i l h = rw (h i (omega arith)) (shut_from bs (i + 1) l (λ j k. h j (omega arith)))

  pub shut_burst : (bs : List ℕ) (m : ℕ) (l : Lent) → length bs ≡ m → all_shut a (bytes m) ≡ true → take_each (stored a) 0 bs l ≡ l
  unfolding all_shut
  shut_burst bs m l n e =
      let all = eqb-true (how_many (λ i. protected_at a (bytes i)) m) m e in
      shut_from bs 0 l (λ j h. each_passes (λ i. protected_at a (bytes i)) m all j (omega arith))
