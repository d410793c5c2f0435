-- One phase of a transaction, once for all of them: while it is not full each clock carries its state on, and the clock that fills it hands over.
-- Assumes nothing.
use Rattle.std.specs.Prelude.{◌≡◌, Bool, take}
use Rattle.std.proofs.Math.Path.{refl, ap}
use Rattle.std.proofs.Common.{sym, ◌∙◌, zero-add, length-take, take-append-drop, drop_of_length-le, leb-false}
use Prim.Native.Nat.{ℕ, suc, ◌+◌, ◌*◌, ◌<◌, ◌≤◌}
use Rattle.std.proofs.Math.Nat.{add-zero}
use native.Mathlib.Omega.{arith}
use Rattle.std.proofs.Math.Bool.{true, false, cond}
use mathlib.Core.List.{List, [], ◌∷◌, ◌++◌, append-nil}
use Rattle.std.proofs.Math.ListN.{length}
use Rattle.std.proofs.lemmas.Bool.{lt-leb}
use Rattle.basis.specs.Truth.{untrue}
use Rattle.units.specs.declared.Clocks.{Clocks}
use Rattle.units.specs.declared.Bytes.{Bytes}
use Rattle.units.specs.declared.Wires.{Wires}
use Rattle.units.specs.Units.{clocks, per_byte, clocks_of, at_most}
use Rattle.units.specs.Laws.{whole_lt, lt_whole}
use Rattle.commands.specs.declared.plans.Body.{Body}
use Rattle.commands.specs.declared.plans.Body.TheVariants.{Nothing, FixedRead, AnyRead, FixedWrite, AnyWrite}
use Rattle.record.specs.declared.devices.Device.{Device}
use Rattle.paper.specs.Reading.{many, first, after, data_part, rest_part}
use Rattle.paper.specs.Storing.{Lent}
use Rattle.paper.specs.Driving.{along}
use Rattle.paper.specs.Answers.{Facts}
use Rattle.contract_words.specs.Words.{Run}
use Rattle.machine_phases.specs.Machine.{terms_of, full_at, step_of, drive_of, run_of, outs_of}
use Rattle.machine_phases.specs.RunLaws.{run_append, outs_append}
use Rattle.machine_end.specs.Finish.{facts_in}

-- what a run shows at its end: the facts, what is lent, and what was driven
pub record Seen : Type 0 where
  pub facts : Facts
  pub lent : Lent
  pub out : List ℕ

abbrev pub shows : Run → List ℕ → Seen
shows r o = record { facts = facts_in r.progress; lent = r.lent; out = o }

abbrev pub seen : Device → Run → List ℕ → Seen
seen d r xs = shows (run_of d r xs) (outs_of d r xs)

-- the same, where so much was driven before
abbrev pub behind : List ℕ → Seen → Seen
behind o s = record { facts = s.facts; lent = s.lent; out = o ++ s.out }

seen_append : (d : Device) (r : Run) (xs ys : List ℕ) → seen d r (xs ++ ys) ≡ behind (outs_of d r xs) (seen d (run_of d r xs) ys)
seen_append d r xs ys = rw (run_append d r xs ys, outs_append d r xs ys)

-- a state that every clock of a phase carries on, the clocks counted from t
unfoldable pub carried : {S : Type 0} → (Clocks → S → ℕ → S) → ℕ → S → List ℕ → S
carried f t s [] = s
carried f t s (x ∷ xs) = carried f (t + 1) (f (clocks t) s x) xs

-- A CUT: the samples zs are those of the phase, which is not full before its last clock, and those after it, of which there are none unless it is full
pub record Cut (full : Clocks → Bool) (zs xs ys : List ℕ) : Type 0 where
  pub whole : xs ++ ys ≡ zs
  pub busy : (i : ℕ) → i < length xs → full (clocks i) ≡ false
  pub ends : full (many xs) ≡ false → ys ≡ []

-- ---- the phase: `go` is the machine in it after some clocks, `done` the machine past it
module _
    (d : Device) {S : Type 0} (full : Clocks → Bool) (done go : Clocks → S → Run) (tick : Clocks → S → ℕ → S) (out : Clocks → ℕ) (Ok : S → Type 0)
    (moves : (t : ℕ) (s : S) (x : ℕ)
    → step_of (terms_of d) (go (clocks t) s) x
    ≡ cond (full (clocks (t + 1))) (done (clocks (t + 1)) (tick (clocks t) s x)) (go (clocks (t + 1)) (tick (clocks t) s x)))
    (drives : (t : ℕ) (s : S) → Ok s → drive_of d (go (clocks t) s) ≡ out (clocks t))
    (keeps : (t : ℕ) (s : S) (x : ℕ) → Ok s → Ok (tick (clocks t) s x)) where
  abbrev enter : ℕ → S → Run
  enter t s = cond (full (clocks t)) (done (clocks t) s) (go (clocks t) s)

  -- the clocks of the phase, from its clock t on
  stays : (xs : List ℕ) (t : ℕ) (s : S) → Ok s → ((i : ℕ) → t ≤ i → i < t + length xs → full (clocks i) ≡ false)
      → (run_of d (enter t s) xs ≡ enter (t + length xs) (carried tick t s xs)) × (outs_of d (enter t s) xs ≡ along out t xs)
  unfolding run_of outs_of carried along
  stays [] t s ok busy = (rw add-zero, refl)
  stays (x ∷ xs) t s ok busy =
      let e : full (clocks t) ≡ false = busy t (omega arith) (omega arith) in
      let s' = tick (clocks t) s x in
      let ih = stays xs (t + 1) s' (keeps t s x ok) (λ i h k. busy i (omega arith) (omega arith)) in
      let n : t + 1 + length xs ≡ t + suc (length xs) = omega arith in (
        rw e (ap (λ (r : Run). run_of d r xs) (moves t s x) ∙ ih.0 ∙ ap (λ (m : ℕ). enter m (carried tick (t + 1) s' xs)) n),
        rw (e, drives t s ok) (ap (λ (r : Run). out (clocks t) ∷ outs_of d r xs) (moves t s x) ∙ ap (λ (l : List ℕ). out (clocks t) ∷ l) ih.1),
      )

  -- THE PLACE: after any clocks the machine stands in the phase, or has gone on behind it
  pub place : {zs xs ys : List ℕ} → Cut full zs xs ys → (s : S) → Ok s
      → run_of d (enter 0 s) zs ≡ cond (full (many xs)) (run_of d (done (many xs) (carried tick 0 s xs)) ys) (go (many xs) (carried tick 0 s xs))
  unfolding run_of
  place {zs} {xs} {ys} c s ok =
      let s' = carried tick 0 s xs in
      ap (run_of d (enter 0 s)) (sym c.whole)
      ∙ run_append d (enter 0 s) xs ys
      ∙ ap (λ (r : Run). run_of d r ys) (stays xs 0 s ok (λ i l h. c.busy i (omega arith))).0
      ∙ ap (λ (m : ℕ). run_of d (enter m s') ys) (zero-add (length xs))
      ∙ by s' (full (many xs)) refl c.ends
    where
      by : (s' : S) (b : Bool) → full (many xs) ≡ b → (full (many xs) ≡ false → ys ≡ [])
          → run_of d (enter (length xs) s') ys ≡ cond (full (many xs)) (run_of d (done (many xs) s') ys) (go (many xs) s')
      by s' true e h = rw e
      by s' false e h = rw (e, h e)

  -- `next` is what is seen from the end of the phase on, full or not
  module _
      (next : Clocks → S → List ℕ → Seen)
      (onward : (t : Clocks) (s : S) (ys : List ℕ) → full t ≡ true → seen d (done t s) ys ≡ next t s ys)
      (short : (t : Clocks) (s : S) → full t ≡ false → shows (go t s) [] ≡ next t s []) where
    leaves : (t : Clocks) (s : S) (ys : List ℕ) (b : Bool) → full t ≡ b → (full t ≡ false → ys ≡ []) → seen d (enter t.0 s) ys ≡ next t s ys
    unfolding run_of outs_of
    leaves t s ys true e h = rw e (onward t s ys e)
    leaves t s ys false e h = rw (e, h e) (short t s e)

    pub stage : {zs xs ys : List ℕ} → Cut full zs xs ys → (s : S) → Ok s
        → seen d (enter 0 s) zs ≡ behind (along out 0 xs) (next (many xs) (carried tick 0 s xs) ys)
    stage {zs} {xs} {ys} c s ok =
        let st = stays xs 0 s ok (λ i l h. c.busy i (omega arith)) in
        let s' = carried tick 0 s xs in
        ap (seen d (enter 0 s)) (sym c.whole)
        ∙ seen_append d (enter 0 s) xs ys
        ∙ ap (λ (o : List ℕ). behind o (seen d (run_of d (enter 0 s) xs) ys)) st.1
        ∙ ap (λ (r : Run). behind (along out 0 xs) (seen d r ys)) st.0
        ∙ ap (λ (m : ℕ). behind (along out 0 xs) (seen d (enter m s') ys)) (zero-add (length xs))
        ∙ ap (behind (along out 0 xs)) (leaves (many xs) s' ys (full (many xs)) refl c.ends)

-- ---- how the phases cut the samples
pub cut_first : (c : Clocks) (zs : List ℕ) → Cut (at_most c) zs (first c zs) (after c zs)
cut_first c zs =
    let k = length-take c.0 zs in
    record {
      whole = take-append-drop c.0 zs;
      busy = λ i h. lt-leb c.0 i (omega arith);
      ends = λ e. let h = leb-false c.0 (length (take c.0 zs)) e in drop_of_length-le zs {i = c.0} (omega arith);
    }

cut_bytes : (w : Wires) (b : Bytes) (zs : List ℕ) → Cut (full_at (FixedRead b) w) zs (first (clocks_of w b) zs) (after (clocks_of w b) zs)
cut_bytes w b zs =
    let n = b.0 * per_byte w in
    let k = length-take n zs in
    record {
      whole = take-append-drop n zs;
      busy = λ i h. lt-leb b.0 _ (whole_lt w i b.0 (omega arith));
      ends = λ e. let h = lt_whole w (length (take n zs)) b.0 (leb-false b.0 _ e) in drop_of_length-le zs {i = n} (omega arith);
    }

cut_all : (zs : List ℕ) → Cut (λ t. false) zs zs []
cut_all zs = record { whole = append-nil zs; busy = λ i h. refl; ends = λ e. refl }

pub cut_body : (b : Body) (w : Wires) (zs : List ℕ) → Cut (full_at b w) zs (data_part b w zs) (rest_part b w zs)
cut_body Nothing w zs = record { whole = refl; busy = λ i h. absurd (omega arith); ends = λ e. untrue (sym e) }
cut_body (FixedRead b) w zs = cut_bytes w b zs
cut_body AnyRead w zs = cut_all zs
cut_body (FixedWrite b) w zs = let c = cut_bytes w b zs in record { whole = c.whole; busy = c.busy; ends = c.ends }
cut_body AnyWrite w zs = cut_all zs
