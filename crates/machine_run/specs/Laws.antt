-- Laws of the loop over samples.
-- Assumes nothing.
use Rattle.std.specs.Prelude.{◌≡◌, refl, ℕ, suc, ◌+◌, ◌<◌, ◌≤◌, get_or, set}
use Rattle.std.proofs.Math.Path.{ap}
use Rattle.std.proofs.Common.{◌∙◌, zero-add, arith, drop-cons}
use Rattle.std.proofs.Math.Numerals.{add-one}
use mathlib.Core.List.{List, []}
use Rattle.std.proofs.Math.ListN.{length, drop, length-set, drop_of_length-le}
use Rattle.std.proofs.Math.Seq.{sets}
use Rattle.std.proofs.lemmas.List.Edits.{sets-eq}
use Rattle.record.specs.declared.devices.Device.{Device}
use Rattle.paper.specs.Transaction.{over}
use Rattle.progress.specs.declared.Progress.{Progress}
use Rattle.contract_words.specs.Words.{Run, run_as}
use Rattle.machine_phases.specs.Machine.{terms_of, step_of, drive_of, run_of, outs_of}
use Rattle.machine_phases.specs.RunLaws.{clocks_in, outs_length, step_one}
use Rattle.machine_run.specs.Fed.{Fed}

-- the loop: what is left of the samples, done from here, comes to the whole
pub record Running (d : Device) (m₀ a₀ xs o₀ : List ℕ) (q₀ : Progress) (m a o : List ℕ) (q : Progress) (i : ℕ) : Type 0 where
  pub seen : i ≤ length xs
  pub left : run_of d (run_as q m a) (drop i xs) ≡ run_of d (run_as q₀ m₀ a₀) xs
  pub outs : sets o i (outs_of d (run_as q m a) (drop i xs)) ≡ sets o₀ 0 (outs_of d (run_as q₀ m₀ a₀) xs)
  pub count : clocks_in q ≡ clocks_in q₀ + i
  pub long : length o ≡ length o₀
  pub memory : length m ≡ length m₀
  pub area : length a ≡ length a₀

pub run_start : (d : Device) (m a xs o : List ℕ) (q : Progress) → Running d m a xs o q m a o q 0
run_start d m a xs o q = record { seen = omega arith; left = refl; outs = refl; count = omega arith; long = refl; memory = refl; area = refl }

module _ {d : Device} {m₀ a₀ xs o₀ : List ℕ} {q₀ : Progress} {m a o : List ℕ} {q : Progress} {i : ℕ} (f : Running d m₀ a₀ xs o₀ q₀ m a o q i) where
  pub run_turn : {m' a' : List ℕ} {q' : Progress} {v : ℕ} → i < length xs
      → v ≡ drive_of d (run_as q m a) → run_as q' m' a' ≡ step_of (terms_of d) (run_as q m a) (get_or xs i 0)
      → length m' ≡ length m → length a' ≡ length a → Running d m₀ a₀ xs o₀ q₀ m' a' (set o i v) q' (i + 1)
  unfolding run_of outs_of
  run_turn {m'} {a'} {q'} {v} h e g km ka =
      let l = rw (drop-cons xs i 0 h) at f.left in
      let u = rw (drop-cons xs i 0 h) at f.outs in
      let t : clocks_in q' ≡ clocks_in q + 1 = ap (λ (r : Run). clocks_in r.progress) g ∙ step_one (terms_of d) (run_as q m a) (get_or xs i 0) in
      let n = f.count in
      let y = f.memory in
      let z = f.area in
      record {
        seen = omega arith;
        left = rw add-one (ap (λ (r : Run). run_of d r (drop (suc i) xs)) g ∙ l);
        outs = rw (add-one, e) (ap (λ (r : Run). sets (set o i (drive_of d (run_as q m a))) (suc i) (outs_of d r (drop (suc i) xs))) g ∙ u);
        count = omega arith;
        long = rw length-set f.long;
        memory = km ∙ y;
        area = ka ∙ z;
      }

  pub run_end : length xs ≤ i → length xs ≤ length o₀ → Fed d (run_as q₀ m₀ a₀) xs o₀ (run_as q m a) o
  unfolding run_of outs_of over
  run_end h room =
      let n : drop i xs ≡ [] = drop_of_length-le xs h in
      let l = rw n at f.left in
      let u = rw n at f.outs in
      let k : length (outs_of d (run_as q₀ m₀ a₀) xs) ≡ length xs = outs_length d (run_as q₀ m₀ a₀) xs in
      record { run = l; driven = u ∙ rw (sets-eq (outs_of d (run_as q₀ m₀ a₀) xs) o₀ 0 (omega arith), zero-add) }
