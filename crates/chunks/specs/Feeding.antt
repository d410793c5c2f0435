-- A CHUNK MORE: the record that open and feed leave holds the facts of all samples so far, and the machine goes on as over the whole. Document 02, P1.
-- Assumes nothing.
use Rattle.std.specs.Prelude.{◌≡◌, ℕ, ◌+◌, ◌-◌, ◌%◌, ◌<◌, Bool}
use Rattle.std.proofs.Math.Path.{refl, ap}
use Rattle.std.proofs.Common.{sym, ◌∙◌}
use native.Mathlib.Omega.{arith}
use Rattle.std.proofs.Math.Bool.{true, false, cond}
use mathlib.Core.List.{List, [], ◌++◌}
use Rattle.std.proofs.Math.Dec.{leb}
use Rattle.std.proofs.Math.ListN.{length, take, length-append}
use Rattle.std.proofs.Math.Seq.{take_all, take-append-add}
use Rattle.std.proofs.lemmas.List.{take-append-le}
use borrow.Author.Tests.{leb-true, leb-false, le-leb, lt-leb}
use Rattle.units.specs.Units.{clocks, per_byte}
use Rattle.units.specs.Laws.{per_byte_pos}
use Rattle.wires.specs.Bits.{gather_from, gather}
use Rattle.wires.proofs.Laws.{gather_append}
use Rattle.counts.specs.Counts.{no_counts}
use Rattle.counts.specs.declared.Counts.{Counts}
use Rattle.progress.specs.declared.Progress.{Progress}
use Rattle.progress.specs.Progress.{begin_of}
use Rattle.record.specs.declared.answers.Answer.{Answer}
use Rattle.record.specs.declared.answers.Answer.TheVariants.{Done}
use Rattle.record.specs.declared.devices.Underway.{Underway}
use Rattle.record.specs.declared.devices.Device.{Device}
use Rattle.record.specs.declared.devices.Setting.{Setting}
use Rattle.record.specs.Devices.{setting_of}
use Rattle.record.specs.Fields.{no_underway, underway_to, opened_of, closed_of}
use Rattle.paper.specs.InForce.{command_clocks}
use Rattle.paper.specs.Reading.{first, full, reading_of}
use Rattle.paper.specs.Storing.{Lent}
use Rattle.paper.specs.Transaction.{World, over, clocked_of}
use Rattle.paper.specs.Meanwhile.{pending_in, underway_of}
use Rattle.contract_words.specs.Words.{Run, begun}
use Rattle.machine_phases.specs.Machine.{run_of, outs_of}
use Rattle.machine_phases.specs.RunLaws.{run_append}
use Rattle.machine_end.specs.Finish.{finish_of}
use Rattle.machine_bridge.proofs.Bridge.{bridge}
use Rattle.machine_chunks.specs.Chunks.{resume_of, resumed, opcode_after, paused_of, run_on, outs_on, fed_world, closed_world}
use Rattle.machine_chunks.specs.Laws.{split_total}
use Rattle.demand_3.specs.Episodes.{Chip}
use Rattle.chunks.specs.Standing.{command_byte, full_first, standing}

-- ---- putting down what was taken up
pause_resume : (s : Setting) (u : Underway) → u.selected ≡ true → paused_of u.opcode (resume_of s u) ≡ u
unfolding resume_of
pause_resume s u e =
    ap (λ (n : ℕ). record { selected = true; clocks = clocks n; opcode = u.opcode; address = u.address; number = u.number; value = u.value }) (split_total s u)
    ∙ ap (λ (b : Bool). record { selected = b; clocks = u.clocks; opcode = u.opcode; address = u.address; number = u.number; value = u.value }) (sym e)

-- ---- the opcode
module _ (s : Setting) (zs xs : List ℕ) where
  abbrev c : ℕ
  c = (command_clocks s).0

  abbrev w : List ℕ → ℕ
  w ys = gather s.wires ys

  -- while the command is cut, the number is what all samples so far spell
  cut_number : length zs < c → (underway_of s zs).number ≡ gather s.wires zs
  unfolding underway_of pending_in reading_of
  cut_number h = rw (full_first (command_clocks s) zs, lt-leb c (length zs) h, take_all c zs (omega arith))

  abbrev opcode_in : List ℕ → ℕ
  opcode_in ys = cond (full (command_clocks s) (first (command_clocks s) ys)) (gather s.wires (first (command_clocks s) ys)) 0

  opcode_so : opcode_after s (underway_of s zs) xs ≡ (underway_of s (zs ++ xs)).opcode
  unfolding opcode_after underway_of reading_of
  opcode_so = by (leb c (length zs)) refl (leb (c - length zs) (length xs)) refl
    where
      by : (p : Bool) → leb c (length zs) ≡ p → (q : Bool) → leb (c - length zs) (length xs) ≡ q
          → cond p (opcode_in zs) (cond q (gather_from s.wires (underway_of s zs).number (take (c - length zs) xs) % 256) (opcode_in zs)) ≡ opcode_in (zs ++ xs)
      by true e q f =
          let h = leb-true c (length zs) e in
          ap (λ (ys : List ℕ). cond (full (command_clocks s) ys) (gather s.wires ys) 0) (sym (take-append-le c zs xs h))
      by false e true f =
          let h = leb-false c (length zs) e in
          let g = leb-true (c - length zs) (length xs) f in
          let n : length zs + (c - length zs) ≡ c = omega arith in
          let k : take c (zs ++ xs) ≡ zs ++ take (c - length zs) xs = ap (λ (m : ℕ). take m (zs ++ xs)) (sym n) ∙ take-append-add zs xs (c - length zs) in
          let m : length (zs ++ xs) ≡ length zs + length xs = length-append zs xs in
          rw (full_first (command_clocks s) (zs ++ xs), le-leb c (length (zs ++ xs)) (omega arith), cut_number h, ← gather_append s.wires 0 zs (take (c - length zs) xs), ← k) (command_byte s (zs ++ xs))
      by false e false f =
          let h = leb-false c (length zs) e in
          let g = leb-false (c - length zs) (length xs) f in
          let m : length (zs ++ xs) ≡ length zs + length xs = length-append zs xs in
          rw (full_first (command_clocks s) (zs ++ xs), full_first (command_clocks s) zs, e, lt-leb c (length (zs ++ xs)) (omega arith))

no_opcode : (s : Setting) → (underway_of s []).opcode ≡ 0
unfolding underway_of reading_of command_clocks
no_opcode s = rw (full_first (command_clocks s) [], lt-leb (per_byte s.wires) 0 (per_byte_pos s.wires))

-- all that a call leaves but for the output
pub record Left : Type 0 where
  pub answer : Answer
  pub counts : Counts
  pub device : Device
  pub lent : Lent

abbrev pub left : World → Left
left w = record { answer = w.answer; counts = w.counts; device = w.device; lent = w.lent }

-- ---- where the calls so far have come to
module _ (d : Device) (none : d.underway ≡ no_underway) (l : Lent) where
  -- the record with the facts of the samples so far, and memory and area as these leave them
  abbrev pub after : List ℕ → Chip
  after zs = record { device = underway_to (underway_of (setting_of d) zs) d; lent = (run_of d (begun l) zs).lent }

  pub back : closed_of d ≡ d
  back = ap (λ (u : Underway). underway_to u d) (sym none)

  resumed_at : (zs : List ℕ) → resumed (after zs).device (after zs).lent ≡ run_of d (begun l) zs
  resumed_at zs = ap (λ (p : Progress). record { progress = p; lent = (run_of d (begun l) zs).lent }) (sym (standing d l zs))

  module _ (zs xs : List ℕ) where
    run_at : run_on (after zs).device (after zs).lent xs ≡ run_of d (begun l) (zs ++ xs)
    run_at =
        ap (λ (e : Device). run_of e (resumed (after zs).device (after zs).lent) xs) back
        ∙ ap (λ (r : Run). run_of d r xs) (resumed_at zs)
        ∙ sym (run_append d (begun l) zs xs)

    outs_at : outs_on (after zs).device (after zs).lent xs ≡ outs_of d (run_of d (begun l) zs) xs
    outs_at =
        ap (λ (e : Device). outs_of e (resumed (after zs).device (after zs).lent) xs) back
        ∙ ap (λ (r : Run). outs_of d r xs) (resumed_at zs)

    paused_at : paused_of (opcode_after (setting_of d) (underway_of (setting_of d) zs) xs) (run_of d (begun l) (zs ++ xs)).progress ≡ underway_of (setting_of d) (zs ++ xs)
    unfolding underway_of
    paused_at =
        let s = setting_of d in
        ap (λ (o : ℕ). paused_of o (run_of d (begun l) (zs ++ xs)).progress) (opcode_so s zs xs)
        ∙ ap (paused_of (underway_of s (zs ++ xs)).opcode) (standing d l (zs ++ xs))
        ∙ pause_resume s (underway_of s (zs ++ xs)) refl

    -- A CHUNK MORE
    pub fed_on : (out : List ℕ)
        → fed_world (after zs).device (after zs).lent xs out
        ≡ record { answer = Done; counts = no_counts; device = (after (zs ++ xs)).device; lent = (after (zs ++ xs)).lent; output = over (outs_of d (run_of d (begun l) zs) xs) out }
    fed_on out = rw (run_at, outs_at, paused_at)

  -- BEFORE THE FIRST CLOCK
  pub none_yet : opened_of d ≡ (after []).device
  unfolding run_of
  none_yet =
      let s = setting_of d in
      ap (λ (u : Underway). underway_to u d) (ap (λ (o : ℕ). paused_of o begin_of) (sym (opcode_so s [] [] ∙ no_opcode s)) ∙ paused_at [] [])

  -- AT THE END: what the close makes of it is what the whole transaction comes to, but for the output, which the chunks had
  pub closed_at : (zs out : List ℕ)
      → left (closed_world (after zs).device (after zs).lent) ≡ left (clocked_of d l zs out)
  unfolding finish_of
  closed_at zs out =
      ap (λ (e : Device). left (finish_of e (resumed (after zs).device (after zs).lent) [])) back
      ∙ ap (λ (r : Run). left (finish_of d r [])) (resumed_at zs)
      ∙ ap left (bridge d l zs out)

  -- and what the chunks had is its output
  pub driven_at_lem : (zs out : List ℕ) → (clocked_of d l zs out).output ≡ over (outs_of d (begun l) zs) out
  unfolding finish_of
  driven_at_lem zs out = ap (λ (w : World). w.output) (sym (bridge d l zs out))

  -- MEANWHILE: memory and area are those that the whole transaction over the samples so far leaves
  pub lent_at : (zs out : List ℕ) → (after zs).lent ≡ (clocked_of d l zs out).lent
  unfolding finish_of
  lent_at zs out = ap (λ (w : World). w.lent) (bridge d l zs out)
