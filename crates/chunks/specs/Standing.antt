-- THE MACHINE STANDS WHERE THE FACTS SAY: after any samples, all that it knows follows from the facts that the paper reads off them. Document 02, P1.
-- Assumes nothing.
use Rattle.std.specs.Prelude.{◌≡◌, refl, ℕ, ◌+◌, ◌-◌, ◌*◌, ◌/◌, ◌%◌, ◌≤◌, Bool, true, false, cond, List, [], ◌∷◌, ltb, leb, length, take, drop}
use Rattle.std.proofs.Common.{sym, ◌∙◌, arith, length-drop, length-append, drop_of_length-le}
use Rattle.std.proofs.Math.Path.{ap}
use Rattle.std.proofs.Math.ListN.{length-take}
use Rattle.std.proofs.Math.Seq.{drop-nil}
use borrow.Author.Tests.{ltb-true, ltb-false, lt-ltb, le-ltb, leb-true, leb-false, le-leb, lt-leb}
use Rattle.basis.specs.Truth.{untrue, cond_same}
use Rattle.units.specs.declared.Clocks.{Clocks}
use Rattle.units.specs.declared.Bytes.{Bytes}
use Rattle.units.specs.declared.Wires.{Wires}
use Rattle.units.specs.declared.Wires.TheVariants.{One, Two, Four}
use Rattle.units.specs.Units.{clocks, less, up_to, at_most, fewer_bytes, per_byte, clocks_of, clocks_within, whole_of}
use Rattle.units.specs.Laws.{within_le, lt_whole}
use Rattle.wires.specs.Bits.{gather_from, gather}
use Rattle.wires.proofs.Laws.{gather_byte}
use Rattle.parts.specs.Parts.{family_of}
use Rattle.kinds.specs.declared.Kind.{Kind}
use Rattle.kinds.specs.declared.Kind.TheVariants.{Unknown}
use Rattle.opcodes.specs.Opcodes.{kind_of}
use Rattle.commands.specs.declared.plans.Body.{Body}
use Rattle.commands.specs.declared.plans.Body.TheVariants.{Nothing, FixedRead, AnyRead, FixedWrite, AnyWrite}
use Rattle.commands.specs.Plans.{writes}
use Rattle.counts.specs.Counts.{counted, rest_tick}
use Rattle.counts.specs.declared.Phase.{Phase}
use Rattle.counts.specs.declared.Phase.TheVariants.{Command, Address, Wait, Data, Rest}
use Rattle.progress.specs.declared.Tally.{Tally}
use Rattle.progress.specs.declared.Progress.{Progress}
use Rattle.progress.specs.Progress.{counting, entered}
use Rattle.record.specs.declared.devices.Device.{Device}
use Rattle.record.specs.declared.devices.Setting.{Setting}
use Rattle.record.specs.Devices.{setting_of}
use Rattle.paper.specs.InForce.{command_clocks, wires_for, address_clocks, wait_clocks, body_for}
use Rattle.paper.specs.Reading.{first, after, many, full, kind_read, address_read, data_part, rest_part, data_of, Reading, reading_of, counts_in}
use Rattle.paper.specs.ReadingLaws.{data_and_rest}
use Rattle.paper.specs.Underway.{kind_at, counts_at}
use Rattle.paper.specs.Storing.{Lent}
use Rattle.paper.specs.Answers.{Facts}
use Rattle.paper.specs.Transaction.{facts_of}
use Rattle.paper.specs.Meanwhile.{pending_in, underway_of}
use Rattle.contract_words.specs.Words.{Held, Run, begun}
use Rattle.machine_phases.specs.Machine.{terms_of, full_at, to_data, to_wait, to_address, holds, step_of, run_of}
use Rattle.machine_end.specs.Finish.{facts_in}
use Rattle.machine_bridge.specs.Stage.{carried}
use Rattle.machine_bridge.specs.Taking.{taken_all}
use Rattle.machine_bridge.specs.Phases.{Point, counts, named, placed, waited, entering, aim, body, wires, starting, tick, outset}
use Rattle.machine_bridge.proofs.Phases.{data_past, data_go, data_place, wait_place, address_place, command_place, data_nil}
use Rattle.machine_bridge.proofs.Bridge.{facts_read}
use Rattle.machine_chunks.specs.Chunks.{phase_by, resume_of}

-- ---- the phase and the number, which the facts of the paper do not show
record Spot : Type 0 where
  phase : Phase
  number : ℕ

abbrev spot : Phase → ℕ → Spot
spot f n = record { phase = f; number = n }

abbrev spot_of : Run → Spot
spot_of r = spot r.progress.phase r.progress.number

spot_chosen : (b : Bool) (x y : Run) → spot_of (cond b x y) ≡ cond b (spot_of x) (spot_of y)
spot_chosen true x y = refl
spot_chosen false x y = refl

-- the rest stays the rest
rest_spot : (d : Device) (k : Kind) (a : ℕ) (t : Tally) (l : Lent) (xs : List ℕ) → spot_of (run_of d (record { progress = entered Rest k a t; lent = l }) xs) ≡ spot Rest 0
unfolding run_of step_of
rest_spot d k a t l [] = refl
rest_spot d k a t l (x ∷ xs) = rest_spot d k a (counting (rest_tick t.counts) t) l xs

-- ---- the clocks past the last whole byte
abbrev pub left_over : Wires → List ℕ → List ℕ
left_over w xs = drop (length xs / per_byte w * per_byte w) xs

all_whole : (w : Wires) (n m : ℕ) → m ≤ n / per_byte w → n ≤ m * per_byte w → n ≤ n / per_byte w * per_byte w
all_whole One n m h g = omega arith
all_whole Two n m h g = omega arith
all_whole Four n m h g = omega arith

-- full data leaves none
full_over : (b : Body) (w : Wires) (zs : List ℕ) → full_at b w (many (data_part b w zs)) ≡ true → cond (writes b) (gather w (left_over w (data_part b w zs))) 0 ≡ 0
unfolding gather_from
full_over Nothing w zs e = refl
full_over (FixedRead m) w zs e = refl
full_over AnyRead w zs e = refl
full_over (FixedWrite m) w zs e =
    let xs = take (m.0 * per_byte w) zs in
    let h = leb-true m.0 _ e in
    let k = length-take (m.0 * per_byte w) zs in
    let q = all_whole w (length xs) m.0 h (omega arith) in
    rw (drop_of_length-le xs {i = length xs / per_byte w * per_byte w} q)
full_over AnyWrite w zs e = untrue e

-- ---- phase by phase, the last one first
module _ (d : Device) where
  abbrev s : Setting
  s = setting_of d

  abbrev data_spot : Kind → ℕ → List ℕ → Spot
  data_spot k a xs =
      let b = body_for s k a in
      let w = wires_for s k in
      let p = data_part b w xs in
      spot (cond (full_at b w (many p)) Rest Data) (cond (writes b) (gather w (left_over w p)) 0)

  module _ (q : Point) (xs : List ℕ) where
    abbrev b : Body
    b = body d q

    abbrev w : Wires
    w = wires d q

    abbrev p : List ℕ
    p = data_part b w xs

    abbrev h : Held
    h = carried (tick d q) 0 (starting d q) p

    by_full : (f : Bool) → full_at b w (many p) ≡ f
        → cond f (spot_of (run_of d (data_past d q (many p) h) (rest_part b w xs))) (spot_of (data_go d q (many p) h)) ≡ spot (cond f Rest Data) (cond (writes b) (gather w (left_over w p)) 0)
    by_full true e = rest_spot d _ _ _ _ (rest_part b w xs) ∙ ap (spot Rest) (sym (full_over b w xs e))
    by_full false e = ap (λ (g : Held). spot Data g.number) (taken_all b w (holds (terms_of d) q.facts.kind) (aim d q) p (starting d q).taken)

    data_spot_lem : spot_of (run_of d (entering (to_data s) (waited (counts q).wait q)) xs) ≡ data_spot q.facts.kind q.facts.address xs
    data_spot_lem = ap spot_of (data_place d q xs) ∙ spot_chosen (full_at b w (many p)) _ _ ∙ by_full (full_at b w (many p)) refl

  abbrev wait_spot : Kind → ℕ → List ℕ → Spot
  wait_spot k a xs = let n = wait_clocks s k a in cond (full n (first n xs)) (data_spot k a (after n xs)) (spot Wait 0)

  wait_spot_lem : (q : Point) (xs : List ℕ) → spot_of (run_of d (entering (to_wait s) (waited (clocks 0) q)) xs) ≡ wait_spot q.facts.kind q.facts.address xs
  wait_spot_lem q xs =
      let n = wait_clocks s q.facts.kind q.facts.address in
      let c = many (first n xs) in
      ap spot_of (wait_place d q xs) ∙ spot_chosen (at_most n c) _ _ ∙ ap (λ (z : Spot). cond (at_most n c) z (spot Wait 0)) (data_spot_lem (waited c q) (after n xs))

  abbrev address_spot : Kind → List ℕ → Spot
  address_spot k xs =
      let n = address_clocks s k in
      let v = gather (wires_for s k) (first n xs) in
      cond (full n (first n xs)) (wait_spot k v (after n xs)) (spot Address v)

  address_spot_lem : (q : Point) (xs : List ℕ) → spot_of (run_of d (entering (λ k a t. to_address s k t) (placed 0 (clocks 0) q)) xs) ≡ address_spot q.facts.kind xs
  address_spot_lem q xs =
      let n = address_clocks s q.facts.kind in
      let c = many (first n xs) in
      let v = gather (wires d q) (first n xs) in
      ap spot_of (address_place d q xs) ∙ spot_chosen (at_most n c) _ _ ∙ ap (λ (z : Spot). cond (at_most n c) z (spot Address v)) (wait_spot_lem (placed v c q) (after n xs))

  abbrev command_spot : List ℕ → Spot
  command_spot xs =
      let n = command_clocks s in
      let v = gather s.wires (first n xs) in
      cond (full n (first n xs)) (address_spot (kind_of (family_of s.part) s.wires (v % 256)) (after n xs)) (spot Command v)

  command_spot_lem : (l : Lent) (xs : List ℕ) → spot_of (run_of d (begun l) xs) ≡ command_spot xs
  command_spot_lem l xs =
      let n = command_clocks s in
      let c = many (first n xs) in
      let v = gather s.wires (first n xs) in
      ap spot_of (command_place d l xs) ∙ spot_chosen (at_most n c) _ _ ∙ ap (λ (z : Spot). cond (at_most n c) z (spot Command v)) (address_spot_lem (named (kind_of (family_of s.part) s.wires (v % 256)) c (outset l)) (after n xs))

-- ---- as the paper reads it
module _ (s : Setting) where
  abbrev pub data_left : Kind → ℕ → List ℕ → ℕ
  data_left k a xs =
      let b = body_for s k a in
      let w = wires_for s k in
      cond (writes b) (gather w (left_over w (data_part b w xs))) 0

  -- a wait that is cut leaves no data
  cut_wait : (k : Kind) (a : ℕ) (xs : List ℕ) → full (wait_clocks s k a) (first (wait_clocks s k a) xs) ≡ false → data_left k a (after (wait_clocks s k a) xs) ≡ 0
  unfolding gather_from
  cut_wait k a xs e =
      let n = (wait_clocks s k a).0 in
      let h = leb-false n _ e in
      let m = length-take n xs in
      rw (drop_of_length-le xs {i = n} (omega arith), data_nil (body_for s k a) (wires_for s k), drop-nil (0 / per_byte (wires_for s k) * per_byte (wires_for s k))) (cond_same (writes (body_for s k a)) 0)

  -- from the address on: the address is told when it is whole
  abbrev pub read_phase : Kind → List ℕ → Phase
  read_phase k xs =
      let n = address_clocks s k in
      let a = address_read s k (first n xs) in
      let ys = after n xs in
      let m = wait_clocks s k a in
      cond (full n (first n xs))
      (cond (full m (first m ys)) (cond (full_at (body_for s k a) (wires_for s k) (many (data_part (body_for s k a) (wires_for s k) (after m ys)))) Rest Data) Wait)
      Address

  abbrev pub read_number : Kind → List ℕ → ℕ
  read_number k xs =
      let n = address_clocks s k in
      let a = address_read s k (first n xs) in
      cond (full n (first n xs)) (data_left k a (after (wait_clocks s k a) (after n xs))) (gather (wires_for s k) (first n xs))

waits_so : (d : Device) (k : Kind) (a : ℕ) (xs : List ℕ)
    → let s = setting_of d in let m = wait_clocks s k a in
    wait_spot d k a xs
    ≡ spot (cond (full m (first m xs)) (cond (full_at (body_for s k a) (wires_for s k) (many (data_part (body_for s k a) (wires_for s k) (after m xs)))) Rest Data) Wait)
    (data_left s k a (after m xs))
waits_so d k a xs = by (full m (first m xs)) refl
  where
    s : Setting
    s = setting_of d

    m : Clocks
    m = wait_clocks s k a

    by : (f : Bool) → full m (first m xs) ≡ f
        → cond f (data_spot d k a (after m xs)) (spot Wait 0)
        ≡ spot (cond f (cond (full_at (body_for s k a) (wires_for s k) (many (data_part (body_for s k a) (wires_for s k) (after m xs)))) Rest Data) Wait) (data_left s k a (after m xs))
    by true e = refl
    by false e = ap (spot Wait) (sym (cut_wait s k a xs e))

address_so : (d : Device) (k : Kind) (xs : List ℕ) → address_spot d k xs ≡ spot (read_phase (setting_of d) k xs) (read_number (setting_of d) k xs)
unfolding address_read
address_so d k xs = by (full (address_clocks (setting_of d) k) (first (address_clocks (setting_of d) k) xs)) refl
  where
    by : (f : Bool) → full (address_clocks (setting_of d) k) (first (address_clocks (setting_of d) k) xs) ≡ f
        → address_spot d k xs ≡ spot (read_phase (setting_of d) k xs) (read_number (setting_of d) k xs)
    by true e = rw e (waits_so d k (gather (wires_for (setting_of d) k) (first (address_clocks (setting_of d) k) xs)) (after (address_clocks (setting_of d) k) xs))
    by false e = rw e

-- a command is one byte
pub command_byte : (s : Setting) (xs : List ℕ) → gather s.wires (first (command_clocks s) xs) % 256 ≡ gather s.wires (first (command_clocks s) xs)
unfolding command_clocks
command_byte s xs = gather_byte s.wires (take (per_byte s.wires) xs) (omega (arith, length-take (per_byte s.wires) xs))

-- THE SPOT of a run, as the paper reads its samples
spot_read : (d : Device) (l : Lent) (xs : List ℕ)
    → let s = setting_of d in let p = reading_of s xs in
    spot_of (run_of d (begun l) xs) ≡ spot (phase_by s p.kind p.address (counts_in p)) (pending_in s p)
unfolding reading_of phase_by pending_in kind_read
spot_read d l xs = command_spot_lem d l xs ∙ by (full n (first n xs)) refl
  where
    s : Setting
    s = setting_of d

    n : Clocks
    n = command_clocks s

    k : Kind
    k = kind_of (family_of s.part) s.wires (gather s.wires (first n xs))

    by : (f : Bool) → full n (first n xs) ≡ f
        → command_spot d xs ≡ spot (phase_by s (reading_of s xs).kind (reading_of s xs).address (counts_in (reading_of s xs))) (pending_in s (reading_of s xs))
    by true e = rw (e, command_byte s xs) (address_so d k (after n xs))
    by false e = rw e

-- ---- the clocks of each phase, from their number alone
first_many : (c : Clocks) (xs : List ℕ) → many (first c xs) ≡ up_to c (many xs)
first_many c xs = by (ltb (length xs) c.0) refl
  where
    by : (b : Bool) → ltb (length xs) c.0 ≡ b → many (first c xs) ≡ cond b (many xs) c
    by true e = let h = ltb-true (length xs) c.0 e in let k = length-take c.0 xs in let q : length (take c.0 xs) ≡ length xs = omega arith in ap clocks q
    by false e = let h = ltb-false (length xs) c.0 e in let k = length-take c.0 xs in let q : length (take c.0 xs) ≡ c.0 = omega arith in ap clocks q

after_many : (c : Clocks) (xs : List ℕ) → many (after c xs) ≡ less (many xs) c
after_many c xs = ap clocks (length-drop c.0 xs)

pub full_first : (c : Clocks) (xs : List ℕ) → full c (first c xs) ≡ full c xs
full_first c xs = by (leb c.0 (length xs)) refl
  where
    by : (b : Bool) → leb c.0 (length xs) ≡ b → leb c.0 (length (take c.0 xs)) ≡ b
    by true e = let h = leb-true c.0 (length xs) e in let k = length-take c.0 xs in le-leb c.0 (length (take c.0 xs)) (omega arith)
    by false e = let h = leb-false c.0 (length xs) e in let k = length-take c.0 xs in lt-leb c.0 (length (take c.0 xs)) (omega arith)

within_many : (w : Wires) (b : Bytes) (xs : List ℕ) → many (first (clocks_of w b) xs) ≡ clocks_within w b (many xs)
unfolding clocks_within
within_many w b xs = first_many (clocks_of w b) xs ∙ by (fewer_bytes (whole_of w (many xs)) b) refl
  where
    by : (q : Bool) → fewer_bytes (whole_of w (many xs)) b ≡ q → up_to (clocks_of w b) (many xs) ≡ cond q (many xs) (clocks_of w b)
    by true e = rw (lt-ltb (length xs) (b.0 * per_byte w) (lt_whole w (length xs) b.0 (ltb-true _ _ e)))
    by false e = rw (le-ltb (length xs) (b.0 * per_byte w) (within_le w (length xs) b.0 (ltb-false _ _ e)))

data_many : (b : Body) (w : Wires) (xs : List ℕ) → many (data_part b w xs) ≡ data_of b w (many xs)
data_many Nothing w xs = refl
data_many (FixedRead b) w xs = within_many w b xs
data_many AnyRead w xs = refl
data_many (FixedWrite b) w xs = within_many w b xs
data_many AnyWrite w xs = refl

-- what is left after the data is the rest
rest_many : (b : Body) (w : Wires) (xs : List ℕ) → many (rest_part b w xs) ≡ less (many xs) (data_of b w (many xs))
rest_many b w xs =
    let e : length (data_part b w xs) + length (rest_part b w xs) ≡ length xs = sym (length-append (data_part b w xs) (rest_part b w xs)) ∙ ap length (data_and_rest b w xs) in
    let k : length (data_part b w xs) ≡ (data_of b w (many xs)).0 = ap (λ (c : Clocks). c.0) (data_many b w xs) in
    let q : length (rest_part b w xs) ≡ length xs - (data_of b w (many xs)).0 = omega arith in
    ap clocks q

-- the kind
pub kind_same : (s : Setting) (xs : List ℕ) → kind_at s (underway_of s xs) ≡ (reading_of s xs).kind
unfolding kind_at underway_of reading_of kind_read
kind_same s xs = by (full (command_clocks s) xs) (full_first (command_clocks s) xs)
  where
    by : (b : Bool) → full (command_clocks s) (first (command_clocks s) xs) ≡ b
        → cond b (kind_of (family_of s.part) s.wires (cond (full (command_clocks s) (first (command_clocks s) xs)) (gather s.wires (first (command_clocks s) xs)) 0)) Unknown
        ≡ cond (full (command_clocks s) (first (command_clocks s) xs)) (kind_of (family_of s.part) s.wires (gather s.wires (first (command_clocks s) xs))) Unknown
    by true e = rw e
    by false e = rw e

-- and the counts
five : {c c' a a' w w' b b' r r' : Clocks} → c ≡ c' → a ≡ a' → w ≡ w' → b ≡ b' → r ≡ r' → counted c a w b r ≡ counted c' a' w' b' r'
five e f g h i = rw (e, f, g, h, i)

module _ (s : Setting) (xs : List ℕ) where
  abbrev k : Kind
  k = (reading_of s xs).kind

  abbrev a : ℕ
  a = (reading_of s xs).address

  abbrev ys : List ℕ
  ys = after (command_clocks s) xs

  abbrev zs : List ℕ
  zs = after (address_clocks s k) ys

  abbrev us : List ℕ
  us = after (wait_clocks s k a) zs

  -- the clocks that are left after each phase
  left₁ : many ys ≡ less (many xs) (command_clocks s)
  left₁ = after_many (command_clocks s) xs

  left₂ : many zs ≡ less (less (many xs) (command_clocks s)) (address_clocks s k)
  left₂ = after_many (address_clocks s k) ys ∙ ap (λ (c : Clocks). less c (address_clocks s k)) left₁

  left₃ : many us ≡ less (less (less (many xs) (command_clocks s)) (address_clocks s k)) (wait_clocks s k a)
  left₃ = after_many (wait_clocks s k a) zs ∙ ap (λ (c : Clocks). less c (wait_clocks s k a)) left₂

  pub counts_same : counts_at s (underway_of s xs) ≡ counts_in (reading_of s xs)
  unfolding counts_at underway_of reading_of
  counts_same =
      let b = body_for s k a in
      let w = wires_for s k in
      rw (kind_same s xs)
      (sym (five (first_many (command_clocks s) xs) (first_many (address_clocks s k) ys ∙ ap (up_to (address_clocks s k)) left₁) (first_many (wait_clocks s k a) zs ∙ ap (up_to (wait_clocks s k a)) left₂)
      (data_many b w us ∙ ap (data_of b w) left₃) (rest_many b w us ∙ ap (λ (c : Clocks). less c (data_of b w c)) left₃)))

abbrev at : Phase → Facts → ℕ → Progress
at f x n = record { phase = f; kind = x.kind; address = x.address; number = n; tally = x.tally }

told_read : (s : Setting) (p : Reading) → facts_of s p ≡ record { kind = p.kind; address = p.address; tally = record { counts = counts_in p; value = (facts_of s p).tally.value } }
unfolding facts_of
told_read s p = refl

told : (s : Setting) (xs : List ℕ)
    → let p = reading_of s xs in at (phase_by s p.kind p.address (counts_in p)) (facts_of s p) (pending_in s p) ≡ resume_of s (underway_of s xs)
unfolding resume_of underway_of
told s xs =
    let p = reading_of s xs in
    rw (kind_same s xs, counts_same s xs) (ap (λ (f : Facts). at (phase_by s p.kind p.address (counts_in p)) f (pending_in s p)) (told_read s p))

-- RESUMED: the machine is taken up where it stood
pub standing : (d : Device) (l : Lent) (xs : List ℕ) → (run_of d (begun l) xs).progress ≡ resume_of (setting_of d) (underway_of (setting_of d) xs)
standing d l xs =
    let s = setting_of d in
    let p = reading_of s xs in
    let r = (run_of d (begun l) xs).progress in
    ap (λ (z : Spot). at z.phase (facts_in r) z.number) (spot_read d l xs)
    ∙ ap (λ (f : Facts). at (phase_by s p.kind p.address (counts_in p)) f (pending_in s p)) (facts_read d l xs)
    ∙ told s xs
