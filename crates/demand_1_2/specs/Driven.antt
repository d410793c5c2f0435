-- DRIVEN (demand 2): a clock's output byte is not 00h just when the clock is a data clock of a read that is answered 0, and then it is one that the device drives on
-- these wires.
-- Assumes nothing.
use Rattle.std.specs.Prelude.{◌≡◌, refl, ℕ, ◌+◌, ◌-◌, ◌<◌, ◌≤◌, Bool, true, false, cond, ◌&&◌, List, ◌++◌, leb, ltb, length, get_or, drop, replicate}
use Rattle.std.proofs.Common.{sym, ap, ◌∙◌, mod-lt, arith, append_assoc, pow_pos, length-append, get_or-append-add, leb-true, leb-false, ltb-true, ltb-false, lt-ltb, le-ltb}
use Rattle.std.proofs.lemmas.List.{length-replicate, get_or-replicate, replicate-append-replicate}
use Rattle.std.proofs.Math.ListN.{get_or-append, get_or-eq_default}
use Rattle.units.specs.declared.Clocks.{Clocks}
use Rattle.units.specs.declared.Wires.{Wires}
use Rattle.units.specs.Units.{clocks, fewer, at_most, wires_of, whole_of}
use Rattle.wires.specs.Bits.{group_of}
use Rattle.wires.specs.Levels.{driven_of}
use Rattle.wires.proofs.LevelLaws.{driven_level, level_not_zero}
use Rattle.kinds.specs.declared.Kind.{Kind}
use Rattle.commands.specs.declared.plans.Body.{Body}
use Rattle.commands.specs.declared.plans.Body.TheVariants.{Nothing, FixedRead, AnyRead, FixedWrite, AnyWrite}
use Rattle.commands.specs.Plans.{reads}
use Rattle.counts.specs.declared.Counts.{Counts}
use Rattle.record.specs.declared.answers.Answer.{Answer}
use Rattle.record.specs.declared.devices.Device.{Device}
use Rattle.record.specs.Devices.{setting_of}
use Rattle.record.specs.Answers.{is_done, refuses}
use Rattle.paper.specs.InForce.{body_for, wires_for}
use Rattle.paper.specs.Reading.{Reading, reading_of}
use Rattle.paper.specs.Storing.{Lent}
use Rattle.paper.specs.Driving.{byte_read, level_at, driven_at, along}
use Rattle.paper.specs.Answers.{judge}
use Rattle.paper.specs.Transaction as tx
use Rattle.paper.specs.Transaction.{World, facts_of, undriven, around, over, clocked_of, transact_of}
use Rattle.paper.proofs.CallLaws.{not_refused}
use Rattle.paper.specs.Laws.{along_length, along_zero, along_at}
use Rattle.paper.specs.ReadingLaws.{together, parts_together}

-- clock i, counted from 0, is a data clock by the counts
abbrev pub before : Counts → Clocks
before c = clocks (c.command.0 + c.address.0 + c.wait.0)

abbrev pub is_data : Counts → Clocks → Bool
is_data c i = at_most (before c) i && fewer i (clocks ((before c).0 + c.body.0))

-- clock i is one that is driven: a data clock of a read that is done
abbrev pub drives : Device → List ℕ → World → Clocks → Bool
drives d xs w i =
    let p = reading_of (setting_of d) xs in
    is_done w.answer && (reads (body_for (setting_of d) p.kind p.address) && is_data w.counts i)

-- what is said of its output byte
abbrev pub Says : Bool → Wires → ℕ → Type 0
Says true w x = (driven_of w x ≡ true) × (x ≡ 0 → ⊥)
Says false w x = x ≡ 0

-- ---- an output between clocks that drive nothing
abbrev pub blank : ℕ → List ℕ
blank m = replicate m 0

pub blank_length : (m : ℕ) → length (blank m) ≡ m
blank_length m = length-replicate m 0

-- zeros show 0 at every place, and past their end too
zero_at : (m j : ℕ) (b : Bool) → ltb j m ≡ b → get_or (blank m) j 0 ≡ 0
zero_at m j true e = get_or-replicate m j 0 0 (ltb-true j m e)
zero_at m j false e = get_or-eq_default (blank m) 0 {n = j} (omega (arith, ltb-false j m e, blank_length m))

zeros : (m j : ℕ) → get_or (blank m) j 0 ≡ 0
zeros m j = zero_at m j (ltb j m) refl

-- zeros behind a list show what the end of the list shows
behind_by : (o : List ℕ) (m j : ℕ) (b : Bool) → ltb j (length o) ≡ b → get_or (o ++ blank m) j 0 ≡ get_or o j 0
behind_by o m j true e = get_or-append o (blank m) 0 j (ltb-true j (length o) e)
behind_by o m j false e =
    let h = ltb-false j (length o) e in
    let k : length o + (j - length o) ≡ j = omega arith in
    ap (λ (n : ℕ). get_or (o ++ blank m) n 0) (sym k)
    ∙ get_or-append-add o (blank m) (j - length o) 0
    ∙ zeros m (j - length o)
    ∙ sym (get_or-eq_default o 0 {n = j} h)

behind : (o : List ℕ) (m j : ℕ) → get_or (o ++ blank m) j 0 ≡ get_or o j 0
behind o m j = behind_by o m j (ltb j (length o)) refl

-- zeros before it put it off by as many places
ahead : (n : ℕ) (o : List ℕ) (i : ℕ) → n ≤ i → get_or (blank n ++ o) i 0 ≡ get_or o (i - n) 0
ahead n o i h =
    let k : length (blank n) + (i - n) ≡ i = omega (arith, blank_length n) in
    ap (λ (m : ℕ). get_or (blank n ++ o) m 0) (sym k) ∙ get_or-append-add (blank n) o (i - n) 0

pub three : (a b c : ℕ) (o : List ℕ) → blank a ++ (blank b ++ (blank c ++ o)) ≡ blank (a + b + c) ++ o
three a b c o = rw (← replicate-append-replicate (a + b) c, ← replicate-append-replicate a b, append_assoc, append_assoc)

-- ---- the data clocks
level_says : (d : Device) (k : Kind) (a : ℕ) (l : Lent) (t : Clocks) → Says true (wires_for (setting_of d) k) (level_at d k a l t)
unfolding level_at group_of
level_says d k a l t =
    let w = wires_for (setting_of d) k in
    let v = group_of w t (byte_read d k a l (whole_of w t)) in
    (driven_level w v (mod-lt _ (pow_pos (wires_of w))), level_not_zero w v)

module _ (d : Device) (l : Lent) (p : Reading) where
  abbrev w : Wires
  w = wires_for (setting_of d) p.kind

  abbrev middle : Bool → Body → List ℕ
  middle done b = cond done (along (driven_at b d p.kind p.address l) 0 p.data_part) (undriven p.data_part)

  read_says : (j : ℕ) (c : Bool) → ltb j (length p.data_part) ≡ c → Says c w (get_or (along (level_at d p.kind p.address l) 0 p.data_part) j 0)
  read_says j true e =
      let f = level_at d p.kind p.address l in
      rw (along_at f p.data_part 0 j (ltb-true j (length p.data_part) e)) (level_says d p.kind p.address l (clocks (0 + j)))
  read_says j false e =
      let f = level_at d p.kind p.address l in
      let h = ltb-false j (length p.data_part) e in
      get_or-eq_default (along f 0 p.data_part) 0 {n = j} (omega (arith, along_length f 0 p.data_part))

  silent_says : (j : ℕ) → get_or (along (λ c. 0) 0 p.data_part) j 0 ≡ 0
  silent_says j = rw (along_zero p.data_part 0) (zeros (length p.data_part) j)

  middle_says : (done : Bool) (b : Body) (j : ℕ) → Says (done && (reads b && ltb j (length p.data_part))) w (get_or (middle done b) j 0)
  middle_says false b j = zeros (length p.data_part) j
  middle_says true Nothing j = silent_says j
  middle_says true (FixedRead m) j = read_says j (ltb j (length p.data_part)) refl
  middle_says true AnyRead j = read_says j (ltb j (length p.data_part)) refl
  middle_says true (FixedWrite m) j = silent_says j
  middle_says true AnyWrite j = silent_says j

-- ---- every clock
off : (a b : Bool) → (a && (b && false)) ≡ false
off true true = refl
off true false = refl
off false b = refl

same_test : (n m i : ℕ) → n ≤ i → ltb i (n + m) ≡ ltb (i - n) m
same_test n m i h = by (ltb (i - n) m) refl
  where
    by : (b : Bool) → ltb (i - n) m ≡ b → ltb i (n + m) ≡ b
    by true e = lt-ltb i (n + m) (omega (arith, ltb-true (i - n) m e))
    by false e = le-ltb i (n + m) (omega (arith, ltb-false (i - n) m e))

clock_says : (d : Device) (l : Lent) (p : Reading) (done : Bool) (b : Body) (n m i : ℕ) (c : Bool) → leb n i ≡ c
    → Says (done && (reads b && (c && ltb i (n + length p.data_part)))) (wires_for (setting_of d) p.kind) (get_or (blank n ++ (middle d l p done b ++ blank m)) i 0)
clock_says d l p done b n m i true e =
    let h = leb-true n i e in
    rw (ahead n (middle d l p done b ++ blank m) i h, behind (middle d l p done b) m (i - n), same_test n (length p.data_part) i h)
    (middle_says d l p done b (i - n))
clock_says d l p done b n m i false e =
    let h = leb-false n i e in
    let z : i < length (blank n) = omega (arith, blank_length n) in
    rw (off done (reads b), get_or-append (blank n) (middle d l p done b ++ blank m) 0 i z) (zeros n i)

-- as many output bytes as samples
pub driven_length : (d : Device) (l : Lent) (xs : List ℕ) (v : Answer) → length (tx.output_of d l (reading_of (setting_of d) xs) v) ≡ length xs
unfolding tx.output_of
driven_length d l xs v =
    let p = reading_of (setting_of d) xs in
    let b = body_for (setting_of d) p.kind p.address in
    by p (middle d l p (is_done v) b) (middle_length p (is_done v)) ∙ ap length (parts_together (setting_of d) xs)
  where
    middle_length : (p : Reading) (done : Bool) → length (middle d l p done (body_for (setting_of d) p.kind p.address)) ≡ length p.data_part
    middle_length p true = along_length _ 0 p.data_part
    middle_length p false = length-replicate (length p.data_part) 0

    by : (p : Reading) (o : List ℕ) → length o ≡ length p.data_part
        → length (around p o) ≡ length (together p)
    by p o e = simp (length-append, length-replicate, e)

-- DRIVEN
pub driven : (d : Device) (l : Lent) (xs out : List ℕ) → refuses (transact_of d l xs out).answer ≡ false → (i : ℕ) → i < length xs
    → Says (drives d xs (transact_of d l xs out) (clocks i)) (wires_for (setting_of d) (reading_of (setting_of d) xs).kind) (get_or (transact_of d l xs out).output i 0)
unfolding clocked_of facts_of over tx.output_of
driven d l xs out e i h =
    let p = reading_of (setting_of d) xs in
    let v = judge d (facts_of (setting_of d) p) in
    let b = body_for (setting_of d) p.kind p.address in
    let n = length p.command_part + length p.address_part + length p.wait_part in
    let ys = tx.output_of d l p v in
    let k = driven_length d l xs v in
    let at : get_or (over ys out) i 0 ≡ get_or (blank n ++ (middle d l p (is_done v) b ++ undriven p.rest_part)) i 0 =
    get_or-append ys (drop (length ys) out) 0 i (omega arith)
    ∙ ap (λ (o : List ℕ). get_or o i 0) (three (length p.command_part) (length p.address_part) (length p.wait_part) (middle d l p (is_done v) b ++ undriven p.rest_part)) in
    rw (not_refused d l xs out e, at) (clock_says d l p (is_done v) b n (length p.rest_part) i (leb n i) refl)
