-- Laws of parts: a part fed at its place, and parts fed one after the other.
-- Assumes nothing.
use Rattle.std.specs.Prelude.{◌≡◌, refl, ℕ, ◌+◌, ◌-◌, ◌≤◌, Bool, true, false, cond, ltb, leb, length, drop}
use Rattle.std.proofs.Math.Path.{sym, ap}
use Rattle.std.proofs.Common.{subst, ◌∙◌, add-zero, zero-add, add_assoc, arith, length-take, length-drop, length-append, take-append-drop, drop_of_length-le, take_all, take-take, take-add, take_at, drop_at, length-take-le, ltb-true, ltb-false, leb-true, leb-false}
use mathlib.Core.List.{List, [], ◌++◌, append_assoc, append-nil}
use Rattle.std.proofs.Math.ListN.{take}
use Rattle.std.proofs.Math.Seq.{take-length, take-nil, drop-drop}
use borrow.Rule.Slice.PartMut.{mid_of, put_mid, mid_len}
use Rattle.units.specs.declared.Clocks.{Clocks}
use Rattle.units.specs.declared.Bytes.{Bytes}
use Rattle.units.specs.declared.Wires.{Wires}
use Rattle.units.specs.Units.{clocks, less, fewer, fewer_bytes, clocks_of, clocks_within, whole_of}
use Rattle.units.specs.Laws.{lt_whole}
use Rattle.kinds.specs.declared.Kind.{Kind}
use Rattle.commands.specs.declared.plans.Body.{Body}
use Rattle.commands.specs.declared.plans.Body.TheVariants.{Nothing, FixedRead, AnyRead, FixedWrite, AnyWrite}
use Rattle.record.specs.declared.devices.Device.{Device}
use Rattle.record.specs.declared.devices.Setting.{Setting}
use Rattle.record.specs.Devices.{setting_of}
use Rattle.record.specs.declared.devices.Outcome.{Outcome}
use Rattle.counts.specs.Counts.{total}
use Rattle.progress.specs.declared.Progress.{Progress}
use Rattle.progress.specs.Progress.{begin_of}
use Rattle.contract_words.specs.Words.{lends, Run, run_as, begun, world_of}
use Rattle.paper.specs.InForce.{command_clocks, wires_for, address_clocks, wait_clocks, body_for}
use Rattle.paper.specs.Reading.{many, kind_read, address_read, data_part, rest_part, data_of, Reading, reading_of}
use Rattle.paper.specs.ReadingLaws.{data_and_rest}
use Rattle.paper.specs.Storing.{Lent}
use Rattle.paper.specs.Answers.{Facts}
use Rattle.paper.specs.Transaction.{facts_of, over, clocked_of}
use Rattle.machine_phases.specs.Machine.{run_of, outs_of}
use Rattle.machine_end.specs.Finish.{facts_in, outcome_of, finish_of}
use Rattle.machine_bridge.proofs.Bridge.{facts_read, bridge}
use Rattle.machine_run.specs.Fed.{Feedable, Fed}
use Rattle.machine_phases.specs.RunLaws.{run_append, outs_append, outs_length, run_clocks}
use Rattle.machine_stretches.specs.Stretches.{reach_of, place_of, upcoming, head_of, data_clocks, Passed, Advancing, Advanced, Going, Come, Ahead}

-- ---- the end of a part
-- clocks that are fewer than those left come to no more than all
pub reach_fits : (from c all : Clocks) → from.0 ≤ all.0 → all.0 ≤ 65535 → fewer c (less all from) ≡ true → from.0 + c.0 ≤ 4294967295
reach_fits from c all h g e = let k = ltb-true c.0 (all.0 - from.0) e in omega arith

reach_by : (i c n : ℕ) (b : Bool) → ltb c (n - i) ≡ b → i ≤ n → (i ≤ cond b (i + c) n) × (cond b (i + c) n ≤ n)
reach_by i c n true e h = let l = ltb-true c (n - i) e in (omega arith, omega arith)
reach_by i c n false e h = (h, omega arith)

pub reach_within : (i c : Clocks) (n : ℕ) → i.0 ≤ n → (i.0 ≤ reach_of i c n) × (reach_of i c n ≤ n)
unfolding reach_of
reach_within i c n h = reach_by i.0 c.0 n (ltb c.0 (n - i.0)) refl h

part_by : (i c : ℕ) (xs : List ℕ) (b : Bool) → ltb c (length xs - i) ≡ b → i ≤ length xs
    → take (cond b (i + c) (length xs) - i) (drop i xs) ≡ take c (drop i xs)
part_by i c xs true e h = let m : i + c - i ≡ c = omega arith in rw m
part_by i c xs false e h =
    let l = length-drop i xs in
    let k = ltb-false c (length xs - i) e in
    take_all (length xs - i) (drop i xs) (omega arith) ∙ sym (take_all c (drop i xs) (omega arith))

-- up to there stand the next clocks
pub part_is : (i c : Clocks) (xs : List ℕ) → i.0 ≤ length xs → take (reach_of i c (length xs) - i.0) (drop i.0 xs) ≡ upcoming i.0 c xs
unfolding reach_of
part_is i c xs h = part_by i.0 c.0 xs (ltb c.0 (length xs - i.0)) refl h

put_back_lem : {d : Device} {r r' : Run} {xs out y : List ℕ} {c : Clocks} → place_of r ≤ length xs → length xs ≤ length out
    → let i = place_of r in
    let e = reach_of (clocks i) c (length xs) in
    Fed d r (take (e - i) (drop i xs)) (mid_of i (e - i) out) r' y → Advanced d r xs out c r' (put_mid i (e - i) out y)
unfolding over
put_back_lem {d} {r} {r'} {xs} {out} {y} {c} h g f =
    let i = place_of r in
    let e = reach_of (clocks i) c (length xs) in
    let w = reach_within (clocks i) c (length xs) h in
    let p = part_is (clocks i) c xs h in
    let k : length (take (e - i) (drop i xs)) ≡ e - i = length-take-le (e - i) (drop i xs) (omega (arith, length-drop i xs)) in
    let o = outs_length d r (take (e - i) (drop i xs)) in
    let m : length (mid_of i (e - i) out) ≡ e - i = length-take-le (e - i) (drop i out) (omega (arith, length-drop i out)) in
    let z : drop (length (outs_of d r (take (e - i) (drop i xs)))) (mid_of i (e - i) out) ≡ [] =
    drop_of_length-le (mid_of i (e - i) out) {i = length (outs_of d r (take (e - i) (drop i xs)))} (omega arith) in
    let q : y ≡ outs_of d r (take (e - i) (drop i xs)) ++ drop (length (outs_of d r (take (e - i) (drop i xs)))) (mid_of i (e - i) out) = f.driven in
    record {
      run = f.run ∙ ap (run_of d r) p;
      driven = rw (q, z, append-nil, ← p, o, k);
    }

-- ---- the same by the places that the code has
-- the bounds of a part: the place so far, and where the clocks more come to
pub record Bounds (p : Progress) (c : Clocks) (xs : List ℕ) (i e : ℕ) : Type 0 where
  pub start : i ≡ (total p.tally.counts).0
  pub end : e ≡ reach_of (clocks i) c (length xs)

pub came : {p : Progress} {c from all till : Clocks} {xs : List ℕ} {i e : ℕ} → from ≡ total p.tally.counts → all ≡ many xs → till ≡ clocks (reach_of from c all.0)
    → i ≡ from.0 → e ≡ till.0 → Bounds p c xs i e
came {p} {c} {from} {all} {till} {xs} {i} {e} f a t g h =
    record {
      start = g ∙ ap (λ (k : Clocks). k.0) f;
      end = h ∙ ap (λ (k : Clocks). k.0) t ∙ ap (λ (k : Clocks). reach_of from c k.0) a ∙ ap (λ (j : ℕ). reach_of (clocks j) c (length xs)) (sym g);
    }

module _ {d : Device} {p : Progress} {xs out : List ℕ} (v : Advancing d p xs out) {i e : ℕ} {c : Clocks} (k : Bounds p c xs i e) where
  pub within : (i ≤ e) × (e ≤ length xs)
  within = rw k.end (reach_within (clocks i) c (length xs) (rw k.start v.seen))

  pub ready : Feedable d p (take (e - i) (drop i xs)) (mid_of i (e - i) out)
  ready =
      let w = within in
      let s = k.start in
      let f = v.passed.few in
      let g = v.passed.room in
      let x = mid_len i e xs (omega arith) in
      let y = mid_len i e out (omega arith) in
      record { reach = v.passed.reach; few = omega arith; room = omega arith }

  -- a part that is fed and put back
  pub advanced : {m a : List ℕ} {r' : Run} {y : List ℕ}
      → Fed d (run_as p m a) (take (e - i) (drop i xs)) (mid_of i (e - i) out) r' y
      → Advanced d (run_as p m a) xs out c r' (put_mid i (e - i) out y)
  advanced f = rw (k.end, k.start) (put_back_lem v.seen v.passed.room (rw (k.end, k.start) at f))

-- ---- parts one after the other
-- what is driven, and then what is driven after it
over_over : (ys zs out : List ℕ) (i : ℕ) → length ys ≡ i → take i (over ys out) ++ over zs (drop i (over ys out)) ≡ over (ys ++ zs) out
unfolding over
over_over ys zs out i h =
    rw (take_at ys (drop (length ys) out) i h, drop_at ys (drop (length ys) out) i h, drop-drop, length-append, append_assoc)

take_own : (n : ℕ) (xs : List ℕ) → take (length (take n xs)) xs ≡ take n xs
take_own n xs =
    ap (take (length (take n xs))) (sym (take-append-drop n xs)) ∙ take_at (take n xs) (drop n xs) (length (take n xs)) refl

pub go_start : {d : Device} {r : Run} {xs out : List ℕ} → place_of r ≡ 0 → Going d r xs out r out
unfolding run_of outs_of over
go_start e = record { seen = omega arith; run = rw e; driven = rw e }

module _ {d : Device} {r₀ r : Run} {xs out o : List ℕ} (g : Going d r₀ xs out r o) {r' : Run} {o' : List ℕ} {c : Clocks} (a : Advanced d r xs o c r' o') where
  come : place_of r' ≡ place_of r + length (upcoming (place_of r) c xs)
  come = ap place_of a.run ∙ run_clocks d r (upcoming (place_of r) c xs)

  so_far_lem : take (place_of r') xs ≡ take (place_of r) xs ++ upcoming (place_of r) c xs
  so_far_lem =
      let i = place_of r in
      ap (λ (n : ℕ). take n xs) come ∙ take-add i (length (upcoming i c xs)) xs ∙ ap (λ (l : List ℕ). take i xs ++ l) (take_own c.0 (drop i xs))

  pub go_on : Going d r₀ xs out r' o'
  go_on =
      let i = place_of r in
      let ys = upcoming i c xs in
      let h = g.seen in
      let k = come in
      let l : length (outs_of d r₀ (take i xs)) ≡ i = outs_length d r₀ (take i xs) ∙ length-take-le i xs h in
      record {
        seen = omega (arith, length-take c.0 (drop i xs), length-drop i xs);
        run = a.run ∙ ap (λ (q : Run). run_of d q ys) g.run ∙ sym (run_append d r₀ (take i xs) ys) ∙ ap (run_of d r₀) (sym so_far_lem);
        driven =
            a.driven
            ∙ ap (λ (q : List ℕ). take i q ++ over (outs_of d r ys) (drop i q)) g.driven
            ∙ over_over (outs_of d r₀ (take i xs)) (outs_of d r ys) out i l
            ∙ ap (λ (q : Run). over (outs_of d r₀ (take i xs) ++ outs_of d q ys) out) g.run
            ∙ ap (λ (q : List ℕ). over q out) (sym (outs_append d r₀ (take i xs) ys) ∙ ap (outs_of d r₀) (sym so_far_lem));
      }

-- ---- how far the machine has come
drop_own : (n : ℕ) (xs : List ℕ) → drop (length (take n xs)) xs ≡ drop n xs
drop_own n xs =
    ap (drop (length (take n xs))) (sym (take-append-drop n xs)) ∙ drop_at (take n xs) (drop n xs) (length (take n xs)) refl

-- one part more
pub come_on : {d : Device} {r₀ r r' : Run} {xs out o o' : List ℕ} {n : ℕ} {c : Clocks} → Come d r₀ xs out n r o → Advanced d r xs o c r' o' → Come d r₀ xs out (n + c.0) r' o'
come_on {d} {r₀} {r} {r'} {xs} {out} {o} {o'} {n} {c} k a =
    let i = place_of r in
    record {
      going = go_on k.going a;
      front = so_far_lem k.going a ∙ ap (λ (l : List ℕ). l ++ take c.0 (drop i xs)) k.front ∙ ap (λ (l : List ℕ). take n xs ++ take c.0 l) k.left ∙ sym (take-add n c.0 xs);
      left =
          ap (λ (m : ℕ). drop m xs) (come k.going a)
          ∙ sym (drop-drop (length (upcoming i c xs)) i xs)
          ∙ drop_own c.0 (drop i xs)
          ∙ ap (drop c.0) k.left
          ∙ drop-drop c.0 n xs;
    }

-- the first part
pub come_first : {d : Device} {r r' : Run} {xs out o : List ℕ} {c : Clocks} → place_of r ≡ 0 → Advanced d r xs out c r' o → Come d r xs out c.0 r' o
come_first {d} {r} {r'} {xs} {out} {o} {c} e a =
    subst (λ (n : ℕ). Come d r xs out n r' o) (zero-add c.0) (come_on {n = 0} (record { going = go_start e; front = rw e; left = rw e }) a)

-- ---- the machine and the paper read the same: what is read of a front that holds the command, and then the address, is read of all
drop_front : (n m : ℕ) (xs : List ℕ) → drop n (take (n + m) xs) ≡ take m (drop n xs)
drop_front n m xs = ap (drop n) (take-add n m xs) ∙ by (leb n (length xs)) refl
  where
    by : (b : Bool) → leb n (length xs) ≡ b → drop n (take n xs ++ take m (drop n xs)) ≡ take m (drop n xs)
    by true e = drop_at (take n xs) (take m (drop n xs)) n (length-take-le n xs (leb-true n (length xs) e))
    by false e =
        let h = leb-false n (length xs) e in
        rw (drop_of_length-le xs {i = n} (omega arith), take-nil m, append-nil) (drop_of_length-le (take n xs) {i = n} (omega (arith, length-take n xs)))

module _ (d : Device) (xs : List ℕ) where
  abbrev s : Setting
  s = setting_of d

  abbrev p : Reading
  p = reading_of s xs

  abbrev command : ℕ
  command = (command_clocks s).0

  abbrev address : ℕ
  address = (address_clocks s p.kind).0

  kind_front : (m : ℕ) → (reading_of s (take (command + m) xs)).kind ≡ p.kind
  unfolding reading_of
  kind_front m = ap (kind_read s) (take-take command (command + m) xs (omega arith))

  address_front : (m : ℕ) → (reading_of s (take (command + (address + m)) xs)).address ≡ p.address
  unfolding reading_of
  address_front m =
      let ys = take (command + (address + m)) xs in
      ap (λ (k : Kind). address_read s k (take (address_clocks s k).0 (drop command ys))) (kind_front (address + m))
      ∙ ap (λ (l : List ℕ). address_read s p.kind (take address l)) (drop_front command (address + m) xs)
      ∙ ap (address_read s p.kind) (take-take address (address + m) (drop command xs) (omega arith))

  module _ {l : Lent} {out o : List ℕ} {n : ℕ} {r : Run} (k : Come d (begun l) xs out n r o) where
    read_there : facts_in r.progress ≡ facts_of s (reading_of s (take n xs))
    read_there =
        ap (λ (q : Run). facts_in q.progress) (k.going.run ∙ ap (run_of d (begun l)) k.front) ∙ facts_read d l (take n xs)

    pub kind_met : (m : ℕ) → n ≡ command + m → r.progress.kind ≡ p.kind
    unfolding facts_of
    kind_met m e = ap (λ (f : Facts). f.kind) read_there ∙ ap (λ (j : ℕ). (reading_of s (take j xs)).kind) e ∙ kind_front m

    pub address_met : (m : ℕ) → n ≡ command + (address + m) → r.progress.address ≡ p.address
    unfolding facts_of
    address_met m e = ap (λ (f : Facts). f.address) read_there ∙ ap (λ (j : ℕ). (reading_of s (take j xs)).address) e ∙ address_front m

-- ---- THE HEAD: three parts, of as many clocks as the machine finds for command, address and wait, come to where the paper's data begins
module _
    {d : Device} {l : Lent} {xs out o₁ : List ℕ} {r₁ : Run} {c₁ : Clocks}
    (a₁ : Advanced d (begun l) xs out c₁ r₁ o₁) (e₁ : c₁ ≡ command_clocks (setting_of d)) where
  pub head_first : Come d (begun l) xs out (command_clocks (setting_of d)).0 r₁ o₁
  head_first = subst (λ (c : Clocks). Come d (begun l) xs out c.0 r₁ o₁) e₁ (come_first refl a₁)

  module _ {o₂ : List ℕ} {r₂ : Run} {c₂ : Clocks} (a₂ : Advanced d r₁ xs o₁ c₂ r₂ o₂) (e₂ : c₂ ≡ address_clocks (setting_of d) r₁.progress.kind) where
    named : r₁.progress.kind ≡ (reading_of (setting_of d) xs).kind
    named = kind_met d xs head_first 0 (sym (add-zero (command_clocks (setting_of d)).0))

    second_clocks : c₂ ≡ address_clocks (setting_of d) (reading_of (setting_of d) xs).kind
    second_clocks = e₂ ∙ ap (address_clocks (setting_of d)) named

    pub head_second : Come d (begun l) xs out ((command_clocks (setting_of d)).0 + (address_clocks (setting_of d) (reading_of (setting_of d) xs).kind).0) r₂ o₂
    head_second =
        subst (λ (c : Clocks). Come d (begun l) xs out ((command_clocks (setting_of d)).0 + c.0) r₂ o₂) second_clocks (come_on head_first a₂)

    pub head_come : {o₃ : List ℕ} {r₃ : Run} {c₃ : Clocks} → Advanced d r₂ xs o₂ c₃ r₃ o₃ → c₃ ≡ wait_clocks (setting_of d) r₁.progress.kind r₂.progress.address → Come d (begun l) xs out (head_of d xs) r₃ o₃
    head_come {o₃} {r₃} {c₃} a₃ e₃ =
        let s = setting_of d in
        let p = reading_of s xs in
        let placed : r₂.progress.address ≡ p.address = address_met d xs head_second 0 (ap (λ (n : ℕ). (command_clocks s).0 + n) (sym (add-zero (address_clocks s p.kind).0))) in
        let waits : c₃ ≡ wait_clocks s p.kind p.address = e₃ ∙ ap (λ (k : Kind). wait_clocks s k r₂.progress.address) named ∙ ap (wait_clocks s p.kind) placed in
        subst (λ (n : ℕ). Come d (begun l) xs out n r₃ o₃)
        (ap (λ (c : Clocks). (command_clocks s).0 + (address_clocks s p.kind).0 + c.0) waits ∙ add_assoc (command_clocks s).0 (address_clocks s p.kind).0 _)
        (come_on head_second a₃)

-- the next part may be fed
pub go_advancing : {d : Device} {r₀ : Run} {p : Progress} {m a xs out o : List ℕ} → Passed d xs out → Going d r₀ xs out (run_as p m a) o → Advancing d p xs o
unfolding over
go_advancing {d} {r₀} {p} {m} {a} {xs} {out} {o} h g =
    let i = (total p.tally.counts).0 in
    let ys = outs_of d r₀ (take i xs) in
    let l : length ys ≡ i = outs_length d r₀ (take i xs) ∙ length-take-le i xs g.seen in
    let e : length o ≡ length ys + length (drop (length ys) out) = ap length g.driven ∙ length-append ys (drop (length ys) out) in
    let k = length-drop (length ys) out in
    let s = g.seen in
    let room = h.room in
    record { passed = record { reach = h.reach; few = h.few; room = omega arith }; seen = s }

-- ---- the data
-- the data comes next
pub come_ahead : {d : Device} {m a m' a' xs out o : List ℕ} {p : Progress} → Passed d xs out → Come d (run_as begin_of m a) xs out (head_of d xs) (run_as p m' a') o → Ahead d p xs o
come_ahead {d} {m} {a} {m'} {a'} {xs} {out} {o} {p} h k =
    let s = setting_of d in
    let q = reading_of s xs in
    record {
      advancing = go_advancing h k.going;
      kind = kind_met d xs k ((address_clocks s q.kind).0 + (wait_clocks s q.kind q.address).0) refl;
      address = address_met d xs k (wait_clocks s q.kind q.address).0 refl;
      left = k.left;
    }

-- the data clocks of the plan, off the front of what is left, are the paper's data part
within_first : (w : Wires) (b : Bytes) (all : Clocks) (zs : List ℕ) → length zs ≤ all.0 → take (clocks_within w b all).0 zs ≡ take (clocks_of w b).0 zs
unfolding clocks_within
within_first w b all zs h = by (fewer_bytes (whole_of w all) b) refl
  where
    by : (q : Bool) → fewer_bytes (whole_of w all) b ≡ q → take (cond q all (clocks_of w b)).0 zs ≡ take (clocks_of w b).0 zs
    by true e =
        let k = lt_whole w all.0 b.0 (ltb-true _ _ e) in
        take_all all.0 zs h ∙ sym (take_all (clocks_of w b).0 zs (omega arith))
    by false e = refl

data_first : (b : Body) (w : Wires) (all : Clocks) (zs : List ℕ) → length zs ≤ all.0 → take (data_of b w all).0 zs ≡ data_part b w zs
data_first Nothing w all zs h = refl
data_first (FixedRead b) w all zs h = within_first w b all zs h
data_first AnyRead w all zs h = take_all all.0 zs h
data_first (FixedWrite b) w all zs h = within_first w b all zs h
data_first AnyWrite w all zs h = take_all all.0 zs h

-- and it is the front of what is left
data_own : (b : Body) (w : Wires) (zs : List ℕ) → take (length (data_part b w zs)) zs ≡ data_part b w zs
data_own b w zs =
    ap (take (length (data_part b w zs))) (sym (data_and_rest b w zs)) ∙ take_at (data_part b w zs) (rest_part b w zs) (length (data_part b w zs)) refl

module _ {d : Device} {p : Progress} {xs out : List ℕ} (h : Ahead d p xs out) where
  abbrev place : ℕ
  place = (total p.tally.counts).0

  abbrev whole : Reading
  whole = reading_of (setting_of d) xs

  abbrev body : Body
  body = body_for (setting_of d) whole.kind whole.address

  abbrev wires : Wires
  wires = wires_for (setting_of d) whole.kind

  data_is : whole.data_part ≡ data_part body wires (drop place xs)
  unfolding reading_of
  data_is =
      let s = setting_of d in
      let c₁ = (command_clocks s).0 in
      let c₂ = (address_clocks s whole.kind).0 in
      let c₃ = (wait_clocks s whole.kind whole.address).0 in
      ap (data_part body wires) (drop-drop c₃ c₂ (drop c₁ xs) ∙ drop-drop (c₂ + c₃) c₁ xs ∙ sym h.left)

  -- THE DATA PHASE IS THE MIDDLE OF THE SAMPLES: as many clocks as the paper's data part has, from the machine's place on, are that part (D69)
  pub data_handed : upcoming place (data_clocks d xs) xs ≡ whole.data_part
  data_handed = ap (λ (l : List ℕ). take (length l) (drop place xs)) data_is ∙ data_own body wires (drop place xs) ∙ sym data_is

  -- and so are those that the plan in force gives
  pub data_planned : {k : Body} {w : Wires} {c : Clocks} → k ≡ body_for (setting_of d) p.kind p.address → w ≡ wires_for (setting_of d) p.kind → c ≡ data_of k w (many xs)
      → upcoming place c xs ≡ upcoming place (data_clocks d xs) xs
  data_planned {k} {w} {c} e f g =
      let s = setting_of d in
      let e' : k ≡ body = e ∙ ap (λ (z : Kind). body_for s z p.address) h.kind ∙ ap (body_for s whole.kind) h.address in
      let f' : w ≡ wires = f ∙ ap (wires_for s) h.kind in
      ap (λ (z : Clocks). take z.0 (drop place xs)) (g ∙ ap (λ (z : Body). data_of z w (many xs)) e' ∙ ap (λ (z : Wires). data_of body z (many xs)) f')
      ∙ data_first body wires (many xs) (drop place xs) (omega (arith, length-drop place xs))
      ∙ sym data_is
      ∙ sym data_handed

-- a part of other clocks that are the same samples
pub advanced_same : {d : Device} {r r' : Run} {xs out out' : List ℕ} {c c' : Clocks} → upcoming (place_of r) c xs ≡ upcoming (place_of r) c' xs → Advanced d r xs out c r' out' → Advanced d r xs out c' r' out'
advanced_same {d} {r} {r'} {xs} {out} {out'} {c} {c'} e a =
    record {
      run = a.run ∙ ap (run_of d r) e;
      driven = a.driven ∙ ap (λ (ys : List ℕ). take (place_of r) out ++ over (outs_of d r ys) (drop (place_of r) out)) e;
    }

-- the last part: all that are left
pub go_end : {d : Device} {r₀ r r' : Run} {xs out o o' : List ℕ} → Going d r₀ xs out r o → Advanced d r xs o (clocks (length xs)) r' o'
    → (r' ≡ run_of d r₀ xs) × (o' ≡ over (outs_of d r₀ xs) out)
go_end {d} {r₀} {r} {r'} {xs} {out} {o} {o'} g a =
    let f = go_on g a in
    let i = place_of r in
    let h = g.seen in
    let e : place_of r' ≡ length xs = come g a ∙ omega (arith, length-take (length xs) (drop i xs), length-drop i xs) in
    let t : take (place_of r') xs ≡ xs = ap (λ (n : ℕ). take n xs) e ∙ take-length xs in
    (f.run ∙ ap (run_of d r₀) t, f.driven ∙ ap (λ (q : List ℕ). over (outs_of d r₀ q) out) t)

-- A TRANSACTION, PART BY PART: what the last part leaves, finished, is the paper's transaction
pub parts_end : {d : Device} {m a m' a' xs out o o' : List ℕ} {r : Run} {p : Progress} {v : Outcome}
    → Going d (run_as begin_of m a) xs out r o → Advanced d r xs o (clocks (length xs)) (run_as p m' a') o'
    → v ≡ outcome_of d p → world_of v m' a' o' ≡ clocked_of d (lends m a) xs out
unfolding finish_of
parts_end {d} {m} {a} {m'} {a'} {xs} {out} {o} {o'} {r} {p} {v} g f e =
    let s = go_end g f in
    ap (λ (u : Outcome). world_of u m' a' o') e
    ∙ ap (finish_of d (run_as p m' a')) s.1
    ∙ ap (λ (q : Run). finish_of d q (over (outs_of d (run_as begin_of m a) xs) out)) s.0
    ∙ bridge d (lends m a) xs out
