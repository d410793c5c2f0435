-- DEMAND 3 FOR THE PROGRAM. `device::transact` is known here by its contract alone: of each call a result and what it leaves in the lent memory, area and output, equal to
-- the paper's transaction. Whatever program makes the calls of the episodes, in either order and with whatever buffers, one for all calls or one for each, ends in the same
-- record, memory and area, and gets for each episode what that episode gets alone (D66).
-- Assumes nothing.
use Rattle.std.specs.Prelude.{◌≡◌, refl}
use Rattle.std.proofs.Common.{ap, ◌∙◌, sym}
use mathlib.Core.List.{List, [], ◌∷◌, ◌++◌, Permᴰ, Pairwise}
use Rattle.record.specs.Devices.{setting_of}
use Rattle.paper.specs.Transaction.{World}
use Rattle.contract_words.specs.Words.{world_of}
use Rattle.demand_3.specs.Steps.{Every}
use Rattle.demand_3.specs.Episodes.{Chip, Call, Reply, called, leaves, says, after_calls, replies, clocked, RoomFor, Episode, Apart, runs, all_replies, Ready}
use Rattle.demand_3.proofs.Demand3.{demand_3}
use Rattle.demand_3.specs.Programs.{Agree, Made, call, ended, joined}

-- the contract leaves no choice
made_ends : {c c' : Chip} {xs : List Call} {rs : List Reply} → Made c xs rs c' → after_calls c xs ≡ c'
unfolding after_calls
made_ends ended = refl
made_ends (call {c} {c'} {x} {xs} {rs} o memory area output e m) = ap (λ (w : World). after_calls (leaves w) xs) (sym e) ∙ made_ends m

made_says : {c c' : Chip} {xs : List Call} {rs : List Reply} → Made c xs rs c' → replies c xs ≡ rs
unfolding replies
made_says ended = refl
made_says (call {c} {c'} {x} {xs} {rs} o memory area output e m) =
    ap (λ (w : World). says w ∷ replies (leaves w) xs) (sym e) ∙ ap (λ (l : List Reply). says (world_of o memory area output) ∷ l) (made_says m)

-- episodes one after the other are their calls one after the other
after_append : (c : Chip) (xs ys : List Call) → after_calls c (xs ++ ys) ≡ after_calls (after_calls c xs) ys
unfolding after_calls
after_append c [] ys = refl
after_append c (x ∷ xs) ys = after_append (leaves (called c x)) xs ys

replies_append : (c : Chip) (xs ys : List Call) → replies c (xs ++ ys) ≡ replies c xs ++ replies (after_calls c xs) ys
unfolding after_calls replies
replies_append c [] ys = refl
replies_append c (x ∷ xs) ys = ap (λ (l : List Reply). says (called c x) ∷ l) (replies_append (leaves (called c x)) xs ys)

after_together : (c : Chip) (l : List (List Call)) → after_calls c (joined l) ≡ runs c l
unfolding joined after_calls
after_together c [] = refl
after_together c (e ∷ l) = after_append c e (joined l) ∙ after_together (after_calls c e) l

replies_together : (c : Chip) (l : List (List Call)) → replies c (joined l) ≡ joined (all_replies c l)
unfolding joined replies all_replies
replies_together c [] = refl
replies_together c (e ∷ l) = replies_append c e (joined l) ∙ ap (λ (rs : List Reply). replies c e ++ rs) (replies_together (after_calls c e) l)

pub any_program : (c : Chip) → Ready c → {k₁ k₂ : List (List Call)} → Permᴰ (clocked k₁) (clocked k₂) → RoomFor k₁ → RoomFor k₂ → Every (Episode c) (clocked k₁)
    → Pairwise (Apart (setting_of c.device)) (clocked k₁)
    → {rs₁ rs₂ : List Reply} {c₁ c₂ : Chip} → Made c (joined k₁) rs₁ c₁ → Made c (joined k₂) rs₂ c₂ → Agree c k₁ k₂ rs₁ rs₂ c₁ c₂
any_program c r {k₁} {k₂} order room₁ room₂ episodes apart m₁ m₂ =
    let any = demand_3 c r order room₁ room₂ episodes apart in
    record {
      ends = sym (made_ends m₁) ∙ after_together c k₁;
      any = any;
      same = sym (made_ends m₁) ∙ after_together c k₁ ∙ any.same ∙ sym (after_together c k₂) ∙ made_ends m₂;
      first = sym (made_says m₁) ∙ replies_together c k₁ ∙ ap joined any.first;
      second = sym (made_says m₂) ∙ replies_together c k₂ ∙ ap joined any.second;
    }
