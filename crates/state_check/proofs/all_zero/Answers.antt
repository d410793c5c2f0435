-- `state_check::all_zero` meets its contract: the bytes from `from` on, of which there are none past the eighth.
-- Assumes nothing.
use Rattle.std.proofs.Common.{rules, ◌≡◌, ◌∙◌, ap, length, arith, drop, ◌-◌, ℕ, ◌≤◌}
use Rattle.std.proofs.lemmas.List.{drop_min, take_all, length-drop}
use Rattle.state_check.specs.States.{zeros}
use Rattle.state_check.proofs.all_zero.Goals as goal

pub returns : goal.returns
returns c =
    let l : length c.args.a ≡ 8 = search rules in
    let m : ℕ = c.min.result in
    let n : length (drop m c.args.a) ≤ 8 - m = let e = length-drop m c.args.a in omega arith in
    let d : drop m c.args.a ≡ drop c.args.from c.args.a = rw (c.min.ensures, ← l) (drop_min c.args.from c.args.a) in
    c.are_zero.ensures ∙ ap zeros (take_all (8 - m) (drop m c.args.a) n ∙ d)
