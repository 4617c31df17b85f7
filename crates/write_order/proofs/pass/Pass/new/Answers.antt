use Rattle.std.proofs.Common.{◌≡◌, length, sym, ap, ◌∙◌, refl, arith}
use Rattle.std.proofs.lemmas.List.{take_all}
use Rattle.std.proofs.lemmas.List.FromFn.{length-range_with_len}
use Rattle.write_order.proofs.PickSteps.{left_before-new, same_pass, zero_turn}
use Rattle.write_order.proofs.PassSteps.{none_behind}
use Rattle.write_order.proofs.pass.Pass.new.Goals as goal

pub invariant_of-result : goal.invariant_of-result
invariant_of-result c =
    let b = c.args.blocks in
    let len : length c.in_ok-list.list.items ≡ b = ap length c.in_ok-list.ensures ∙ length-range_with_len 0 b in
    record { some = c.requires; within = omega arith; whole = len; behind = none_behind b c.in_ok-list.list.items len }

pub returns : goal.returns
returns c words =
    let b = c.args.blocks in
    let len : length c.in_ok-list.list.items ≡ b = ap length c.in_ok-list.ensures ∙ length-range_with_len 0 b in
    same_pass b b _ _ refl
    (take_all b c.in_ok-list.list.items (omega arith) ∙ c.in_ok-list.ensures ∙ sym (left_before-new words b 0 (zero_turn b c.requires)))
