use Rattle.std.proofs.Common.{rules, ◌≤◌, ◌<◌, [], ◌∷◌, ◌++◌, length, sym, ◌∙◌, arith}
use Rattle.std.proofs.lemmas.List.{length_push, take_all, take-append-le}
use Rattle.ledger.proofs.tally.list.Goals as goal

pub returns-then-len-lt-MAX_LISTED : goal.returns-then-len-lt-MAX_LISTED
returns-then-len-lt-MAX_LISTED c =
    let few : length c.args.first.now < 32 = search rules in
    c.push.ensures
    ∙ sym (take_all 32 (c.args.first.now ++ c.args.block ∷ []) (omega (arith, length_push c.args.first.now c.args.block)))

pub returns-else-len-lt-MAX_LISTED : goal.returns-else-len-lt-MAX_LISTED
returns-else-len-lt-MAX_LISTED c =
    let many : 32 ≤ length c.args.first.now = search rules in
    sym (take-append-le 32 c.args.first.now (c.args.block ∷ []) many ∙ take_all 32 c.args.first.now c.requires.few)
