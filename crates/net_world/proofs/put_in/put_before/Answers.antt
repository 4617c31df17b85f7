use Rattle.std.proofs.Common.{◌≡◌, ◌∙◌, ap, take, drop, ◌++◌, ◌∷◌, []}
use Rattle.std.specs.Prelude.{map}
use Rattle.std.proofs.lemmas.List.{take_rest}
use Rattle.net_world.specs.Events.{happening}
use Rattle.net_world.proofs.PutLemmas.{two_put_in}
use Rattle.net_world.proofs.put_in.put_before.Goals as goal

pub returns : goal.returns
returns c =
    let es = c.args.events.now in
    let at = c.args.at in
    let front : map happening c.add_copies.new.all.items ≡ map happening (take at es) =
    c.in_ok-add_copies.ensures ∙ ap (λ l. map happening l ++ map happening (take at es)) c.new-all.ensures.items in
    c.in_ok-add_copies-2.ensures
    ∙ ap (λ l. map happening c.push-2.new.self.items ++ map happening l) (take_rest es at)
    ∙ ap (λ l. map happening l ++ map happening (drop at es)) (c.in_ok-push-2.ensures.items ∙ ap (λ l. l ++ c.args.second ∷ []) c.in_ok-push.ensures.items)
    ∙ two_put_in es c.add_copies.new.all.items at c.args.first c.args.second front
