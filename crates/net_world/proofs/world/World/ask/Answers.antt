use Rattle.std.proofs.Common.{refl, sym, ◌∙◌, ap, ◌++◌, List, ℕ, length, subst, Ok}
use Rattle.std.proofs.lemmas.Result.{err_from_is_err_and}
use Rattle.client_core.specs.Answers.{input_of}
use Rattle.net_world.specs.ClientNodes.{Asks}
use Rattle.net_world.proofs.MetLemmas.{none_added}
use Rattle.net_world.proofs.AskLemmas.{answered, unanswered}
use Rattle.net_world.proofs.ServeLemmas.{settled}
use Rattle.net_world.proofs.world.World.ask.Goals as goal

pub returns-in_default : goal.returns-in_default
returns-in_default c w past stands = (refl, settled w past c.args.self.now _ stands c.settle.ensures.same refl refl refl refl)

pub returns-in_err-asked : goal.returns-in_err-asked
returns-in_err-asked c w past stands =
    let p = err_from_is_err_and c.from_residual.result c.from_residual.ensures.1 in
    rw (p.1, p.2)
    (unanswered w past (input_of c.args.ask) c.in_err-asked.field-0.0 c.args.self.now _ stands
    (record {
      asks = λ o es h. c.in_err-asked.ensures o es h;
      moved = record {
        sent_is = none_added c.settle.ensures.same;
        servers_are = refl;
        files_are = refl;
        mirror_is = refl;
      };
    }))

pub returns : goal.returns
returns c w past stands =
    let e = input_of c.args.ask in
    let asked = c.in_ok-asked.asked in
    answered w past e asked c.in-Ok.first c.send.result c.args.self.now c.send.new.self stands
    (record {
      asks = λ o es h. subst (λ x. Asks o es e x (Ok asked)) (sym (ap (λ x. x.client) c.send.ensures.rest)) (c.in_ok-asked.ensures o es h);
      moved = record {
        sent_is = c.send.ensures.sent ∙ ap (λ fs. fs ++ asked.frames) c.settle.ensures.same;
        servers_are =
            ap (λ x. x.servers) c.send.ensures.rest;
        files_are = ap (λ x. x.files) c.send.ensures.rest;
        mirror_is = ap (λ x. x.mirror) c.send.ensures.rest;
      };
    })
    (c.in-Ok.ensures.first ∙ ap (λ (fs : List (List ℕ)). length fs) c.settle.ensures.same)
    c.send.ensures.told
