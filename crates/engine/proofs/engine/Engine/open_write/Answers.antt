use Rattle.std.proofs.Common.{ap, ◌∙◌, eqb, Some, None}
use Rattle.std.specs.List.{find}
use Rattle.engine.specs.declared.writes.OpenWrite.{OpenWrite}
use Rattle.engine.specs.Running.{Running}
use Rattle.engine.specs.Answers.{open_ticket}
use Rattle.engine.specs.Inside.{origin_in}
use Rattle.engine.proofs.WriteLemmas.{ticket_found}
use Rattle.engine.proofs.engine.Engine.open_write.Goals as goal

pub returns-in-Some-clause-value : goal.returns-in-Some-clause-value
returns-in-Some-clause-value c =
    let asked = λ (w : OpenWrite). eqb w.seq c.args.seq in
    ticket_found (origin_in c.self.inside) c.args.seq c.self.inside.window.open_writes (Some c.in-Some.write)
    (c.in-Some.ensures ∙ ap (find asked) (c.deref.ensures.value ∙ c.self.invariant.open_writes))
    ∙ ap (λ (r : Running). open_ticket r.origin r.kept.open_writes c.args.seq) c.self.view_is

pub returns-in-None-clause-value : goal.returns-in-None-clause-value
returns-in-None-clause-value c =
    let asked = λ (w : OpenWrite). eqb w.seq c.args.seq in
    ticket_found (origin_in c.self.inside) c.args.seq c.self.inside.window.open_writes None
    (c.in-None.ensures ∙ ap (find asked) (c.deref.ensures.value ∙ c.self.invariant.open_writes))
    ∙ ap (λ (r : Running). open_ticket r.origin r.kept.open_writes c.args.seq) c.self.view_is

pub returns-in-Some-clause-history : goal.returns-in-Some-clause-history
returns-in-Some-clause-history c h s =
    returns-in-Some-clause-value c ∙ ap (λ (r : Running). open_ticket r.origin r.kept.open_writes c.args.seq) s.running_is

pub returns-in-None-clause-history : goal.returns-in-None-clause-history
returns-in-None-clause-history c h s =
    returns-in-None-clause-value c ∙ ap (λ (r : Running). open_ticket r.origin r.kept.open_writes c.args.seq) s.running_is
