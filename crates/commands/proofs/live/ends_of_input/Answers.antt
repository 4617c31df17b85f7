use Rattle.std.proofs.Common.{IfOk, IfErr, subst}
use Rattle.commands.specs.Live.{IsLiveRefusal, RunsTexts}
use Rattle.commands.proofs.LiveWhole.{refused_whole, runs_whole}
use Rattle.commands.proofs.live.ends_of_input.Goals as goal

pub returns-clause-runs : goal.returns-clause-runs
returns-clause-runs g c =
    runs_whole c.read_law.ensures.whole c.read_law.ensures.fronts c.ends_of_texts.result
    (λ text ends. RunsTexts c.args.size.servers text ends.items) _ _ c.in_ok-input.input.items (λ ends runs. runs.sound) c.in_ok-input.ensures.ok
    (subst (λ text. IfOk c.ends_of_texts.result (λ ends. RunsTexts c.args.size.servers text ends.items)) c.deref.ensures.value c.ends_of_texts.ensures.runs)

pub returns-clause-refused : goal.returns-clause-refused
returns-clause-refused g c =
    refused_whole c.read_law.ensures.whole c.read_law.ensures.fronts c.ends_of_texts.result _ _ c.in_ok-input.input.items c.in_ok-input.ensures.ok
    (subst (λ text. IfErr c.ends_of_texts.result (IsLiveRefusal text)) c.deref.ensures.value c.ends_of_texts.ensures.refused)
