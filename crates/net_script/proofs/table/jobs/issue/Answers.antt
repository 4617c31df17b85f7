use Rattle.std.proofs.Common.{sym, ◌∙◌, ap}
use Rattle.net_script.specs.declared.command.Command.TheVariants.{Issue}
use Rattle.net_script.specs.declared.line.ScriptLine.TheVariants.{Asks}
use Rattle.net_script.specs.Arguments.{place}
use Rattle.net_script.proofs.table.jobs.issue.Goals as goal

pub returns-in-Some : goal.returns-in-Some
returns-in-Some c =
    ap (λ s. Asks (Issue s c.place-in-Some.result)) c.place.ensures
    ∙ ap (λ j. Asks (Issue (place c.in-Some.server) j)) c.place-in-Some.ensures
    ∙ sym (c.in-Some.ensures (λ s j. Asks (Issue (place s) (place j))))

pub returns-in-None : goal.returns-in-None
returns-in-None c = sym (c.in-None.ensures (λ s j. Asks (Issue (place s) (place j))))
