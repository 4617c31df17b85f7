use Rattle.std.proofs.Common.{sym, ◌∙◌, ap}
use Rattle.net_script.specs.declared.command.Command.TheVariants.{Done}
use Rattle.net_script.specs.declared.line.ScriptLine.TheVariants.{Asks}
use Rattle.net_script.specs.Arguments.{place}
use Rattle.net_script.proofs.table.jobs.done.Goals as goal

pub returns-in-Some : goal.returns-in-Some
returns-in-Some c =
    ap (λ s. Asks (Done s c.place-in-Some.result c.in-Some.write)) c.place.ensures
    ∙ ap (λ j. Asks (Done (place c.in-Some.server) j c.in-Some.write)) c.place-in-Some.ensures
    ∙ sym (c.in-Some.ensures (λ s j k. Asks (Done (place s) (place j) k)))

pub returns-in-None : goal.returns-in-None
returns-in-None c = sym (c.in-None.ensures (λ s j k. Asks (Done (place s) (place j) k)))
