use Rattle.std.proofs.Common.{sym, ◌∙◌, ap}
use Rattle.net_script.specs.declared.command.Command.TheVariants.{Fail}
use Rattle.net_script.specs.declared.line.ScriptLine.TheVariants.{Asks}
use Rattle.net_script.specs.Arguments.{place}
use Rattle.net_script.proofs.table.jobs.fail.Goals as goal

pub returns-in-Some : goal.returns-in-Some
returns-in-Some c =
    ap (λ s. Asks (Fail s c.place-in-Some.result c.in-Some.write)) c.place.ensures
    ∙ ap (λ j. Asks (Fail (place c.in-Some.server) j c.in-Some.write)) c.place-in-Some.ensures
    ∙ sym (c.in-Some.ensures (λ s j k. Asks (Fail (place s) (place j) k)))

pub returns-in-None : goal.returns-in-None
returns-in-None c = sym (c.in-None.ensures (λ s j k. Asks (Fail (place s) (place j) k)))
