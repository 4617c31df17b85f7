use Rattle.std.proofs.Common.{sym, ◌∙◌, ap}
use Rattle.net_script.specs.declared.line.ScriptLine.TheVariants.{Asks}
use Rattle.net_script.specs.declared.command.Command.TheVariants.{Land}
use Rattle.net_script.specs.Words.{words_of}
use Rattle.net_script.specs.Arguments.{place}
use Rattle.net_script.proofs.TableLemmas.{lands}
use Rattle.net_script.proofs.table.jobs.landed.Goals as goal

pub returns : goal.returns
returns c =
    let write = c.in_ok-write.write in
    let mask = c.in_ok-mask.mask in
    ap (λ s. Asks (Land s c.place-2.result write mask)) c.place.ensures
    ∙ ap (λ j. Asks (Land (place c.in_ok-server.server) j write mask)) c.place-2.ensures
    ∙ sym (lands (words_of c.args.words.now) c.in_ok-server.server c.in_ok-job.job write mask
    (words_of c.in_ok-server.words.now) (words_of c.in_ok-job.words.now) (words_of c.in_ok-write.words.now)
    (sym c.in_ok-server.ensures) (sym c.in_ok-job.ensures) (sym c.in_ok-write.ensures) (sym c.in_ok-mask.ensures))
