use Rattle.std.proofs.Common.{subst}
use Rattle.net_script.specs.Runs.{HasRun}
use Rattle.net_script.proofs.ScriptLemmas.{script_run}
use Rattle.net_script.proofs.running.run_script.Goals as goal

pub returns : goal.returns
returns g c =
    script_run _ _ c.in_ok-script.script.items _ _ _ _ c.in_ok-script.ensures.ok
    (subst (λ script. HasRun script (g.W.Write.contents c.args.writer.now) (g.W.Write.contents c.answer.new.writer) c.in_ok-status.status)
    c.as_slice.ensures.value c.in_ok-status.ensures)
    c.in_ok-flush.ensures.bytes
