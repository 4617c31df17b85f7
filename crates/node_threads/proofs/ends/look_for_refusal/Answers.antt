use Rattle.std.proofs.Common.{sym, ◌∙◌, ap, Some}
use Rattle.server_core.specs.declared.progress.Progress.{Progress}
use Rattle.server_core.specs.KeptCheck.{progress_of}
use Rattle.node_threads.proofs.ends.look_for_refusal.Goals as goal

pub returns-in-Some-Refused : goal.returns-in-Some-Refused
returns-in-Some-Refused c =
    let shown = c.in-Some.ensures.on in
    record {
      past = shown.0;
      replay = shown.1;
      fault = _;
      is_refused = sym (c.in-Some-Refused.ensures c.args.server.now.opening shown.0 shown.2)
          ∙ ap (λ (p : Progress). Some (progress_of p)) c.in-Some-Refused.field-0-is;
    }
