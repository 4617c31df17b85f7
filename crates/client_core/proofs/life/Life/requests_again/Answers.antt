use Rattle.std.proofs.Common.{◌∙◌, ap, ◌++◌}
use Rattle.std.specs.List.{flat_map}
use Rattle.client_core.specs.Framed.{frame_bytes}
use Rattle.client_core.specs.Packets.{run_again, attempt_again}
use Rattle.client_core.proofs.AgainLemmas.{all_spread}
use Rattle.client_core.proofs.life.Life.requests_again.Goals as goal

pub returns : goal.returns
returns c deeds h =
    let runs = c.args.self.now.runs in
    let attempts = c.args.self.now.attempts in
    c.in_ok-attempts_again.ensures deeds h
    ∙ ap (λ fs. fs ++ frame_bytes (flat_map (λ e. attempt_again c.args.servers deeds e.0) attempts.entries))
    (c.in_ok-runs_again.ensures deeds h ∙ ap (λ fs. fs ++ frame_bytes (flat_map (λ e. run_again c.args.servers deeds e.0) runs.entries))
    c.new-frames.ensures)
    ∙ all_spread c.args.servers deeds runs attempts c.len-runs.ensures.ordered c.len-attempts.ensures.ordered h.runs h.attempts
