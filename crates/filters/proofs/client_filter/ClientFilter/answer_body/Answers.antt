use Rattle.std.proofs.Common.{◌∙◌, ◌++◌, ap, sym}
use Rattle.client_core.specs.FrameEnds.{note_in}
use Rattle.filters.specs.Kept.{note_kept}
use Rattle.filters.specs.ClientAsks.{input_in}
use Rattle.filters.specs.NodeTells.{result_bytes}
use Rattle.filters.specs.ClientRuns.{attempts_added}
use Rattle.filters.proofs.AttemptLemmas.{taken_attempts}
use Rattle.filters.proofs.TakeLemmas.{body_taken}
use Rattle.filters.proofs.client_filter.ClientFilter.answer_body.Goals as goal

pub returns : goal.returns
returns g c =
    let asked = input_in c.args.kind c.args.body.now in
    let old = c.args.self.now.client in
    let new = c.ask-answer.new.self.client in
    let wrote = c.write_answer.ensures in
    record {
      answer = result_bytes (note_in note_kept new).bytes c.ask-answer.result;
      written = wrote;
      takes = λ o at h.
          let ends = c.ask-answer.ensures.ends o at.list h.client.0 in
          let t = body_taken note_kept o at asked old new c.ask-answer.result h.client ends in (
            t.0,
            record {
              client = t.1;
              servers = h.servers ∙ sym c.ask-answer.ensures.servers;
              attempts = c.ask-answer.ensures.attempts o at.list h.client.0 h.servers
                  ∙ ap (λ ms. ms ++ attempts_added o at.list asked c.ask-answer.result) h.attempts
                  ∙ sym (taken_attempts note_kept o at asked old new c.ask-answer.result h.client ends);
            },
            t.2,
          );
    }
