use Rattle.filters.specs.Kept.{note_kept}
use Rattle.filters.specs.NodeTells.{result_bytes}
use Rattle.filters.specs.MirrorLives.{frame_in}
use Rattle.filters.proofs.MirrorLemmas.{body_taken}
use Rattle.filters.proofs.mirror_filter.MirrorFilter.answer_frame.Goals as goal

pub returns : goal.returns
returns g c =
    let wrote = c.write_answer.ensures in
    record {
      answer = result_bytes (note_kept c.take-answer.new.self.mirror.durable.notes).bytes c.take-answer.result;
      written = wrote;
      takes = λ o at h. body_taken note_kept o at (frame_in c.args.body.now) c.args.self.now.mirror c.take-answer.new.self.mirror c.take-answer.result h
          (c.take-answer.ensures o at.list h.0);
    }
