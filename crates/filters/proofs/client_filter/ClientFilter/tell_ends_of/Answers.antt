use Rattle.std.proofs.Common.{◌++◌, ◌∙◌, Ok, Err, refl, ap, inl, inr}
use Rattle.filters.proofs.OutputLemmas.{puts_both}
use Rattle.fc_base.specs.declared.fault.Fault.TheVariants.{NoMemory}
use Rattle.filters.specs.EndTells.{told_bytes}
use Rattle.filters.specs.Records.{end_bytes}
use Rattle.filters.proofs.client_filter.ClientFilter.tell_ends_of.Goals as goal

pub returns-in-Ok : goal.returns-in-Ok
returns-in-Ok g c =
    let ended = c.put_end.ensures in
    record {
      answer = told_bytes c.args.asked.now c.as_slice.result.now ++ end_bytes (Ok tt);
      written = puts_both (g.W.Output.written c.args.writer.now) (g.W.Output.written c.put_ends.new.writer) (g.W.Output.written c.put_end.new.writer)
          (told_bytes c.args.asked.now c.as_slice.result.now) (end_bytes (Ok tt)) c.put_ends.ensures ended;
      takes = λ o at h. (at, h, inl (refl, ap (λ es. told_bytes c.args.asked.now es ++ end_bytes (Ok tt)) (c.as_slice.ensures ∙ c.in-Ok.ensures.ends o at.list h.client.0 h.attempts)));
    }

pub returns-in-Err : goal.returns-in-Err
returns-in-Err g c =
    let ended = c.put_end-in-Err.ensures in
    record {
      answer = end_bytes (Err NoMemory);
      written = ended;
      takes = λ o at h. (at, h, inr (NoMemory, refl, (refl, refl)));
    }
