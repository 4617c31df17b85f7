use Rattle.std.proofs.Common.{sym, ◌∙◌, subst}
use Rattle.filters.specs.ClientLives.{TellsEnds}
use Rattle.filters.proofs.client_filter.ClientFilter.tell_ends.Goals as goal

pub returns-in-Some : goal.returns-in-Some
returns-in-Some g c =
    let b = c.tell_ends_of.ensures in
    record {
      answer = b.answer;
      written = b.written;
      takes = λ o at h. let t = b.takes o at h in (
        t.0,
        t.1,
        subst (λ asked. TellsEnds o at asked t.0 b.answer) (sym (sym c.ends_in.ensures ∙ c.in-Some.is)) t.2,
      );
    }
