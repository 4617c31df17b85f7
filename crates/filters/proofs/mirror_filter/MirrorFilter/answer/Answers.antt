use Rattle.std.proofs.Common.{Some, sym, ◌∙◌, subst}
use Rattle.filters.specs.Kept.{note_kept}
use Rattle.filters.specs.MirrorLives.{TakesKind}
use Rattle.filters.proofs.MirrorLemmas.{note_says}
use Rattle.filters.proofs.mirror_filter.MirrorFilter.answer.Goals as goal

pub returns-in-Some : goal.returns-in-Some
returns-in-Some g c =
    let b = c.answer_kind.ensures in
    record {
      answer = b.answer;
      written = b.written;
      takes = λ o at h. let t = b.takes o at h in (
        t.0,
        t.1,
        (
          subst (λ k. TakesKind o at k c.args.came.now.body.items t.0 b.answer) (sym (sym c.numbered.ensures ∙ c.in-Some.is))
              (subst (λ l. TakesKind o at (Some c.in-Some.kind) l t.0 b.answer) c.as_slice-body.ensures.value t.2),
          note_says note_kept c.answer_kind.new.self.mirror o t.0 t.1,
        ),
      );
    }
