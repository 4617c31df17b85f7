use Rattle.std.proofs.Common.{refl, subst}
use Rattle.mirror_core.specs.Note.{Says}
use Rattle.filters.specs.Kept.{note_kept}
use Rattle.filters.proofs.MirrorLemmas.{begins_at}
use Rattle.filters.proofs.mirror_filter.MirrorFilterRecordsNode.open.Goals as goal

pub returns-in-Ok-clause-ok : goal.returns-in-Ok-clause-ok
returns-in-Ok-clause-ok c =
    let opens = c.in-Ok.ensures in
    record {
      said = opens.said;
      says = subst (λ b. Says b opens.said) c.new.ensures opens.says;
      answered_is = refl;
      begins = begins_at note_kept c.args.note.items (note_kept c.new.result) c.in-Ok.mirror c.new.ensures opens;
    }
