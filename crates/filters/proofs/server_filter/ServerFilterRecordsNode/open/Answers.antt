use Rattle.std.proofs.Common.{refl}
use Rattle.filters.specs.Kept.{note_kept}
use Rattle.filters.proofs.ServerBeginLemmas.{opened_over, refuses}
use Rattle.filters.proofs.server_filter.ServerFilterRecordsNode.open.Goals as goal

pub returns-in-Ok-restart-clause-ok : goal.returns-in-Ok-restart-clause-ok
returns-in-Ok-restart-clause-ok c =
    opened_over c.args.me c.args.note.items c.new.result c.in-Ok-restart.server c.in-Ok-no_checks.checks.items c.new.ensures c.in-Ok-no_checks.ensures.none c.in-Ok-restart.ensures

pub returns-in-Err-clause-err : goal.returns-in-Err-clause-err
returns-in-Err-clause-err c =
    refuses c.args.note.items (note_kept c.new.result) (note_kept c.in-Err.field-0-0) c.in-Err.fault c.new.ensures refl c.in-Err.ensures
