use Rattle.filters.specs.Kept.{note_kept}
use Rattle.filters.proofs.BeginLemmas.{renewed}
use Rattle.filters.proofs.client_filter.begins.renew.Goals as goal

pub returns-in-Ok : goal.returns-in-Ok
returns-in-Ok c =
    renewed c.args.generation c.args.servers c.args.note.items (note_kept c.new.result) c.in-Ok.client c.new.ensures c.in-Ok.ensures
