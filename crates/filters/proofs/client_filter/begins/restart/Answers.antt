use Rattle.filters.specs.Kept.{note_kept}
use Rattle.filters.proofs.BeginLemmas.{restarted}
use Rattle.filters.proofs.client_filter.begins.restart.Goals as goal

pub returns-in-Ok : goal.returns-in-Ok
returns-in-Ok c =
    restarted c.args.mirror c.args.servers c.args.note.items (note_kept c.new.result) c.in-Ok.client c.new.ensures c.in-Ok.ensures
