use Rattle.std.proofs.Common.{Ok, ◌++◌, ◌∙◌, ap}
use Rattle.filters.specs.Records.{end_bytes}
use Rattle.filters.specs.NodeTells.{save_bytes}
use Rattle.filters.specs.ClientLives.{is_renewal}
use Rattle.filters.specs.declared.client_filter.ClientFilter.{ClientFilter}
use Rattle.filters.proofs.AttemptLemmas.{begun}
use Rattle.filters.proofs.BeginLemmas.{opening_is}
use Rattle.filters.proofs.client_filter.ClientFilterRecordsNode.open.Goals as goal

pub returns-in-Ok-clause-ok : goal.returns-in-Ok-clause-ok
returns-in-Ok-clause-ok c =
    let opens = c.in-Ok.ensures in
    let begins = c.args.begin.beginning in
    let filter : ClientFilter = record { alloc = c.args.alloc; servers = c.args.begin.servers; client = c.in-Ok.client; attempts = c.new.result } in
    record {
      said = opens.said;
      says = (opens.may, opens.says);
      answered_is = ap (λ b. save_bytes (is_renewal begins) b ++ end_bytes (Ok tt)) opens.saved ∙ opening_is begins c.args.note.items;
      begins = λ o at begins_at. begun filter begins c.args.note.items o at c.new.ensures begins_at (opens.begins o at begins_at);
    }
