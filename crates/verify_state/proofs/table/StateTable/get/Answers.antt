use Rattle.std.proofs.Common.{◌∙◌, ap}
use Rattle.verify_state.specs.StateTable.{kept_of}
use Rattle.verify_state.proofs.EntryLemmas.{looked_up}
use Rattle.verify_state.proofs.table.StateTable.get.Goals as goal

pub returns : goal.returns
returns c = c.get.ensures.value ∙ looked_up c.args.key c.self.inside.by_key.entries c.self.invariant.keyed ∙ ap (kept_of c.args.key) c.self.view_is
