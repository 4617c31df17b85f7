use Rattle.std.proofs.Common.{◌∙◌, ap, ◌∷◌, ◌++◌, []}
use Rattle.cells.specs.Histories.{Entries}
use Rattle.cells.proofs.HistoryLemmas.{other_stands}
use Rattle.cells.proofs.history.History.push.Goals as goal

pub returns-clause-items : goal.returns-clause-items
returns-clause-items c =
    rw (c.push_reserved.ensures.items, c.push_reserved-2.ensures.items, c.as_slice-place.ensures.value)
    (other_stands c.self.inside.others.items c.args.entry c.self.inside.rows.items c.self.invariant
    ∙ ap (λ (it : Entries). it.items ++ c.args.entry ∷ []) c.self.view_is)
