use Rattle.std.proofs.Common.{◌∙◌, ap}
use Rattle.ledger.specs.Spelling.{index_in}
use Rattle.ledger.proofs.RunLemmas.{found_at, found_nowhere}
use Rattle.ledger.proofs.runs.Runs.place_of.Goals as goal

pub returns-in-Some : goal.returns-in-Some
returns-in-Some c =
    found_at c.args.run.now c.self.inside.rows.keys c.in-Some.place c.in-Some.ensures.index ∙ ap (index_in c.args.run.now) c.self.view_is

pub returns-in-None : goal.returns-in-None
returns-in-None c =
    c.len.ensures.len ∙ found_nowhere c.args.run.now c.self.inside.rows.keys c.in-None.ensures.index ∙ ap (index_in c.args.run.now) c.self.view_is
