use Rattle.std.proofs.Common.{rules, not, eqb}
use Rattle.std.proofs.lemmas.Fn.{filter_same}
use Rattle.targets.specs.declared.tile.Tile.{Tile}
use Rattle.targets.proofs.tour_tiles.let_go.Goals as goal

pub returns-clause-items : goal.returns-clause-items
returns-clause-items c =
    filter_same _ (λ (tile : Tile). not (eqb tile.number c.args.number)) _ (λ x b f k. search rules) _ _ c.retain.ensures.filtered
