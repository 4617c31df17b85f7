use Rattle.std.proofs.Common.{◌≡◌, ◌==◌, List, Some, None, sym, ◌∙◌, subst, inl}
use Rattle.std.specs.Prelude.{slice_index_or}
use Rattle.std.specs.List.{position}
use Rattle.std.proofs.KnownBytes.{Keeps-refl}
use Rattle.std.proofs.lemmas.Bool.{eqb-true}
use Rattle.std.proofs.lemmas.List.Quantifiers.{position-Some}
use Rattle.targets.specs.declared.tile.Tile.{Tile}
use Rattle.targets.proofs.PlaceLemmas.{closed_at}
use Rattle.targets.proofs.tile.Tour.tell.Goals as goal

pub returns-in-None : goal.returns-in-None
returns-in-None g c words pieces stands = (
  Keeps-refl (g.W.Write.contents c.args.writer.now),
  inl (closed_at c.args.self.now.tiles.items words c.args.tile
      (subst (λ (l : List Tile). None ≡ position (λ x. x.number == c.args.tile) l) c.deref.ensures.value (sym c.in-None.is ∙ c.place_of.ensures))
      stands.numbers),
)

pub returns-in-Some : goal.returns-in-Some
returns-in-Some g c words pieces stands =
    let tiles = c.args.self.now.tiles.items in
    c.tell_at.ensures words pieces stands
    (λ d.
    eqb-true (slice_index_or tiles c.in-Some.place d).number c.args.tile
    (position-Some (λ (x : Tile). x.number == c.args.tile) tiles c.in-Some.place d
    (subst (λ (l : List Tile). position (λ x. x.number == c.args.tile) l ≡ Some c.in-Some.place) c.deref.ensures.value
    (sym c.place_of.ensures ∙ c.in-Some.is))).1)
