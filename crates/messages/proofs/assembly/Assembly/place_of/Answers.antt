use Rattle.std.proofs.Common.{rules, ◌∙◌, ap, List}
use Rattle.std.specs.List.{position}
use Rattle.std.proofs.lemmas.Iterator.{YieldsList-from_slice}
use Rattle.std.proofs.lemmas.Iterator.Search.{position_from_yields_List}
use Rattle.messages.specs.contracts.piece.TagPartialEq.TheImpl.{eq-value}
use Rattle.messages.specs.Assemblies.{Row}
use Rattle.messages.specs.Tags.{is_tag}
use Rattle.messages.proofs.RowLemmas.{eq_is}
use Rattle.messages.proofs.assembly.Assembly.place_of.Goals as goal

pub returns : goal.returns
returns c =
    let tag = c.args.tag in
    position_from_yields_List (λ (row : Row). (eq-value).it row.tag tag) _ _ c.position.result c.position.ensures.ran
    (YieldsList-from_slice c.deref.result.now cc) (λ x b q k. search rules)
    ∙ (λ i. position (λ (row : Row). eq_is row.tag tag i) c.deref.result.now)
    ∙ ap (λ (rows : List Row). position (λ (row : Row). is_tag row.tag tag) rows) (c.deref.ensures.value ∙ c.self.view_is)
