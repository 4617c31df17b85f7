use Rattle.std.proofs.Common.{◌∙◌, ap, sym, List}
use Rattle.std.specs.Prelude.{slice_index_or}
use Rattle.messages.specs.Assemblies.{Row}
use Rattle.messages.proofs.RowLemmas.{stands, lacks}
use Rattle.messages.proofs.assembly.Assembly.filled_of.Goals as goal

pub returns-in-Some : goal.returns-in-Some
returns-in-Some c =
    let row = c.index.result.now in
    c.as_slice.ensures
    ∙ ap (λ (r : Row). r.filled) (c.behind-self.view_is ∙ c.index.ensures)
    ∙ ap (λ (rows : List Row). (slice_index_or rows c.in-Some.place row).filled) c.self.view_is
    ∙ sym ((stands c.args.tag c.args.self.now c.in-Some.place c.in-Some.ensures).filled row)

pub returns-in-None : goal.returns-in-None
returns-in-None c = sym (lacks c.args.tag c.args.self.now c.in-None.ensures).empty
