use Rattle.std.proofs.Common.{◌∙◌, ap, sym, List}
use Rattle.std.specs.List.{remove}
use Rattle.messages.specs.Assemblies.{Row}
use Rattle.messages.proofs.RowLemmas.{stands, lacks, lacking}
use Rattle.messages.proofs.assembly.Assembly.drop.Goals as goal

pub returns-in-Some : goal.returns-in-Some
returns-in-Some c =
    c.remove.ensures.items
    ∙ ap (λ (rows : List Row). remove rows c.in-Some.place) c.self.view_is
    ∙ sym (stands c.args.tag c.args.self.now c.in-Some.place c.in-Some.ensures).left

pub returns-in_default : goal.returns-in_default
returns-in_default c =
    sym (lacks c.args.tag c.args.self.now (lacking c.place_of.result c.in_default.not-Some ∙ c.place_of.ensures)).left
