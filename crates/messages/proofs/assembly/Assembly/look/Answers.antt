use Rattle.std.proofs.Common.{List, ap, sym, ◌∙◌}
use Rattle.std.specs.Prelude.{is_some}
use Rattle.messages.specs.declared.piece.Tag.{Tag}
use Rattle.messages.specs.declared.places.PlaceSet.{PlaceSet}
use Rattle.messages.specs.Pieces.{places}
use Rattle.messages.specs.Assemblies.{fill, joined_bytes, filled_of, completed_body}
use Rattle.messages.proofs.Joining.{no_memory}
use Rattle.messages.proofs.assembly.Assembly.look.Goals as goal

pub returns-in-Err : goal.returns-in-Err
returns-in-Err c =
    let q = c.args.piece.now in
    let filled = c.filled_of.ensures ∙ ap (λ (t : Tag). filled_of t c.args.self.now) c.tag.ensures in
    no_memory q (completed_body c.args.self.now q) (ap (λ (fs : List PlaceSet). is_some (joined_bytes (fill q fs) (places q.tag.length))) (sym filled)
    ∙ c.in-Err.ensures.complete)
