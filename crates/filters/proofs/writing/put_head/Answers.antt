use Rattle.std.proofs.Common.{[], ◌∷◌, subst}
use Rattle.std.specs.Int.{w64}
use Rattle.fc_base.specs.Layouts.{bytes_of}
use Rattle.filters.specs.Kinds.{said_number}
use Rattle.filters.specs.Written.{Puts}
use Rattle.filters.proofs.OutputLemmas.{puts_both}
use Rattle.filters.proofs.writing.put_head.Goals as goal

pub returns : goal.returns
returns g c =
    let first = g.W.Output.written c.args.writer.now in
    let mid = g.W.Output.written c.put.new.self in
    puts_both first mid (g.W.Output.written c.put_u64.new.writer) (said_number c.args.kind ∷ []) (bytes_of w64 c.args.length)
    (subst (λ n. Puts first mid (n ∷ [])) c.number.ensures c.put.ensures) c.put_u64.ensures
