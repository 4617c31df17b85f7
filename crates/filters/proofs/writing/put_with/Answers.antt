use Rattle.std.proofs.Common.{◌≡◌, ◌+◌, ◌++◌, ◌∷◌, [], length, length-append, subst, sym}
use Rattle.filters.specs.Kinds.{said_number}
use Rattle.filters.specs.Records.{head_bytes}
use Rattle.filters.specs.Written.{Puts}
use Rattle.filters.proofs.OutputLemmas.{puts_both}
use Rattle.filters.proofs.writing.put_with.Goals as goal

pub returns : goal.returns
returns g c =
    let first = g.W.Output.written c.args.writer.now in
    let second = g.W.Output.written c.put_head.new.writer in
    let new = g.W.Output.written c.put-2.new.self in
    let kind = said_number c.args.kind in
    let front = c.args.front.now in
    let all = front ++ c.args.last ∷ [] in
    let len : length front + 1 ≡ length all = sym (length-append front (c.args.last ∷ [])) in
    puts_both first second new (head_bytes kind (length all)) all (subst (λ n. Puts first second (head_bytes kind n)) len c.put_head.ensures)
    (puts_both second (g.W.Output.written c.put.new.self) new front (c.args.last ∷ []) c.put.ensures c.put-2.ensures)
