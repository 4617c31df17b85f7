use Rattle.std.proofs.Common.{subst, ◌∷◌, []}
use Rattle.filters.specs.Written.{Puts}
use Rattle.filters.proofs.EndingLemmas.{word_written}
use Rattle.filters.proofs.ending.put_word.Goals as goal

pub returns : goal.returns
returns g c =
    let second = g.W.Output.written c.put_attempt.new.writer in
    let third = g.W.Output.written c.put.new.self in
    let sums = c.put_sums.ensures in
    word_written c.args.asked.now c.args.end c.args.sums (g.W.Output.written c.args.writer.now) (g.W.Output.written c.put_head.new.writer) second third
    (g.W.Output.written c.put_sums.new.writer) c.put_head.ensures c.put_attempt.ensures
    (subst (λ n. Puts second third (n ∷ [])) c.word_number.ensures c.put.ensures) sums
