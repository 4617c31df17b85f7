use Rattle.write_order.proofs.WordSteps.{words_after_more}
use Rattle.write_order.proofs.words.Words.advance.Goals as goal

pub returns : goal.returns
returns c seed n e = words_after_more c.args.self.now seed n _ _ c.next_word.ensures e
