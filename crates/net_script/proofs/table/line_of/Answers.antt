use Rattle.std.proofs.Common.{◌∷◌, sym, subst}
use Rattle.net_script.specs.Words.{words_of}
use Rattle.net_script.specs.Table.{AsksFew}
use Rattle.net_script.proofs.ServerLemmas.{few_by_table}
use Rattle.net_script.proofs.table.line_of.Goals as goal

pub returns-else-starts_with-clause-few : goal.returns-else-starts_with-clause-few
returns-else-starts_with-clause-few c =
    subst AsksFew (sym c.asked.ensures) (few_by_table (c.in-Some.word.now ∷ words_of c.in-Some.words.now))
