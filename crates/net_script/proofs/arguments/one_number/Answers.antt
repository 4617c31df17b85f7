use Rattle.std.proofs.Common.{sym, ◌∙◌}
use Rattle.net_script.specs.Words.{words_of}
use Rattle.net_script.proofs.ArgumentLemmas.{one_alone}
use Rattle.net_script.proofs.arguments.one_number.Goals as goal

pub returns-else-is_end : goal.returns-else-is_end
returns-else-is_end c line =
    one_alone (words_of c.args.words.now) c.in_ok-first.first (words_of c.in_ok-first.rest.now) (sym c.in_ok-first.ensures) line
    (sym c.is_end.ensures ∙ c.if-is_end.false)
