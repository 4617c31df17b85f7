use Rattle.std.proofs.Common.{ℕ, sym, ◌∙◌, ap}
use Rattle.net_script.specs.Words.{words_of}
use Rattle.net_script.specs.Arguments.{read_as}
use Rattle.net_script.proofs.ArgumentLemmas.{two_behind}
use Rattle.net_script.proofs.arguments.two_numbers.Goals as goal

pub returns-in_err-one_number : goal.returns-in_err-one_number
returns-in_err-one_number c line =
    two_behind (words_of c.args.words.now) c.in_ok-first.first (words_of c.in_ok-first.rest.now) (sym c.in_ok-first.ensures) line
    ∙ c.in_err-one_number.ensures (line c.in_ok-first.first)
    ∙ sym (ap (read_as {X = ℕ × ℕ} (λ n. line n.0 n.1)) c.from_residual-in_err-one_number.ensures)

pub returns : goal.returns
returns c line =
    two_behind (words_of c.args.words.now) c.in_ok-first.first (words_of c.in_ok-first.rest.now) (sym c.in_ok-first.ensures) line
    ∙ c.in_ok-one_number.ensures (line c.in_ok-first.first)
