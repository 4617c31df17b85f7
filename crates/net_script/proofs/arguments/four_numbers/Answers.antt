use Rattle.std.proofs.Common.{ℕ, sym, ◌∙◌, ap}
use Rattle.net_script.specs.Words.{words_of}
use Rattle.net_script.specs.Arguments.{read_as}
use Rattle.net_script.proofs.ArgumentLemmas.{four_behind}
use Rattle.net_script.proofs.arguments.four_numbers.Goals as goal

pub returns-in_err-second : goal.returns-in_err-second
returns-in_err-second c line =
    four_behind (words_of c.args.words.now) c.in_ok-first.first (words_of c.in_ok-first.rest.now) (sym c.in_ok-first.ensures) line
    ∙ c.in_err-second.ensures (line c.in_ok-first.first)
    ∙ sym (ap (read_as {X = ℕ × ℕ × ℕ × ℕ} (λ n. line n.0 n.1 n.2 n.3)) c.from_residual-in_err-second.ensures)

pub returns : goal.returns
returns c line =
    four_behind (words_of c.args.words.now) c.in_ok-first.first (words_of c.in_ok-first.rest.now) (sym c.in_ok-first.ensures) line
    ∙ c.in_ok-second.ensures (line c.in_ok-first.first)
