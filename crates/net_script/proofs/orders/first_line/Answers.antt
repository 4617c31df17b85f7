use Rattle.std.proofs.Common.{◌+◌, ◌∷◌, ◌++◌, inl, inr, take, refl, sym, ◌∙◌, ap}
use Rattle.std.proofs.lemmas.List.{take_rest}
use Rattle.net_script.specs.Words.{lines_of}
use Rattle.program_io.specs.Words.{with_line_feed}
use Rattle.net_script.proofs.LineLemmas.{first_of_lines, line_whole, first_bytes}
use Rattle.net_script.proofs.orders.first_line.Goals as goal

pub returns-then-len-script-clause-lines : goal.returns-then-len-script-clause-lines
returns-then-len-script-clause-lines c =
    let script = c.args.script.now in
    let len = c.line_len-len.result in
    first_of_lines script len c.line_len-len.ensures.value c.if-len-script.true
    ∙ ap (λ l. take len script ∷ lines_of l) (sym (take_rest script (len + 1)))

pub returns-then-len-script-clause-bytes : goal.returns-then-len-script-clause-bytes
returns-then-len-script-clause-bytes c =
    let script = c.args.script.now in
    let len = c.line_len-len.result in
    inl (first_bytes script len c.line_len-len.ensures.value c.if-len-script.true
    ∙ ap (λ l. with_line_feed (take len script) ++ l) (sym (take_rest script (len + 1))))

pub returns-else-len-script-clause-lines : goal.returns-else-len-script-clause-lines
returns-else-len-script-clause-lines c =
    line_whole c.args.script.now c.line_len-len.result c.line_len-len.ensures.value c.line_len-len.ensures.bound c.if-len-script.false c.requires

pub returns-else-len-script-clause-bytes : goal.returns-else-len-script-clause-bytes
returns-else-len-script-clause-bytes c = inr refl
