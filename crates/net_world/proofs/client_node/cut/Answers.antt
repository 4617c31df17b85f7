use Rattle.std.proofs.Common.{sym, ◌∙◌, refl, ◌∷◌}
use Rattle.std.proofs.lemmas.Bool.{and_parts}
use Rattle.client_core.specs.Hearing.{Cut, packets_heard, is_up}
use Rattle.client_core.specs.Note.{is_blank}
use Rattle.client_core.specs.Words.{words_noted}
use Rattle.net_world.proofs.ClientPowerLemmas.{weak, cut_off, cut_written, none_said}
use Rattle.net_world.proofs.client_node.cut.Goals as goal

pub returns-then-says_nothing : goal.returns-then-says_nothing
returns-then-says_nothing c o past s =
    let both = and_parts (is_up o past) (is_blank (words_noted o (packets_heard o past)))
    (sym (c.says_nothing-says_nothing.ensures o past s) ∙ c.if-says_nothing.true) in
    let off = cut_off o past c.args.node.now c.cut-was_on.new.self c.cut-was_on.result both.0 (c.cut-was_on.ensures o past (weak o past c.args.node.now s)) in
    none_said o (Cut ∷ past) c.forget.new.node (c.forget.ensures off.0 off.1) refl both.1

pub returns-else-says_nothing : goal.returns-else-says_nothing
returns-else-says_nothing c o past s =
    cut_written o past c.args.node.now c.cut-was_on.new.self c.cut-was_on.result s (sym (c.says_nothing-says_nothing.ensures o past s) ∙ c.if-says_nothing.false)
    (c.cut-was_on.ensures o past (weak o past c.args.node.now s))
