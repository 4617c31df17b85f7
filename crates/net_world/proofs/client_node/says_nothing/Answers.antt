use Rattle.std.proofs.Common.{sym, ◌∙◌, ap, ◌&&◌}
use Rattle.client_core.specs.Hearing.{packets_heard}
use Rattle.client_core.specs.Note.{is_blank}
use Rattle.client_core.specs.Words.{words_noted}
use Rattle.net_world.proofs.client_node.says_nothing.Goals as goal

pub returns-in-Some : goal.returns-in-Some
returns-in-Some c o past s =
    let h = c.in-Some.ensures o past s in
    let list = packets_heard o past in
    c.is_blank.ensures o past h.1 ∙ ap (λ l. is_blank (words_noted o l)) (c.looks_at_all.ensures list h.2)
    ∙ sym (ap (λ up. up && is_blank (words_noted o list)) h.2)

pub returns-in-None : goal.returns-in-None
returns-in-None c o past s =
    sym (ap (λ up. up && is_blank (words_noted o (packets_heard o past))) (c.in-None.ensures o past s))
