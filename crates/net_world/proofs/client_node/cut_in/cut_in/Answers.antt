use Rattle.std.proofs.Common.{sym, ◌∙◌, subst, Bool, Ok}
use Rattle.std.proofs.lemmas.Bool.{and_parts}
use Rattle.std.proofs.lemmas.Result.{err_from_is_err_and}
use Rattle.disk_model.specs.MemNotes.{note_of}
use Rattle.node.specs.Kinds.{IsCutWithin}
use Rattle.client_core.specs.Answers.{input_of}
use Rattle.client_core.specs.Hearing.{packets_heard, is_up}
use Rattle.client_core.specs.Note.{is_blank}
use Rattle.client_core.specs.NodeKind.{client_kind}
use Rattle.client_core.specs.Words.{words_noted}
use Rattle.net_world.specs.Nodes.{CutsIn}
use Rattle.net_world.specs.ClientNodes.{client_nodes}
use Rattle.net_world.proofs.ClientPowerLemmas.{weak}
use Rattle.net_world.proofs.ClientCutLemmas.{cut_blank, cut_noted, uncut}
use Rattle.net_world.proofs.client_node.cut_in.cut_in.Goals as goal

pub returns-in_err-cut_in : goal.returns-in_err-cut_in
returns-in_err-cut_in c o past s =
    let p = err_from_is_err_and c.from_residual.result c.from_residual.ensures.1 in
    rw (p.1, p.2) (uncut o past c.args.landed (input_of c.args.input) c.in_err-cut_in.field-0.0 c.args.node.now c.cut_in.new.self s
    (c.in_err-cut_in.ensures o past (weak o past c.args.node.now s)))

pub returns-then-not-landed : goal.returns-then-not-landed
returns-then-not-landed c o past s =
    let e = input_of c.args.input in
    let both = and_parts (is_up o past) (is_blank (words_noted o (packets_heard o past)))
    (sym (c.says_nothing-says_nothing.ensures o past s) ∙ c.if-says_nothing.true) in
    let within = subst (λ (landed : Bool). IsCutWithin (client_kind note_of o) past landed e c.cut_in.new.self) c.if-not-landed.true
    (c.in_ok-cut_in.ensures o past (weak o past c.args.node.now s)) in
    subst (λ (landed : Bool). CutsIn (client_nodes o) past landed e c.forget.new.node (Ok tt)) (sym c.if-not-landed.true)
    (cut_blank o past e c.cut_in.new.self c.forget.new.node both.1 within c.forget.ensures)

pub returns-else-says_nothing : goal.returns-else-says_nothing
returns-else-says_nothing c o past s =
    cut_noted o past (input_of c.args.input) c.args.landed c.says_nothing-says_nothing.result c.cut_in.new.self (c.says_nothing-says_nothing.ensures o past s)
    c.else-says_nothing.either (c.in_ok-cut_in.ensures o past (weak o past c.args.node.now s))
