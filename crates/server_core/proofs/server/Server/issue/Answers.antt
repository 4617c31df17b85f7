-- What isn't a frame is heard as it comes.
use Rattle.std.proofs.Common.{refl, sym, ◌∙◌, Ok}
use Rattle.server_core.specs.declared.input.Input.TheVariants as inputs
use Rattle.server_core.specs.declared.input.Input.TheVariants.{Issue}
use Rattle.server_core.specs.Handles.{outs_of_issue}
use Rattle.server_core.specs.Hearing.{packets_heard}
use Rattle.server_core.proofs.ServeLemmas.{sendable, taken}
use Rattle.server_core.proofs.WriteLemmas.{issue_handled}
use Rattle.server_core.proofs.FrameEndLemmas.{whole_ends}
use Rattle.server_core.proofs.server.Server.issue.Goals as goal

pub returns-clause-ends : goal.returns-clause-ends
returns-clause-ends g c o past s =
    let note = g.N.Notes.note in
    let old = c.args.self.now in
    let new = c.issue.new.self in
    let answer = c.issue.result in
    let e = inputs.Issue c.args.job in
    whole_ends note o past (Issue c.args.job) e old (record old.hearer.core { machine = new }) (outs_of_issue (Ok answer)) refl s
    (taken note old.hearer.core new o (packets_heard o past) e (outs_of_issue (Ok answer)) (sym c.is_down.ensures ∙ c.if-is_down.false) s.core
    (λ words k. refl)
    (λ words k undue. issue_handled words c.args.job old.hearer.core.machine new answer (c.issue.ensures.answer words k) (c.issue.ensures.left words k))
    (λ o past. sendable c.frames_are_short.ensures c.packets_are_in_range.ensures o past e tt))
