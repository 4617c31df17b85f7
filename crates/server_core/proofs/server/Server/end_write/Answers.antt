-- What isn't a frame is heard as it comes.
use Rattle.std.proofs.Common.{refl, sym, ◌∙◌}
use Rattle.server_core.specs.declared.input.Input.TheVariants as inputs
use Rattle.server_core.specs.declared.input.Input.TheVariants.{WriteDone}
use Rattle.server_core.specs.Handles.{outs_of_end}
use Rattle.server_core.specs.Hearing.{packets_heard}
use Rattle.server_core.proofs.ServeLemmas.{sendable, taken}
use Rattle.server_core.proofs.WriteLemmas.{end_handled}
use Rattle.server_core.proofs.FrameEndLemmas.{whole_ends}
use Rattle.server_core.proofs.server.Server.end_write.Goals as goal

pub returns-clause-ends : goal.returns-clause-ends
returns-clause-ends g c o past s =
    let note = g.N.Notes.note in
    let old = c.args.self.now in
    let new = c.end_write.new.self in
    let told = c.end_write in
    let e = inputs.WriteDone c.args.ticket c.args.end in
    whole_ends note o past (WriteDone c.args.ticket c.args.end) e old (record old.hearer.core { machine = new }) (outs_of_end told.result) refl s
    (taken note old.hearer.core new o (packets_heard o past) e (outs_of_end told.result) (sym c.is_down.ensures ∙ c.if-is_down.false) s.core
    (λ words k. refl)
    (λ words k undue. end_handled words c.args.ticket c.args.end old.hearer.core.machine new told.result (told.ensures.answer words k) (told.ensures.left words k)
    told.ensures.same)
    (λ o past. sendable c.frames_are_short.ensures c.packets_are_in_range.ensures o past e tt))
