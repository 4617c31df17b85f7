use Rattle.std.proofs.Common.{◌∙◌}
use Rattle.mirror_core.proofs.EndLemmas.{would_save_one, would_save_none}
use Rattle.mirror_core.proofs.mirror.Mirror.would_save.Goals as goal

pub returns-in-Ok : goal.returns-in-Ok
returns-in-Ok g c = λ o past s.
    c.lacks.ensures ∙ would_save_one g.N.Notes.note c.args.self.now o past c.args.frame.now c.in-Ok.request c.in-Ok.ensures.value.0 c.in-Ok.ensures.value.1 s

pub returns-in-Err : goal.returns-in-Err
returns-in-Err g c = λ o past s.
    would_save_none g.N.Notes.note c.args.self.now o past c.args.frame.now c.in-Err.field-0 c.in-Err.ensures.value s
