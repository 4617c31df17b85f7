use Rattle.std.proofs.Common.{◌∙◌, ap, sym, refl}
use Rattle.messages.specs.Looks.{look_at}
use Rattle.messages.proofs.FrameLooks.{fields_looked, no_frame, looks_at_frames}
use Rattle.messages.proofs.reading.look.look_at.Goals as goal

pub returns-in-Ok-clause-value : goal.returns-in-Ok-clause-value
returns-in-Ok-clause-value c = c.looked.ensures ∙ fields_looked c.args.bytes.now c.in-Ok.fields c.in-Ok.ensures

pub returns-in-Ok-clause-frames : goal.returns-in-Ok-clause-frames
returns-in-Ok-clause-frames c f h is =
    returns-in-Ok-clause-value c ∙ (ap look_at (sym is) ∙ looks_at_frames c.one_spelling.ensures.reads_back f h)

pub returns-in-Err-clause-value : goal.returns-in-Err-clause-value
returns-in-Err-clause-value c = rw (no_frame c.args.bytes.now c.in-Err.field-0 c.in-Err.ensures) refl

pub returns-in-Err-clause-frames : goal.returns-in-Err-clause-frames
returns-in-Err-clause-frames c f h is =
    returns-in-Err-clause-value c ∙ (ap look_at (sym is) ∙ looks_at_frames c.one_spelling.ensures.reads_back f h)
