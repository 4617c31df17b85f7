use Rattle.std.proofs.Common.{◌≡◌, List, [], ◌∷◌, refl, inr, ap, ◌∙◌, arith}
use Rattle.disk_model.specs.MemNotes.{Saved}
use Rattle.disk_model.specs.declared.save_outcome.SaveOutcome.TheVariants as lefts
use Rattle.server_core.specs.declared.input.Input.TheVariants.{Deliver}
use Rattle.server_core.specs.FrameAnswers.{answered_entry}
use Rattle.server_core.specs.Hearing.{FrameEntry, Restart}
use Rattle.server_core.specs.History.{Opening}
use Rattle.server_core.specs.Note.{Says, blank}
use Rattle.uses.proofs.servers.first_answer.Goals as goal

pub returns : goal.returns
returns c =
    let o : Opening = record { me = c.args.me; boot = 0; last = 0 } in
    let empty : c.new-blank.result.bytes ≡ [] = ap (λ (s : Saved). s.bytes) c.new-blank.ensures ∙ c.new.ensures.items in
    let says : Says c.new-blank.result.bytes blank = record { boot_range = omega arith; last_range = omega arith; spelled = inr (empty, refl) } in
    let stood = c.in-Ok.ensures.stands o [] refl says in
    let past : List FrameEntry = Restart lefts.Saved ∷ [] in
    let answers = c.in_ok-answer.ensures.ends o past stood in
    record {
      free = answers.free;
      frames = answers.sends.frames_are;
      note = c.off-notes.ensures.says o (answered_entry o past (Deliver c.args.frame) ∷ past) answers.stands;
    }
