use Rattle.std.proofs.Common.{◌≡◌, List, [], ◌∷◌, false, refl, inr, ap, ◌∙◌, arith}
use Rattle.disk_model.specs.MemNotes.{Saved}
use Rattle.client_core.specs.Inputs.{Begin}
use Rattle.client_core.specs.History.{Opening}
use Rattle.client_core.specs.Hearing.{FrameEntry, Restart}
use Rattle.client_core.specs.FrameAnswers.{answered_entry}
use Rattle.client_core.specs.Note.{Says, IsNoted, blank}
use Rattle.uses.proofs.clients.first_run.Goals as goal

pub returns : goal.returns
returns c =
    let o : Opening = record { servers = c.args.servers; noted = blank } in
    let empty : c.new-notes.result.bytes ≡ [] = ap (λ (s : Saved). s.bytes) c.new-notes.ensures ∙ c.new.ensures.items in
    let ranges : IsNoted blank = record {
      generation = omega arith;
      runs = omega arith;
      attempts = omega arith;
      count = omega arith;
      states = tt;
      keys = refl;
    } in
    let says : Says c.new-notes.result.bytes blank = record { note = ranges; spelled = inr (empty, refl) } in
    let stood = c.in-Ok.ensures.stands o [] refl says in
    let past : List FrameEntry = Restart false ∷ [] in
    let given = c.in_ok-run.ensures o past stood in
    record {
      run = given.0;
      frames = given.1.sends.frames_are;
      note = c.off-notes.ensures.says o (answered_entry o past (Begin c.args.text.now) ∷ past) given.1.stands;
    }
