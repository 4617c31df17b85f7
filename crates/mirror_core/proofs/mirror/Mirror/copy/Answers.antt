use Rattle.std.proofs.Common.{sym, ◌∙◌, ap, ◌∷◌, []}
use Rattle.std.specs.Prelude.{is_some}
use Rattle.std.proofs.lemmas.Result.{err_from_is_err_and}
use Rattle.fc_base.specs.declared.numbers.Key.{Key}
use Rattle.messages.specs.declared.body.Body.TheVariants.{CopyOk}
use Rattle.verify_state.specs.StateTable.{kept_of}
use Rattle.mirror_core.specs.declared.request.Request.TheVariants.{Copy}
use Rattle.mirror_core.specs.Saves.{Keep}
use Rattle.mirror_core.specs.Packets.{to_client, frame_bytes}
use Rattle.mirror_core.proofs.EndLemmas.{answers_plain, answers_stored, fails_stored}
use Rattle.verify_state.proofs.RefusalLemmas.{has_room}
use Rattle.mirror_core.proofs.NotedLemmas.{kept_already, kept_fits, kept_newly}
use Rattle.mirror_core.proofs.mirror.Mirror.copy.Goals as goal

pub returns-then-has : goal.returns-then-has
returns-then-has g c = λ o past f asked s.
    let old = c.args.self.now in
    let state = c.args.state.now in
    answers_plain g.N.Notes.note old o past f (Copy state) c.in-Ok.frames c.requires.up c.requires.free asked
    (kept_already (kept_of state.key old.noted.kept) state (sym (c.if-has.ensures ∙ ap (λ k. is_some (kept_of k old.noted.kept)) c.key-2.ensures.value)))
    (c.in-Ok.ensures ∙ ap (λ (k : Key). frame_bytes (to_client (CopyOk k.run k.server k.job) ∷ [])) c.key.ensures.value) s

pub returns-in_err-keep : goal.returns-in_err-keep
returns-in_err-keep g c = λ o past f asked s.
    let old = c.args.self.now in
    let state = c.args.state.now in
    let new = kept_newly (kept_of state.key old.noted.kept) state
    (sym (c.if-has.ensures ∙ ap (λ k. is_some (kept_of k old.noted.kept)) c.key-2.ensures.value)) in
    let p = err_from_is_err_and c.from_residual.result c.from_residual.ensures.1 in
    rw (p.1, p.2) (fails_stored g.N.Notes.note old c.keep.new.self (Keep state) c.in_err-keep.field-0.0 o past f
    (Copy state) c.notes_are_read_back.ensures c.requires.up c.requires.free asked new.1
    (kept_fits c.found_after_a_push.ensures.apart old.noted state new.0 (has_room old.noted.kept state new.0 c.requires.free) c.keeps_its_ranges.ensures)
    c.in_err-keep.ensures s)

pub returns : goal.returns
returns g c = λ o past f asked s.
    let old = c.args.self.now in
    let state = c.args.state.now in
    let new = kept_newly (kept_of state.key old.noted.kept) state
    (sym (c.if-has.ensures ∙ ap (λ k. is_some (kept_of k old.noted.kept)) c.key-2.ensures.value)) in
    answers_stored g.N.Notes.note old c.keep.new.self (Keep state) o past f
    (Copy state) c.in-Ok.frames c.notes_are_read_back.ensures c.requires.up c.requires.free asked new.1
    (kept_fits c.found_after_a_push.ensures.apart old.noted state new.0 (has_room old.noted.kept state new.0 c.requires.free) c.keeps_its_ranges.ensures)
    c.in_ok-keep.field-0 c.in_ok-keep.ensures
    (c.in-Ok.ensures ∙ ap (λ (k : Key). frame_bytes (to_client (CopyOk k.run k.server k.job) ∷ [])) c.key.ensures.value) s
