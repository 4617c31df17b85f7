use Rattle.std.proofs.Common.{◌∙◌, ap, ◌∷◌, arith}
use Rattle.std.specs.Prelude.{map}
use Rattle.std.proofs.lemmas.Result.{err_from_is_err_and}
use Rattle.messages.specs.declared.body.Body.TheVariants.{Granted}
use Rattle.mirror_core.specs.declared.request.Request.TheVariants.{Fetch}
use Rattle.mirror_core.specs.Saves.{Grant}
use Rattle.mirror_core.specs.Packets.{to_client, copy_of, frame_bytes}
use Rattle.mirror_core.proofs.EndLemmas.{answers_plain, answers_stored, fails_stored}
use Rattle.mirror_core.proofs.NotedLemmas.{granted_already, granted_newly, grant_fits}
use Rattle.mirror_core.proofs.mirror.Mirror.fetch.Goals as goal

pub returns-then-generation-self : goal.returns-then-generation-self
returns-then-generation-self g c = λ o past f asked s.
    let old = c.args.self.now in
    let generation = c.args.generation in
    answers_plain g.N.Notes.note old o past f (Fetch generation) c.in-Ok.frames c.requires.up c.requires.free asked
    (granted_already old.noted generation (omega (arith, c.if-generation-self.true)))
    (c.in-Ok.ensures ∙ ap (λ states. frame_bytes (to_client (Granted generation) ∷ map copy_of states)) c.as_slice.ensures) s

pub returns-in_err-raise : goal.returns-in_err-raise
returns-in_err-raise g c = λ o past f asked s.
    let old = c.args.self.now in
    let generation = c.args.generation in
    let p = err_from_is_err_and c.from_residual.result c.from_residual.ensures.1 in
    rw (p.1, p.2) (fails_stored g.N.Notes.note old c.raise.new.self (Grant generation) c.in_err-raise.field-0.0 o past f
    (Fetch generation) c.notes_are_read_back.ensures c.requires.up c.requires.free asked
    (granted_newly old.noted generation (omega (arith, c.if-generation-self.false)))
    (grant_fits old.noted generation c.requires.range) c.in_err-raise.ensures s)

pub returns : goal.returns
returns g c = λ o past f asked s.
    let old = c.args.self.now in
    let generation = c.args.generation in
    answers_stored g.N.Notes.note old c.raise.new.self (Grant generation) o past f
    (Fetch generation) c.in-Ok.frames c.notes_are_read_back.ensures c.requires.up c.requires.free asked
    (granted_newly old.noted generation (omega (arith, c.if-generation-self.false)))
    (grant_fits old.noted generation c.requires.range) c.in_ok-raise.field-0 c.in_ok-raise.ensures
    (c.in-Ok.ensures ∙ ap (λ states. frame_bytes (to_client (Granted generation) ∷ map copy_of states)) c.as_slice.ensures) s
