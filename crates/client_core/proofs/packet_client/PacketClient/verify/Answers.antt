use Rattle.std.proofs.Common.{refl, sym, subst, ◌∙◌, ap, ◌+◌, ◌∷◌, true, arith}
use Rattle.std.proofs.lemmas.Result.{err_from_is_err_and}
use Rattle.messages.specs.declared.body.Body.TheVariants.{Verify}
use Rattle.client_core.specs.Inputs.{Verify as Verifying}
use Rattle.client_core.specs.declared.packet_client.PacketClient.{PacketClient}
use Rattle.client_core.specs.declared.note.ClientNote.{ClientNote}
use Rattle.client_core.specs.Framed.{frame_bytes}
use Rattle.client_core.specs.Life.{Verifies}
use Rattle.client_core.specs.Lives.{LifeIs, AttemptIs}
use Rattle.client_core.specs.Packets.{to_all}
use Rattle.client_core.specs.Saves.{NextAttempt}
use Rattle.client_core.proofs.CallLemmas.{fails_stored, answers_stored, free_now}
use Rattle.client_core.proofs.EndLemmas.{refuses}
use Rattle.client_core.proofs.RefusalLemmas.{verify_free}
use Rattle.client_core.proofs.NotedLemmas.{next_left, one_attempt}
use Rattle.client_core.proofs.RangeLemmas.{next_in_range}
use Rattle.client_core.proofs.packet_client.PacketClient.verify.Goals as goal

pub returns-in-Some : goal.returns-in-Some
returns-in-Some g c o past s =
    refuses g.N.Notes.note c.args.self.now o past (Verifying c.args.run c.args.text.now) c.in-Some.fault (sym c.verify_refusal.ensures.why ∙ c.in-Some.is) s

pub overflow_add-attempt : goal.overflow_add-attempt
overflow_add-attempt g c = omega (
  arith,
  next_left c.args.self.now.peers c.args.self.now.noted.generation c.args.self.now.noted.attempts (verify_free _ _ _ _
      (sym c.verify_refusal.ensures.why ∙ c.in_default.is)).3,
)

pub verify_frames-requires-clause-run : goal.verify_frames-requires-clause-run
verify_frames-requires-clause-run g c = c.verify_refusal.ensures.range c.in_default.is

pub verify_frames-requires-clause-attempt : goal.verify_frames-requires-clause-attempt
verify_frames-requires-clause-attempt g c = next_in_range c.args.self.now.peers c.args.self.now.noted.generation c.args.self.now.noted.attempts
    (verify_free _ _ _ _ (sym c.verify_refusal.ensures.why ∙ c.in_default.is)).3

pub use_attempt-requires : goal.use_attempt-requires
use_attempt-requires g c = next_left c.args.self.now.peers c.args.self.now.noted.generation c.args.self.now.noted.attempts
    (verify_free _ _ _ _ (sym c.verify_refusal.ensures.why ∙ c.in_default.is)).3

pub verify-requires-clause-asked : goal.verify-requires-clause-asked
verify-requires-clause-asked g c deeds =
    subst (λ r. AttemptIs (c.args.self.now.noted.attempts + 1) (Verifies r (c.args.self.now.noted.attempts + 1) c.in-Ok.asked.text ∷ deeds) c.in-Ok.asked)
    (sym c.in-Ok.ensures.run_is)
    (subst (λ t. AttemptIs (c.args.self.now.noted.attempts + 1) (Verifies c.args.run (c.args.self.now.noted.attempts + 1) t ∷ deeds) c.in-Ok.asked)
    (sym c.in-Ok.ensures.text_is) (c.in-Ok.ensures.asked deeds))

pub returns-in_err-use_attempt : goal.returns-in_err-use_attempt
returns-in_err-use_attempt g c = λ o past s.
    let call = Verifying c.args.run c.args.text.now in
    let old = c.args.self.now in
    let free = sym c.verify_refusal.ensures.why ∙ c.in_default.is in
    let f = verify_free _ _ _ _ free in
    let p = err_from_is_err_and c.from_residual.result c.from_residual.ensures.1 in
    rw (p.1, p.2) (fails_stored g.N.Notes.note old c.use_attempt.new.self c.make_room_for_attempt.new.self NextAttempt c.in_err-use_attempt.field-0.0 o past
    call c.notes_are_read_back.ensures f.0 free refl
    (one_attempt true old.noted (next_left old.peers old.noted.generation old.noted.attempts f.3)) c.make_room_for_attempt.ensures.same
    c.in_err-use_attempt.ensures s)

pub returns : goal.returns
returns g c = λ o past s.
    let call = Verifying c.args.run c.args.text.now in
    let old = c.args.self.now in
    let attempt = old.noted.attempts + 1 in
    let free = sym c.verify_refusal.ensures.why ∙ c.in_default.is in
    let f = verify_free _ _ _ _ free in
    let stored = c.in_ok-use_attempt.ensures in (
      ap (λ (n : ClientNote). n.attempts + 1) (sym (free_now g.N.Notes.note old o past call f.0 s free).1),
      answers_stored g.N.Notes.note old c.use_attempt.new.self c.make_room_for_attempt.new.self c.verify.new.self NextAttempt o past call c.in-Ok.frames
          c.notes_are_read_back.ensures f.0 free refl
          (one_attempt true old.noted (next_left old.peers old.noted.generation old.noted.attempts f.3)) c.in_ok-use_attempt.field-0 stored
          (λ deeds h. c.in-Ok.ensures.frames ∙ ap (λ n. frame_bytes (to_all n (Verify c.args.run attempt c.args.text.now))) c.count-servers.ensures.count)
          (λ deeds h. subst (λ r. LifeIs c.verify.new.self (Verifies r attempt c.args.text.now ∷ deeds)) c.in-Ok.ensures.run_is
          (subst (λ t. LifeIs c.verify.new.self (Verifies c.in-Ok.asked.run attempt t ∷ deeds)) c.in-Ok.ensures.text_is
          (c.verify.ensures deeds (subst (λ l. LifeIs l deeds) (sym (ap (λ (m : PacketClient _). m.life) stored.1))
          (c.make_room_for_attempt.ensures.same deeds h))))) refl s,
    )
