use Rattle.std.proofs.Common.{refl, sym, subst, ◌∙◌, ap, ◌+◌, ◌∷◌, true, arith}
use Rattle.std.proofs.lemmas.Result.{err_from_is_err_and}
use Rattle.client_core.specs.Inputs.{Begin}
use Rattle.client_core.specs.declared.packet_client.PacketClient.{PacketClient}
use Rattle.client_core.specs.declared.note.ClientNote.{ClientNote}
use Rattle.messages.specs.declared.body.Body.TheVariants.{Jobs}
use Rattle.client_core.specs.Framed.{frame_bytes}
use Rattle.client_core.specs.Packets.{to_all}
use Rattle.client_core.specs.Life.{Begins}
use Rattle.client_core.specs.Lives.{LifeIs}
use Rattle.client_core.specs.Saves.{NextRun}
use Rattle.client_core.proofs.CallLemmas.{fails_stored, answers_stored, free_now}
use Rattle.client_core.proofs.EndLemmas.{refuses}
use Rattle.client_core.proofs.RefusalLemmas.{begin_free}
use Rattle.client_core.proofs.NotedLemmas.{next_left, one_run}
use Rattle.client_core.proofs.RangeLemmas.{next_in_range}
use Rattle.client_core.proofs.packet_client.PacketClient.begin.Goals as goal

pub returns-in-Some : goal.returns-in-Some
returns-in-Some g c o past s =
    refuses g.N.Notes.note c.args.self.now o past (Begin c.args.text.now) c.in-Some.fault (sym c.begin_refusal.ensures ∙ c.in-Some.is) s

pub overflow_add-run : goal.overflow_add-run
overflow_add-run g c = omega (
  arith,
  next_left c.args.self.now.peers c.args.self.now.noted.generation c.args.self.now.noted.runs (begin_free _ _ _
      (sym c.begin_refusal.ensures ∙ c.in_default.is)).2,
)

pub begin_frames-requires-clause-run : goal.begin_frames-requires-clause-run
begin_frames-requires-clause-run g c = next_in_range c.args.self.now.peers c.args.self.now.noted.generation c.args.self.now.noted.runs
    (begin_free _ _ _ (sym c.begin_refusal.ensures ∙ c.in_default.is)).2

pub make_room_for_run-requires : goal.make_room_for_run-requires
make_room_for_run-requires g c = next_in_range c.args.self.now.peers c.args.self.now.noted.generation c.args.self.now.noted.runs
    (begin_free _ _ _ (sym c.begin_refusal.ensures ∙ c.in_default.is)).2

pub use_run-requires : goal.use_run-requires
use_run-requires g c = next_left c.args.self.now.peers c.args.self.now.noted.generation c.args.self.now.noted.runs
    (begin_free _ _ _ (sym c.begin_refusal.ensures ∙ c.in_default.is)).2

pub returns-in_err-use_run : goal.returns-in_err-use_run
returns-in_err-use_run g c = λ o past s.
    let call = Begin c.args.text.now in
    let old = c.args.self.now in
    let free = sym c.begin_refusal.ensures ∙ c.in_default.is in
    let f = begin_free _ _ _ free in
    let p = err_from_is_err_and c.from_residual.result c.from_residual.ensures.1 in
    rw (p.1, p.2) (fails_stored g.N.Notes.note old c.use_run.new.self c.make_room_for_run.new.self NextRun c.in_err-use_run.field-0.0 o past call
    c.notes_are_read_back.ensures f.0 free refl
    (one_run true old.noted (next_left old.peers old.noted.generation old.noted.runs f.2)) c.make_room_for_run.ensures.same c.in_err-use_run.ensures s)

pub returns : goal.returns
returns g c = λ o past s.
    let call = Begin c.args.text.now in
    let old = c.args.self.now in
    let free = sym c.begin_refusal.ensures ∙ c.in_default.is in
    let f = begin_free _ _ _ free in
    let stored = c.in_ok-use_run.ensures in (
      ap (λ (n : ClientNote). n.runs + 1) (sym (free_now g.N.Notes.note old o past call f.0 s free).1),
      answers_stored g.N.Notes.note old c.use_run.new.self c.make_room_for_run.new.self c.begin.new.self NextRun o past call c.in-Ok.frames
          c.notes_are_read_back.ensures f.0 free refl
          (one_run true old.noted (next_left old.peers old.noted.generation old.noted.runs f.2)) c.in_ok-use_run.field-0 stored
          (λ deeds h. c.in-Ok.ensures.frames ∙ ap (λ n. frame_bytes (to_all n (Jobs (old.noted.runs + 1) c.args.text.now))) c.count.ensures.count)
          (λ deeds h. subst (λ t. LifeIs c.begin.new.self (Begins (old.noted.runs + 1) t ∷ deeds)) c.in-Ok.ensures.text
          (c.begin.ensures deeds (subst (λ l. LifeIs l deeds) (sym (ap (λ (m : PacketClient _). m.life) stored.1))
          (c.make_room_for_run.ensures.same deeds h)))) refl s,
    )
