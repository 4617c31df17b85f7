-- The verdict theorem, from the passes and the laws of one server.
use Rattle.std.proofs.Common.{◌≡◌, refl, ◌∙◌, ap, subst, inl, inr, ℕ, Bool, true, false, List, [], ◌∷◌, ◌++◌, Option, Some, None, append_assoc}
use Rattle.std.specs.Prelude.{if◌then◌else◌, Contains}
use Rattle.fc_base.specs.declared.numbers.Key.{Key}
use Rattle.verify_state.specs.State.{State}
use Rattle.verify_state.specs.TableLaws.{FoundHasItsKey}
use Rattle.messages.specs.declared.packet.PacketParts.{PacketParts}
use Rattle.messages.specs.declared.body.Body.TheVariants as bodies
use Rattle.disk_model.specs.declared.save_outcome.SaveOutcome.TheVariants.{Saved}
use Rattle.disk_model.specs.SaveOutcome.{is_lost}
use Rattle.fc_base.proofs.ListLemmas.{none_in, first_or_behind, first_of, behind_one}
use Rattle.server_core.specs.History.{Opening, Entry, Met, Cut, Restart}
use Rattle.server_core.specs.Request.{request_of}
use Rattle.server_core.specs.Words.{work, last_run}
use Rattle.server_core.specs.Taken.{takes, and_those, takings}
use Rattle.server_core.specs.Check.{With, progress}
use Rattle.server_core.specs.Accepted.{IsTaking}
use Rattle.server_core.specs.Laws.{TakenAtMostOnce, CountsTheDone, WithWasHeard, QuietUntilChecked}
use Rattle.mirror_core.specs.Words as mirrors
use Rattle.client_core.specs.Packets.{to_server}
use Rattle.net_world.specs.Setup.{Setup}
use Rattle.net_world.specs.Trace.{Step, IsTrace, opening_of, mirror_opening, of_server, of_mirror, sent_packets}
use Rattle.net_world.specs.Holders.{taken_of, taken_in_life, carried_state, Holds, ByTaking, ByCheck, ByClient, ByMirror, ByPacket}
use Rattle.net_world.specs.Passes.{SentStatesWereTaken, CarriedStatesWereSent, KeptStatesWereSent, CopiedStatesWereSent, CheckedStatesWereSent}
use Rattle.net_world.specs.Exact.{IsQuiet}
use Rattle.net_world.specs.Claims.{OfEachList, OfEachTrace}
use Rattle.net_world.specs.Headline.{OneTaking, HeldIsTheTaken, CountsTheCompleted, QuietUntilTheCheck}
use Rattle.net_world.proofs.ListLemmas.{single, found_in}
use Rattle.net_world.proofs.PassLemmas.{was_taken, kept_was_taken}

-- The passes of a verify state.
pub record Passes : Type 0 where
  pub sent_taken : OfEachList SentStatesWereTaken
  pub has : FoundHasItsKey
  pub in_packets : OfEachTrace CarriedStatesWereSent
  pub at_client : OfEachTrace KeptStatesWereSent
  pub at_mirror : OfEachTrace CopiedStatesWereSent
  pub checked_sent : OfEachTrace CheckedStatesWereSent

-- What was taken in this life was taken.
taken_or : (lost : Bool) (x : Option State) (states all : List State) (state : State) → (Contains states state → Contains all state)
    → Contains (if lost then [] else and_those x states) state → Contains (and_those x all) state
taken_or true x states all state f h = absurd (none_in state h)
taken_or false None states all state f h = f h
taken_or false (Some y) states all state f h =
    elim (first_or_behind y states state h) [ inl e ↦ subst (Contains (y ∷ all)) e (first_of y all) | inr i ↦ behind_one y all state (f i) ]

taken_in_life_was_taken : (o : Opening) (run j : ℕ) (past : List Entry) (state : State) → Contains (taken_in_life o run j past) state
    → Contains (takings o run j past) state
taken_in_life_was_taken o run j [] state h = absurd (none_in state h)
taken_in_life_was_taken o run j (Met e left ∷ past) state h =
    taken_or (is_lost left) (takes run j (request_of o.me e) (work o past)) (taken_in_life o run j past) (takings o run j past) state
    (taken_in_life_was_taken o run j past state) h
taken_in_life_was_taken o run j (Cut ∷ past) state h = absurd (none_in state h)
taken_in_life_was_taken o run j (Restart left ∷ past) state h = absurd (none_in state h)

-- What a packet carries was taken.
carried_was_taken : Passes → (w : Setup) (t : List Step) (p : PacketParts) (key : Key) (state : State) → state.key ≡ key → IsTrace w t
    → Contains (sent_packets w t) p → carried_state p.body ≡ Some state → Contains (taken_of key t) state
carried_was_taken passes w t p key state is trace h c = was_taken passes.sent_taken w t key state is (passes.in_packets w t trace p state h c)

-- Whoever holds a state holds one that was taken.
pub held_was_taken : Passes → (w : Setup) (t : List Step) (key : Key) (state : State) → IsTrace w t → Holds w t key state → Contains (taken_of key t) state
held_was_taken passes w t key state trace (ByTaking h) = taken_in_life_was_taken (opening_of key.server) key.run key.job (of_server key.server t) state h
held_was_taken passes w t key state trace (ByCheck m j h is) =
    let k = passes.checked_sent w t trace m j state h in
    carried_was_taken passes w t (to_server (bodies.Saved k.0 state) m) key state is trace k.1 refl
held_was_taken passes w t key state trace (ByClient h) = kept_was_taken passes.sent_taken passes.has passes.at_client w t key state trace h
held_was_taken passes w t key state trace (ByMirror h) =
    let states = (mirrors.words_noted mirror_opening (of_mirror t)).kept in
    was_taken passes.sent_taken w t key state (passes.has key states state h) (passes.at_mirror w t trace state (found_in key states state h))
held_was_taken passes w t key state trace (ByPacket p h carries is) = carried_was_taken passes w t p key state is trace h carries

pub one_taking : TakenAtMostOnce → OfEachList OneTaking
one_taking once w t key = once (opening_of key.server) key.run key.job (of_server key.server t)

pub held_is_the_taken : Passes → TakenAtMostOnce → OfEachTrace HeldIsTheTaken
held_is_the_taken passes once w t trace key state h = single (taken_of key t) state (one_taking once w t key) (held_was_taken passes w t key state trace h)

pub counts_the_completed : Passes → CountsTheDone → OfEachTrace CountsTheCompleted
counts_the_completed passes counts w t trace key state h =
    counts (opening_of key.server) key.run key.job (of_server key.server t) state (held_was_taken passes w t key state trace h)

-- A list behind a taking, split once more.
split_more : (list newer later between rest : List Entry) (x y : Entry) → list ≡ newer ++ y ∷ rest → newer ≡ later ++ x ∷ between
    → list ≡ later ++ x ∷ (between ++ y ∷ rest)
split_more list newer later between rest x y h g =
    h ∙ ap (λ l. l ++ y ∷ rest) g ∙ append_assoc later (x ∷ between) (y ∷ rest)

since_is_quiet : QuietUntilChecked → (o : Opening) (run j : ℕ) (list : List Entry) (state : State) → state.key.run ≡ run → progress o list j ≡ Some (With state)
    → (taking : IsTaking o run j list state) → IsQuiet taking
since_is_quiet quiet o run j list state is with taking later between e left g =
    let rest = taking.between ++ Met taking.start Saved ∷ taking.older in
    quiet o rest between later taking.trigger e taking.left left run j j state state taking.pulls
    (subst (λ l. progress o l j ≡ Some (With state)) (split_more list taking.newer later between rest (Met e left)
    (Met taking.trigger taking.left) taking.split g) with)
    is

pub quiet_until_the_check : Passes → CountsTheDone → WithWasHeard → QuietUntilChecked → OfEachTrace QuietUntilTheCheck
quiet_until_the_check passes counts heard quiet w t trace m j state h =
    let o = opening_of m in
    let run = last_run o (of_server m t) in
    let key : state.key ≡ record { run = run; server = m; job = j } = (heard o (of_server m t) j state h).key in
    let taking : IsTaking o run j (of_server m t) state =
    counts_the_completed passes counts w t trace (record { run = run; server = m; job = j }) state (ByCheck m j h key) in
    record { run = run; key = key; taking = taking; quiet = since_is_quiet quiet o run j (of_server m t) state (ap (λ (k : Key). k.run) key) h taking }
