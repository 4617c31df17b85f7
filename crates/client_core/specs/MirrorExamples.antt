-- A client with a mirror, followed by hand.
use Rattle.std.specs.Prelude.{◌≡◌, true, false, List, [], ◌∷◌, Some, None}
use Rattle.fc_base.specs.declared.fault.Fault.TheVariants.{Misdirected, NumbersSpent}
use Rattle.disk_model.specs.declared.save_outcome.SaveOutcome.TheVariants.{Saved}
use Rattle.messages.specs.declared.body.Body.{Body}
use Rattle.messages.specs.declared.body.Body.TheVariants as bodies
use Rattle.messages.specs.declared.refusal.Act.TheVariants as acts
use Rattle.verify_state.specs.State.{State}
use Rattle.verify_state.specs.Examples.{state}
use Rattle.client_core.specs.Inputs.{PacketInput, Begin, Trigger, Deliver, Tick}
use Rattle.client_core.specs.History.{Entry, Cut, Restart, Renew, Lose}
use Rattle.client_core.specs.Words.{refusal, kept_state}
use Rattle.client_core.specs.Laws.{from_mirror}
use Rattle.client_core.specs.Examples.{opening, text, server_says, with_calls, sent_bodies, after_begin}

-- A client with a mirror begins in generation 1.
abbrev pub after_renewal : List Entry
after_renewal = Renew 1 Saved ∷ []

-- The mirror says this.
abbrev pub mirror_says : Body → PacketInput
mirror_says body = Deliver (from_mirror body)

-- Generation 1 is granted.
abbrev pub after_grant : List Entry
after_grant = with_calls after_renewal (mirror_says (bodies.Granted 1) ∷ [])

-- Numbers are given once the mirror granted the generation, which is asked for until then.
pub record NumbersOnceGranted : Type 0 where
  pub not_yet : refusal opening after_renewal (Begin text) ≡ Some NumbersSpent
  pub asked : sent_bodies after_renewal Tick ≡ bodies.Fetch 1 ∷ []
  pub quiet : sent_bodies after_renewal (mirror_says (bodies.Granted 1)) ≡ []
  pub other : refusal opening (with_calls after_renewal (mirror_says (bodies.Granted 2) ∷ []))
      (Begin text) ≡ Some NumbersSpent
  pub asked_no_more : sent_bodies after_grant Tick ≡ []
  pub given : sent_bodies after_grant (Begin text) ≡ bodies.Jobs 4294967297 text ∷ []
  pub asked_in_each_life : sent_bodies (Restart true ∷ (Cut ∷ after_grant)) Tick
      ≡ bodies.Fetch 1 ∷ []
  pub not_without : refusal opening (Restart false ∷ (Cut ∷ after_grant)) (Begin text)
      ≡ Some NumbersSpent

-- The first run of generation 1 is begun and triggered.
abbrev pub begun_anew : List Entry
begun_anew = with_calls after_grant (Trigger 4294967297 acts.None ∷ (Begin text ∷ []))

-- The state of server 0's job 0 in the first run of generation 1.
abbrev pub state_anew : State
state_anew = record (state 0 2) { key = record { run = 4294967297; server = 0; job = 0 } }

-- The state of generation 1's first run has come to the client, which keeps it.
abbrev pub kept_anew : List Entry
kept_anew = with_calls begun_anew (server_says (bodies.State 1 state_anew) ∷ [])

-- The mirror, too, keeps the state of generation 1's first run.
abbrev pub copied_anew : List Entry
copied_anew = with_calls kept_anew (mirror_says (bodies.CopyOk 4294967297 0 0) ∷ [])

-- A state that is newly kept is copied, and again by each tick until the mirror has it: first goes
-- what asks for the grant, then the open requests, and last the copies.
pub record CopiesWhatIsKept : Type 0 where
  pub acknowledged :
      sent_bodies begun_anew (server_says (bodies.State 1 state_anew))
      ≡ bodies.StateAck 4294967297 0 ∷ (bodies.Copy state_anew ∷ [])
  pub once : sent_bodies kept_anew (server_says (bodies.State 1 state_anew))
      ≡ bodies.StateAck 4294967297 0 ∷ []
  pub again : sent_bodies kept_anew Tick
      ≡ bodies.Jobs 4294967297 text ∷ (bodies.Copy state_anew ∷ [])
  pub no_more : sent_bodies copied_anew Tick ≡ bodies.Jobs 4294967297 text ∷ []
  pub in_each_life :
      sent_bodies (with_calls (Restart true ∷ (Cut ∷ copied_anew))
      (Trigger 4294967297 acts.None ∷ [])) Tick
      ≡ bodies.Fetch 1 ∷ (bodies.Trigger 4294967297 acts.None ∷ (bodies.Copy state_anew ∷ []))

-- The note is lost, and the client begins in generation 2.
abbrev pub lost_and_renewed : List Entry
lost_and_renewed = Renew 2 Saved ∷ (Lose ∷ (Cut ∷ copied_anew))

-- Generation 2 is granted, and the mirror gives the state.
abbrev pub fetched_again : List Entry
fetched_again =
    with_calls lost_and_renewed
    (mirror_says (bodies.Copy state_anew) ∷ (mirror_says (bodies.Granted 2) ∷ []))

-- A lost state is kept again once the mirror gives it, and no number is given again.
pub record FetchesWhatWasLost : Type 0 where
  pub lost : kept_state opening lost_and_renewed state_anew.key ≡ None
  pub asked : sent_bodies lost_and_renewed Tick ≡ bodies.Fetch 2 ∷ []
  pub kept : kept_state opening fetched_again state_anew.key ≡ Some state_anew
  pub given : sent_bodies fetched_again (Begin text) ≡ bodies.Jobs 8589934593 text ∷ []

-- Copies, their answers and grants are taken from the mirror alone, where there is one, and nothing
-- else is taken from it.
pub record HearsItsMirrorAlone : Type 0 where
  pub from_a_server : refusal opening after_grant (server_says (bodies.Copy state_anew))
      ≡ Some Misdirected
  pub without : refusal opening after_begin (mirror_says (bodies.Granted 1)) ≡ Some Misdirected
  pub nothing_else : refusal opening after_grant (mirror_says (bodies.Started 1)) ≡ Some Misdirected
