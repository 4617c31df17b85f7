-- What a mirror answers in a list that can be followed by hand.
use Rattle.std.specs.Prelude.{◌≡◌, ℕ, false, List, [], ◌∷◌, map, Some, None}
use Rattle.fc_base.specs.declared.fault.Fault.TheVariants.{Old, Down, Misdirected, Conflict}
use Rattle.disk_model.specs.declared.save_outcome.SaveOutcome.{SaveOutcome}
use Rattle.disk_model.specs.declared.save_outcome.SaveOutcome.TheVariants.{LostNew, LostOld}
use Rattle.disk_model.specs.SaveOutcome.{saved_for}
use Rattle.verify_state.specs.State.{State}
use Rattle.messages.specs.declared.body.Body.{Body}
use Rattle.messages.specs.declared.body.Body.TheVariants as bodies
use Rattle.messages.specs.declared.frame.Frame.{Frame}
use Rattle.messages.specs.declared.frame.Frame.TheVariants.{Whole, Piece}
use Rattle.messages.specs.declared.kind.PacketKind.TheVariants as kinds
use Rattle.messages.specs.declared.node.Node.TheVariants as nodes
use Rattle.verify_state.specs.Examples as examples
use Rattle.mirror_core.specs.Note.{blank}
use Rattle.mirror_core.specs.History.{Entry, Met, Cut, Restart}
use Rattle.mirror_core.specs.Saves.{Grant, Keep}
use Rattle.mirror_core.specs.Words.{is_on, refusal, due, generation, kept_state, shown_entries}
use Rattle.mirror_core.specs.Packets.{packets}

-- The client says this to the mirror.
abbrev pub client_says : Body → Frame
client_says body = Whole (record { from = nodes.Client; to = nodes.Mirror; body = body })

-- A frame that is answered: it saves where it has something to save.
abbrev pub answered_entry : List Entry → Frame → Entry
answered_entry past f = Met f (saved_for (due blank past f))

-- The list of these frames, the newest first, behind these entries.
abbrev pub with_frames : List Entry → List Frame → List Entry
with_frames past [] = past
with_frames past (f ∷ frames) = answered_entry (with_frames past frames) f ∷ with_frames past frames

-- What is sent in answer to a frame.
abbrev pub sent_bodies : List Entry → Frame → List Body
sent_bodies past f = map (λ p. p.body) (packets blank past (answered_entry past f))

-- The state of job 1, which has issued so many of its two writes.
abbrev pub state : ℕ → State
state issued = examples.state 1 issued

-- A mirror over a blank note.
abbrev pub after_opening : List Entry
after_opening = Restart ∷ []

-- The first client asks for its generation.
abbrev pub after_grant : List Entry
after_grant = with_frames after_opening (client_says (bodies.Fetch 1) ∷ [])

-- The first client sends a copy, which the mirror keeps.
abbrev pub kept_one : List Entry
kept_one = with_frames after_grant (client_says (bodies.Copy (state 2)) ∷ [])

-- The next client asks for its own.
abbrev pub granted_next : List Entry
granted_next = with_frames kept_one (client_says (bodies.Fetch 2) ∷ [])

-- A generation is saved before it is granted, and is granted again without a save; the kept states
-- follow; an older one is refused.
pub record Grants : Type 0 where
  pub saves : due blank after_opening (client_says (bodies.Fetch 1)) ≡ Some (Grant 1)
  pub first : sent_bodies after_opening (client_says (bodies.Fetch 1)) ≡ bodies.Granted 1 ∷ []
  pub saved_once : due blank kept_one (client_says (bodies.Fetch 1)) ≡ None
  pub again :
      sent_bodies kept_one (client_says (bodies.Fetch 1))
      ≡ bodies.Granted 1 ∷ (bodies.Copy (state 2) ∷ [])
  pub saves_next : due blank kept_one (client_says (bodies.Fetch 2)) ≡ Some (Grant 2)
  pub next :
      sent_bodies kept_one (client_says (bodies.Fetch 2))
      ≡ bodies.Granted 2 ∷ (bodies.Copy (state 2) ∷ [])
  pub old : refusal blank granted_next (client_says (bodies.Fetch 1)) ≡ Some Old

-- A state is saved and then reported as kept, and again without a save; another state of its key is
-- refused.
pub record KeepsTheFirst : Type 0 where
  pub saves : due blank after_grant (client_says (bodies.Copy (state 2))) ≡ Some (Keep (state 2))
  pub told : sent_bodies after_grant (client_says (bodies.Copy (state 2)))
      ≡ bodies.CopyOk 1 0 1 ∷ []
  pub kept : kept_state blank kept_one (record { run = 1; server = 0; job = 1 }) ≡ Some (state 2)
  pub saved_once : due blank kept_one (client_says (bodies.Copy (state 2))) ≡ None
  pub again : sent_bodies kept_one (client_says (bodies.Copy (state 2))) ≡ bodies.CopyOk 1 0 1 ∷ []
  pub conflict : refusal blank kept_one (client_says (bodies.Copy (state 1))) ≡ Some Conflict

-- What isn't the client's, isn't the mirror's, is of another kind, or is a piece is misdirected.
pub record TakesItsOwn : Type 0 where
  pub from_a_server :
      refusal blank after_grant (Whole
      (record { from = nodes.Server 0; to = nodes.Mirror; body = bodies.Fetch 1 }))
      ≡ Some Misdirected
  pub to_the_client :
      refusal blank after_grant (Whole
      (record { from = nodes.Client; to = nodes.Client; body = bodies.Fetch 1 }))
      ≡ Some Misdirected
  pub of_another_kind : refusal blank after_grant (client_says (bodies.Granted 1))
      ≡ Some Misdirected
  pub in_pieces :
      refusal blank after_grant (Piece (record {
        from = nodes.Client;
        to = nodes.Mirror;
        tag = record { whole = kinds.Copy; run = 1; number = 0; server = 0; job = 1; length = 136 };
        at = 0;
        bytes = [];
      })) ≡ Some Misdirected

-- A copy whose save failed.
abbrev pub after_lost_copy : SaveOutcome → List Entry
after_lost_copy left = Met (client_says (bodies.Copy (state 2))) left ∷ after_grant

-- A mirror whose save failed sends nothing and is down until it is restarted; it then keeps the
-- state where the note has the new bytes. What only looks answers as before.
pub record GoesDown : Type 0 where
  pub sends_nothing : packets blank after_grant (Met (client_says (bodies.Copy (state 2))) LostNew)
      ≡ []
  pub off : is_on (after_lost_copy LostNew) ≡ false
  pub down : refusal blank (after_lost_copy LostNew) (client_says (bodies.Fetch 1)) ≡ Some Down
  pub looks : shown_entries (after_lost_copy LostNew) ≡ after_grant
  pub has_new : due blank (Restart ∷ after_lost_copy LostNew) (client_says (bodies.Copy (state 2)))
      ≡ None
  pub has_old :
      due blank (Restart ∷ after_lost_copy LostOld) (client_says (bodies.Copy (state 2)))
      ≡ Some (Keep (state 2))

-- A cut loses neither the generation nor a state.
pub record ForgetsNothing : Type 0 where
  pub off : refusal blank (Cut ∷ granted_next) (client_says (bodies.Fetch 2)) ≡ Some Down
  pub generation : generation blank (Restart ∷ (Cut ∷ granted_next)) ≡ 2
  pub states :
      sent_bodies (Restart ∷ (Cut ∷ granted_next)) (client_says (bodies.Fetch 3))
      ≡ bodies.Granted 3 ∷ (bodies.Copy (state 2) ∷ [])
