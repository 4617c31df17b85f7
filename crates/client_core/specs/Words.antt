-- The words of a client, each read from the list: whether it is on, with whom, what its note says,
-- which calls it refuses, and what they are due to save.
use Rattle.std.specs.Prelude.{ℕ, Bool, false, true, not, ◌&&◌, ◌||◌, ◌==◌, is_none, is_some, List, [], ◌∷◌, ◌++◌, Option, if◌then◌else◌}
use Rattle.std.specs.List.{list_any}
use Rattle.fc_base.specs.declared.numbers.Key.{Key}
use Rattle.fc_base.specs.declared.fault.Fault.{Fault}
use Rattle.disk_model.specs.declared.save_outcome.SaveOutcome.{SaveOutcome}
use Rattle.disk_model.specs.SaveOutcome.{has_new, is_lost, is_saved}
use Rattle.verify_state.specs.State.{State}
use Rattle.messages.specs.declared.body.Body.{Body}
use Rattle.messages.specs.declared.body.Body.TheVariants as bodies
use Rattle.messages.specs.Nodes.{is_client, is_mirror}
use Rattle.messages.specs.Ranges.{is_generation}
use Rattle.client_core.specs.Inputs.{PacketInput, Deliver}
use Rattle.client_core.specs.declared.peers.Peers.{Peers}
use Rattle.client_core.specs.Note.{blank, is_blank, new_note}
use Rattle.verify_state.specs.StateTable.{kept_of}
use Rattle.client_core.specs.declared.note.ClientNote.{ClientNote}
use Rattle.client_core.specs.History.{Opening, Entry, Met, Cut, Restart, Renew, Lose}
use Rattle.client_core.specs.Refusals.{refusal_by}
use Rattle.client_core.specs.Saves.{Addition, due_by, noted_after, is_answer}

-- The client is on: it was restarted or renewed, and since then came no cut and no failed save.
abbrev pub is_on : List Entry → Bool
is_on [] = false
is_on (Met c left ∷ past) = is_on past && not (is_lost left)
is_on (Cut ∷ past) = false
is_on (Restart mirror ∷ past) = true
is_on (Renew g left ∷ past) = is_saved left
is_on (Lose ∷ past) = false

-- The client has a mirror, if it is on.
abbrev pub has_mirror : List Entry → Bool
has_mirror [] = false
has_mirror (Met c left ∷ past) = has_mirror past
has_mirror (Cut ∷ past) = false
has_mirror (Restart mirror ∷ past) = mirror
has_mirror (Renew g left ∷ past) = true
has_mirror (Lose ∷ past) = false

-- The generation that is granted by this.
abbrev pub granted_in : Body → List ℕ
granted_in (bodies.Granted generation) = generation ∷ []
granted_in _ = []

-- The generation that is granted by a call: the mirror says so to the client.
abbrev pub granted_by : PacketInput → List ℕ
granted_by (Deliver p) = if is_client p.to && is_mirror p.from then granted_in p.body else []
granted_by _ = []

-- The generations that were granted in this life to a client that is on and has a mirror.
abbrev pub granted_generations : List Entry → List ℕ
granted_generations [] = []
granted_generations (Met c left ∷ past) =
    if is_on past && has_mirror past then granted_by c ++ granted_generations past
    else granted_generations past
granted_generations (Cut ∷ past) = []
granted_generations (Restart mirror ∷ past) = []
granted_generations (Renew g left ∷ past) = []
granted_generations (Lose ∷ past) = []

-- With whom a client of this generation is, that drives so many servers.
abbrev pub peers_at : ℕ → List Entry → ℕ → Peers
peers_at servers past generation = record {
  servers = servers;
  mirror = has_mirror past;
  granted = list_any (λ g. g == generation) (granted_generations past);
}

-- With whom a client of this generation is, where it was with these and the mirror says this.
abbrev pub after_grant : ℕ → Body → Peers → Peers
after_grant generation (bodies.Granted g) peers =
    record peers { granted = (g == generation) || peers.granted }
after_grant generation _ peers = peers

-- A client is renewed only with a number that a generation has, and where its note says nothing.
abbrev pub may_renew : ℕ → ClientNote → Bool
may_renew g n = is_generation g && is_blank n

-- The note says the generation where the new bytes are there.
abbrev pub renewed_after : Bool → ℕ → ClientNote → ClientNote
renewed_after new g n = if new && may_renew g n then new_note g else n

-- What the note says: what it said at the opening, and what was added by each save that left the
-- new bytes; the generation of a renewal; and nothing once it is lost.
abbrev pub words_noted : Opening → List Entry → ClientNote
words_noted opening [] = opening.noted
words_noted opening (Met c left ∷ past) =
    noted_after (has_new left)
    (due_by (is_on past) (peers_at opening.servers past (words_noted opening past).generation)
    (words_noted opening past) c)
    (words_noted opening past)
words_noted opening (Cut ∷ past) = words_noted opening past
words_noted opening (Restart mirror ∷ past) = words_noted opening past
words_noted opening (Renew g left ∷ past) =
    renewed_after (has_new left) g (words_noted opening past)
words_noted opening (Lose ∷ past) = blank

-- With whom the client is: its servers, whether it has a mirror, and whether this granted the
-- generation of its note.
abbrev pub peers : Opening → List Entry → Peers
peers opening past = peers_at opening.servers past (words_noted opening past).generation

-- Why a call is refused.
abbrev pub refusal : Opening → List Entry → PacketInput → Option Fault
refusal opening past c = refusal_by (is_on past) (peers opening past) (words_noted opening past) c

-- What a call is due to add to the note.
abbrev pub due : Opening → List Entry → PacketInput → Option Addition
due opening past c = due_by (is_on past) (peers opening past) (words_noted opening past) c

-- A call makes a save where it is due to add something.
abbrev pub would_save : Opening → List Entry → PacketInput → Bool
would_save opening past c = is_some (due opening past c)

-- The call is answered: it isn't refused, and its save, where it makes one, answered Ok.
abbrev pub is_answered : Opening → List Entry → PacketInput → SaveOutcome → Bool
is_answered opening past c left =
    is_none (refusal opening past c) && is_answer (due opening past c) left

-- The kept state of a key: that of the opening, else the first that came and was saved.
abbrev pub kept_state : Opening → List Entry → Key → Option State
kept_state opening past key = kept_of key (words_noted opening past).kept

-- What the calls that only look answer from: all that came, but for what came from a failed save
-- on.
abbrev pub shown_entries : List Entry → List Entry
shown_entries [] = []
shown_entries (Met c left ∷ past) =
    if is_on past then (if is_lost left then past else Met c left ∷ past) else shown_entries past
shown_entries (Cut ∷ past) = []
shown_entries (Restart mirror ∷ past) = Restart mirror ∷ past
shown_entries (Renew g left ∷ past) = if is_saved left then Renew g left ∷ past else []
shown_entries (Lose ∷ past) = []
