-- What is sent goes to a server that the client drives; a Saved has the kept state; a StateAck is for one.
use Rattle.std.proofs.Common.{◌≡◌, refl, sym, ◌∙◌, ap, subst, ◌⊎◌, inl, inr, ℕ, true, ◌&&◌, List, [], ◌∷◌, Option, None, Some}
use Rattle.std.specs.Prelude.{is_none, Contains}
use Rattle.fc_base.specs.declared.numbers.Key.{Key}
use Rattle.fc_base.specs.declared.fault.Fault.{Fault}
use Rattle.verify_state.specs.State.{State}
use Rattle.messages.specs.declared.packet.PacketParts.{PacketParts}
use Rattle.messages.specs.declared.body.Body.{Body}
use Rattle.messages.specs.declared.body.Body.TheVariants as bodies
use Rattle.messages.specs.declared.node.Node.TheVariants as nodes
use Rattle.messages.specs.Bodies.{kind_of}
use Rattle.disk_model.specs.declared.save_outcome.SaveOutcome.{SaveOutcome}
use Rattle.disk_model.specs.SaveOutcome.{has_new}
use Rattle.client_core.specs.Inputs.{PacketInput, Deliver}
use Rattle.verify_state.specs.StateTable.{kept_of}
use Rattle.verify_state.specs.TableLaws.{FoundHasItsKey, LastIsFound}
use Rattle.client_core.specs.declared.note.ClientNote.{ClientNote}
use Rattle.client_core.specs.History.{Opening, Entry, Met, Cut, Restart, Renew, Lose}
use Rattle.client_core.specs.Saves.{Addition, unless_kept, unless_refused, noted_after, is_answer}
use Rattle.client_core.specs.Words.{is_on, words_noted, peers, kept_state, refusal, is_answered}
use Rattle.client_core.specs.Life.{Deed, life}
use Rattle.client_core.specs.Packets.{to_server}
use Rattle.client_core.specs.Ranges.{packet_in}
use Rattle.client_core.specs.Laws.{from_server, is_for_mirror, is_for_server, SavedIsKept, NoSavedIsOfNone, CopiesAreOfStates, AcksAreFor, PacketsGoToPeers}
use Rattle.client_core.proofs.HeardLemmas.{has_one, own_state, taken_in}
use Rattle.fc_base.proofs.ListLemmas.{first_of, none_in}
use Rattle.client_core.proofs.ReasonLemmas.{IsSaid, SendsTo, Why, WhyMirror, sent_why}

client_kind : (n : ClientNote) (deeds : List Deed) (c : PacketInput) (s : ℕ) (body : Body) → Why n deeds c s body → is_for_server (kind_of body) ≡ true
client_kind n deeds c s (bodies.Jobs run text) w = refl
client_kind n deeds c s (bodies.Start run) w = refl
client_kind n deeds c s (bodies.Trigger run act) w = refl
client_kind n deeds c s (bodies.StateAck run job) w = refl
client_kind n deeds c s (bodies.Stop run) w = refl
client_kind n deeds c s (bodies.Verify run attempt text) w = refl
client_kind n deeds c s (bodies.Saved attempt state) w = refl
client_kind n deeds c s (bodies.NoSaved run attempt job) w = refl
client_kind n deeds c s _ w = absurd w

mirror_kind : (n : ClientNote) (c : PacketInput) (body : Body) → WhyMirror n c body → is_for_mirror (kind_of body) ≡ true
mirror_kind n c (bodies.Copy state) w = refl
mirror_kind n c (bodies.Fetch generation) w = refl
mirror_kind n c _ w = absurd w

pub packets_go_to_peers : PacketsGoToPeers
packets_go_to_peers o past (Met c left) p h = elim ((sent_why o past c left p h).why) [
  | inl w ↦ inl (w.0, w.1, w.2, client_kind (words_noted o past) (life o past) c w.0 p.body w.3)
  | inr w ↦ inr (w.0, w.1, mirror_kind (words_noted o past) c p.body w.2)
]
packets_go_to_peers o past Cut p h = absurd (none_in p h)
packets_go_to_peers o past (Restart mirror) p h = absurd (none_in p h)
packets_go_to_peers o past (Renew g left) p h = absurd (none_in p h)
packets_go_to_peers o past Lose p h = absurd (none_in p h)

saved_by : FoundHasItsKey → (o : Opening) (past : List Entry) (c : PacketInput) (p : PacketParts) (attempt : ℕ) (state : State)
    → SendsTo o.servers (words_noted o past) (life o past) c p → p.body ≡ bodies.Saved attempt state → kept_state o past state.key ≡ Some state
saved_by has o past c p attempt state w e =
    let v : Why (words_noted o past) (life o past) c w.0 (bodies.Saved attempt state) = subst (Why (words_noted o past) (life o past) c w.0) e w.3 in
    let key : Key = record { run = v.0; server = w.0; job = v.1 } in
    let own : state.key ≡ key = has key (words_noted o past).kept state v.3 in
    subst (λ (k : Key). kept_of k (words_noted o past).kept ≡ Some state) (sym own) v.3

pub saved_is_kept : FoundHasItsKey → SavedIsKept
saved_is_kept has o past (Met c left) p attempt state h e = elim ((sent_why o past c left p h).why) [
  | inl w ↦ saved_by has o past c p attempt state w e
  | inr w ↦ absurd (subst (WhyMirror (words_noted o past) c) e w.2)
]
saved_is_kept has o past Cut p attempt state h e = absurd (none_in p h)
saved_is_kept has o past (Restart mirror) p attempt state h e = absurd (none_in p h)
saved_is_kept has o past (Renew g left) p attempt state h e = absurd (none_in p h)
saved_is_kept has o past Lose p attempt state h e = absurd (none_in p h)

nothing_due : (r : Option Fault) → unless_refused {D = Addition} r None ≡ None
nothing_due None = refl
nothing_due (Some fault) = refl

-- What a server that wants a state says adds nothing to the note.
none_by : (o : Opening) (past : List Entry) (c : PacketInput) (left : SaveOutcome) (run attempt s job : ℕ) → IsSaid c s (bodies.WantState run attempt job)
    → words_noted o (Met c left ∷ past) ≡ words_noted o past
none_by o past c left run attempt s job said =
    let d = nothing_due (refusal o past (Deliver (from_server (bodies.WantState run attempt job) s))) in
    subst (λ e. words_noted o (Met e left ∷ past) ≡ words_noted o past) (sym said)
    (ap (λ x. noted_after (has_new left) x (words_noted o past)) d)

none_there : (o : Opening) (past : List Entry) (c : PacketInput) (left : SaveOutcome) (run attempt server job : ℕ)
    → SendsTo o.servers (words_noted o past) (life o past) c (to_server (bodies.NoSaved run attempt job) server)
    → kept_state o (Met c left ∷ past) (record { run = run; server = server; job = job }) ≡ None
none_there o past c left run attempt server job w =
    let to : nodes.Server server ≡ nodes.Server w.0 = ap (λ (p : PacketParts). p.to) w.2 in
    let same : w.0 ≡ server = cc in
    ap (λ (n : ClientNote). kept_of (record { run = run; server = server; job = job }) n.kept)
    (none_by o past c left run attempt w.0 job w.3.0)
    ∙ subst (λ s. kept_of (record { run = run; server = s; job = job }) (words_noted o past).kept ≡ None) same w.3.1

pub no_saved_is_of_none : NoSavedIsOfNone
no_saved_is_of_none o past (Met c left) run attempt server job h =
    elim ((sent_why o past c left (to_server (bodies.NoSaved run attempt job) server) h).why) [
      | inl w ↦ none_there o past c left run attempt server job w
      | inr w ↦ absurd w.2
    ]
no_saved_is_of_none o past Cut run attempt server job h = absurd (none_in (to_server (bodies.NoSaved run attempt job) server) h)
no_saved_is_of_none o past (Restart mirror) run attempt server job h = absurd (none_in (to_server (bodies.NoSaved run attempt job) server) h)
no_saved_is_of_none o past (Renew g left) run attempt server job h = absurd (none_in (to_server (bodies.NoSaved run attempt job) server) h)
no_saved_is_of_none o past Lose run attempt server job h = absurd (none_in (to_server (bodies.NoSaved run attempt job) server) h)

-- Each Copy is of a state of the note, or of the State that has just come.
copy_by : (o : Opening) (past : List Entry) (c : PacketInput) (left : SaveOutcome) (state : State) → WhyMirror (words_noted o past) c (bodies.Copy state)
    → Contains (words_noted o past).kept state ⊎ ((server jobs : ℕ) × Contains (packet_in (Met c left)) (from_server (bodies.State jobs state) server))
copy_by o past c left state (inl kept) = inl kept
copy_by o past c left state (inr said) =
    inr (
      said.0,
      said.1,
      subst (λ d. Contains (packet_in (Met d left)) (from_server (bodies.State said.1 state) said.0)) (sym said.2) (first_of
          (from_server (bodies.State said.1 state) said.0) []),
    )

pub copies_are_of_states : CopiesAreOfStates
copies_are_of_states o past (Met c left) p state h e = elim ((sent_why o past c left p h).why) [
  | inl w ↦ absurd (subst (Why (words_noted o past) (life o past) c w.0) e w.3)
  | inr w ↦ copy_by o past c left state (subst (WhyMirror (words_noted o past) c) e w.2)
]
copies_are_of_states o past Cut p state h e = absurd (none_in p h)
copies_are_of_states o past (Restart mirror) p state h e = absurd (none_in p h)
copies_are_of_states o past (Renew g left) p state h e = absurd (none_in p h)
copies_are_of_states o past Lose p state h e = absurd (none_in p h)

-- a state that was answered is kept under its server's key
answered_one : LastIsFound → (n : ClientNote) (left : SaveOutcome) (state : State) (r : Option Fault)
    → (is_none r && is_answer (unless_refused r (unless_kept (kept_of state.key n.kept) state)) left) ≡ true
    → (s : State) × (kept_of state.key (noted_after (has_new left) (unless_refused r (unless_kept (kept_of state.key n.kept) state)) n).kept ≡ Some s)
answered_one last n left state None a = has_one last n left (kept_of state.key n.kept) state refl a
answered_one last n left state (Some f) a = cc

kept_by : LastIsFound → (o : Opening) (past : List Entry) (c : PacketInput) (left : SaveOutcome) (jobs s : ℕ) (state : State) → IsSaid c s (bodies.State jobs state)
    → is_answered o past c left ≡ true → refusal o past c ≡ None
    → (state.key.server ≡ s) × ((x : State) × (kept_of state.key (words_noted o (Met c left ∷ past)).kept ≡ Some x))
kept_by last o past c left jobs s state e a r =
    let p = from_server (bodies.State jobs state) s in
    let answers : is_answered o past (Deliver p) left ≡ true = subst (λ d. is_answered o past d left ≡ true) e a in
    let taken : refusal o past (Deliver p) ≡ None = subst (λ d. refusal o past d ≡ None) e r in
    let ours = (taken_in (is_on past) (peers o past) (words_noted o past) p taken).1 in
    let own : state.key.server ≡ s = own_state (peers o past) p.from p.to jobs state ours in (
      own,
      subst (λ d. (x : State) × (kept_of state.key (words_noted o (Met d left ∷ past)).kept ≡ Some x)) (sym e) (answered_one last
          (words_noted o past) left state (refusal o past (Deliver p)) answers),
    )

abbrev AckedFor : ClientNote → Entry → ℕ → ℕ → ℕ → Type 0
AckedFor after entry run server job =
    ((state : State) × (kept_of (record { run = run; server = server; job = job }) after.kept ≡ Some state))
    ⊎ ((jobs : ℕ) × Contains (packet_in entry) (from_server (bodies.NoState run job jobs) server))

acked : LastIsFound → (o : Opening) (past : List Entry) (c : PacketInput) (left : SaveOutcome) (run server job : ℕ) → is_answered o past c left ≡ true
    → refusal o past c ≡ None → Why (words_noted o past) (life o past) c server (bodies.StateAck run job)
    → AckedFor (words_noted o (Met c left ∷ past)) (Met c left) run server job
acked last o past c left run server job a r (inl w) =
    let state : State = w.1 in
    let k = kept_by last o past c left w.0 server state w.2 a r in
    let own : state.key.server ≡ server = k.0 in
    let runs : run ≡ state.key.run = w.3 in
    let jobs : job ≡ state.key.job = w.4 in
    let key : state.key ≡ record { run = run; server = server; job = job } = λ i. record { run = sym runs i; server = own i; job = sym jobs i } in
    inl (k.1.0, subst (λ (x : Key). kept_of x (words_noted o (Met c left ∷ past)).kept ≡ Some k.1.0) key k.1.1)
acked last o past c left run server job a r (inr w) =
    let p = from_server (bodies.NoState run job w.0) server in
    inr (w.0, subst (λ d. Contains (packet_in (Met d left)) p) (sym w.1) (first_of p []))

pub acks_are_for : LastIsFound → AcksAreFor
acks_are_for last o past (Met c left) run server job h =
    let x = sent_why o past c left (to_server (bodies.StateAck run job) server) h in
    elim (x.why) [
      | inl w ↦ (
          let to : nodes.Server server ≡ nodes.Server w.0 = ap (λ (p : PacketParts). p.to) w.2 in
          let s : server ≡ w.0 = cc in
          acked last o past c left run server job x.answers x.taken
          (subst (λ t. Why (words_noted o past) (life o past) c t (bodies.StateAck run job)) (sym s) w.3))
      | inr w ↦ absurd w.2
    ]
acks_are_for last o past Cut run server job h = absurd (none_in (to_server (bodies.StateAck run job) server) h)
acks_are_for last o past (Restart mirror) run server job h = absurd (none_in (to_server (bodies.StateAck run job) server) h)
acks_are_for last o past (Renew g left) run server job h = absurd (none_in (to_server (bodies.StateAck run job) server) h)
acks_are_for last o past Lose run server job h = absurd (none_in (to_server (bodies.StateAck run job) server) h)
