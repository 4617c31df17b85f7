-- Both kinds of node in one form: their entries, their rules, and their steps in a trace.
use Rattle.std.proofs.Common.{◌≡◌, refl, sym, ◌∙◌, ap, subst, ℕ, ◌<◌, arith, Bool, true, false, ◌==◌, List, [], ◌∷◌, Some, None}
use Rattle.std.specs.Prelude.{map, if◌then◌else◌}
use Rattle.std.proofs.lemmas.Bool.{eqb-true}
use Rattle.std.proofs.lemmas.Bool.Decides.{nat_tests}
use Rattle.fc_base.specs.declared.fault.Fault.TheVariants.{Misdirected}
use Rattle.disk_model.specs.declared.save_outcome.SaveOutcome.{SaveOutcome}
use Rattle.messages.specs.declared.node.Node.{Node}
use Rattle.messages.specs.declared.node.Node.TheVariants.{Server, Client, Mirror}
use Rattle.messages.specs.declared.frame.Frame.{Frame}
use Rattle.messages.specs.declared.refusal.Act.TheVariants as acts
use Rattle.messages.specs.FrameBytes.{frame_spelling}
use Rattle.messages.specs.Hearing.{Coming, entry_of, frames_by, heard}
use Rattle.messages.specs.Waiting.{is_same_node}
use Rattle.server_core.specs.History as server
use Rattle.server_core.specs.Answers.{packets as server_packets}
use Rattle.server_core.specs.Inputs.{FrameInput as ServerInput}
use Rattle.server_core.specs.Hearing.{FrameEntry as ServerEntry, coming_of as server_coming}
use Rattle.client_core.specs.History as client
use Rattle.client_core.specs.Packets.{packets as client_packets}
use Rattle.client_core.specs.Inputs.{FrameInput as ClientInput}
use Rattle.client_core.specs.Hearing.{FrameEntry as ClientEntry, coming_of as client_coming}
use Rattle.cells.specs.declared.answer.Answer.TheVariants.{Plain}
use Rattle.cells.specs.declared.entry.HistoryEntry.{HistoryEntry}
use Rattle.cells.specs.AtHub.{is_left_out}
use Rattle.cells.specs.Replay.{Ends, Makes}
use Rattle.cells.specs.Rules.{Rules, Nothing}
use Rattle.server_core.specs.FrameEnds.{words_of as server_words}
use Rattle.client_core.specs.FrameEnds.{words_of as client_words}
use Rattle.cells.specs.ServerRules.{core as server_core, rules as server_rules}
use Rattle.cells.specs.ClientRules.{core as client_core, rules as client_rules}
use Rattle.net_world.specs.Setup.{without_mirror}
use Rattle.net_world.specs.Trace.{opening_of, client_opening}
use Rattle.net_world.specs.Frames.{FrameStep, OfServer, OfClient, of_server, of_client, at_server, at_client, frames_of_step, MayHappen, is_allowed}
use Rattle.net_world.specs.InRange.{FrameStepFits}
use Rattle.assembly.specs.Marks.{frame_of}
use Rattle.assembly.specs.Names.{node_of}
use Rattle.assembly.proofs.RefusalLemmas.{CameOf}
use Rattle.assembly.proofs.AddLemmas.{adds, stays as node_stays}
use Rattle.assembly.proofs.ServerLemmas as of_servers
use Rattle.assembly.proofs.ClientLemmas as of_clients

abbrev pub EntryOf : Node → Type 0
EntryOf (Server s) = ServerEntry
EntryOf Client = ClientEntry
EntryOf Mirror = ⊥

abbrev pub InputOf : Node → Type 0
InputOf (Server s) = ServerInput
InputOf Client = ClientInput
InputOf Mirror = ⊥

abbrev pub ComingTo : Node → Type 0
ComingTo (Server s) = Coming server.Entry SaveOutcome
ComingTo Client = Coming client.Entry SaveOutcome
ComingTo Mirror = ⊥

-- The rules of a node that isn't there: nothing is asked of it.
abbrev pub no_rules : Rules ⊥ ⊥
no_rules = record {
  opened = [];
  asked = λ came. Nothing;
  refusal = λ past ask. Some Misdirected;
  loads = λ past ask. false;
  said = λ past ask. record { answer = Plain; act = acts.None };
  added = λ past ask. None;
  passed = λ past ask fault. past;
  lost = λ past ask landed. None;
  frames = λ past entry. [];
}

abbrev pub rules_of : (n : ℕ) (node : Node) → Rules (InputOf node) (EntryOf node)
rules_of n (Server s) = server_rules (opening_of s)
rules_of n Client = client_rules (client_opening (without_mirror n))
rules_of n Mirror = no_rules

abbrev pub coming_to : (node : Node) → EntryOf node → ComingTo node
coming_to (Server s) e = server_coming e
coming_to Client e = client_coming e
coming_to Mirror e = e

-- What has happened to a node in a trace.
abbrev pub happened_to : ℕ → (node : Node) → List FrameStep → List (ComingTo node)
happened_to n (Server s) t = of_server s t
happened_to n Client t = of_client (without_mirror n) t
happened_to n Mirror t = []

abbrev pub step_at : (node : Node) → ComingTo node → FrameStep
step_at (Server s) c = OfServer s c
step_at Client c = OfClient c
step_at Mirror c = absurd c

-- A server's number is below the number of servers; and there is no mirror.
abbrev pub IsBelow : ℕ → Node → Type 0
IsBelow n (Server s) = s < n
IsBelow n Client = Unit {0}
IsBelow n Mirror = ⊥

-- ---- the steps of a node

pub own_step : (n : ℕ) (node : Node) (c : ComingTo node) (t : List FrameStep) → happened_to n node (step_at node c ∷ t) ≡ c ∷ happened_to n node t
own_step n (Server s) c t = let same : (s == s) ≡ true = grind (arith, nat_tests) in rw same refl
own_step n Client c t = refl
own_step n Mirror c t = absurd c

pub other_step : (n : ℕ) (node other : Node) (c : ComingTo node) (t : List FrameStep) → is_same_node node other ≡ false
    → happened_to n other (step_at node c ∷ t) ≡ happened_to n other t
other_step n (Server s) (Server r) c t h = rw h refl
other_step n (Server s) Client c t h = refl
other_step n Client (Server r) c t h = refl
other_step n Client Client c t h = cc
other_step n (Server s) Mirror c t h = refl
other_step n Client Mirror c t h = refl
other_step n Mirror other c t h = absurd c

pub node_at : (node : Node) (c : ComingTo node) → node_of (step_at node c) ≡ node
node_at (Server s) c = refl
node_at Client c = refl
node_at Mirror c = absurd c

pub opens : (n : ℕ) (node : Node) → happened_to n node [] ≡ map (coming_to node) (rules_of n node).opened
opens n (Server s) = refl
opens n Client = refl
opens n Mirror = refl

-- A step sends the frames of its entry.
pub frames_at : (n : ℕ) (node : Node) (t : List FrameStep) (past : List (EntryOf node)) (e : EntryOf node) → happened_to n node t ≡ map (coming_to node) past
    → frames_of_step (without_mirror n) t (step_at node (coming_to node e)) ≡ (rules_of n node).frames past e
frames_at n (Server s) t past e h =
    ap (λ (list : List (Coming server.Entry SaveOutcome)). frames_by (server_packets (opening_of s)) (heard (at_server s) list).entries
    (entry_of (at_server s) (heard (at_server s) list) (server_coming e))) h
frames_at n Client t past e h =
    ap (λ (list : List (Coming client.Entry SaveOutcome)). frames_by (client_packets (client_opening (without_mirror n)))
    (heard (at_client (without_mirror n)) list).entries
    (entry_of (at_client (without_mirror n)) (heard (at_client (without_mirror n)) list) (client_coming e))) h
frames_at n Mirror t past e h = absurd e

-- ---- the events of a node

-- What an event adds behind these frames: an entry, of which a step may be made.
pub record Goes (n : ℕ) (node : Node) (frames : List Frame) (past after : List (EntryOf node)) (sent : List (List ℕ)) : Type 0 where
  pub entry : EntryOf node
  pub after_is : after ≡ entry ∷ past
  pub sent_are : sent ≡ map frame_spelling ((rules_of n node).frames past entry)
  pub may : MayHappen frames (step_at node (coming_to node entry))
  pub allowed : (t : List FrameStep) → is_allowed (without_mirror n) t (step_at node (coming_to node entry)) ≡ true
  pub fits : FrameStepFits (step_at node (coming_to node entry))

pub goes : (n : ℕ) (node : Node) (frames : List Frame) (past after : List (EntryOf node)) (l : HistoryEntry) → IsBelow 8 node → CameOf frames (frame_of l.came)
    → is_left_out l.answer ≡ false
    → Ends (rules_of n node) past ((rules_of n node).asked l.came) l.answer l.sent after → Goes n node frames past after l.sent
goes n (Server s) frames past after l few came stands ends =
    let a = adds (of_servers.known (opening_of s)) past _ l.answer l.sent after stands ends in
    record {
      entry = a.entry;
      after_is = a.after_is;
      sent_are = a.sent_are;
      may = of_servers.server_happens frames (opening_of s) l.came a.entry came a.is_asked;
      allowed = λ t. refl;
      fits = of_servers.server_fits frames (opening_of s) l.came a.entry few came a.is_asked;
    }
goes n Client frames past after l few came stands ends =
    let a = adds (of_clients.known (client_opening (without_mirror n))) past _ l.answer l.sent after stands ends in
    record {
      entry = a.entry;
      after_is = a.after_is;
      sent_are = a.sent_are;
      may = of_clients.client_happens frames l.came a.entry came a.is_asked;
      allowed = λ t. of_clients.client_allowed n t l.came a.entry a.is_asked;
      fits = tt;
    }
goes n Mirror frames past after l few came stands ends = absurd few

-- Nothing has happened to a node that isn't there.
nothing : (past : List ⊥) → past ≡ []
nothing [] = refl
nothing (e ∷ past) = absurd e

pub stays : (n : ℕ) (node : Node) (past after : List (EntryOf node)) (l : HistoryEntry) → is_left_out l.answer ≡ true
    → Ends (rules_of n node) past ((rules_of n node).asked l.came) l.answer l.sent after → after ≡ past
stays n (Server s) past after l out ends = node_stays (server_words (opening_of s)) (server_core (opening_of s)) past _ l.answer l.sent after out ends
stays n Client past after l out ends = node_stays (client_words (client_opening (without_mirror n))) (client_core (client_opening (without_mirror n))) past _ l.answer l.sent after out ends
stays n Mirror past after l out ends = nothing after ∙ sym (nothing past)

-- ---- one node's history and list in place of another

abbrev pub with_history : Node → List HistoryEntry → (Node → List HistoryEntry) → Node → List HistoryEntry
with_history node h ran other = if is_same_node node other then h else ran other

abbrev pub with_list : (node : Node) → List (EntryOf node) → ((other : Node) → List (EntryOf other)) → (other : Node) → List (EntryOf other)
with_list (Server s) list past (Server r) = if s == r then list else past (Server r)
with_list (Server s) list past Client = past Client
with_list Client list past (Server r) = past (Server r)
with_list Client list past Client = list
with_list (Server s) list past Mirror = past Mirror
with_list Client list past Mirror = past Mirror
with_list Mirror list past (Server r) = past (Server r)
with_list Mirror list past Client = past Client
with_list Mirror list past Mirror = list

-- The histories make these lists.
abbrev pub AreMade : ℕ → (Node → List HistoryEntry) → ((node : Node) → List (EntryOf node)) → Type 0
AreMade n ran past = (node : Node) → Makes (rules_of n node) (ran node) (past node)

made_at : (s r : ℕ) (b : Bool) (h g : List HistoryEntry) (p q : List ServerEntry) → (s == r) ≡ b → Makes (server_rules (opening_of s)) h p
    → Makes (server_rules (opening_of r)) g q
    → Makes (server_rules (opening_of r)) (if b then h else g) (if b then p else q)
made_at s r true h g p q e here there = subst (λ i. Makes (server_rules (opening_of i)) h p) (eqb-true s r e) here
made_at s r false h g p q e here there = there

pub made_with : (n : ℕ) (node : Node) (h : List HistoryEntry) (list : List (EntryOf node)) → Makes (rules_of n node) h list
    → (ran : Node → List HistoryEntry) (past : (other : Node) → List (EntryOf other)) → AreMade n ran past
    → AreMade n (with_history node h ran) (with_list node list past)
made_with n (Server s) h list made ran past all (Server r) = made_at s r (s == r) h (ran (Server r)) list (past (Server r)) refl made (all (Server r))
made_with n (Server s) h list made ran past all Client = all Client
made_with n Client h list made ran past all (Server r) = all (Server r)
made_with n Client h list made ran past all Client = made
made_with n (Server s) h list made ran past all Mirror = all Mirror
made_with n Client h list made ran past all Mirror = all Mirror
made_with n Mirror h list made ran past all (Server r) = all (Server r)
made_with n Mirror h list made ran past all Client = all Client
made_with n Mirror h list made ran past all Mirror = made

pub own_list : (node : Node) (list : List (EntryOf node)) (past : (other : Node) → List (EntryOf other)) → with_list node list past node ≡ list
own_list (Server s) list past = let same : (s == s) ≡ true = grind (arith, nat_tests) in rw same refl
own_list Client list past = refl
own_list Mirror list past = refl

pub other_list : (node other : Node) (list : List (EntryOf node)) (past : (other : Node) → List (EntryOf other)) → is_same_node node other ≡ false
    → with_list node list past other ≡ past other
other_list (Server s) (Server r) list past h = rw h refl
other_list (Server s) Client list past h = refl
other_list Client (Server r) list past h = refl
other_list Client Client list past h = cc
other_list (Server s) Mirror list past h = refl
other_list Client Mirror list past h = refl
other_list Mirror (Server r) list past h = refl
other_list Mirror Client list past h = refl
other_list Mirror Mirror list past h = cc
