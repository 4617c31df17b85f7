-- A world in which one server has made a step.
use Rattle.std.proofs.Common.{◌≡◌, refl, sym, ◌∙◌, ap, subst, ℕ, ◌<◌, ◌==◌, ◌*◌, ◌+◌, Bool, true, false, List, [], ◌∷◌, ◌++◌, length, Some, append-nil}
use Rattle.std.specs.Prelude.{if◌then◌else◌, map, set, slice_get}
use Rattle.std.proofs.lemmas.Bool.{eqb-true, eq-eqb, false≢true}
use Rattle.std.proofs.Math.ListN.{length-set}
use Rattle.std.proofs.lemmas.List.{map-append}
use Rattle.fc_base.specs.declared.limits.TheConstants.{MAX_JOBS}
use Rattle.messages.specs.FrameBytes.{frame_spelling}
use Rattle.server_core.specs.declared.input.Input.TheVariants as inputs
use Rattle.server_core.specs.Hearing as hearing
use Rattle.server_core.specs.Hearing.{FrameEntry, coming_of}
use Rattle.net_world.specs.declared.mirror_node.MirrorSlot.{MirrorSlot}
use Rattle.net_world.specs.ServerNodes.{ServerNode}
use Rattle.net_world.specs.declared.world.World.{World}
use Rattle.net_world.specs.Setup.{Setup}
use Rattle.net_world.specs.Trace.{opening_of, client_opening}
use Rattle.net_world.specs.Frames.{FrameStep, of_server, of_mirror, frames_sent, frames_of_step, frame_entry, server_entries, client_entries}
use Rattle.net_world.specs.Changes.{Change, Met, steps}
use Rattle.net_world.specs.World.{frames}
use Rattle.net_world.specs.Sending.{sent_in}
use Rattle.net_world.specs.ServerNodes as servers
use Rattle.net_world.specs.ClientNodes as clients
use Rattle.net_world.specs.ClientNodes.{handed_in}
use Rattle.net_world.specs.Stands.{IsMirror, IsGreatest, StandsFor}
use Rattle.net_world.specs.Serving.{entries, step_of}
use Rattle.net_world.proofs.SlotLemmas.{set_there, is_set}

-- ---- the lists of frames

pub entry_again : (e : FrameEntry) → frame_entry (coming_of e) ≡ e
entry_again (hearing.Met (inputs.Deliver f) left) = refl
entry_again (hearing.Met (inputs.Issue j) left) = refl
entry_again (hearing.Met (inputs.WriteDone ticket end) left) = refl
entry_again (hearing.Met (inputs.CheckDone boot a j report) left) = refl
entry_again hearing.Cut = refl
entry_again (hearing.Restart left) = refl

by_test : (s : ℕ) (e : FrameEntry) (t : List FrameStep) (b : Bool) → b ≡ true
    → map frame_entry (if b then coming_of e ∷ of_server s t else of_server s t) ≡ e ∷ server_entries s t
by_test s e t true h = ap (λ x. x ∷ server_entries s t) (entry_again e)
by_test s e t false h = absurd cc

past_test : (r : ℕ) (e : FrameEntry) (t : List FrameStep) (b : Bool) → b ≡ false
    → map frame_entry (if b then coming_of e ∷ of_server r t else of_server r t) ≡ server_entries r t
past_test r e t true h = absurd cc
past_test r e t false h = refl

test : (s r : ℕ) → s ≡ r → (s == r) ≡ true
test s r eq = eq-eqb s r eq

pub entries_here : (s : ℕ) (e : FrameEntry) (t : List FrameStep) → server_entries s (step_of s e ∷ t) ≡ e ∷ server_entries s t
entries_here s e t = by_test s e t (s == s) (test s s refl)

pub entries_there : (s r : ℕ) (e : FrameEntry) (t : List FrameStep) → (s ≡ r → ⊥) → server_entries r (step_of s e ∷ t) ≡ server_entries r t
entries_there s r e t ne = past_test r e t (s == r) (other (s == r) (eqb-true s r))
  where
    other : (b : Bool) → (b ≡ true → s ≡ r) → b ≡ false
    other true f = absurd (ne (f refl))
    other false f = refl

-- ---- the frames

pub frames_more : (w : Setup) (past : List Change) (step : FrameStep)
    → frames w (Met step ∷ past) ≡ frames w past ++ map frame_spelling (frames_of_step w (steps past) step)
unfolding frames_sent
frames_more w past step = map-append frame_spelling (frames_sent w (steps past)) (frames_of_step w (steps past) step)

-- ---- the world

-- The nodes once that of server s was set: each of the others stands for its list as it did, and so does that.
record AreSet (s : ℕ) (node : ServerNode) (items now : List ServerNode) (was is : ℕ → List FrameEntry) : Type 0 where
  there : s < length items
  set_is : now ≡ set items s node
  node_is : servers.Stands (opening_of s) (is s) node
  others : (r : ℕ) → (s ≡ r → ⊥) → is r ≡ was r
  each : (r : ℕ) (x : ServerNode) → slice_get items r ≡ Some x → servers.Stands (opening_of r) (was r) x

set_by : (s : ℕ) (node : ServerNode) (items now : List ServerNode) (was is : ℕ → List FrameEntry) → AreSet s node items now was is
    → (r : ℕ) (x : ServerNode) → slice_get now r ≡ Some x → (b : Bool) → (b ≡ true → s ≡ r) → (s ≡ r → b ≡ true) → servers.Stands (opening_of r) (is r) x
set_by s node items now was is h r x at true eq back =
    let e : s ≡ r = eq refl in
    let here : slice_get (set items s node) s ≡ Some x = ap (λ xs. slice_get xs s) (sym h.set_is) ∙ ap (λ k. slice_get now k) e ∙ at in
    subst (λ k. servers.Stands (opening_of k) (is k) x) e (subst (λ y. servers.Stands (opening_of s) (is s) y) (is_set items s node x h.there here) h.node_is)
set_by s node items now was is h r x at false eq back =
    let ne : s ≡ r → ⊥ = λ e. false≢true (back e) in
    let there : slice_get items r ≡ Some x = sym (set_there items s r node ne) ∙ ap (λ xs. slice_get xs r) (sym h.set_is) ∙ at in
    subst (λ list. servers.Stands (opening_of r) list x) (sym (h.others r ne)) (h.each r x there)

all_set : (s : ℕ) (node : ServerNode) (items now : List ServerNode) (was is : ℕ → List FrameEntry) → AreSet s node items now was is
    → (r : ℕ) (x : ServerNode) → slice_get now r ≡ Some x → servers.Stands (opening_of r) (is r) x
all_set s node items now was is h r x at = set_by s node items now was is h r x at (s == r) (eqb-true s r) (λ e. test s r e)

-- The node of server s was set, frames were added, and all else is as it was.
pub record HasMoved (s : ℕ) (node : ServerNode) (sent : List (List ℕ)) (old new : World) : Type 0 where
  pub there : s < length old.servers.items
  pub place : ℕ
  pub place_is : place ≡ s
  pub set_is : new.servers.items ≡ set old.servers.items place node
  pub sent_is : sent_in new.sent ≡ sent_in old.sent ++ sent
  pub client_is : new.client ≡ old.client
  pub files_are : new.files ≡ old.files
  pub mirror_is : new.mirror ≡ old.mirror

-- Where none was sent, none was added.
pub none_added : {old new : List (List ℕ)} → new ≡ old → new ≡ old ++ []
none_added {old = old} same = same ∙ sym (append-nil old)

-- So it is where that node was put at its place.
pub in_place : {s place : ℕ} {node : ServerNode} {sent : List (List ℕ)} {old new : World} → s < length old.servers.items → place ≡ s
    → new.servers.items ≡ set old.servers.items place node → sent_in new.sent ≡ sent_in old.sent ++ sent
    → new.client ≡ old.client → new.files ≡ old.files → new.mirror ≡ old.mirror → HasMoved s node sent old new
in_place {place = place} there at put sent client files mirror = record {
  there = there;
  place = place;
  place_is = at;
  set_is = put;
  sent_is = sent;
  client_is = client;
  files_are = files;
  mirror_is = mirror;
}

count : (s : ℕ) (node : ServerNode) (sent : List (List ℕ)) (old new : World) → HasMoved s node sent old new
    → length new.servers.items ≡ length old.servers.items
count s node sent old new h = ap (λ (xs : List ServerNode). length xs) h.set_is ∙ length-set old.servers.items h.place node

set_at : (s : ℕ) (node : ServerNode) (sent : List (List ℕ)) (old new : World) → HasMoved s node sent old new → new.servers.items ≡ set old.servers.items s node
set_at s node sent old new h = h.set_is ∙ ap (λ i. set old.servers.items i node) h.place_is

-- Server s has made a step, for which its node stands and whose frames were added.
pub server_stepped : (w : Setup) (past : List Change) (s : ℕ) (e : FrameEntry) (node : ServerNode) (sent : List (List ℕ)) (old new : World)
    → StandsFor w past old → HasMoved s node sent old new
    → sent ≡ map frame_spelling (frames_of_step w (steps past) (step_of s e)) → servers.Stands (opening_of s) (e ∷ entries past s) node
    → StandsFor w (Met (step_of s e) ∷ past) new
server_stepped w past s e node sent old new stands h is node_is = record {
  some = stands.some;
  few = stands.few;
  number = count s node sent old new h ∙ stands.number;
  sent_is = h.sent_is ∙ ap (λ fs. fs ++ sent) stands.sent_is ∙ ap (λ fs. frames w past ++ fs) is ∙ sym (frames_more w past (step_of s e));
  servers_are =
      all_set s node old.servers.items new.servers.items (entries past) (entries (Met (step_of s e) ∷ past))
      (record {
        there = h.there;
        set_is = set_at s node sent old new h;
        node_is = subst (λ list. servers.Stands (opening_of s) list node) (sym (entries_here s e (steps past))) node_is;
        others = λ r ne. entries_there s r e (steps past) ne;
        each = stands.servers_are;
      });
  client_is = subst (λ c. clients.Stands (client_opening w) (client_entries w (steps past)) c) (sym h.client_is) stands.client_is;
  mirror_is = subst (λ (m : MirrorSlot). IsMirror w (of_mirror (steps past)) m.node) (sym h.mirror_is) stands.mirror_is;
  greatest_is = subst (λ (m : MirrorSlot). IsGreatest m.greatest (handed_in (client_entries w (steps past)))) (sym h.mirror_is) stands.greatest_is;
  files = ap (λ fs. length fs.items) h.files_are ∙ stands.files;
  files_are = λ r j disk l at. stands.files_are r j disk l (ap (λ fs. slice_get fs.items (MAX_JOBS * r + j)) (sym h.files_are) ∙ at);
}

-- The node of server s stands for what it did, and nothing was sent.
pub server_kept : (w : Setup) (past : List Change) (s : ℕ) (node : ServerNode) (old new : World) → StandsFor w past old → HasMoved s node [] old new
    → servers.Stands (opening_of s) (entries past s) node → StandsFor w past new
server_kept w past s node old new stands h node_is = record {
  some = stands.some;
  few = stands.few;
  number = count s node [] old new h ∙ stands.number;
  sent_is = h.sent_is ∙ append-nil (sent_in old.sent) ∙ stands.sent_is;
  servers_are =
      all_set s node old.servers.items new.servers.items (entries past) (entries past)
      (record { there = h.there; set_is = set_at s node [] old new h; node_is = node_is; others = λ r ne. refl; each = stands.servers_are });
  client_is = subst (λ c. clients.Stands (client_opening w) (client_entries w (steps past)) c) (sym h.client_is) stands.client_is;
  mirror_is = subst (λ (m : MirrorSlot). IsMirror w (of_mirror (steps past)) m.node) (sym h.mirror_is) stands.mirror_is;
  greatest_is = subst (λ (m : MirrorSlot). IsGreatest m.greatest (handed_in (client_entries w (steps past)))) (sym h.mirror_is) stands.greatest_is;
  files = ap (λ fs. length fs.items) h.files_are ∙ stands.files;
  files_are = λ r j disk l at. stands.files_are r j disk l (ap (λ fs. slice_get fs.items (MAX_JOBS * r + j)) (sym h.files_are) ∙ at);
}
