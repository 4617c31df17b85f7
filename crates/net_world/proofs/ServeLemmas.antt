-- What a step of a server's node comes to in a world.
use Rattle.std.proofs.Common.{◌≡◌, refl, sym, ◌∙◌, ap, subst, inl, inr, ◌⊎◌, ℕ, ◌<◌, ◌≤◌, ◌+◌, ◌*◌, arith}
use Rattle.std.proofs.Common.{Bool, true, false, List, [], length, Option, Some, None, Result, Ok, Err}
use Rattle.std.specs.Prelude.{map, nat_lt, slice_get, get_or, Vec}
use Rattle.std.specs.declared.alloc.Global.{Global}
use Rattle.disk_model.specs.declared.mem_disk.MemDisk.{MemDisk}
use Rattle.std.specs.List.{flat_map}
use Rattle.std.specs.Option.{option_or}
use Rattle.std.proofs.lemmas.List.{length-map}
use Rattle.std.proofs.lemmas.Option.{slice_get_read}
use Rattle.std.proofs.lemmas.Bool.{lt-ltb, le-ltb, ltb-true, ltb-false}
use Rattle.fc_base.specs.declared.limits.TheConstants.{MAX_JOBS}
use Rattle.fc_base.specs.declared.fault.Fault.{Fault}
use Rattle.fc_base.specs.declared.fault.Fault.TheVariants.{NoServer, NodeOff, NoMemory}
use Rattle.fc_base.specs.declared.fault.FaultSort.{FaultSort}
use Rattle.fc_base.specs.declared.fault.FaultSort.TheVariants as sorts
use Rattle.fc_base.specs.Fault.{sort_of}
use Rattle.disk_model.specs.declared.save_outcome.SaveOutcome.TheVariants.{NoSave}
use Rattle.messages.specs.FrameBytes.{frame_spelling}
use Rattle.messages.specs.declared.node.Node.TheVariants as nodes
use Rattle.messages.specs.declared.body.Body.{Body}
use Rattle.messages.specs.declared.refusal.Act.{Act}
use Rattle.messages.specs.Pieces.{frames_of}
use Rattle.messages.specs.Hearing.{Heard, frames_by}
use Rattle.messages.specs.Senses.{refusal_of_sense, Sense, Hears, Keeps, Drops, Misses}
use Rattle.messages.proofs.SenseLemmas.{entry_by, entry_is}
use Rattle.server_core.specs.Inputs.{PacketInput, FrameInput}
use Rattle.server_core.specs.declared.outs.Outs.{Outs}
use Rattle.server_core.specs.History as server
use Rattle.server_core.specs.Request.{request_of}
use Rattle.server_core.specs.Replies.{replies}
use Rattle.server_core.specs.Answers as packet_answers
use Rattle.server_core.specs.Answers.{to_client, sent_by}
use Rattle.server_core.specs.Words as words
use Rattle.server_core.specs.Hearing.{FrameEntry, Met, rules, heard_at, coming_of, packets_heard, arrival, is_up}
use Rattle.server_core.specs.FrameAnswers as answers
use Rattle.net_world.specs.declared.told.Told.{Told}
use Rattle.net_world.specs.declared.told.WorldAnswer.{WorldAnswer}
use Rattle.net_world.specs.declared.mirror_node.MirrorSlot.{MirrorSlot}
use Rattle.net_world.specs.ServerNodes.{ServerNode}
use Rattle.net_world.specs.declared.world.World.{World}
use Rattle.net_world.specs.Setup.{Setup}
use Rattle.net_world.specs.Trace.{of_server, opening_of, client_opening}
use Rattle.net_world.specs.Frames.{frames_sent, frames_of_step, client_entries, of_mirror}
use Rattle.net_world.specs.Changes.{Change, steps, trace}
use Rattle.net_world.specs.Barred.{unless_on, is_on, unless}
use Rattle.net_world.specs.World.{frames, answer_of_issue}
use Rattle.net_world.specs.Sending.{sent_in}
use Rattle.net_world.specs.Nodes as any_node
use Rattle.net_world.specs.ServerNodes.{server_nodes, Stands}
use Rattle.net_world.specs.ClientNodes as clients
use Rattle.net_world.specs.ClientNodes.{handed_in}
use Rattle.net_world.specs.Stands.{IsMirror, IsGreatest, StandsFor}
use Rattle.net_world.specs.Serving.{entries, step_of, step_by, Serves, IsBarred, Refuses, Faults, ServerEnds}
use Rattle.net_world.proofs.HearingLemmas.{nodes_hear_their_own}
use Rattle.net_world.proofs.NodeLemmas.{unchanged}
use Rattle.net_world.proofs.StandLemmas.{servers_stand}
use Rattle.net_world.proofs.MetLemmas.{entry_again, HasMoved, server_stepped, server_kept}

-- ---- a server's list, in frames and in packets

pub heard_is : (w : Setup) (past : List Change) (s : ℕ) → packets_heard (opening_of s) (entries past s) ≡ of_server s (trace w past)
heard_is w past s =
    ap (λ (h : Heard server.Entry). h.entries) (servers_stand w s (steps past)).hears ∙ sym ((nodes_hear_their_own w (steps past)).servers s)

pub up_is : (w : Setup) (past : List Change) (s : ℕ) → is_up (opening_of s) (entries past s) ≡ is_on w (trace w past) (nodes.Server s)
up_is w past s = ap words.is_on (heard_is w past s)

-- The frames of an entry are those of its step.
pub frames_are : (w : Setup) (past : List Change) (s : ℕ) (e : FrameEntry)
    → answers.frames (opening_of s) (entries past s) e ≡ frames_of_step w (steps past) (step_of s e)
frames_are w past s e =
    ap (answers.frames (opening_of s) (entries past s)) (sym (entry_again e)) ∙ (servers_stand w s (steps past)).sends (coming_of e)

-- ---- whether there is such a server, and whether it is on

tests_pass : (a b : Bool) (f g : Fault) → a ≡ true → b ≡ true → option_or (unless a f) (unless b g) ≡ None
tests_pass a b f g h k = rw (h, k) refl

pub first_fails : (a b : Bool) (f g : Fault) → a ≡ false → option_or (unless a f) (unless b g) ≡ Some f
first_fails a b f g h = rw h refl

second_fails : (a b : Bool) (f g : Fault) → a ≡ true → b ≡ false → option_or (unless a f) (unless b g) ≡ Some g
second_fails a b f g h k = rw (h, k) refl

pub none_there : (w : Setup) (past : List Change) (s : ℕ) → w.servers ≤ s → unless_on w (trace w past) (nodes.Server s) ≡ Some NoServer
none_there w past s h = first_fails (nat_lt s w.servers) (is_on w (trace w past) (nodes.Server s)) NoServer NodeOff (le-ltb s w.servers h)

pub is_off : (w : Setup) (past : List Change) (s : ℕ) → s < w.servers → is_up (opening_of s) (entries past s) ≡ false
    → unless_on w (trace w past) (nodes.Server s) ≡ Some NodeOff
is_off w past s l h =
    second_fails (nat_lt s w.servers) (is_on w (trace w past) (nodes.Server s)) NoServer NodeOff (lt-ltb s w.servers l) (sym (up_is w past s) ∙ h)

pub is_there : (w : Setup) (past : List Change) (s : ℕ) → s < w.servers → is_up (opening_of s) (entries past s) ≡ true
    → unless_on w (trace w past) (nodes.Server s) ≡ None
is_there w past s l h =
    tests_pass (nat_lt s w.servers) (is_on w (trace w past) (nodes.Server s)) NoServer NodeOff (lt-ltb s w.servers l) (sym (up_is w past s) ∙ h)

-- ---- frames are counted

count_frames : (w : Setup) (past : List Change) (sent : List (List ℕ)) → sent ≡ frames w past → length sent ≡ length (frames_sent w (steps past))
count_frames w past sent h = ap (λ (fs : List (List ℕ)). length fs) h ∙ length-map (frames_sent w (steps past)) frame_spelling

pub first_is : (w : Setup) (past : List Change) (now : World) → StandsFor w past now → length (sent_in now.sent) ≡ length (frames_sent w (steps past))
first_is w past now stands = count_frames w past (sent_in now.sent) stands.sent_is

-- ---- what is refused sends nothing

none_sent : (me : ℕ) (lost : Bool) (x : Option Fault) (fault : Fault) (bodies : List Body) → x ≡ Some fault
    → flat_map frames_of (to_client me (sent_by lost x bodies)) ≡ []
none_sent me lost x fault bodies h = rw h refl

event_sends : (o : server.Opening) (list : List server.Entry) (e : PacketInput) (fault : Fault) → packet_answers.refusal o list e ≡ Some fault
    → frames_by (packet_answers.packets o) list (Some (server.Met e NoSave)) ≡ []
event_sends o list e fault h = none_sent o.me false (packet_answers.refusal o list e) fault (replies (packet_answers.now o list) (request_of o.me e)) h

sense_sends : (o : server.Opening) (list : List server.Entry) (x : Sense PacketInput) (fault : Fault) → refusal_of_sense (rules o) list x ≡ Some fault
    → frames_by (packet_answers.packets o) list (entry_by (rules o) NoSave x) ≡ []
sense_sends o list (Hears e) fault h = event_sends o list e fault h
sense_sends o list Keeps fault h = refl
sense_sends o list Drops fault h = refl
sense_sends o list Misses fault h = refl

refused_sends : (o : server.Opening) (past : List FrameEntry) (e : FrameInput) (fault : Fault) → answers.refusal o past e ≡ Some fault
    → answers.frames o past (Met e NoSave) ≡ []
refused_sends o past e fault h =
    ap (frames_by (packet_answers.packets o) (packets_heard o past)) (entry_is (rules o) (heard_at o past) (arrival e) NoSave)
    ∙ sense_sends o (packets_heard o past) (answers.sense o past e) fault h

-- ---- the world behind what comes to a server

-- What came to the node of server s in a world, and what the world is then.
pub record HasServed (s : ℕ) (e : FrameInput) (result : Result Outs Fault) (sent : List (List ℕ)) (old new : World) : Type 0 where
  pub was : ServerNode
  pub node : ServerNode
  pub was_is : slice_get old.servers.items s ≡ Some was
  pub stepped : (o : server.Opening) (past : List FrameEntry) → Stands o past was → any_node.Ends (server_nodes o) past e node result
  pub moved : HasMoved s node sent old new

-- This is told of what a step hands out, behind the frames that were sent.
pub record IsOf (sent : List (List ℕ)) (outs : Outs) (told : Told) : Type 0 where
  pub answer : told.answer ≡ answer_of_issue outs.issue
  pub first : told.first ≡ length sent
  pub sent_is : told.sent ≡ length outs.frames
  pub act : told.act ≡ outs.act

-- What is told is all that is said of it.
pub same_told : (t : Told) (answer : WorldAnswer) (first sent : ℕ) (act : Act) → t.answer ≡ answer → t.first ≡ first → t.sent ≡ sent → t.act ≡ act
    → t ≡ record { answer = answer; first = first; sent = sent; act = act }
same_told t answer first sent act a f s x = rw (sym a, sym f, sym s, sym x) refl

pub serve_ends : (w : Setup) (past : List Change) (s : ℕ) (e : FrameInput) (outs : Outs) (told : Told) (old new : World) → StandsFor w past old
    → HasServed s e (Ok outs) outs.frames old new → IsOf (sent_in old.sent) outs told
    → Serves w past s e new told
serve_ends w past s e outs told old new stands h is =
    let o = opening_of s in
    let es = entries past s in
    let a = h.stepped o es (stands.servers_are s h.was h.was_is) in
    let l : s < w.servers = omega (arith, h.moved.there, stands.number) in
    let same = frames_are w past s (answers.answered_entry o es e) in
    let sent : outs.frames ≡ map frame_spelling (frames_of_step w (steps past) (step_by past s e)) = a.sends.frames_are ∙ ap (map frame_spelling) same in
    record {
      on = is_there w past s l a.on;
      free = a.free;
      told_is = same_told told _ _ _ _ (is.answer ∙ ap answer_of_issue a.sends.issue_is) (is.first ∙ first_is w past old stands)
          (is.sent_is ∙ ap (λ (fs : List (List ℕ)). length fs) sent ∙ length-map (frames_of_step w (steps past) (step_by past s e)) frame_spelling)
          (is.act ∙ a.sends.act_is);
      stands = server_stepped w past s (answers.answered_entry o es e) h.node outs.frames old new stands h.moved sent a.stands;
    }

refused : (w : Setup) (past : List Change) (s : ℕ) (e : FrameInput) (fault : Fault) (old new : World) → StandsFor w past old
    → (h : HasServed s e (Err fault) [] old new) → s < w.servers
    → any_node.IsOff (server_nodes (opening_of s)) (entries past s) fault h.node
    ⊎ any_node.Refuses (server_nodes (opening_of s)) (entries past s) e fault h.node
    → IsBarred w past s fault new ⊎ Refuses w past s e fault new
refused w past s e fault old new stands h l (inl off) =
    inl (record { why = is_off w past s l off.off ∙ ap Some (sym off.why); unchanged = server_kept w past s h.node old new stands h.moved off.unchanged })
refused w past s e fault old new stands h l (inr r) =
    let nothing : [] ≡ map frame_spelling (frames_of_step w (steps past) (step_of s (Met e NoSave))) =
    ap (map frame_spelling) (sym (refused_sends (opening_of s) (entries past s) e fault r.why) ∙ frames_are w past s (Met e NoSave)) in
    inr (record {
      on = is_there w past s l r.on;
      why = r.why;
      stands = server_stepped w past s (Met e NoSave) h.node [] old new stands h.moved nothing r.stands;
      unchanged = λ d. server_kept w past s h.node old new stands h.moved (unchanged (server_nodes (opening_of s)) (entries past s) e h.node r.unchanged r.on (λ core same. same d));
    })

by_sort : (w : Setup) (past : List Change) (s : ℕ) (e : FrameInput) (fault : Fault) (old new : World) → StandsFor w past old
    → (h : HasServed s e (Err fault) [] old new) → s < w.servers
    → (sort : FaultSort) → any_node.Faults (server_nodes (opening_of s)) (entries past s) e sort fault h.node → Faults w past s e sort fault new
by_sort w past s e fault old new stands h l sorts.Memory f = (f.0, server_kept w past s h.node old new stands h.moved f.1)
by_sort w past s e fault old new stands h l sorts.Save f = f
by_sort w past s e fault old new stands h l sorts.Refusal f = refused w past s e fault old new stands h l f

pub serve_fails : (w : Setup) (past : List Change) (s : ℕ) (e : FrameInput) (fault : Fault) (old new : World) → StandsFor w past old
    → HasServed s e (Err fault) [] old new
    → ServerEnds w past s e new (Err fault)
serve_fails w past s e fault old new stands h =
    let l : s < w.servers = omega (arith, h.moved.there, stands.number) in
    by_sort w past s e fault old new stands h l (sort_of fault) (h.stepped (opening_of s) (entries past s) (stands.servers_are s h.was h.was_is))

-- ---- nothing comes of it

-- There is no such server.
pub none_serves : (w : Setup) (past : List Change) (s : ℕ) (e : FrameInput) (now : World) → StandsFor w past now → nat_lt s (length now.servers.items) ≡ false
    → ServerEnds w past s e now (Err NoServer)
none_serves w past s e now stands h =
    let l : w.servers ≤ s = omega (arith, stands.number, ltb-false s (length now.servers.items) h) in
    inl (record { why = none_there w past s l; unchanged = stands })

-- All but the frames' places in memory is as it was.
pub settled : (w : Setup) (past : List Change) (old new : World) → StandsFor w past old → sent_in new.sent ≡ sent_in old.sent → new.servers ≡ old.servers
    → new.client ≡ old.client → new.files ≡ old.files → new.mirror ≡ old.mirror → StandsFor w past new
settled w past old new stands sent servers client files mirror = record {
  some = stands.some;
  few = stands.few;
  number = ap (λ (v : Vec ServerNode Global). length v.items) servers ∙ stands.number;
  sent_is = sent ∙ stands.sent_is;
  servers_are = λ s node at. stands.servers_are s node (ap (λ (v : Vec ServerNode Global). slice_get v.items s) (sym servers) ∙ at);
  client_is = subst (λ x. clients.Stands (client_opening w) (client_entries w (steps past)) x) (sym client) stands.client_is;
  mirror_is = subst (λ (m : MirrorSlot). IsMirror w (of_mirror (steps past)) m.node) (sym mirror) stands.mirror_is;
  greatest_is = subst (λ (m : MirrorSlot). IsGreatest m.greatest (handed_in (client_entries w (steps past)))) (sym mirror) stands.greatest_is;
  files = ap (λ (v : Vec MemDisk Global). length v.items) files ∙ stands.files;
  files_are = λ s j disk l at. stands.files_are s j disk l (ap (λ (v : Vec MemDisk Global). slice_get v.items (MAX_JOBS * s + j)) (sym files) ∙ at);
}

-- Memory has run out.
pub lacks : (w : Setup) (past : List Change) (s : ℕ) (e : FrameInput) (old new : World) → StandsFor w past old → sent_in new.sent ≡ sent_in old.sent
    → new.servers ≡ old.servers → new.client ≡ old.client → new.files ≡ old.files
    → new.mirror ≡ old.mirror → ServerEnds w past s e new (Err NoMemory)
lacks w past s e old new stands sent servers client files mirror = (refl, settled w past old new stands sent servers client files mirror)

-- What was read at the place of server s.
pub node_at : {X : Type 0} (xs : List X) (s place : ℕ) (x : X) → place ≡ s → s < length xs → x ≡ get_or xs place x → slice_get xs s ≡ Some x
node_at xs s place x is l h = slice_get_read xs (length xs) s x refl l (h ∙ ap (λ i. get_or xs i x) is)

-- A server that is on is there.
pub on_below : (w : Setup) (past : List Change) (s : ℕ) → unless_on w (trace w past) (nodes.Server s) ≡ None → s < w.servers
on_below w past s h = by_test (nat_lt s w.servers) refl
  where
    by_test : (b : Bool) → nat_lt s w.servers ≡ b → s < w.servers
    by_test true e = ltb-true s w.servers e
    by_test false e = absurd (some_none (sym (first_fails (nat_lt s w.servers) (is_on w (trace w past) (nodes.Server s)) NoServer NodeOff e) ∙ h))
      where
        some_none : Some NoServer ≡ None → ⊥
        some_none e = cc

-- A server that is on is up by its list.
pub up_of : (w : Setup) (past : List Change) (s : ℕ) → unless_on w (trace w past) (nodes.Server s) ≡ None → is_up (opening_of s) (entries past s) ≡ true
up_of w past s h = up_is w past s ∙ by_test (is_on w (trace w past) (nodes.Server s)) refl
  where
    by_test : (b : Bool) → is_on w (trace w past) (nodes.Server s) ≡ b → is_on w (trace w past) (nodes.Server s) ≡ true
    by_test true e = e
    by_test false e = absurd (some_none (sym (second_fails (nat_lt s w.servers) (is_on w (trace w past) (nodes.Server s)) NoServer NodeOff
        (lt-ltb s w.servers (on_below w past s h)) e) ∙ h))
      where
        some_none : Some NodeOff ≡ None → ⊥
        some_none e = cc
