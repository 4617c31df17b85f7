-- What a call of the client comes to in a world.
use Rattle.std.proofs.Common.{◌≡◌, refl, sym, ◌∙◌, ap, subst, inl, inr, ◌⊎◌, ℕ, ◌+◌, ◌*◌, true, false}
use Rattle.std.proofs.Common.{List, [], ◌∷◌, ◌++◌, length, Option, Some, None, Result, Ok, Err, append-nil}
use Rattle.std.specs.Prelude.{map, slice_get, Vec}
use Rattle.std.specs.declared.alloc.Global.{Global}
use Rattle.std.proofs.lemmas.List.{length-map}
use Rattle.fc_base.specs.declared.limits.TheConstants.{MAX_JOBS}
use Rattle.fc_base.specs.declared.fault.Fault.{Fault}
use Rattle.fc_base.specs.declared.fault.Fault.TheVariants.{NodeOff}
use Rattle.fc_base.specs.declared.fault.FaultSort.{FaultSort}
use Rattle.fc_base.specs.declared.fault.FaultSort.TheVariants as sorts
use Rattle.fc_base.specs.Fault.{sort_of}
use Rattle.disk_model.specs.declared.save_outcome.SaveOutcome.TheVariants.{NoSave}
use Rattle.disk_model.specs.declared.mem_disk.MemDisk.{MemDisk}
use Rattle.messages.specs.FrameBytes.{frame_spelling}
use Rattle.messages.specs.declared.node.Node.TheVariants.{Client}
use Rattle.messages.specs.Hearing.{frames_by}
use Rattle.messages.specs.Senses.{refusal_of_sense, Sense, Hears, Keeps, Drops, Misses}
use Rattle.messages.proofs.SenseLemmas.{entry_by, entry_is}
use Rattle.client_core.specs.Inputs.{PacketInput, FrameInput}
use Rattle.client_core.specs.History as client
use Rattle.client_core.specs.Words as words
use Rattle.client_core.specs.Packets.{packets}
use Rattle.client_core.specs.Hearing.{FrameEntry, Met, rules, heard_at, packets_heard, arrival, is_up}
use Rattle.client_core.specs.FrameAnswers as answers
use Rattle.client_core.specs.declared.outs.Outs.{Outs}
use Rattle.client_core.specs.declared.outs.Answer.{Answer}
use Rattle.client_core.specs.Answers as core
use Rattle.net_world.specs.ClientAnswers.{world_answer}
use Rattle.net_world.specs.MirrorNodes.{MirrorNode}
use Rattle.net_world.specs.declared.mirror_node.MirrorSlot.{MirrorSlot}
use Rattle.net_world.specs.ServerNodes.{ServerNode}
use Rattle.messages.specs.declared.refusal.Act.TheVariants as acts
use Rattle.net_world.specs.declared.told.Told.{Told}
use Rattle.net_world.specs.declared.world.World.{World}
use Rattle.net_world.specs.Setup.{Setup}
use Rattle.net_world.specs.Trace.{client_opening}
use Rattle.net_world.specs.Frames.{frames_sent, frames_of_step, client_entries, of_mirror}
use Rattle.net_world.specs.Changes as changes
use Rattle.net_world.specs.Changes.{Change, steps, trace}
use Rattle.net_world.specs.Barred.{unless_on, is_on, unless}
use Rattle.net_world.specs.World.{frames}
use Rattle.net_world.specs.Sending.{sent_in}
use Rattle.net_world.specs.Nodes as any_node
use Rattle.net_world.specs.ClientNodes as nodes
use Rattle.net_world.specs.ClientNodes.{client_nodes, handed_in}
use Rattle.net_world.specs.Stands.{IsMirror, IsGreatest, StandsFor}
use Rattle.net_world.specs.Asking.{entries, step_of, step_by, told_of, IsBarred, Refuses, Faults, ClientEnds}
use Rattle.net_world.proofs.ClientHeardLemmas.{heard_is, frames_are, entry_again}
use Rattle.net_world.proofs.NodeLemmas.{unchanged}
use Rattle.net_world.proofs.MetLemmas.{frames_more, none_added}
use Rattle.net_world.proofs.ServeLemmas.{first_is}

-- ---- whether the client is on

pub up_is : (w : Setup) (past : List Change) → is_up (client_opening w) (entries w past) ≡ is_on w (trace w past) Client
up_is w past = ap words.is_on (heard_is w past)

is_there : (w : Setup) (past : List Change) → is_up (client_opening w) (entries w past) ≡ true → unless_on w (trace w past) Client ≡ None
is_there w past h = ap (λ on. unless on NodeOff) (sym (up_is w past) ∙ h)

is_off : (w : Setup) (past : List Change) → is_up (client_opening w) (entries w past) ≡ false → unless_on w (trace w past) Client ≡ Some NodeOff
is_off w past h = ap (λ on. unless on NodeOff) (sym (up_is w past) ∙ h)

-- ---- what is refused sends nothing

none_sent : (o : client.Opening) (list : List client.Entry) (c : PacketInput) (fault : Fault) → words.refusal o list c ≡ Some fault
    → frames_by (packets o) list (Some (client.Met c NoSave)) ≡ []
none_sent o list c fault h = rw h refl

sense_sends : (o : client.Opening) (list : List client.Entry) (x : Sense PacketInput) (fault : Fault) → refusal_of_sense (rules o) list x ≡ Some fault
    → frames_by (packets o) list (entry_by (rules o) NoSave x) ≡ []
sense_sends o list (Hears c) fault h = none_sent o list c fault h
sense_sends o list Keeps fault h = refl
sense_sends o list Drops fault h = refl
sense_sends o list Misses fault h = refl

refused_sends : (o : client.Opening) (past : List FrameEntry) (e : FrameInput) (fault : Fault) → answers.refusal o past e ≡ Some fault
    → answers.frames o past (Met e NoSave) ≡ []
refused_sends o past e fault h =
    ap (frames_by (packets o) (packets_heard o past)) (entry_is (rules o) (heard_at o past) (arrival e) NoSave)
    ∙ sense_sends o (packets_heard o past) (answers.sense o past e) fault h

-- ---- the world behind a call

-- Frames were added, and all but the client is as it was.
pub record HasMoved (sent : List (List ℕ)) (old new : World) : Type 0 where
  pub sent_is : sent_in new.sent ≡ sent_in old.sent ++ sent
  pub servers_are : new.servers ≡ old.servers
  pub files_are : new.files ≡ old.files
  pub mirror_is : new.mirror ≡ old.mirror

-- So it is where none was sent.
pub nothing_sent : {old new : World} → sent_in new.sent ≡ sent_in old.sent → new.servers ≡ old.servers → new.files ≡ old.files → new.mirror ≡ old.mirror
    → HasMoved [] old new
nothing_sent sent servers files mirror = record { sent_is = none_added sent; servers_are = servers; files_are = files; mirror_is = mirror }

-- Frames were added, and all but the client and its generation is as it was.
pub record HasPassed (sent : List (List ℕ)) (old new : World) : Type 0 where
  pub sent_is : sent_in new.sent ≡ sent_in old.sent ++ sent
  pub servers_are : new.servers ≡ old.servers
  pub files_are : new.files ≡ old.files
  pub node_is : new.mirror.node ≡ old.mirror.node

-- The client was asked, and the world has moved.
pub record HasAsked (e : FrameInput) (result : Result Outs Fault) (sent : List (List ℕ)) (old new : World) : Type 0 where
  pub asks : (o : client.Opening) (past : List FrameEntry) → nodes.Stands o past old.client → nodes.Asks o past e new.client result
  pub moved : HasMoved sent old new

-- The client has made a step, for which its node stands and whose frames were added.
pub client_passed : (w : Setup) (past : List Change) (e : FrameEntry) (sent : List (List ℕ)) (old new : World) → StandsFor w past old → HasPassed sent old new
    → sent ≡ map frame_spelling (frames_of_step w (steps past) (step_of e)) → nodes.Stands (client_opening w) (e ∷ entries w past) new.client
    → IsGreatest new.mirror.greatest (handed_in (e ∷ entries w past)) → StandsFor w (changes.Met (step_of e) ∷ past) new
client_passed w past e sent old new stands h is node_is greatest = record {
  some = stands.some;
  few = stands.few;
  number = ap (λ (v : Vec ServerNode Global). length v.items) h.servers_are ∙ stands.number;
  sent_is = h.sent_is ∙ ap (λ fs. fs ++ sent) stands.sent_is ∙ ap (λ fs. frames w past ++ fs) is ∙ sym (frames_more w past (step_of e));
  servers_are = λ s node at. stands.servers_are s node (ap (λ (v : Vec ServerNode Global). slice_get v.items s) (sym h.servers_are) ∙ at);
  client_is = subst (λ x. nodes.Stands (client_opening w) (x ∷ entries w past) new.client) (sym (entry_again e)) node_is;
  mirror_is = subst (λ (m : Option MirrorNode). IsMirror w (of_mirror (steps past)) m) (sym h.node_is) stands.mirror_is;
  greatest_is = subst (λ x. IsGreatest new.mirror.greatest (handed_in (x ∷ entries w past))) (sym (entry_again e)) greatest;
  files = ap (λ (v : Vec MemDisk Global). length v.items) h.files_are ∙ stands.files;
  files_are = λ s j disk l at. stands.files_are s j disk l (ap (λ (v : Vec MemDisk Global). slice_get v.items (MAX_JOBS * s + j)) (sym h.files_are) ∙ at);
}

-- A step that hands in no generation.
pub client_stepped : (w : Setup) (past : List Change) (e : FrameEntry) (sent : List (List ℕ)) (old new : World) → StandsFor w past old → HasMoved sent old new
    → sent ≡ map frame_spelling (frames_of_step w (steps past) (step_of e)) → nodes.Stands (client_opening w) (e ∷ entries w past) new.client
    → handed_in (e ∷ entries w past) ≡ handed_in (entries w past) → StandsFor w (changes.Met (step_of e) ∷ past) new
client_stepped w past e sent old new stands h is node_is none =
    client_passed w past e sent old new stands
    (record { sent_is = h.sent_is; servers_are = h.servers_are; files_are = h.files_are; node_is = ap (λ (m : MirrorSlot). m.node) h.mirror_is })
    is node_is
    (subst (IsGreatest new.mirror.greatest) (sym none) (subst (λ (m : MirrorSlot). IsGreatest m.greatest (handed_in (entries w past)))
    (sym h.mirror_is) stands.greatest_is))

-- The client stands for what it did, and nothing was sent.
pub client_kept : (w : Setup) (past : List Change) (old new : World) → StandsFor w past old → HasMoved [] old new
    → nodes.Stands (client_opening w) (entries w past) new.client → StandsFor w past new
client_kept w past old new stands h node_is = record {
  some = stands.some;
  few = stands.few;
  number = ap (λ (v : Vec ServerNode Global). length v.items) h.servers_are ∙ stands.number;
  sent_is = h.sent_is ∙ append-nil (sent_in old.sent) ∙ stands.sent_is;
  servers_are = λ s node at. stands.servers_are s node (ap (λ (v : Vec ServerNode Global). slice_get v.items s) (sym h.servers_are) ∙ at);
  client_is = node_is;
  mirror_is = subst (λ (m : MirrorSlot). IsMirror w (of_mirror (steps past)) m.node) (sym h.mirror_is) stands.mirror_is;
  greatest_is = subst (λ (m : MirrorSlot). IsGreatest m.greatest (handed_in (client_entries w (steps past)))) (sym h.mirror_is) stands.greatest_is;
  files = ap (λ (v : Vec MemDisk Global). length v.items) h.files_are ∙ stands.files;
  files_are = λ s j disk l at. stands.files_are s j disk l (ap (λ (v : Vec MemDisk Global). slice_get v.items (MAX_JOBS * s + j)) (sym h.files_are) ∙ at);
}

same_told : (first first' sent' : ℕ) (asked : Outs) (answer : Answer) → first ≡ first' → length asked.frames ≡ sent' → asked.answer ≡ answer
    → told_of first asked ≡ record { answer = world_answer answer; first = first'; sent = sent'; act = acts.None }
same_told first first' sent' asked answer f k a = rw (f, k, a) refl

-- It is answered.
pub answered : (w : Setup) (past : List Change) (e : FrameInput) (asked : Outs) (first : ℕ) (told : Told) (old new : World) → StandsFor w past old
    → HasAsked e (Ok asked) asked.frames old new
    → first ≡ length (sent_in old.sent) → told ≡ told_of first asked → ClientEnds w past e new (Ok told)
answered w past e asked first told old new stands h is tells =
    let o = client_opening w in
    let es = entries w past in
    let a = h.asks o es stands.client_is in
    let sent : asked.frames ≡ map frame_spelling (frames_of_step w (steps past) (step_by w past e)) =
    a.1.sends.frames_are ∙ ap (map frame_spelling) (frames_are w past (answers.answered_entry o es e)) in
    record {
      on = is_there w past a.1.on;
      free = a.1.free;
      told_is =
          tells
          ∙ same_told first (length (frames_sent w (steps past))) (length (frames_of_step w (steps past) (step_by w past e))) asked (core.answer_to o es e)
          (is ∙ first_is w past old stands)
          (ap (λ (fs : List (List ℕ)). length fs) sent ∙ length-map (frames_of_step w (steps past) (step_by w past e)) frame_spelling)
          a.0;
      stands = client_stepped w past (answers.answered_entry o es e) asked.frames old new stands h.moved sent a.1.stands refl;
    }

refused : (w : Setup) (past : List Change) (e : FrameInput) (fault : Fault) (old new : World) → StandsFor w past old → HasAsked e (Err fault) [] old new
    → any_node.IsOff (client_nodes (client_opening w)) (entries w past) fault new.client
    ⊎ any_node.Refuses (client_nodes (client_opening w)) (entries w past) e fault new.client
    → IsBarred w past fault new ⊎ Refuses w past e fault new
refused w past e fault old new stands h (inl off) =
    inl (record { why = is_off w past off.off ∙ ap Some (sym off.why); unchanged = client_kept w past old new stands h.moved off.unchanged })
refused w past e fault old new stands h (inr r) =
    let nothing : [] ≡ map frame_spelling (frames_of_step w (steps past) (step_of (Met e NoSave))) =
    ap (map frame_spelling) (sym (refused_sends (client_opening w) (entries w past) e fault r.why) ∙ frames_are w past (Met e NoSave)) in
    inr (record {
      on = is_there w past r.on;
      why = r.why;
      stands = client_stepped w past (Met e NoSave) [] old new stands h.moved nothing r.stands refl;
      unchanged = λ d. client_kept w past old new stands h.moved (unchanged (client_nodes (client_opening w)) (entries w past) e new.client r.unchanged r.on (λ core same. same d));
    })

by_sort : (w : Setup) (past : List Change) (e : FrameInput) (fault : Fault) (old new : World) → StandsFor w past old → HasAsked e (Err fault) [] old new
    → (sort : FaultSort) → any_node.Faults (client_nodes (client_opening w)) (entries w past) e sort fault new.client → Faults w past e sort fault new
by_sort w past e fault old new stands h sorts.Memory f = (f.0, client_kept w past old new stands h.moved f.1)
by_sort w past e fault old new stands h sorts.Save f = f
by_sort w past e fault old new stands h sorts.Refusal f = refused w past e fault old new stands h f

-- It isn't answered.
pub unanswered : (w : Setup) (past : List Change) (e : FrameInput) (fault : Fault) (old new : World) → StandsFor w past old → HasAsked e (Err fault) [] old new
    → ClientEnds w past e new (Err fault)
unanswered w past e fault old new stands h =
    by_sort w past e fault old new stands h (sort_of fault) (h.asks (client_opening w) (entries w past) stands.client_is)
