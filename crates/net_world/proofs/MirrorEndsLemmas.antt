-- How what comes to the mirror ends, as an event of a world.
use Rattle.std.proofs.Common.{◌≡◌, refl, sym, ◌∙◌, ap, subst, inl, inr, ◌⊎◌, ℕ, ◌+◌, ◌*◌, Bool, true, false}
use Rattle.std.proofs.Common.{List, [], ◌∷◌, ◌++◌, length, Option, Some, None, Ok, Err, append-nil}
use Rattle.std.specs.Prelude.{not, map, is_some, slice_get, Vec}
use Rattle.std.specs.List.{flat_map}
use Rattle.std.specs.Option.{option_or}
use Rattle.std.specs.declared.alloc.Global.{Global}
use Rattle.std.proofs.lemmas.List.{length-map, map-append}
use Rattle.fc_base.specs.declared.limits.TheConstants.{MAX_JOBS}
use Rattle.fc_base.specs.declared.fault.Fault.{Fault}
use Rattle.fc_base.specs.declared.fault.Fault.TheVariants.{NoMemory, NoMirror, NodeOff, NodeOn}
use Rattle.fc_base.specs.declared.fault.FaultSort.{FaultSort}
use Rattle.fc_base.specs.declared.fault.FaultSort.TheVariants as sorts
use Rattle.fc_base.specs.Fault.{sort_of}
use Rattle.disk_model.specs.declared.mem_disk.MemDisk.{MemDisk}
use Rattle.disk_model.specs.SaveOutcome.{saved_for}
use Rattle.messages.specs.FrameBytes.{frame_spelling}
use Rattle.messages.specs.FramesOf.{spelled_frames}
use Rattle.messages.specs.Pieces.{frames_of}
use Rattle.messages.specs.declared.frame.Frame.{Frame}
use Rattle.messages.specs.declared.node.Node.TheVariants.{Mirror}
use Rattle.messages.specs.declared.packet.PacketParts.{PacketParts}
use Rattle.messages.specs.declared.refusal.Act.TheVariants as acts
use Rattle.mirror_core.specs.History.{Entry, Met, Cut, Restart}
use Rattle.mirror_core.specs.Words as words
use Rattle.mirror_core.specs.Words.{refusal, due}
use Rattle.mirror_core.specs.Packets.{packets, frame_bytes}
use Rattle.mirror_core.specs.Ends.{answered_entry}
use Rattle.net_world.specs.ServerNodes.{ServerNode}
use Rattle.net_world.specs.MirrorNodes.{MirrorNode}
use Rattle.net_world.specs.declared.told.WorldAnswer.TheVariants.{Plain}
use Rattle.net_world.specs.declared.told.Told.{Told}
use Rattle.net_world.specs.declared.world.World.{World}
use Rattle.net_world.specs.Setup.{Setup}
use Rattle.net_world.specs.Happenings.{Happening, Deliver}
use Rattle.net_world.specs.Happenings as happenings
use Rattle.net_world.specs.Trace as traces
use Rattle.net_world.specs.Trace.{client_opening, mirror_opening}
use Rattle.net_world.specs.Frames.{OfMirror, of_mirror, frames_sent, frames_of_step, client_entries}
use Rattle.net_world.specs.Changes as changes
use Rattle.net_world.specs.Changes.{Change, steps, trace}
use Rattle.net_world.specs.Barred.{unless, unless_on, unless_off, is_on}
use Rattle.net_world.specs.Outcomes.{outcome_of_step, unless_fault, comes_to}
use Rattle.net_world.specs.Outcomes.{comes_to_mirror, delivery, brings}
use Rattle.net_world.specs.World.{frames, told_of_happening}
use Rattle.net_world.specs.Telling.{plainly_told}
use Rattle.net_world.specs.Sending.{sent_in}
use Rattle.net_world.specs.ClientNodes as clients
use Rattle.net_world.specs.ClientNodes.{handed_in}
use Rattle.net_world.specs.Nodes as any_node
use Rattle.net_world.specs.MirrorNodes as nodes
use Rattle.net_world.specs.MirrorNodes.{mirror_nodes}
use Rattle.net_world.specs.Stands.{IsMirror, IsGreatest, StandsFor}
use Rattle.net_world.specs.Ends as ends
use Rattle.net_world.specs.Ends.{Ends, changes_after}
use Rattle.net_world.proofs.HearingLemmas.{mirror_hears}
use Rattle.net_world.proofs.NodeLemmas.{unchanged}
use Rattle.net_world.proofs.MetLemmas.{frames_more}
use Rattle.net_world.proofs.ServeLemmas.{first_is}
use Rattle.net_world.proofs.EndsLemmas.{GoesTo, frame_bar, goes, stops, does, refusing, refuses}
use Rattle.net_world.proofs.PlainLemmas.{IsPlain, told_plainly}

-- ---- its list, and whether it is there and on

pub heard_is : (w : Setup) (past : List Change) → traces.of_mirror (trace w past) ≡ of_mirror (steps past)
heard_is w past = mirror_hears w (steps past)

-- What a world has as its mirror, where there is a node.
pub there : (w : Setup) (past : List Change) (x : Option MirrorNode) (node : MirrorNode) → x ≡ Some node → IsMirror w (of_mirror (steps past)) x
    → (w.mirror ≡ true) × nodes.Stands mirror_opening (of_mirror (steps past)) node
there w past x node is h = subst (IsMirror w (of_mirror (steps past))) is h

pub has_node : (w : Setup) (past : List Change) (x : Option MirrorNode) → is_some x ≡ true → IsMirror w (of_mirror (steps past)) x → w.mirror ≡ true
has_node w past None e h = absurd cc
has_node w past (Some node) e h = h.0

pub mirror_word : (w : Setup) (past : List Change) (x : Option MirrorNode) → IsMirror w (of_mirror (steps past)) x → is_some x ≡ w.mirror
mirror_word w past None h = sym h
mirror_word w past (Some node) h = sym h.0

tests : (a b : Bool) (x y : Fault) (c d : Bool) → a ≡ c → b ≡ d → option_or (unless a x) (unless b y) ≡ option_or (unless c x) (unless d y)
tests a b x y c d e f = rw (e, f) refl

on_same : (w : Setup) (past : List Change) (b : Bool) → words.is_on (of_mirror (steps past)) ≡ b → is_on w (trace w past) Mirror ≡ b
on_same w past b h = ap words.is_on (heard_is w past) ∙ h

pub is_there : (w : Setup) (past : List Change) → w.mirror ≡ true → words.is_on (of_mirror (steps past)) ≡ true → unless_on w (trace w past) Mirror ≡ None
is_there w past has h = tests w.mirror (is_on w (trace w past) Mirror) NoMirror NodeOff true true has (on_same w past true h)

pub is_off : (w : Setup) (past : List Change) → w.mirror ≡ true → words.is_on (of_mirror (steps past)) ≡ false
    → unless_on w (trace w past) Mirror ≡ Some NodeOff
is_off w past has h = tests w.mirror (is_on w (trace w past) Mirror) NoMirror NodeOff true false has (on_same w past false h)

pub runs_on : (w : Setup) (past : List Change) → w.mirror ≡ true → words.is_on (of_mirror (steps past)) ≡ true
    → unless_off w (trace w past) Mirror ≡ Some NodeOn
runs_on w past has h = tests w.mirror (not (is_on w (trace w past) Mirror)) NoMirror NodeOn true false has (ap not (on_same w past true h))

pub may_restart : (w : Setup) (past : List Change) → w.mirror ≡ true → words.is_on (of_mirror (steps past)) ≡ false → unless_off w (trace w past) Mirror ≡ None
may_restart w past has h = tests w.mirror (not (is_on w (trace w past) Mirror)) NoMirror NodeOn true true has (ap not (on_same w past false h))

-- ---- the world behind what comes to it

-- Frames were added, the mirror is this node, and all else is as it was.
pub record HasHeard (node : MirrorNode) (sent : List (List ℕ)) (old new : World) : Type 0 where
  pub has : (w : Setup) (past : List Change) → StandsFor w past old → w.mirror ≡ true
  pub node_is : new.mirror.node ≡ Some node
  pub greatest_is : new.mirror.greatest ≡ old.mirror.greatest
  pub sent_is : sent_in new.sent ≡ sent_in old.sent ++ sent
  pub servers_are : new.servers ≡ old.servers
  pub client_is : new.client ≡ old.client
  pub files_are : new.files ≡ old.files

-- There is a mirror, by every list for which a world stands that has this node.
is_had : (was : MirrorNode) (now : World) → now.mirror.node ≡ Some was → (w : Setup) (past : List Change) → StandsFor w past now → w.mirror ≡ true
is_had was now is w past h = (there w past now.mirror.node was is h.mirror_is).0

-- So it is where this node was there before.
pub still_there : {was node : MirrorNode} {sent : List (List ℕ)} {old new : World} → old.mirror.node ≡ Some was → new.mirror.node ≡ Some node
    → new.mirror.greatest ≡ old.mirror.greatest → sent_in new.sent ≡ sent_in old.sent ++ sent → new.servers ≡ old.servers → new.client ≡ old.client
    → new.files ≡ old.files → HasHeard node sent old new
still_there {was = was} {old = old} is now greatest sent servers client files = record {
  has = is_had was old is;
  node_is = now;
  greatest_is = greatest;
  sent_is = sent;
  servers_are = servers;
  client_is = client;
  files_are = files;
}

-- The mirror has made a step, for which its node stands and whose frames were added.
pub mirror_stepped : (w : Setup) (past : List Change) (e : Entry) (node : MirrorNode) (sent : List (List ℕ)) (old new : World) → StandsFor w past old
    → HasHeard node sent old new
    → sent ≡ map frame_spelling (frames_of_step w (steps past) (OfMirror e)) → nodes.Stands mirror_opening (e ∷ of_mirror (steps past)) node
    → StandsFor w (changes.Met (OfMirror e) ∷ past) new
mirror_stepped w past e node sent old new stands h is node_is = record {
  some = stands.some;
  few = stands.few;
  number = ap (λ (v : Vec ServerNode Global). length v.items) h.servers_are ∙ stands.number;
  sent_is = h.sent_is ∙ ap (λ fs. fs ++ sent) stands.sent_is ∙ ap (λ fs. frames w past ++ fs) is ∙ sym (frames_more w past (OfMirror e));
  servers_are = λ s x at. stands.servers_are s x (ap (λ (v : Vec ServerNode Global). slice_get v.items s) (sym h.servers_are) ∙ at);
  client_is = subst (λ c. clients.Stands (client_opening w) (client_entries w (steps past)) c) (sym h.client_is) stands.client_is;
  mirror_is = subst (IsMirror w (e ∷ of_mirror (steps past))) (sym h.node_is) (h.has w past stands, node_is);
  greatest_is = subst (λ g. IsGreatest g (handed_in (client_entries w (steps past)))) (sym h.greatest_is) stands.greatest_is;
  files = ap (λ (v : Vec MemDisk Global). length v.items) h.files_are ∙ stands.files;
  files_are = λ s j disk l at. stands.files_are s j disk l (ap (λ (v : Vec MemDisk Global). slice_get v.items (MAX_JOBS * s + j)) (sym h.files_are) ∙ at);
}

-- It stands for what it did, and nothing was sent.
pub mirror_kept : (w : Setup) (past : List Change) (node : MirrorNode) (old new : World) → StandsFor w past old → HasHeard node [] old new
    → nodes.Stands mirror_opening (of_mirror (steps past)) node → StandsFor w past new
mirror_kept w past node old new stands h node_is = record {
  some = stands.some;
  few = stands.few;
  number = ap (λ (v : Vec ServerNode Global). length v.items) h.servers_are ∙ stands.number;
  sent_is = h.sent_is ∙ append-nil (sent_in old.sent) ∙ stands.sent_is;
  servers_are = λ s x at. stands.servers_are s x (ap (λ (v : Vec ServerNode Global). slice_get v.items s) (sym h.servers_are) ∙ at);
  client_is = subst (λ c. clients.Stands (client_opening w) (client_entries w (steps past)) c) (sym h.client_is) stands.client_is;
  mirror_is = subst (IsMirror w (of_mirror (steps past))) (sym h.node_is) (h.has w past stands, node_is);
  greatest_is = subst (λ g. IsGreatest g (handed_in (client_entries w (steps past)))) (sym h.greatest_is) stands.greatest_is;
  files = ap (λ (v : Vec MemDisk Global). length v.items) h.files_are ∙ stands.files;
  files_are = λ s j disk l at. stands.files_are s j disk l (ap (λ (v : Vec MemDisk Global). slice_get v.items (MAX_JOBS * s + j)) (sym h.files_are) ∙ at);
}

-- ---- a cut and a restart

pub plain_ends : (w : Setup) (past : List Change) (e : Happening) (entry : Entry) (node : MirrorNode) (first : ℕ) (t : Told) (old new : World)
    → StandsFor w past old → HasHeard node [] old new
    → nodes.Stands mirror_opening (entry ∷ of_mirror (steps past)) node → IsPlain w past e (OfMirror entry) → first ≡ length (sent_in old.sent)
    → t ≡ plainly_told first → Ends w past e new (Ok t)
plain_ends w past e entry node first t old new stands moved node_is p f tells =
    does w past e (changes.Met (OfMirror entry)) t new p.comes (told_plainly w past e (OfMirror entry) first t p (f ∙ first_is w past old stands) tells)
    (mirror_stepped w past entry node [] old new stands moved (ap (map frame_spelling) (sym p.silent)) node_is)

pub cut_plain : (w : Setup) (past : List Change) → unless_on w (trace w past) Mirror ≡ None → IsPlain w past (happenings.Cut Mirror) (OfMirror Cut)
cut_plain w past free = record { comes = goes w past (happenings.Cut Mirror) free; answered = refl; silent = refl; asks = refl }

pub restart_plain : (w : Setup) (past : List Change) → unless_off w (trace w past) Mirror ≡ None → IsPlain w past (happenings.Restart Mirror) (OfMirror Restart)
restart_plain w past free = record { comes = goes w past (happenings.Restart Mirror) free; answered = refl; silent = refl; asks = refl }

-- How a restart that isn't answered ends.
pub restart_ends : (w : Setup) (past : List Change) (node : MirrorNode) (fault : Fault) (old new : World) → StandsFor w past old → HasHeard node [] old new
    → nodes.Restarts mirror_opening (of_mirror (steps past)) node (Err fault)
    → Ends w past (happenings.Restart Mirror) new (Err fault)
restart_ends w past node NodeOn old new stands h r =
    refuses w past (happenings.Restart Mirror) NodeOn new refl (stops w past (happenings.Restart Mirror) NodeOn (runs_on w past (h.has w past stands) r.0))
    (mirror_kept w past node old new stands h r.1)
restart_ends w past node NoMemory old new stands h r = (refl, mirror_kept w past node old new stands h r.1)
restart_ends w past node _ old new stands h r = absurd r

-- ---- a frame

frame_brings : (w : Setup) (past : List Change) (number : ℕ) (f : Frame) → GoesTo w past number f Mirror
    → brings w past (Deliver number) ≡ outcome_of_step (comes_to_mirror (trace w past) f)
frame_brings w past number f g = ap (delivery w past) g.is_sent ∙ ap (λ node. comes_to w past node f) g.goes_to

met : (list : List Entry) (f : Frame) → refusal mirror_opening list f ≡ None
    → unless_fault (refusal mirror_opening list f) (Ok (OfMirror (Met f (saved_for (due mirror_opening list f)))))
    ≡ Ok (OfMirror (answered_entry mirror_opening list f))
met list f h = rw h refl

met_err : (list : List Entry) (f : Frame) (fault : Fault) → refusal mirror_opening list f ≡ Some fault
    → unless_fault (refusal mirror_opening list f) (Ok (OfMirror (Met f (saved_for (due mirror_opening list f))))) ≡ Err fault
met_err list f fault h = rw h refl

comes_same : (w : Setup) (past : List Change) (f : Frame)
    → comes_to_mirror (trace w past) f ≡ unless_fault (refusal mirror_opening (of_mirror (steps past)) f)
    (Ok (OfMirror (Met f (saved_for (due mirror_opening (of_mirror (steps past)) f)))))
comes_same w past f =
    ap (λ list. unless_fault (refusal mirror_opening list f) (Ok (OfMirror (Met f (saved_for (due mirror_opening list f)))))) (heard_is w past)

spelled : (ps : List PacketParts) → frame_bytes ps ≡ map frame_spelling (flat_map frames_of ps)
spelled [] = refl
spelled (p ∷ ps) = ap (λ fs. spelled_frames p ++ fs) (spelled ps) ∙ sym (map-append frame_spelling (frames_of p) (flat_map frames_of ps))

abbrev pub told_with : ℕ → ℕ → Told
told_with first sent = record { answer = Plain; first = first; sent = sent; act = acts.None }

told_same : (first first' sent sent' : ℕ) → first ≡ first' → sent ≡ sent' → told_with first sent ≡ told_with first' sent'
told_same first first' sent sent' e f = rw (e, f) refl

-- A frame is answered.
pub heard_ends : (w : Setup) (past : List Change) (number : ℕ) (f : Frame) (node : MirrorNode) (sent : List (List ℕ)) (first : ℕ) (t : Told) (old new : World)
    → StandsFor w past old → HasHeard node sent old new → GoesTo w past number f Mirror
    → any_node.Answers (mirror_nodes mirror_opening) (of_mirror (steps past)) f node sent → first ≡ length (sent_in old.sent)
    → t ≡ told_with first (length sent) → Ends w past (Deliver number) new (Ok t)
heard_ends w past number f node sent first t old new stands h g a is tells =
    let step = OfMirror (answered_entry mirror_opening (of_mirror (steps past)) f) in
    let frames : sent ≡ map frame_spelling (frames_of_step w (steps past) step) =
    a.sends ∙ spelled (packets mirror_opening (of_mirror (steps past)) (answered_entry mirror_opening (of_mirror (steps past)) f)) in
    let number_is = ap (λ (fs : List (List ℕ)). length fs) frames ∙ length-map (frames_of_step w (steps past) step) frame_spelling in
    does w past (Deliver number) (changes.Met step) t new
    (goes w past (Deliver number) (frame_bar w past number f Mirror g ∙ is_there w past (h.has w past stands) a.on)
    ∙ frame_brings w past number f g ∙ ap outcome_of_step (comes_same w past f ∙ met (of_mirror (steps past)) f a.free))
    (ap (λ x. Ok x) (sym (tells ∙ told_same first (length (frames_sent w (steps past))) (length sent) (length (frames_of_step w (steps past) step))
    (is ∙ first_is w past old stands) number_is)))
    (mirror_stepped w past (answered_entry mirror_opening (of_mirror (steps past)) f) node sent old new stands h frames a.stands)

refused : (w : Setup) (past : List Change) (number : ℕ) (f : Frame) (node : MirrorNode) (fault : Fault) (old new : World) → StandsFor w past old
    → HasHeard node [] old new → GoesTo w past number f Mirror
    → any_node.IsOff (mirror_nodes mirror_opening) (of_mirror (steps past)) fault node
    ⊎ any_node.Refuses (mirror_nodes mirror_opening) (of_mirror (steps past)) f fault node
    → (told_of_happening w past (Deliver number) ≡ Err fault) × StandsFor w (changes_after w past (Deliver number)) new
refused w past number f node fault old new stands h g (inl o) =
    refusing w past (Deliver number) fault new (stops w past (Deliver number) fault
    (frame_bar w past number f Mirror g ∙ is_off w past (h.has w past stands) o.off ∙ ap Some (sym o.why)))
    (mirror_kept w past node old new stands h o.unchanged)
refused w past number f node fault old new stands h g (inr r) =
    refusing w past (Deliver number) fault new
    (goes w past (Deliver number) (frame_bar w past number f Mirror g ∙ is_there w past (h.has w past stands) r.on)
    ∙ frame_brings w past number f g ∙ ap outcome_of_step (comes_same w past f ∙ met_err (of_mirror (steps past)) f fault r.why))
    (mirror_kept w past node old new stands h (unchanged (mirror_nodes mirror_opening) (of_mirror (steps past)) f node r.unchanged r.on (λ core h. h)))

by_sort : (w : Setup) (past : List Change) (number : ℕ) (f : Frame) (node : MirrorNode) (fault : Fault) (old new : World) → StandsFor w past old
    → HasHeard node [] old new → GoesTo w past number f Mirror
    → (sort : FaultSort) → any_node.Faults (mirror_nodes mirror_opening) (of_mirror (steps past)) f sort fault node
    → ends.Faults w past (Deliver number) sort fault new
by_sort w past number f node fault old new stands h g sorts.Memory r = (r.0, mirror_kept w past node old new stands h r.1)
by_sort w past number f node fault old new stands h g sorts.Save r = r
by_sort w past number f node fault old new stands h g sorts.Refusal r = refused w past number f node fault old new stands h g r

-- It isn't.
pub unheard_ends : (w : Setup) (past : List Change) (number : ℕ) (f : Frame) (node : MirrorNode) (fault : Fault) (old new : World) → StandsFor w past old
    → HasHeard node [] old new → GoesTo w past number f Mirror
    → any_node.Ends (mirror_nodes mirror_opening) (of_mirror (steps past)) f node (Err fault) → Ends w past (Deliver number) new (Err fault)
unheard_ends w past number f node fault old new stands h g r = by_sort w past number f node fault old new stands h g (sort_of fault) r
