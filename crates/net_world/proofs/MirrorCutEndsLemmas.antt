-- How a cut within a save of the mirror ends, as an event of a world.
use Rattle.std.proofs.Common.{◌≡◌, refl, ◌∙◌, ap, ℕ, Bool}
use Rattle.std.proofs.Common.{List, [], length, Ok, Err}
use Rattle.std.specs.Prelude.{if◌then◌else◌, is_none}
use Rattle.std.specs.List.{flat_map}
use Rattle.fc_base.specs.declared.fault.Fault.{Fault}
use Rattle.fc_base.specs.declared.fault.Fault.TheVariants.{NoMemory, NodeOff, NoSave}
use Rattle.messages.specs.Pieces.{frames_of}
use Rattle.messages.specs.declared.frame.Frame.{Frame}
use Rattle.messages.specs.declared.node.Node.TheVariants.{Mirror}
use Rattle.mirror_core.specs.History.{Entry, Met}
use Rattle.mirror_core.specs.Words as words
use Rattle.mirror_core.specs.Words.{refusal, due}
use Rattle.mirror_core.specs.Packets.{packets, packets_for}
use Rattle.mirror_core.specs.Requests.{request_in}
use Rattle.net_world.specs.MirrorNodes.{MirrorNode}
use Rattle.net_world.specs.declared.told.Told.{Told}
use Rattle.net_world.specs.declared.world.World.{World}
use Rattle.net_world.specs.Setup.{Setup}
use Rattle.net_world.specs.Happenings.{Deliver, CutIn}
use Rattle.net_world.specs.Trace.{mirror_opening}
use Rattle.net_world.specs.Frames.{OfMirror, of_mirror}
use Rattle.net_world.specs.Changes.{Change, steps}
use Rattle.net_world.specs.Outcomes.{outcome_of_step, where_saved, lost_by}
use Rattle.net_world.specs.Outcomes.{frame_cut, delivery_cut_in, brings}
use Rattle.net_world.specs.Telling.{plainly_told}
use Rattle.net_world.specs.Sending.{sent_in}
use Rattle.net_world.specs.Nodes as any_node
use Rattle.net_world.specs.MirrorNodes.{mirror_nodes}
use Rattle.net_world.specs.Stands.{StandsFor}
use Rattle.net_world.specs.Ends.{Ends}
use Rattle.net_world.proofs.EndsLemmas.{GoesTo, frame_bar, goes, stops, refuses, some_save, no_save, no_answer}
use Rattle.net_world.proofs.MirrorEndsLemmas.{heard_is, is_there, is_off, HasHeard, mirror_kept, plain_ends}

cut_silent : (list : List Entry) (f : Frame) (landed : Bool) → flat_map frames_of (packets mirror_opening list (Met f (lost_by landed))) ≡ []
cut_silent list f landed =
    ap (λ b. flat_map frames_of (if b then packets_for (words.words_noted mirror_opening list) (request_in f) else []))
    (no_answer (is_none (refusal mirror_opening list f)) (due mirror_opening list f) landed)

cut_brings : (w : Setup) (past : List Change) (landed : Bool) (number : ℕ) (f : Frame) → GoesTo w past number f Mirror
    → brings w past (CutIn landed (Deliver number)) ≡ outcome_of_step
    (where_saved (due mirror_opening (of_mirror (steps past)) f) (OfMirror (Met f (lost_by landed))))
cut_brings w past landed number f g =
    ap (λ x. outcome_of_step (delivery_cut_in w past landed x)) g.is_sent ∙ ap (λ node. outcome_of_step (frame_cut w past landed node f)) g.goes_to
    ∙ ap (λ list. outcome_of_step (where_saved (due mirror_opening list f) (OfMirror (Met f (lost_by landed))))) (heard_is w past)

-- It was cut.
pub cut_ends : (w : Setup) (past : List Change) (landed : Bool) (number : ℕ) (f : Frame) (node : MirrorNode) (first : ℕ) (t : Told) (old new : World)
    → StandsFor w past old → HasHeard node [] old new → GoesTo w past number f Mirror
    → any_node.CutsIn (mirror_nodes mirror_opening) (of_mirror (steps past)) landed f node (Ok tt) → first ≡ length (sent_in old.sent) → t ≡ plainly_told first
    → Ends w past (CutIn landed (Deliver number)) new (Ok t)
cut_ends w past landed number f node first t old new stands h g cut is tells =
    plain_ends w past (CutIn landed (Deliver number)) (Met f (lost_by landed)) node first t old new stands h cut.2
    (record {
      comes =
          goes w past (CutIn landed (Deliver number)) (frame_bar w past number f Mirror g ∙ is_there w past (h.has w past stands) cut.0)
          ∙ cut_brings w past landed number f g ∙ ap outcome_of_step
          (some_save (due mirror_opening (of_mirror (steps past)) f) (OfMirror (Met f (lost_by landed))) cut.1);
      answered = refl;
      silent = cut_silent (of_mirror (steps past)) f landed;
      asks = refl;
    }) is tells

-- It wasn't.
pub uncut_ends : (w : Setup) (past : List Change) (landed : Bool) (number : ℕ) (f : Frame) (node : MirrorNode) (fault : Fault) (old new : World)
    → StandsFor w past old → HasHeard node [] old new → GoesTo w past number f Mirror
    → any_node.CutsIn (mirror_nodes mirror_opening) (of_mirror (steps past)) landed f node (Err fault)
    → Ends w past (CutIn landed (Deliver number)) new (Err fault)
uncut_ends w past landed number f node NodeOff old new stands h g cut =
    refuses w past (CutIn landed (Deliver number)) NodeOff new refl
    (stops w past (CutIn landed (Deliver number)) NodeOff (frame_bar w past number f Mirror g ∙ is_off w past (h.has w past stands) cut.0))
    (mirror_kept w past node old new stands h cut.1)
uncut_ends w past landed number f node NoSave old new stands h g cut =
    refuses w past (CutIn landed (Deliver number)) NoSave new refl
    (goes w past (CutIn landed (Deliver number)) (frame_bar w past number f Mirror g ∙ is_there w past (h.has w past stands) cut.0)
    ∙ cut_brings w past landed number f g ∙ ap outcome_of_step
    (no_save (due mirror_opening (of_mirror (steps past)) f) (OfMirror (Met f (lost_by landed))) cut.1))
    (mirror_kept w past node old new stands h cut.2)
uncut_ends w past landed number f node NoMemory old new stands h g cut = (refl, mirror_kept w past node old new stands h cut.1)
uncut_ends w past landed number f node _ old new stands h g cut = absurd cut
