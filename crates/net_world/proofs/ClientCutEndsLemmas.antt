-- How a cut of the client within a save ends, as an event of a world.
use Rattle.std.proofs.Common.{◌≡◌, refl, sym, ◌∙◌, ap, ℕ, Bool, true, false, List, [], length, Some, None, Ok, Err}
use Rattle.std.specs.Prelude.{if◌then◌else◌, is_some, is_none}
use Rattle.std.specs.List.{flat_map}
use Rattle.fc_base.specs.declared.fault.Fault.{Fault}
use Rattle.fc_base.specs.declared.fault.Fault.TheVariants.{NodeOff, NoMemory, NoSave}
use Rattle.messages.specs.declared.packet.PacketParts.{PacketParts}
use Rattle.messages.specs.Pieces.{frames_of}
use Rattle.messages.specs.Hearing.{Meaning, Says, Waits, Spoils, Strays, Comes, Happens, meaning, heard_by, frames_by}
use Rattle.messages.specs.Senses.{sense_of, heard_or}
use Rattle.messages.specs.declared.frame.Frame.{Frame}
use Rattle.messages.specs.declared.node.Node.TheVariants.{Client}
use Rattle.messages.specs.declared.refusal.Act.TheVariants as acts
use Rattle.client_core.specs.History as client
use Rattle.client_core.specs.Life.{life}
use Rattle.client_core.specs.Packets.{packets, packets_for}
use Rattle.client_core.specs.Words as words
use Rattle.client_core.specs.Inputs.{PacketInput, FrameInput}
use Rattle.client_core.specs.Inputs as inputs
use Rattle.client_core.specs.Hearing.{Met, rules, heard_at, packets_heard}
use Rattle.client_core.specs.FrameAnswers as framed
use Rattle.client_core.specs.FrameAnswers.{due}
use Rattle.net_world.specs.declared.told.Told.{Told}
use Rattle.net_world.specs.declared.world.World.{World}
use Rattle.net_world.specs.Happenings.{Happening, Begin, Verify, Deliver, CutIn}
use Rattle.net_world.specs.Trace.{of_client, client_opening}
use Rattle.net_world.specs.Frames.{OfClient, frames_sent, frames_of_step}
use Rattle.net_world.specs.Changes as changes
use Rattle.net_world.specs.Changes.{Change, steps, trace}
use Rattle.net_world.specs.Barred.{unless_on, unless, barring_fault}
use Rattle.net_world.specs.Outcomes.{Does, Refuses, outcome_of_step, client_cut_in, client_frame_cut}
use Rattle.net_world.specs.Outcomes.{delivery_cut_in, frame_cut, said_to_client, brings, lost_by}
use Rattle.net_world.specs.World.{answer, act}
use Rattle.net_world.specs.declared.told.WorldAnswer.TheVariants.{Plain}
use Rattle.net_world.specs.Setup.{Setup}
use Rattle.net_world.specs.Telling.{plainly_told}
use Rattle.net_world.specs.Sending.{sent_in}
use Rattle.net_world.specs.Nodes.{CutsIn}
use Rattle.net_world.specs.ClientNodes.{client_nodes}
use Rattle.net_world.specs.Stands.{StandsFor}
use Rattle.net_world.specs.Ends.{Ends}
use Rattle.net_world.specs.Asking.{entries, step_of}
use Rattle.net_world.proofs.EndsLemmas.{GoesTo, frame_bar, goes, stops, refuses, some_save, no_save, no_answer}
use Rattle.net_world.proofs.AskLemmas.{up_is, HasMoved, client_kept}
use Rattle.net_world.proofs.ClientPlainLemmas.{plain_ends}
use Rattle.net_world.proofs.ClientHeardLemmas.{heard_is, frames_are}
use Rattle.net_world.proofs.ClientFrameLemmas.{said_is}
use Rattle.net_world.proofs.AskEndsLemmas.{client_act}

-- Within the save of this the client loses its power: it is barred as what the client meets, and comes of
-- it what is due.
pub record CutsClient (w : Setup) (past : List Change) (landed : Bool) (e : Happening) (i : FrameInput) : Type 0 where
  pub bar : barring_fault w (trace w past) (frames_sent w (steps past)) e ≡ unless_on w (trace w past) Client
  pub saves : is_some (due (client_opening w) (entries w past) i) ≡ true → brings w past e ≡ Does (changes.Met (step_of (Met i (lost_by landed))))
  pub none : is_some (due (client_opening w) (entries w past) i) ≡ false → brings w past e ≡ Refuses NoSave
  pub answered : answer w past e ≡ Plain
  pub silent : frames_of_step w (steps past) (step_of (Met i (lost_by landed))) ≡ []
  pub asks : act w past (changes.Met (step_of (Met i (lost_by landed)))) ≡ acts.None

-- It was cut.
pub cut_ends : (w : Setup) (past : List Change) (landed : Bool) (e : Happening) (i : FrameInput) (first : ℕ) (t : Told) (old new : World) → StandsFor w past old
    → HasMoved [] old new → CutsClient w past landed e i
    → CutsIn (client_nodes (client_opening w)) (entries w past) landed i new.client (Ok tt) → first ≡ length (sent_in old.sent) → t ≡ plainly_told first
    → Ends w past e new (Ok t)
cut_ends w past landed e i first t old new stands moved c cut f tells =
    plain_ends w past e (Met i (lost_by landed)) first t old new stands moved cut.2
    (record {
      comes = goes w past e (c.bar ∙ ap (λ on. unless on NodeOff) (sym (up_is w past) ∙ cut.0)) ∙ c.saves cut.1;
      answered = c.answered;
      silent = c.silent;
      asks = c.asks;
    }) refl f tells

-- It wasn't.
pub uncut_ends : (w : Setup) (past : List Change) (landed : Bool) (e : Happening) (i : FrameInput) (fault : Fault) (old new : World) → StandsFor w past old
    → HasMoved [] old new → CutsClient w past landed e i
    → CutsIn (client_nodes (client_opening w)) (entries w past) landed i new.client (Err fault) → Ends w past e new (Err fault)
uncut_ends w past landed e i NodeOff old new stands moved c cut =
    refuses w past e NodeOff new refl (stops w past e NodeOff (c.bar ∙ ap (λ on. unless on NodeOff) (sym (up_is w past) ∙ cut.0)))
    (client_kept w past old new stands moved cut.1)
uncut_ends w past landed e i NoSave old new stands moved c cut =
    refuses w past e NoSave new refl (goes w past e (c.bar ∙ ap (λ on. unless on NodeOff) (sym (up_is w past) ∙ cut.0)) ∙ c.none cut.1)
    (client_kept w past old new stands moved cut.2)
uncut_ends w past landed e i NoMemory old new stands moved c cut = (refl, client_kept w past old new stands moved cut.1)
uncut_ends w past landed e i _ old new stands moved c cut = absurd cut

-- ---- a save that is lost sends nothing

call_silent : (o : client.Opening) (list : List client.Entry) (c : PacketInput) (landed : Bool)
    → frames_by (packets o) list (Some (client.Met c (lost_by landed))) ≡ []
call_silent o list c landed =
    ap (λ b. flat_map frames_of (if b then packets_for (words.peers o list) (words.words_noted o list) (life o list) c else []))
    (no_answer (is_none (words.refusal o list c)) (words.due o list c) landed)

meaning_silent : (o : client.Opening) (list : List client.Entry) (landed : Bool) (m : Meaning)
    → frames_by (packets o) list (heard_by (rules o) (lost_by landed) m) ≡ []
meaning_silent o list landed (Says p) = call_silent o list (inputs.Deliver p) landed
meaning_silent o list landed Waits = refl
meaning_silent o list landed Spoils = refl
meaning_silent o list landed Strays = refl

-- ---- what comes of it

module _ (w : Setup) (past : List Change) (landed : Bool) where
  call_saves : (c : PacketInput) → is_some (words.due (client_opening w) (packets_heard (client_opening w) (entries w past)) c) ≡ true
      → outcome_of_step (client_cut_in w (trace w past) landed c) ≡ Does (changes.Met (OfClient (Happens (client.Met c (lost_by landed)))))
  call_saves c h =
      ap outcome_of_step (some_save (words.due (client_opening w) (of_client w (trace w past)) c) (OfClient (Happens (client.Met c (lost_by landed))))
      (ap (λ l. is_some (words.due (client_opening w) l c)) (sym (heard_is w past)) ∙ h))

  call_none : (c : PacketInput) → is_some (words.due (client_opening w) (packets_heard (client_opening w) (entries w past)) c) ≡ false
      → outcome_of_step (client_cut_in w (trace w past) landed c) ≡ Refuses NoSave
  call_none c h =
      ap outcome_of_step (no_save (words.due (client_opening w) (of_client w (trace w past)) c) (OfClient (Happens (client.Met c (lost_by landed))))
      (ap (λ l. is_some (words.due (client_opening w) l c)) (sym (heard_is w past)) ∙ h))

  pub cuts_begin : (text : List ℕ) → CutsClient w past landed (CutIn landed (Begin text)) (inputs.Begin text)
  cuts_begin text = record {
    bar = refl;
    saves = call_saves (inputs.Begin text);
    none = call_none (inputs.Begin text);
    answered = refl;
    silent = sym (frames_are w past (Met (inputs.Begin text) (lost_by landed)))
        ∙ call_silent (client_opening w) (packets_heard (client_opening w) (entries w past)) (inputs.Begin text) landed;
    asks = refl;
  }

  pub cuts_verify : (run : ℕ) (text : List ℕ) → CutsClient w past landed (CutIn landed (Verify run text)) (inputs.Verify run text)
  cuts_verify run text = record {
    bar = refl;
    saves = call_saves (inputs.Verify run text);
    none = call_none (inputs.Verify run text);
    answered = refl;
    silent = sym (frames_are w past (Met (inputs.Verify run text) (lost_by landed)))
        ∙ call_silent (client_opening w) (packets_heard (client_opening w) (entries w past)) (inputs.Verify run text) landed;
    asks = refl;
  }

  -- A frame's packet.
  said_saves : (f : Frame) (p : PacketParts) → is_some (words.due (client_opening w) (packets_heard (client_opening w) (entries w past)) (inputs.Deliver p))
      ≡ true
      → client_frame_cut w (trace w past) landed f (Says p) ≡ Ok (OfClient (Comes f (lost_by landed)))
  said_saves f p h =
      some_save (words.due (client_opening w) (of_client w (trace w past)) (inputs.Deliver p)) (OfClient (Comes f (lost_by landed)))
      (ap (λ l. is_some (words.due (client_opening w) l (inputs.Deliver p))) (sym (heard_is w past)) ∙ h)

  said_none : (f : Frame) (p : PacketParts) → is_some (words.due (client_opening w) (packets_heard (client_opening w) (entries w past)) (inputs.Deliver p))
      ≡ false
      → client_frame_cut w (trace w past) landed f (Says p) ≡ Err NoSave
  said_none f p h =
      no_save (words.due (client_opening w) (of_client w (trace w past)) (inputs.Deliver p)) (OfClient (Comes f (lost_by landed)))
      (ap (λ l. is_some (words.due (client_opening w) l (inputs.Deliver p))) (sym (heard_is w past)) ∙ h)

  meaning_saves : (f : Frame) (m : Meaning)
      → is_some (heard_or None (words.due (client_opening w) (packets_heard (client_opening w) (entries w past))) (sense_of inputs.Deliver m)) ≡ true
      → client_frame_cut w (trace w past) landed f m ≡ Ok (OfClient (Comes f (lost_by landed)))
  meaning_saves f (Says p) h = said_saves f p h
  meaning_saves f Waits h = absurd cc
  meaning_saves f Spoils h = absurd cc
  meaning_saves f Strays h = absurd cc

  meaning_none : (f : Frame) (m : Meaning)
      → is_some (heard_or None (words.due (client_opening w) (packets_heard (client_opening w) (entries w past))) (sense_of inputs.Deliver m)) ≡ false
      → client_frame_cut w (trace w past) landed f m ≡ Err NoSave
  meaning_none f (Says p) h = said_none f p h
  meaning_none f Waits h = refl
  meaning_none f Spoils h = refl
  meaning_none f Strays h = refl

  frame_saves : (f : Frame) → is_some (due (client_opening w) (entries w past) (inputs.Deliver f)) ≡ true
      → client_frame_cut w (trace w past) landed f (said_to_client w (steps past) f) ≡ Ok (OfClient (Comes f (lost_by landed)))
  frame_saves f h =
      ap (client_frame_cut w (trace w past) landed f) (sym (said_is w past f))
      ∙ meaning_saves f (meaning (rules (client_opening w)) (heard_at (client_opening w) (entries w past)) f) h

  frame_none : (f : Frame) → is_some (due (client_opening w) (entries w past) (inputs.Deliver f)) ≡ false
      → client_frame_cut w (trace w past) landed f (said_to_client w (steps past) f) ≡ Err NoSave
  frame_none f h =
      ap (client_frame_cut w (trace w past) landed f) (sym (said_is w past f))
      ∙ meaning_none f (meaning (rules (client_opening w)) (heard_at (client_opening w) (entries w past)) f) h

  frame_silent : (f : Frame) → framed.frames (client_opening w) (entries w past) (Met (inputs.Deliver f) (lost_by landed)) ≡ []
  frame_silent f = meaning_silent (client_opening w) (packets_heard (client_opening w) (entries w past)) landed
      (meaning (rules (client_opening w)) (heard_at (client_opening w) (entries w past)) f)

  brings_is : (number : ℕ) (f : Frame) → GoesTo w past number f Client
      → brings w past (CutIn landed (Deliver number)) ≡ outcome_of_step (client_frame_cut w (trace w past) landed f (said_to_client w (steps past) f))
  brings_is number f g =
      ap (λ x. outcome_of_step (delivery_cut_in w past landed x)) g.is_sent ∙ ap (λ node. outcome_of_step (frame_cut w past landed node f)) g.goes_to

  pub cuts_delivery : (number : ℕ) (f : Frame) → GoesTo w past number f Client → CutsClient w past landed (CutIn landed (Deliver number)) (inputs.Deliver f)
  cuts_delivery number f g = record {
    bar = frame_bar w past number f Client g;
    saves = λ h. brings_is number f g ∙ ap outcome_of_step (frame_saves f h);
    none = λ h. brings_is number f g ∙ ap outcome_of_step (frame_none f h);
    answered = refl;
    silent = sym (frames_are w past (Met (inputs.Deliver f) (lost_by landed))) ∙ frame_silent f;
    asks = client_act w past (Comes f (lost_by landed));
  }
