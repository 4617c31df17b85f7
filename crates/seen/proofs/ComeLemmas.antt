-- What a packet that is seen to come to the client makes of the client, and what a call that it answers does.
use Rattle.std.proofs.Common.{◌≡◌, refl, sym, ◌∙◌, ap, subst, ℕ, Bool, true, false, List, ◌∷◌, Option, Some, None, Ok}
use Rattle.std.specs.Prelude.{if◌then◌else◌, ◌≤◌, ◌&&◌, is_ok, is_none, slice_get, Contains, Err}
use Rattle.std.specs.Option.{option_map}
use Rattle.std.proofs.lemmas.Option.{slice_get-map}
use Rattle.fc_base.specs.declared.fault.Fault.{Fault}
use Rattle.fc_base.specs.declared.fault.Fault.TheVariants.{BadNote}
use Rattle.fc_base.specs.declared.limits.TheConstants.{MAX_SERVERS}
use Rattle.disk_model.specs.SaveOutcome.{is_lost, saved_for}
use Rattle.messages.specs.declared.packet.PacketParts.{PacketParts}
use Rattle.messages.specs.declared.frame.Frame.{Frame}
use Rattle.messages.specs.declared.frame.Frame.TheVariants.{Whole}
use Rattle.messages.specs.declared.node.Node.TheVariants.{Server, Client, Mirror}
use Rattle.messages.specs.FrameBytes.{frame_at, frame_spelling}
use Rattle.messages.specs.Hearing.{Comes as ComesFrame, Happens, with_entry}
use Rattle.client_core.specs.Inputs.{PacketInput}
use Rattle.client_core.specs.Inputs as inputs
use Rattle.client_core.specs.History.{Met, Restart}
use Rattle.client_core.specs.Note.{is_blank}
use Rattle.client_core.specs.Refusals.{faults_of}
use Rattle.client_core.specs.Saves.{Addition}
use Rattle.client_core.specs.Words.{is_on, peers, words_noted, refusal, due}
use Rattle.net_world.specs.Setup.{Setup}
use Rattle.net_world.specs.Happenings.{Happening, Begin, Trigger, StopRun, Verify, Tick, Deliver}
use Rattle.net_world.specs.Happenings as happenings
use Rattle.net_world.specs.Trace.{client_opening}
use Rattle.net_world.specs.Barred.{barring_fault}
use Rattle.net_world.specs.Frames.{FrameStep, OfClient, frames_sent}
use Rattle.net_world.specs.Changes.{Change, Met as MetStep, steps, trace}
use Rattle.net_world.specs.Outcomes.{Does, outcome_of_step, unless_fault, met_by_client, comes_to, delivery, noted_in, brings, unless_barred, outcome}
use Rattle.net_world.specs.World.{world, told_by, told_of_happening}
use Rattle.net_world.specs.WorldLaws.{SentFramesAreRead}
use Rattle.net_world.proofs.ListLemmas.{same_some}
use Rattle.net_world.proofs.WorldLemmas.{sent_at as found_at}
use Rattle.seen.specs.Kept.{is_of_client}
use Rattle.seen.specs.Sightings.{Comes}
use Rattle.seen.specs.Watching.{observation, observations}
use Rattle.seen.proofs.EntryLemmas.{step_in}
use Rattle.seen.proofs.ReadLemmas.{is_whole_of}
use Rattle.seen.proofs.FrameLemmas.{sent_at, frames_are}
use Rattle.seen.proofs.ClientLemmas.{client_by, client_at, client_list_with}
use Rattle.seen.proofs.AckLemmas.{on_by, stays_on}

-- ---- what isn't refused

-- What is told well was refused neither by the world nor by its node.
told_well : (w : Setup) (past : List Change) (e : Happening) (b x : Option Fault) (step : FrameStep)
    → is_ok (told_by w past e (unless_barred b (outcome_of_step (unless_fault x (Ok step))))) ≡ true → (b ≡ None) × (x ≡ None)
told_well w past e None None step h = (refl, refl)
told_well w past e None (Some fault) step h = absurd cc
told_well w past e (Some fault) x step h = absurd cc

-- What the client has heard, once it has met this.
pub record HasMet (w : Setup) (evs : List Happening) (e : Happening) (c : PacketInput) : Type 0 where
  pub free : refusal (client_opening w) (client_at w evs) c ≡ None
  pub list : client_at w (e ∷ evs) ≡ Met c (saved_for (due (client_opening w) (client_at w evs) c)) ∷ client_at w evs

-- The barring fault of an event.
abbrev bars : Setup → List Happening → Happening → Option Fault
bars w evs e = barring_fault w (trace w (world w evs)) (frames_sent w (steps (world w evs))) e

list_now : (w : Setup) (evs : List Happening) (e : Happening) (step : FrameStep) → outcome w (world w evs) e ≡ Does (MetStep step)
    → client_at w (e ∷ evs) ≡ with_entry (client_by w (steps (world w evs)) (Some step)) (client_at w evs)
list_now w evs e step does =
    client_list_with w (world w evs) (outcome w (world w evs) e)
    ∙ ap (λ r. with_entry (client_by w (steps (world w evs)) (step_in r)) (client_at w evs)) does

-- The step that an event which isn't refused makes, and that no refusal stood in its way.
record IsMade (w : Setup) (evs : List Happening) (e : Happening) (x : Option Fault) (step : FrameStep) : Type 0 where
  pub free : x ≡ None
  pub does : outcome w (world w evs) e ≡ Does (MetStep step)

is_made : (w : Setup) (evs : List Happening) (e : Happening) (x : Option Fault) (step : FrameStep)
    → brings w (world w evs) e ≡ outcome_of_step (unless_fault x (Ok step)) → is_ok (told_of_happening w (world w evs) e) ≡ true → IsMade w evs e x step
is_made w evs e x step brought h =
    let past = world w evs in
    let is : outcome w past e ≡ unless_barred (bars w evs e) (outcome_of_step (unless_fault x (Ok step))) = ap (unless_barred (bars w evs e)) brought in
    let both = told_well w past e (bars w evs e) x step (subst (λ r. is_ok (told_by w past e r) ≡ true) is h) in
    record {
      free = both.1;
      does = is ∙ ap (λ b. unless_barred b (outcome_of_step (unless_fault x (Ok step)))) both.0 ∙ ap (λ f. outcome_of_step (unless_fault f (Ok step))) both.1;
    }

-- ---- a packet comes

-- The event by which a packet comes, and its frame.
record Delivered (w : Setup) (evs : List Happening) (e : Happening) (p : PacketParts) : Type 0 where
  pub index : ℕ
  pub event : e ≡ Deliver index
  pub there : slice_get (sent_at w evs) index ≡ Some (Whole p)

delivered : SentFramesAreRead → (w : Setup) (evs : List Happening) (e : Happening) (p : PacketParts) → w.servers ≤ MAX_SERVERS
    → Comes (observations w evs) (observation w evs e) p → Delivered w evs e p
delivered law w evs e p few c = by (slice_get (sent_at w evs) c.frame) refl
  where
    spelled : option_map frame_spelling (slice_get (sent_at w evs) c.frame) ≡ Some c.bytes
    spelled = sym (slice_get-map frame_spelling (sent_at w evs) c.frame) ∙ ap (λ l. slice_get l c.frame) (sym (frames_are w evs)) ∙ c.there

    by : (x : Option Frame) → slice_get (sent_at w evs) c.frame ≡ x → Delivered w evs e p
    by None is = let no : None ≡ Some c.bytes = sym (ap (option_map frame_spelling) is) ∙ spelled in absurd cc
    by (Some f) is =
        let bytes = same_some (frame_spelling f) c.bytes (sym (ap (option_map frame_spelling) is) ∙ spelled) in
        let back : frame_at c.bytes ≡ Some f = ap frame_at (sym bytes) ∙ (law w evs f few (found_at (sent_at w evs) c.frame f is)).1 in
        record { index = c.frame; event = c.event; there = is ∙ ap Some (is_whole_of c.bytes f p back c.says) }

-- The client has met the packet that came to it.
pub has_met : SentFramesAreRead → (w : Setup) (evs : List Happening) (e : Happening) (p : PacketParts) → w.servers ≤ MAX_SERVERS → p.to ≡ Client
    → Comes (observations w evs) (observation w evs e) p → HasMet w evs e (inputs.Deliver p)
has_met law w evs e p few to c =
    let past = world w evs in
    let d = delivered law w evs e p few c in
    let x = refusal (client_opening w) (client_at w evs) (inputs.Deliver p) in
    let step = OfClient (ComesFrame (Whole p) (saved_for (due (client_opening w) (client_at w evs) (inputs.Deliver p)))) in
    let brought : brings w past e ≡ outcome_of_step (unless_fault x (Ok step)) =
    ap (brings w past) d.event ∙ ap (delivery w past) d.there ∙ ap (λ n. comes_to w past n (Whole p)) to in
    let made = is_made w evs e x step brought c.accepted in
    record { free = made.free; list = list_now w evs e step made.does }

-- The packet stands in a frame that was sent.
pub came_in_frame : SentFramesAreRead → (w : Setup) (evs : List Happening) (e : Happening) (p : PacketParts) → w.servers ≤ MAX_SERVERS
    → Comes (observations w evs) (observation w evs e) p → Contains (sent_at w evs) (Whole p)
came_in_frame law w evs e p few c =
    let d = delivered law w evs e p few c in
    found_at (sent_at w evs) d.index (Whole p) d.there

-- ---- the client is on

no_loss : (d : Option Addition) → is_lost (saved_for d) ≡ false
no_loss None = refl
no_loss (Some addition) = refl

-- A client that has met something without a refusal is on.
pub on_behind : (w : Setup) (evs : List Happening) (e : Happening) (c : PacketInput) → HasMet w evs e c → is_on (client_at w (e ∷ evs)) ≡ true
on_behind w evs e c met =
    let o = client_opening w in
    let list = client_at w evs in
    let on = on_by (is_on list) (faults_of (peers o list) (words_noted o list) c) (ap is_none met.free) in
    ap is_on met.list ∙ stays_on (is_on list) (is_lost (saved_for (due o list c))) on (no_loss (due o list c))

call_on : (w : Setup) (evs : List Happening) (e : Happening) (c : PacketInput)
    → brings w (world w evs) e ≡ outcome_of_step (met_by_client w (trace w (world w evs)) c) → is_ok (told_of_happening w (world w evs) e) ≡ true
    → is_on (client_at w (e ∷ evs)) ≡ true
call_on w evs e c brought h =
    let x = refusal (client_opening w) (client_at w evs) c in
    let step = OfClient (Happens (Met c (saved_for (due (client_opening w) (client_at w evs) c)))) in
    let made = is_made w evs e x step brought h in
    on_behind w evs e c (record { free = made.free; list = list_now w evs e step made.does })

-- A restart that isn't refused is made.
restart_made : (w : Setup) (past : List Change) (e : Happening) (c : Bool) (x : Option Fault) (step : FrameStep) (fault : Fault)
    → is_ok (told_by w past e (unless_barred x (outcome_of_step (if c then Err fault else Ok step)))) ≡ true
    → unless_barred x (outcome_of_step (if c then Err fault else Ok step)) ≡ Does (MetStep step)
restart_made w past e false None step fault h = refl
restart_made w past e true None step fault h = absurd cc
restart_made w past e c (Some f) step fault h = absurd cc

restart_on : (w : Setup) (evs : List Happening) → is_ok (told_of_happening w (world w evs) (happenings.Restart Client)) ≡ true
    → is_on (client_at w (happenings.Restart Client ∷ evs)) ≡ true
restart_on w evs h =
    let past = world w evs in
    let e = happenings.Restart Client in
    let blank = w.mirror && is_blank (noted_in w (trace w past)) in
    let step = OfClient (Happens (Restart w.mirror)) in
    ap is_on (list_now w evs e step (restart_made w past e blank (bars w evs e) step BadNote h))

-- Behind what it answers the client is on.
pub on_then : (w : Setup) (evs : List Happening) (e : Happening) → is_of_client e ≡ true → is_ok (told_of_happening w (world w evs) e) ≡ true
    → is_on (client_at w (e ∷ evs)) ≡ true
on_then w evs (Begin text) own h = call_on w evs (Begin text) (inputs.Begin text) refl h
on_then w evs (Trigger run act) own h = call_on w evs (Trigger run act) (inputs.Trigger run act) refl h
on_then w evs (StopRun run) own h = call_on w evs (StopRun run) (inputs.Stop run) refl h
on_then w evs (Verify run text) own h = call_on w evs (Verify run text) (inputs.Verify run text) refl h
on_then w evs Tick own h = call_on w evs Tick inputs.Tick refl h
on_then w evs (happenings.Restart Client) own h = restart_on w evs h
on_then w evs (happenings.Restart (Server s)) own h = absurd cc
on_then w evs (happenings.Restart Mirror) own h = absurd cc
on_then w evs _ own h = absurd cc
