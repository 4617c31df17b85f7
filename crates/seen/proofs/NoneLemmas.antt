-- The client tells a check that there is no state only where it is seen to keep none.
use Rattle.std.proofs.Common.{◌≡◌, refl, sym, ◌∙◌, ap, subst, ℕ, Bool, true, false, List, ◌∷◌, Option, None}
use Rattle.std.specs.Prelude.{if◌then◌else◌, ◌≤◌, Contains}
use Rattle.std.specs.Option.{option_map}
use Rattle.std.proofs.lemmas.List.Elements.{Contains-append_right}
use Rattle.fc_base.specs.declared.limits.TheConstants.{MAX_SERVERS}
use Rattle.verify_state.specs.State.{State}
use Rattle.messages.specs.declared.body.Body.TheVariants as bodies
use Rattle.messages.specs.declared.node.Node.TheVariants.{Client}
use Rattle.messages.specs.Hearing.{with_entry}
use Rattle.client_core.specs.Words.{is_on, kept_state}
use Rattle.net_world.specs.Setup.{Setup}
use Rattle.net_world.specs.Happenings.{Happening}
use Rattle.net_world.specs.Trace.{AtClient, of_client, client_opening}
use Rattle.net_world.specs.Barred as barred
use Rattle.net_world.specs.Frames.{OfClient}
use Rattle.net_world.specs.Holders.{key_at}
use Rattle.net_world.specs.Changes.{steps, trace}
use Rattle.net_world.specs.Outcomes.{outcome}
use Rattle.net_world.specs.World.{world}
use Rattle.seen.specs.Observations.{Observation}
use Rattle.seen.specs.Sightings.{IsAmong, to_server}
use Rattle.seen.specs.Watching.{observation, OfAllThatIsSeen}
use Rattle.seen.proofs.PlaceLemmas.{seen_in}
use Rattle.seen.proofs.FrameLemmas.{FrameLaws, frames_by_step, sent_more, step_now, sent_at, frames_now, read_among}
use Rattle.seen.proofs.ClientLemmas.{client_at}
use Rattle.client_core.specs.Laws as laws
use Rattle.seen.specs.Claims.{NoSavedIsOfNone}
use Rattle.seen.proofs.AckLemmas.{client_sends, trace_with}

shown_none : (b : Bool) (x : Option State) → x ≡ None → (if b then x else None) ≡ None
shown_none true x h = h
shown_none false x h = refl

none_here : FrameLaws → laws.NoSavedIsOfNone → (w : Setup) (evs : List Happening) (e : Happening) (s run attempt job : ℕ) → w.servers ≤ MAX_SERVERS
    → IsAmong (observation w evs e).frames (to_server s (bodies.NoSaved run attempt job)) → (observation w evs e).saved (key_at run s job) ≡ None
none_here frames none w evs e s run attempt job few h =
    let p = to_server s (bodies.NoSaved run attempt job) in
    let past = world w evs in
    let o = client_opening w in
    let list = client_at w evs in
    let more = frames_by_step w (steps past) (step_now w evs e) in
    let all = sent_more w past (outcome w past e) in
    let i = read_among frames.read w (e ∷ evs) few more
    (λ f k. subst (λ fs. Contains fs f) (sym all) (Contains-append_right (sent_at w evs) more f k)) p
    (subst (λ fs. IsAmong fs p) (frames_now w evs e) h) in
    let c = client_sends frames w (steps past) (step_now w evs e) p refl i in
    let y = c.entry in
    let now_is : trace w (world w (e ∷ evs)) ≡ AtClient y ∷ trace w past =
    trace_with w past (outcome w past e) (OfClient c.coming) c.step_is
    ∙ ap (λ x. with_entry (option_map AtClient x) (trace w past)) c.is in
    subst (λ t. (if barred.is_on w t Client then kept_state o (of_client w t) (key_at run s job) else None) ≡ None) (sym now_is)
    (shown_none (is_on (y ∷ list)) (kept_state o (y ∷ list) (key_at run s job)) (none o list y run attempt s job c.sends))

pub no_saved_is_of_none : FrameLaws → laws.NoSavedIsOfNone → OfAllThatIsSeen NoSavedIsOfNone
no_saved_is_of_none frames none w events few newer older o s run attempt job split among =
    let k = seen_in w events newer o older split in
    subst (λ (x : Observation). x.saved (key_at run s job) ≡ None) k.here
    (none_here frames none w k.earlier k.event s run attempt job few
    (subst (λ (x : Observation). IsAmong x.frames (to_server s (bodies.NoSaved run attempt job))) (sym k.here) among))
