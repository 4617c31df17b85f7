-- What the client acknowledges is seen to be kept.
use Rattle.std.proofs.Common.{◌≡◌, refl, sym, ◌∙◌, ap, subst, inl, inr, ℕ, Bool, true, false, List, [], ◌∷◌, ◌++◌, Option, Some, None}
use Rattle.std.specs.Prelude.{if◌then◌else◌, ◌≤◌, ◌&&◌, not, is_none, slice_get, Contains}
use Rattle.std.specs.Option.{option_map}
use Rattle.std.proofs.lemmas.Bool.{and_parts}
use Rattle.std.proofs.lemmas.List.Elements.{Contains-append_right}
use Rattle.fc_base.specs.declared.fault.Fault.{Fault}
use Rattle.fc_base.specs.declared.fault.Fault.TheVariants.{Down}
use Rattle.fc_base.specs.declared.limits.TheConstants.{MAX_SERVERS}
use Rattle.fc_base.specs.Faults.{when}
use Rattle.fc_base.proofs.ListLemmas.{none_in}
use Rattle.verify_state.specs.State.{State}
use Rattle.disk_model.specs.declared.save_outcome.SaveOutcome.{SaveOutcome}
use Rattle.disk_model.specs.declared.save_outcome.SaveOutcome.TheVariants as lefts
use Rattle.disk_model.specs.SaveOutcome.{is_lost}
use Rattle.node.specs.Steps.{is_answer}
use Rattle.messages.specs.declared.packet.PacketParts.{PacketParts}
use Rattle.messages.specs.declared.body.Body.TheVariants as bodies
use Rattle.messages.specs.declared.node.Node.TheVariants.{Server, Client, Mirror}
use Rattle.messages.specs.declared.frame.Frame.TheVariants.{Whole}
use Rattle.messages.specs.Hearing.{Coming, entry_of, frames_by, with_entry, heard}
use Rattle.client_core.specs.History as client
use Rattle.client_core.specs.History.{Entry, Met, Cut, Restart, Renew, Lose}
use Rattle.client_core.specs.Packets as clients
use Rattle.client_core.specs.Words.{is_on, peers, words_noted, refusal, due, is_answered, kept_state}
use Rattle.client_core.specs.Saves.{Addition}
use Rattle.client_core.specs.Refusals.{faults_of}
use Rattle.client_core.specs.Laws.{AcksAreFor}
use Rattle.net_world.specs.Setup.{Setup}
use Rattle.net_world.specs.Happenings.{Happening}
use Rattle.net_world.specs.Trace.{AtClient, IsTrace, of_client, of_server, opening_of, client_opening, mirror_opening, sent_packets}
use Rattle.net_world.specs.Barred as barred
use Rattle.net_world.specs.Frames as frames
use Rattle.net_world.specs.Frames.{FrameStep, OfServer, OfClient, OfMirror, at_server, at_client, trace_heard}
use Rattle.net_world.specs.Holders.{key_at}
use Rattle.net_world.specs.Changes as changes
use Rattle.net_world.specs.Changes.{Change, Landed, Rotted, steps, trace}
use Rattle.net_world.specs.Outcomes.{Outcome, Does, Refuses, Drops, outcome}
use Rattle.net_world.specs.World.{world, and_outcome}
use Rattle.net_world.specs.WorldLaws.{EachWorldIsATrace}
use Rattle.messages.specs.Laws.{LengthsAreBounded}
use Rattle.mirror_core.specs.Packets as mirrors
use Rattle.net_world.proofs.MirrorLemmas.{sent_by_mirror}
use Rattle.net_world.proofs.TagLemmas.{Long, OfJobs, OfVerify}
use Rattle.net_world.proofs.TraceLemmas.{taken_was_sent}
use Rattle.net_world.proofs.SaidLemmas.{Sayings, sent_by, none_says}
use Rattle.seen.specs.Observations.{Observation}
use Rattle.seen.specs.Sightings.{IsAmong, IsSeen, from_server, to_server}
use Rattle.seen.specs.Cuts.{IsKeptOrNone}
use Rattle.seen.specs.Claims.{AcksAreOfKept}
use Rattle.seen.specs.Watching.{observation, observations, OfAllThatIsSeen}
use Rattle.seen.proofs.EntryLemmas.{step_in}
use Rattle.seen.proofs.PlaceLemmas.{seen_in}
use Rattle.seen.proofs.FrameLemmas.{FrameLaws, sends_now, frames_by_step, sent_more, step_now, sent_at, frames_now, frames_are, read_among, say_among}
use Rattle.seen.proofs.FrameLemmas.{whole_of, of_whole, packets_by_entry, server_sends}
use Rattle.seen.proofs.ArriveLemmas.{ArriveLaws}
use Rattle.seen.proofs.CameLemmas.{sent_short}
use Rattle.seen.proofs.ClientLemmas.{client_at}
use Rattle.seen.proofs.SeenLemmas.{SeenLaws, all_taken, seen_was_taken}

-- The laws on which this rests.
pub record AckLaws : Type 0 where
  pub frames : FrameLaws
  pub arriving : ArriveLaws
  pub traces : EachWorldIsATrace
  pub lengths : LengthsAreBounded
  pub acks : AcksAreFor
  pub seen : SeenLaws
  pub sayings : Sayings

-- ---- what the client sends

not_server : (r : ℕ) → Server r ≡ Client → ⊥
not_server r h = cc

not_mirror : Mirror ≡ Client → ⊥
not_mirror h = cc

-- The entry of the client that sends a packet, in a step of its own.
pub record ClientSends (w : Setup) (ps : List FrameStep) (x : Option FrameStep) (p : PacketParts) : Type 0 where
  pub coming : Coming Entry SaveOutcome
  pub step_is : x ≡ Some (OfClient coming)
  pub entry : Entry
  pub is : entry_of (at_client w) (heard (at_client w) (frames.of_client w ps)) coming ≡ Some entry
  pub sends : Contains (clients.packets (client_opening w) (of_client w (trace_heard w ps)) entry) p

by_entry : FrameLaws → (w : Setup) (ps : List FrameStep) (c : Coming Entry SaveOutcome) (x : Option Entry) (p : PacketParts)
    → entry_of (at_client w) (heard (at_client w) (frames.of_client w ps)) c ≡ x
    → Contains (frames_by (clients.packets (client_opening w)) (heard (at_client w) (frames.of_client w ps)).entries x) (Whole p)
    → ClientSends w ps (Some (OfClient c)) p
by_entry laws w ps c None p is h = absurd (none_in (Whole p) h)
by_entry laws w ps c (Some y) p is h =
    let list = (heard (at_client w) (frames.of_client w ps)).entries in
    record {
      coming = c;
      step_is = refl;
      entry = y;
      is = is;
      sends = subst (λ l. Contains (clients.packets (client_opening w) l y) p) (sym (laws.own w ps).client)
          (whole_of (clients.packets (client_opening w) list y) p h);
    }

pub client_sends : FrameLaws → (w : Setup) (ps : List FrameStep) (x : Option FrameStep) (p : PacketParts) → p.from ≡ Client
    → Contains (frames_by_step w ps x) (Whole p) → ClientSends w ps x p
client_sends laws w ps None p from h = absurd (none_in (Whole p) h)
client_sends laws w ps (Some (OfClient c)) p from h =
    by_entry laws w ps c (entry_of (at_client w) (heard (at_client w) (frames.of_client w ps)) c) p refl h
client_sends laws w ps (Some (OfServer r c)) p from h =
    let list = of_server r (trace_heard w ps) in
    let y = entry_of (at_server r) (heard (at_server r) (frames.of_server r ps)) c in
    let i = whole_of (packets_by_entry r list y) p (subst (λ fs. Contains fs (Whole p)) (server_sends laws.own w ps r c) h) in
    let k = sends_now r list y p i in
    absurd (not_server r (sym (ap (λ (q : PacketParts). q.from) (laws.to_client (opening_of r) list k.entry p k.sends).ends) ∙ from))
client_sends laws w ps (Some (OfMirror e)) p from h =
    let i = whole_of (mirrors.packets mirror_opening (frames.of_mirror ps) e) p h in
    absurd (not_mirror (sym (sent_by_mirror laws.over mirror_opening (frames.of_mirror ps) e p i).0 ∙ from))

-- ---- it is on then

pub on_by : (b : Bool) (rest : List Fault) → is_none (slice_get (when (not b) Down ++ rest) 0) ≡ true → b ≡ true
on_by true rest h = refl
on_by false rest h = absurd cc

kept_by : (d : Option Addition) (left : SaveOutcome) → is_answer d left ≡ true → is_lost left ≡ false
kept_by None lefts.NoSave h = refl
kept_by None lefts.Saved h = absurd cc
kept_by None lefts.LostNew h = absurd cc
kept_by None lefts.LostOld h = absurd cc
kept_by (Some d) lefts.NoSave h = absurd cc
kept_by (Some d) lefts.Saved h = refl
kept_by (Some d) lefts.LostNew h = absurd cc
kept_by (Some d) lefts.LostOld h = absurd cc

sent_if : (b : Bool) (xs : List PacketParts) (p : PacketParts) → Contains (if b then xs else []) p → b ≡ true
sent_if true xs p h = refl
sent_if false xs p h = absurd (none_in p h)

pub stays_on : (a : Bool) (b : Bool) → a ≡ true → b ≡ false → (a && not b) ≡ true
stays_on true false h k = refl
stays_on true true h k = absurd cc
stays_on false b h k = absurd cc

-- A client that sends something is on behind it.
is_on_then : (o : client.Opening) (past : List Entry) (y : Entry) (p : PacketParts) → Contains (clients.packets o past y) p → is_on (y ∷ past) ≡ true
is_on_then o past (Met c left) p h =
    let answered = sent_if (is_answered o past c left) _ p h in
    let both = and_parts (is_none (refusal o past c)) (is_answer (due o past c) left) answered in
    stays_on (is_on past) (is_lost left) (on_by (is_on past) (faults_of (peers o past) (words_noted o past) c) both.0)
    (kept_by (due o past c) left both.1)
is_on_then o past Cut p h = absurd (none_in p h)
is_on_then o past (Restart mirror) p h = absurd (none_in p h)
is_on_then o past (Renew g left) p h = absurd (none_in p h)
is_on_then o past Lose p h = absurd (none_in p h)

pub shown_if : (b : Bool) (x : Option State) (state : State) → b ≡ true → x ≡ Some state → (if b then x else None) ≡ Some state
shown_if true x state h k = k
shown_if false x state h k = absurd cc

-- ---- the trace

pub trace_with : (w : Setup) (past : List Change) (r : Outcome) (step : FrameStep) → step_in r ≡ Some step
    → trace w (and_outcome r past) ≡ trace_heard w (step ∷ steps past)
trace_with w past (Does (changes.Met s)) step h = let same : s ≡ step = cc in ap (λ (x : FrameStep). trace_heard w (x ∷ steps past)) same
trace_with w past (Does (Landed s j k mask)) step h = absurd cc
trace_with w past (Does (Rotted s j sector bytes)) step h = absurd cc
trace_with w past (Refuses fault) step h = absurd cc
trace_with w past (Drops s) step h = let same : s ≡ step = cc in ap (λ (x : FrameStep). trace_heard w (x ∷ steps past)) same

none_is_short : (run job jobs : ℕ) → Long (bodies.NoState run job jobs) → ⊥
none_is_short run job jobs (OfJobs q text k) = cc
none_is_short run job jobs (OfVerify q attempt text k) = cc

-- ---- acknowledgements

one_or_none : (x : State) (list : List State) → list ≡ [] → list ≡ x ∷ [] → ⊥
one_or_none x list h k = let both : [] ≡ x ∷ [] = sym h ∙ k in absurd cc

-- Where a server has said that a job has no state, none of it is seen.
pub none_is_seen : Sayings → SeenLaws → (w : Setup) (evs : List Happening) (s run job jobs : ℕ) → w.servers ≤ MAX_SERVERS
    → Contains (sent_packets w (trace w (world w evs))) (from_server s (bodies.NoState run job jobs)) → (other : State) → other.key ≡ key_at run s job
    → IsSeen (observations w evs) other → ⊥
none_is_seen sayings laws w evs s run job jobs few sent other key seen =
    let q = from_server s (bodies.NoState run job jobs) in
    let t = trace w (world w evs) in
    let none = (none_says sayings s (of_server s t) q run job jobs (sent_by sayings w s t q refl sent) refl).none in
    one_or_none other (all_taken w evs (key_at run s job)) none
    (ap (all_taken w evs) (sym key) ∙ seen_was_taken laws w evs few other seen)

ack_here : AckLaws → (w : Setup) (evs : List Happening) (e : Happening) (s run job : ℕ) → w.servers ≤ MAX_SERVERS
    → IsAmong (observation w evs e).frames (to_server s (bodies.StateAck run job)) → IsKeptOrNone (observations w evs) (observation w evs e) s run job
ack_here laws w evs e s run job few h =
    let p = to_server s (bodies.StateAck run job) in
    let past = world w evs in
    let o = client_opening w in
    let list = client_at w evs in
    let more = frames_by_step w (steps past) (step_now w evs e) in
    let all = sent_more w past (outcome w past e) in
    let i = read_among laws.frames.read w (e ∷ evs) few more
    (λ f k. subst (λ fs. Contains fs f) (sym all) (Contains-append_right (sent_at w evs) more f k)) p
    (subst (λ fs. IsAmong fs p) (frames_now w evs e) h) in
    let c = client_sends laws.frames w (steps past) (step_now w evs e) p refl i in
    let y = c.entry in
    let now_is : trace w (world w (e ∷ evs)) ≡ AtClient y ∷ trace w past =
    trace_with w past (outcome w past e) (OfClient c.coming) c.step_is
    ∙ ap (λ x. with_entry (option_map AtClient x) (trace w past)) c.is in
    elim (laws.acks o list y run s job c.sends) [
      | inl kept ↦ inl (
        kept.0,
        subst (λ t. (if barred.is_on w t Client then kept_state o (of_client w t) (key_at run s job) else None) ≡ Some kept.0) (sym now_is)
            (shown_if (is_on (y ∷ list)) (kept_state o (y ∷ list) (key_at run s job)) kept.0 (is_on_then o list y p c.sends) kept.1),
      )
      | inr none ↦ let q = from_server s (bodies.NoState run job none.0) in
          let is_trace : IsTrace w (AtClient y ∷ trace w past) = subst (IsTrace w) now_is (laws.traces w (e ∷ evs) few) in
          let sent : Contains (sent_packets w (trace w past)) q = taken_was_sent w (AtClient y) (trace w past) q is_trace.1 none.1 in
          let short = sent_short laws.arriving laws.traces laws.lengths w evs q few sent (none_is_short run job none.0) in
          let whole : Contains (sent_at w evs) (Whole q) =
          subst (λ fs. Contains fs (Whole q)) (sym (laws.arriving.frames w (steps past))) (of_whole (sent_packets w (trace w past)) q short sent) in
          inr (
            (none.0, subst (λ fs. IsAmong fs q) (sym (frames_are w evs)) (say_among laws.frames.read w evs few (sent_at w evs) q whole whole)),
            none_is_seen laws.sayings laws.seen w evs s run job none.0 few sent,
          )
    ]

pub acks_are_of_kept : AckLaws → OfAllThatIsSeen AcksAreOfKept
acks_are_of_kept laws w events few newer older o s run job split among =
    let k = seen_in w events newer o older split in
    subst (λ l. IsKeptOrNone l o s run job) k.before
    (subst (λ x. IsKeptOrNone (observations w k.earlier) x s run job) k.here
    (ack_here laws w k.earlier k.event s run job few (subst (λ (x : Observation). IsAmong x.frames (to_server s (bodies.StateAck run job))) (sym k.here) among)))
