-- Where a trigger is seen to have ended well at a server, each state that is seen of the run there is seen to be kept.
use Rattle.std.proofs.Common.{◌≡◌, refl, sym, ◌∙◌, ap, subst, inl, inr, ℕ, ◌<◌, arith, Bool, true, false, List, [], ◌∷◌, ◌++◌, length, Some, append_assoc}
use Rattle.std.specs.Prelude.{◌≤◌, ◌&&◌, not, is_ok, slice_get, Contains}
use Rattle.std.proofs.lemmas.Bool.{and_parts}
use Rattle.std.proofs.lemmas.List.Elements.{Contains-append_left}
use Rattle.std.proofs.lemmas.Option.{slice_get_within, get_or_from_slice_get}
use Rattle.fc_base.proofs.ListLemmas.{first_of}
use Rattle.fc_base.specs.declared.limits.TheConstants.{MAX_SERVERS}
use Rattle.fc_base.specs.declared.numbers.Key.{Key}
use Rattle.job_file.specs.declared.job.Job.{Job}
use Rattle.verify_state.specs.State.{State}
use Rattle.messages.specs.declared.body.Body.TheVariants as bodies
use Rattle.messages.specs.declared.frame.Frame.TheVariants.{Whole}
use Rattle.messages.specs.declared.packet.PacketParts.{PacketParts}
use Rattle.server_core.specs.Taken.{takings}
use Rattle.net_world.specs.Setup.{Setup}
use Rattle.net_world.specs.Happenings.{Happening}
use Rattle.net_world.specs.Trace.{opening_of, of_server, sent_packets}
use Rattle.net_world.specs.Holders.{key_at}
use Rattle.net_world.specs.Changes.{steps, trace}
use Rattle.net_world.specs.World.{world}
use Rattle.net_world.proofs.BegunLemmas.{begun, taken_of_set}
use Rattle.net_world.proofs.OnlySentLemmas.{frame_is}
use Rattle.net_world.proofs.SaidLemmas.{Sayings, SaysJobs, sent_by, state_says, none_says, same_count}
use Rattle.seen.specs.Observations.{Observation, frames_in}
use Rattle.seen.specs.Sightings.{IsAmong, IsSeen, InFrame, from_server}
use Rattle.seen.specs.Kept.{CameAmong, TellsOf, is_loss, keeps_note}
use Rattle.seen.specs.Claims.{EndedIsKept}
use Rattle.seen.specs.Watching.{observations, OfAllThatIsSeen}
use Rattle.seen.proofs.PlaceLemmas.{SeenIn, list_at, seen_in}
use Rattle.seen.proofs.FrameLemmas.{sent_at, frames_are, read_among}
use Rattle.seen.proofs.AckLemmas.{none_is_seen}
use Rattle.seen.proofs.SeenLemmas.{seen_was_taken, one_state}
use Rattle.seen.proofs.KeptLemmas.{KeptLaws, what_comes_is_kept}

-- ---- what came among some was sent

frames_stay : (newer older : List Observation) (bytes : List ℕ) → Contains (frames_in older) bytes → Contains (frames_in (newer ++ older)) bytes
frames_stay [] older bytes h = h
frames_stay (o ∷ newer) older bytes h = Contains-append_left (frames_in (newer ++ older)) o.frames bytes (frames_stay newer older bytes h)

-- The frame of a packet that came stands among all.
came_among : (recent old : List Observation) (p : PacketParts) → CameAmong recent old p → IsAmong (frames_in (recent ++ old)) p
came_among recent old p c =
    let comes = c.comes in
    let there = frames_stay (c.later ++ c.now ∷ []) (c.earlier ++ old) comes.bytes (bytes_in (frames_in (c.earlier ++ old)) comes.frame comes.bytes comes.there) in
    let all : (c.later ++ c.now ∷ []) ++ (c.earlier ++ old) ≡ recent ++ old =
    append_assoc c.later (c.now ∷ []) (c.earlier ++ old) ∙ sym (append_assoc c.later (c.now ∷ c.earlier) old) ∙ ap (λ l. l ++ old) (sym c.split) in
    record { bytes = comes.bytes; there = subst (λ l. Contains (frames_in l) comes.bytes) all there; says = comes.says }
  where
    bytes_in : (frames : List (List ℕ)) (i : ℕ) (bytes : List ℕ) → slice_get frames i ≡ Some bytes → Contains frames bytes
    bytes_in frames i bytes h = (i, slice_get_within frames i bytes h, get_or_from_slice_get frames i bytes bytes h)

-- The frame of a packet that is said among all that was seen, and the packet.
framed : KeptLaws → (w : Setup) (evs : List Happening) (p : PacketParts) → w.servers ≤ MAX_SERVERS → IsAmong (frames_in (observations w evs)) p
    → Contains (sent_at w evs) (Whole p)
framed laws w evs p few h = read_among laws.seen.read w evs few (sent_at w evs) (λ f k. k) p (subst (λ fs. IsAmong fs p) (frames_are w evs) h)

sent : KeptLaws → (w : Setup) (evs : List Happening) (p : PacketParts) → w.servers ≤ MAX_SERVERS → IsAmong (frames_in (observations w evs)) p
    → Contains (sent_packets w (trace w (world w evs))) p
sent laws w evs p few h = frame_is laws.seen.frames w (steps (world w evs)) (Whole p) (framed laws w evs p few h)

-- ---- how many jobs there are

run_of_key : (a b : Key) → a ≡ b → a.run ≡ b.run
run_of_key a b h = ap (λ (k : Key). k.run) h

-- What a server has told of the number of its jobs is the length of the set with which the run was begun.
count_told : KeptLaws → Sayings → (w : Setup) (evs : List Happening) (recent old : List Observation) (s run job jobs : ℕ) (set : List Job)
    → w.servers ≤ MAX_SERVERS → recent ++ old ≡ observations w evs → begun (opening_of s) run (list_at w s evs) ≡ Some set
    → TellsOf recent old s run job jobs → jobs ≡ length set
count_told laws sayings w evs recent old s run job jobs set few all is (inl k) =
    let p = from_server s (bodies.State jobs k.0) in
    let i = sent laws w evs p few (subst (λ l. IsAmong (frames_in l) p) all (came_among recent old p k.2)) in
    let t = trace w (world w evs) in
    let says = state_says sayings s (of_server s t) p jobs k.0 (sent_by sayings w s t p refl i) refl in
    same_count (opening_of s) run jobs (of_server s t) set is
    (subst (λ r. SaysJobs (opening_of s) (of_server s t) r jobs) (run_of_key (k.0).key (key_at run s job) k.1) says)
count_told laws sayings w evs recent old s run job jobs set few all is (inr came) =
    let p = from_server s (bodies.NoState run job jobs) in
    let i = sent laws w evs p few (subst (λ l. IsAmong (frames_in l) p) all (came_among recent old p came)) in
    let t = trace w (world w evs) in
    let says = none_says sayings s (of_server s t) p run job jobs (sent_by sayings w s t p refl i) refl in
    same_count (opening_of s) run jobs (of_server s t) set is says.says

-- The job of a state that is seen is one of these.
job_is_told : KeptLaws → Sayings → (w : Setup) (evs : List Happening) (recent old : List Observation) (jobs first : ℕ) (state : State)
    → w.servers ≤ MAX_SERVERS → recent ++ old ≡ observations w evs → TellsOf recent old state.key.server state.key.run first jobs
    → IsSeen (observations w evs) state → state.key.job < jobs
job_is_told laws sayings w evs recent old jobs first state few all told seen =
    let key = state.key in
    let o = opening_of key.server in
    let taken : Contains (takings o key.run key.job (list_at w key.server evs)) state =
    subst (λ l. Contains l state) (sym (seen_was_taken laws.seen w evs few state seen)) (first_of state []) in
    let set = taken_of_set sayings.grow o key.run key.job (list_at w key.server evs) state taken in
    let count = count_told laws sayings w evs recent old key.server key.run first jobs set.jobs few all set.is told in
    let within = set.within in
    omega (arith, count, within)

-- ---- it is kept

keeps_later : (later : List Observation) (now : Observation) (earlier : List Observation) → keeps_note (later ++ now ∷ earlier) ≡ true → keeps_note later ≡ true
keeps_later [] now earlier h = refl
keeps_later (x ∷ later) now earlier h =
    let own = not (is_loss x.event && is_ok x.told) in
    let both = and_parts own (keeps_note (later ++ now ∷ earlier)) h in
    two own (keeps_note later) both.0 (keeps_later later now earlier both.1)
  where
    two : (a b : Bool) → a ≡ true → b ≡ true → (a && b) ≡ true
    two true b h k = k
    two false b h k = absurd cc

pub ended_is_kept : KeptLaws → Sayings → OfAllThatIsSeen EndedIsKept
ended_is_kept laws sayings w events few newer recent old o s run state split ends keeps answers seen run_is server_is =
    by (told_of.1)
  where
    k : SeenIn w events o (recent ++ old)
    k = seen_in w events newer o (recent ++ old) split

    here : recent ++ old ≡ observations w k.earlier
    here = sym k.before

    seen_here : IsSeen (observations w k.earlier) state
    seen_here = subst (λ l. IsSeen l state) here seen

    key_is : state.key ≡ key_at run s state.key.job
    key_is = ap (λ r. key_at r state.key.server state.key.job) run_is ∙ ap (λ n. key_at run n state.key.job) server_is

    told : TellsOf recent old state.key.server state.key.run ends.first ends.jobs
    told =
        subst (λ n. TellsOf recent old n state.key.run ends.first ends.jobs) (sym server_is)
        (subst (λ r. TellsOf recent old s r ends.first ends.jobs) (sym run_is) ends.told)

    told_of : (number : ℕ) × TellsOf recent old s run state.key.job number
    told_of = ends.each state.key.job (job_is_told laws sayings w k.earlier recent old ends.jobs ends.first state few here told seen_here)

    by : TellsOf recent old s run state.key.job told_of.0 → o.saved state.key ≡ Some state
    by (inl t) =
        let p = from_server s (bodies.State told_of.0 t.0) in
        let c = t.2 in
        let key : (t.0).key ≡ state.key = t.1 ∙ sym key_is in
        let among : IsAmong (frames_in (observations w k.earlier)) p = subst (λ l. IsAmong (frames_in l) p) here (came_among recent old p c) in
        let same = one_state laws.seen w k.earlier few t.0 state (InFrame p among refl) seen_here key in
        let place : observations w events ≡ (newer ++ o ∷ c.later) ++ c.now ∷ (c.earlier ++ old) =
        split ∙ ap (λ l. newer ++ o ∷ (l ++ old)) c.split ∙ ap (λ l. newer ++ o ∷ l) (append_assoc c.later (c.now ∷ c.earlier) old)
        ∙ sym (append_assoc newer (o ∷ c.later) (c.now ∷ (c.earlier ++ old))) in
        let kept = what_comes_is_kept laws w events few (newer ++ o ∷ c.later) (c.earlier ++ old) c.now s told_of.0 t.0 place c.comes in
        let shown = kept.later newer c.later o refl (keeps_later c.later c.now c.earlier (ap keeps_note (sym c.split) ∙ keeps)) answers in
        ap o.saved (sym key) ∙ shown ∙ ap Some same
    by (inr c) =
        let p = from_server s (bodies.NoState run state.key.job told_of.0) in
        let i = sent laws w k.earlier p few (subst (λ l. IsAmong (frames_in l) p) here (came_among recent old p c)) in
        absurd (none_is_seen sayings laws.seen w k.earlier s run state.key.job told_of.0 few i state key_is seen_here)
