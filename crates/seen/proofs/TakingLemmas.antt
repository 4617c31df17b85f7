-- Each state that is seen was taken where it is seen to be.
use Rattle.std.proofs.Common.{◌≡◌, refl, sym, ◌∙◌, ap, subst, ℕ, ◌≤◌, arith, true, List, [], ◌∷◌, ◌++◌, length, Some, None}
use Rattle.std.specs.Prelude.{Contains}
use Rattle.std.proofs.lemmas.List.{append_cancel_right}
use Rattle.fc_base.specs.declared.limits.TheConstants.{MAX_SERVERS}
use Rattle.fc_base.specs.Counted.{has}
use Rattle.fc_base.proofs.ListLemmas.{first_of}
use Rattle.verify_state.specs.State.{State}
use Rattle.disk_model.specs.declared.save_outcome.SaveOutcome.{SaveOutcome}
use Rattle.disk_model.specs.declared.save_outcome.SaveOutcome.TheVariants.{Saved}
use Rattle.messages.specs.declared.body.Body.TheVariants as bodies
use Rattle.messages.specs.declared.refusal.Act.{Act}
use Rattle.messages.specs.Hearing.{Comes as ComesFrame}
use Rattle.server_core.specs.Inputs.{PacketInput}
use Rattle.server_core.specs.History.{Opening, Entry, Met}
use Rattle.server_core.specs.Request.{ToStart, ToTrigger, request_of}
use Rattle.server_core.specs.Words.{Staged, last_run, last_run_after, due_by, is_on, staged_run, work, due}
use Rattle.server_core.specs.Taken.{takes, and_those, takings}
use Rattle.server_core.specs.Answers.{now}
use Rattle.server_core.specs.Replies.{replies}
use Rattle.server_core.specs.Accepted.{IsTaking, IsDoneIn}
use Rattle.net_world.specs.Setup.{Setup}
use Rattle.net_world.specs.Happenings.{Happening}
use Rattle.net_world.specs.Trace.{opening_of}
use Rattle.seen.specs.Observations.{frames_in}
use Rattle.seen.specs.Sightings.{IsAmong, Comes, IsSeen, from_server, to_server}
use Rattle.seen.specs.Texts.{job_of}
use Rattle.seen.specs.Takings.{IsTaken}
use Rattle.seen.specs.Claims.{EachIsTaken}
use Rattle.seen.specs.Watching.{observation, observations, OfAllThatIsSeen}
use Rattle.seen.proofs.ServerLemmas.{is_packets, sends, due_is_answered, taking_is_of, taking_is_answered, asks_start, asks_trigger}
use Rattle.seen.proofs.PlaceLemmas.{list_at, entry_now, found, since, since_is, seen_since, seen_append, with_one}
use Rattle.seen.proofs.SeenLemmas.{all_taken, seen_was_taken}
use Rattle.seen.proofs.DoneLemmas.{DoneLaws, done_is_seen, seen_is_done, last_more}
use Rattle.seen.proofs.ArriveLemmas.{arrives, comes}
use Rattle.seen.proofs.QuietLemmas.{TakingLaws, seen_sent, hears_it, short_packet, not_jobs, started_upto, TakenAt, is_quiet}
use Rattle.seen.proofs.FileLemmas.{FileLaws}
use Rattle.seen.proofs.IssuedLemmas.{IssuedLaws}
use Rattle.seen.proofs.SettingLemmas.{is_set, issued_are_given}

-- What is known of a taking: the events of its Start and of its Trigger, and what came with them.
record Places (w : Setup) (later : List Happening) (e : Happening) (mid : List Happening) (f : Happening) (earlier : List Happening) (state : State)
    : Type 0 where
  pub trigger : PacketInput
  pub was : SaveOutcome
  pub triggered : entry_now w state.key.server (mid ++ f ∷ earlier) e ≡ Some (Met trigger was)
  pub pulls :
      takes state.key.run state.key.job (request_of state.key.server trigger) (work (opening_of state.key.server) (list_at w state.key.server (mid ++ f ∷ earlier)))
      ≡ Some state
  pub start : PacketInput
  pub started : entry_now w state.key.server earlier f ≡ Some (Met start Saved)
  pub staged : Staged
  pub accepted : due (opening_of state.key.server) (list_at w state.key.server earlier) start ≡ Some staged
  pub run_is : staged.run ≡ state.key.run
  pub counts :
      (k : ℕ) → has state.counted k ≡ true
      → IsDoneIn (opening_of state.key.server) (Met start Saved ∷ list_at w state.key.server earlier) (since w state.key.server mid (f ∷ earlier)) state.key k
  pub counts_all :
      (k : ℕ)
      → IsDoneIn (opening_of state.key.server) (Met start Saved ∷ list_at w state.key.server earlier) (since w state.key.server mid (f ∷ earlier)) state.key k
      → has state.counted k ≡ true

-- The server's start of a run, as it is seen.
record Starts (w : Setup) (s run : ℕ) (f : Happening) (earlier : List Happening) : Type 0 where
  pub comes_in : Comes (observations w earlier) (observation w earlier f) (to_server s (bodies.Start run))
  pub says : IsAmong (observation w earlier f).frames (from_server s (bodies.Started run))
  pub first : IsAmong (frames_in (observations w earlier)) (from_server s (bodies.Started run)) → ⊥
  pub last : last_run (opening_of s) (list_at w s (f ∷ earlier)) ≡ run

starts_so : TakingLaws → (w : Setup) (s run : ℕ) (f : Happening) (earlier : List Happening) (start : PacketInput) (staged : Staged) → w.servers ≤ MAX_SERVERS
    → entry_now w s earlier f ≡ Some (Met start Saved) → due (opening_of s) (list_at w s earlier) start ≡ Some staged → staged.run ≡ run
    → Starts w s run f earlier
starts_so laws w s run f earlier start staged few is accepted run_is =
    let o = opening_of s in
    let list = list_at w s earlier in
    let d = laws.server.due o list start staged accepted in
    let asks : request_of s start ≡ ToStart run = d.start ∙ ap ToStart run_is in
    let a = arrives w s earlier f start Saved is (ap is_packets asks) (λ lost x y. absurd cc) in
    let packet : a.packet ≡ to_server s (bodies.Start run) = asks_start s run a.packet (ap (request_of s) (sym a.is) ∙ asks) in
    let answered = subst (λ r. Contains (replies (now o list) (request_of s start)) (bodies.Started r)) run_is
    (due_is_answered laws.server.due o list start staged accepted) in
    let above = d.above in
    record {
      comes_in = comes laws.arriving w s earlier f start Saved (to_server s (bodies.Start run)) few a packet refl;
      says = seen_sent laws.frames w s earlier f start Saved (from_server s (bodies.Started run)) few a
          (sends o list start Saved (bodies.Started run) a.free refl answered) refl;
      first = λ h. let upto = started_upto laws w s run earlier few h in omega (arith, upto, above, run_is);
      last = ap (last_run o) (with_one w s earlier f (Met start Saved) is) ∙ ap (λ x. last_run_after Saved x (last_run o list)) accepted ∙ run_is;
    }

two_are_too_many : (x y : State) → length (x ∷ y ∷ []) ≤ 1 → ⊥
two_are_too_many x y h = absurd (omega (arith, h))

-- Nothing of the key was seen before it was taken.
none_before : TakingLaws → (w : Setup) (evs : List Happening) (trigger : PacketInput) (was : SaveOutcome) (state other : State) → w.servers ≤ MAX_SERVERS
    → takes state.key.run state.key.job (request_of state.key.server trigger) (work (opening_of state.key.server) (list_at w state.key.server evs)) ≡ Some state
    → other.key ≡ state.key → IsSeen (observations w evs) other → ⊥
none_before laws w evs trigger was state other few pulls same seen =
    let key = state.key in
    let o = opening_of key.server in
    let list = list_at w key.server evs in
    let before : all_taken w evs key ≡ other ∷ [] = ap (all_taken w evs) (sym same) ∙ seen_was_taken laws.seen w evs few other seen in
    let both : takings o key.run key.job (Met trigger was ∷ list) ≡ state ∷ other ∷ [] =
    ap (λ x. and_those x (takings o key.run key.job list)) pulls ∙ ap (λ l. state ∷ l) before in
    two_are_too_many state other (subst (λ l. length l ≤ 1) both (laws.seen.once o key.run key.job (Met trigger was ∷ list)))

-- The server's taking of a state, as it is seen.
record Triggers (w : Setup) (e : Happening) (evs : List Happening) (state : State) : Type 0 where
  pub act : Act
  pub comes_in : Comes (observations w evs) (observation w evs e) (to_server state.key.server (bodies.Trigger state.key.run act))
  pub jobs : ℕ
  pub says : IsAmong (observation w evs e).frames (from_server state.key.server (bodies.State jobs state))
  pub last : last_run (opening_of state.key.server) (list_at w state.key.server evs) ≡ state.key.run

no_start_due : (o : Opening) (list : List Entry) (x : PacketInput) (run : ℕ) (act : Act) (d : Staged) → request_of o.me x ≡ ToTrigger run act → due o list x ≡ Some d → ⊥
no_start_due o list x run act d asks h =
    let no : None ≡ Some d = sym (ap (due_by (is_on list) (last_run o list) (staged_run o list) (work o list)) asks) ∙ h in
    absurd cc

triggers_so : TakingLaws → (w : Setup) (e : Happening) (evs : List Happening) (state : State) (trigger : PacketInput) (was : SaveOutcome) → w.servers ≤ MAX_SERVERS
    → entry_now w state.key.server evs e ≡ Some (Met trigger was)
    → takes state.key.run state.key.job (request_of state.key.server trigger) (work (opening_of state.key.server) (list_at w state.key.server evs)) ≡ Some state
    → Triggers w e evs state
triggers_so laws w e evs state trigger was few is pulls =
    let key = state.key in
    let s = key.server in
    let o = opening_of s in
    let list = list_at w s evs in
    let k = taking_is_of key.run key.job (request_of s trigger) (work o list) state pulls in
    let a = arrives w s evs e trigger was is (ap is_packets k.asks) (λ lost d h. no_start_due o list trigger key.run k.act d k.asks h) in
    let packet : a.packet ≡ to_server s (bodies.Trigger key.run k.act) = asks_trigger s key.run k.act a.packet (ap (request_of s) (sym a.is) ∙ k.asks) in
    let answered = taking_is_answered o list trigger key.run key.job state pulls in
    let i = sends o list trigger was (bodies.State answered.0 state) a.free a.kept answered.1 in
    record {
      act = k.act;
      comes_in = comes laws.arriving w s evs e trigger was (to_server s (bodies.Trigger key.run k.act)) few a packet refl;
      jobs = answered.0;
      says = seen_sent laws.frames w s evs e trigger was (from_server s (bodies.State answered.0 state)) few a i
          (short_packet laws w s evs e (ComesFrame a.frame was) (Met trigger was) (from_server s (bodies.State answered.0 state)) few a.does
          (hears_it w s evs e trigger was a) i (not_jobs answered.0 state));
      last = sym (laws.server.last o list k.at k.is_at).run ∙ k.run_is;
    }

taken_at : FileLaws → (w : Setup) (later : List Happening) (e : Happening) (mid : List Happening) (f : Happening) (earlier : List Happening) (state : State)
    → w.servers ≤ MAX_SERVERS → Places w later e mid f earlier state → IsTaken (observations w (later ++ e ∷ (mid ++ f ∷ earlier))) state
taken_at files w later e mid f earlier state few p =
    let laws = files.taking in
    let key = state.key in
    let s = key.server in
    let o = opening_of s in
    let taken_then = mid ++ f ∷ earlier in
    let a = starts_so laws w s key.run f earlier p.start p.staged few p.started p.accepted p.run_is in
    let b = triggers_so laws w e taken_then state p.trigger p.was few p.triggered p.pulls in
    let list : list_at w s (f ∷ earlier) ≡ Met p.start Saved ∷ list_at w s earlier = with_one w s earlier f (Met p.start Saved) p.started in
    let inner : observations w taken_then ≡ seen_since w mid (f ∷ earlier) ++ observation w earlier f ∷ observations w earlier = seen_append w mid (f ∷ earlier) in
    let more = last_more laws.server.grow w s taken_then e in
    let done : DoneLaws = record { grow = laws.server.grow; last = laws.server.last } in
    let last = b.last in
    let set = is_set files w taken_then state (request_of s p.trigger) few p.pulls in
    let issuing : IssuedLaws = record { grow = laws.server.grow; due = laws.server.due } in
    let given = issued_are_given issuing w mid f earlier state (request_of s p.trigger) p.start p.staged p.started p.accepted a.last last p.pulls in
    let at : TakenAt w s key.run (e ∷ taken_then) =
    record {
      older = list_at w s taken_then;
      trigger = p.trigger;
      was = p.was;
      list = with_one w s taken_then e (Met p.trigger p.was) p.triggered;
      job = key.job;
      state = state;
      pulls = p.pulls;
      last = omega (arith, more, last);
    } in
    record {
      newer = seen_since w later (e ∷ taken_then);
      trigger = observation w taken_then e;
      between = seen_since w mid (f ∷ earlier);
      start = observation w earlier f;
      older = observations w earlier;
      split = seen_append w later (e ∷ taken_then) ∙ ap (λ l. seen_since w later (e ∷ taken_then) ++ observation w taken_then e ∷ l) inner;
      starts = a.comes_in;
      started = a.says;
      started_first = a.first;
      act = b.act;
      triggers = subst (λ l. Comes l (observation w taken_then e) (to_server s (bodies.Trigger key.run b.act))) inner b.comes_in;
      jobs = b.jobs;
      sent = b.says;
      seen_first = λ other same seen. none_before laws w taken_then p.trigger p.was state other few p.pulls same (subst (λ l. IsSeen l other) (sym inner) seen);
      job = set.job;
      has_job = subst (λ l. job_of key l ≡ Some set.job) inner set.has_job;
      settings = set.settings;
      issues = given.each;
      issues_all = given.no_other;
      counts = λ k h. done_is_seen laws.server.last w s mid (f ∷ earlier) (Met p.start Saved ∷ list_at w s earlier) key k (p.counts k h);
      counts_all = λ k d. p.counts_all k (seen_is_done done w s key.run mid (f ∷ earlier) (Met p.start Saved ∷ list_at w s earlier) key.job k list a.last b.last d);
      quiet = is_quiet laws w s key.run later (e ∷ taken_then) few at;
    }

-- The places of a taking that a server has made.
places : (w : Setup) (evs : List Happening) (state : State)
    → (t : IsTaking (opening_of state.key.server) state.key.run state.key.job (list_at w state.key.server evs) state)
    → (later : List Happening) × (e : Happening) × (mid : List Happening) × (f : Happening) × (earlier : List Happening)
    × (evs ≡ later ++ e ∷ (mid ++ f ∷ earlier)) × Places w later e mid f earlier state
places w evs state t =
    let key = state.key in
    let s = key.server in
    let o = opening_of s in
    let first = found w s evs t.newer t.trigger t.left (t.between ++ Met t.start Saved ∷ t.older) t.split in
    let second = found w s first.earlier t.between t.start Saved t.older first.before in
    let base = second.event ∷ second.earlier in
    let taken_then = second.later ++ base in
    let e = first.event in
    let whole : evs ≡ first.later ++ e ∷ taken_then = first.split ∙ ap (λ l. first.later ++ e ∷ l) second.split in
    let list : list_at w s taken_then ≡ t.between ++ Met t.start Saved ∷ t.older = ap (list_at w s) (sym second.split) ∙ first.before in
    let below : list_at w s base ≡ Met t.start Saved ∷ t.older =
    with_one w s second.earlier second.event (Met t.start Saved) second.now ∙ ap (λ l. Met t.start Saved ∷ l) second.before in
    let between : since w s second.later base ≡ t.between =
    append_cancel_right (since w s second.later base) t.between (Met t.start Saved ∷ t.older)
    (ap (λ l. since w s second.later base ++ l) (sym below) ∙ sym (since_is w s second.later base) ∙ list) in
    let counted : (k : ℕ) → IsDoneIn o (Met t.start Saved ∷ t.older) t.between key k
    ≡ IsDoneIn o (Met t.start Saved ∷ list_at w s second.earlier) (since w s second.later base) key k =
    λ k. ap (λ l. IsDoneIn o (Met t.start Saved ∷ t.older) l key k) (sym between)
    ∙ ap (λ l. IsDoneIn o (Met t.start Saved ∷ l) (since w s second.later base) key k) (sym second.before) in (
      first.later,
      e,
      second.later,
      second.event,
      second.earlier,
      whole,
      record {
        trigger = t.trigger;
        was = t.left;
        triggered = subst (λ l. entry_now w s l e ≡ Some (Met t.trigger t.left)) second.split first.now;
        pulls = subst (λ l. takes key.run key.job (request_of s t.trigger) (work o l) ≡ Some state) (sym list) t.pulls;
        start = t.start;
        started = second.now;
        staged = t.started;
        accepted = subst (λ l. due o l t.start ≡ Some t.started) (sym second.before) t.accepted;
        run_is = t.run_is;
        counts = λ k h. subst (λ (X : Type 0). X) (counted k) (t.counts k h);
        counts_all = λ k d. t.counts_all k (subst (λ (X : Type 0). X) (sym (counted k)) d);
      },
    )

pub each_is_taken : FileLaws → OfAllThatIsSeen EachIsTaken
each_is_taken files w evs few state seen =
    let laws = files.taking in
    let key = state.key in
    let is = seen_was_taken laws.seen w evs few state seen in
    let i : Contains (all_taken w evs key) state = subst (λ l. Contains l state) (sym is) (first_of state []) in
    let t = laws.counts (opening_of key.server) key.run key.job (list_at w key.server evs) state i in
    let p = places w evs state t in
    subst (λ l. IsTaken (observations w l) state) (sym p.5) (taken_at files w p.0 p.1 p.2 p.3 p.4 state few p.6)
