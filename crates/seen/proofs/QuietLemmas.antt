-- Behind a taking no write is given until a report of a check of the run.
use Rattle.std.proofs.Common.{◌≡◌, refl, sym, ◌∙◌, ap, subst, ◌⊎◌, inl, inr, ℕ, ◌≤◌, arith, Bool, true, false, List, [], ◌∷◌, ◌++◌, Option, Some, None}
use Rattle.std.specs.Prelude.{Contains, Ok}
use Rattle.std.specs.Option.{option_map}
use Rattle.std.proofs.lemmas.List.Elements.{Contains-append_cases, Contains-append_right}
use Rattle.fc_base.specs.declared.limits.TheConstants.{MAX_SERVERS}
use Rattle.fc_base.proofs.ListLemmas.{none_in, first_or_behind}
use Rattle.verify_state.specs.State.{State}
use Rattle.engine.specs.declared.issue.Issue.{Issue as Issued}
use Rattle.engine.specs.declared.issue.Issue.TheVariants.{Write}
use Rattle.engine.specs.declared.issue.Ticket.{Ticket}
use Rattle.disk_model.specs.declared.save_outcome.SaveOutcome.{SaveOutcome}
use Rattle.disk_model.specs.SaveOutcome.{is_lost, saved_for}
use Rattle.messages.specs.declared.body.Body.TheVariants as bodies
use Rattle.messages.specs.declared.packet.PacketParts.{PacketParts}
use Rattle.messages.specs.Laws.{LengthsAreBounded}
use Rattle.messages.specs.Pieces.{is_cut}
use Rattle.messages.specs.Hearing.{Coming, Comes as ComesFrame, heard_by, meaning, entry_of, heard, with_entry}
use Rattle.server_core.specs.Inputs.{PacketInput}
use Rattle.server_core.specs.declared.input.Input.TheVariants as inputs
use Rattle.server_core.specs.History.{Entry, Met, Cut, Restart}
use Rattle.server_core.specs.Request.{request_of}
use Rattle.server_core.specs.Words.{last_run, work, due}
use Rattle.server_core.specs.Taken.{takes}
use Rattle.server_core.specs.Answers.{now, packets, issue}
use Rattle.server_core.specs.Laws.{CountsTheDone, QuietWhileLast, gives_write}
use Rattle.net_world.specs.declared.told.Told.{Told}
use Rattle.net_world.specs.declared.told.WorldAnswer.TheVariants as answers
use Rattle.net_world.specs.Setup.{Setup}
use Rattle.net_world.specs.Happenings.{Happening, Issue}
use Rattle.net_world.specs.Trace.{AtServer, opening_of, sent_packets}
use Rattle.net_world.specs.Frames as frames
use Rattle.net_world.specs.Frames.{OfServer, at_server}
use Rattle.net_world.specs.Changes as changes
use Rattle.net_world.specs.Changes.{Change, steps, trace}
use Rattle.net_world.specs.Outcomes.{Outcome, Does, Refuses, Drops, outcome}
use Rattle.net_world.specs.World as worlds
use Rattle.net_world.specs.World.{world, and_outcome, answer_of_issue, told_by, told_of_happening}
use Rattle.net_world.proofs.OnlySentLemmas.{heard_fits}
use Rattle.net_world.proofs.WorldFitLemmas.{world_fits}
use Rattle.net_world.proofs.TagLemmas.{Long, OfJobs, OfVerify, long, in_range}
use Rattle.seen.specs.Observations.{Observation, frames_in}
use Rattle.seen.specs.Sightings.{IsAmong, from_server}
use Rattle.seen.specs.Takings.{IsGiven, IsReported, IsQuiet}
use Rattle.seen.specs.Watching.{observation, observations}
use Rattle.seen.proofs.RunLemmas.{ServerLaws, IsOfRun, sent_is_of_run}
use Rattle.seen.proofs.EntryLemmas.{Makes, ByFrame, ByLoss, ByWorker, ByEnd, ByCheck, ByCut, ByRestart}
use Rattle.seen.proofs.MakeLemmas.{makes}
use Rattle.seen.proofs.PlaceLemmas.{list_at, entry_now, one_more, since, since_is, seen_since, seen_at}
use Rattle.seen.proofs.FrameLemmas.{FrameLaws, sent_here, seen_here}
use Rattle.seen.proofs.SeenLemmas.{SeenLaws}
use Rattle.seen.proofs.DoneLemmas.{last_more, last_since, same_event}
use Rattle.seen.proofs.ArriveLemmas.{ArriveLaws, Arrives, same_left}

-- The laws on which this rests.
pub record TakingLaws : Type 0 where
  pub seen : SeenLaws
  pub frames : FrameLaws
  pub arriving : ArriveLaws
  pub server : ServerLaws
  pub lengths : LengthsAreBounded
  pub counts : CountsTheDone
  pub quiet : QuietWhileLast

-- ---- what an entry sends

-- A packet of an entry that arrived is seen.
pub seen_sent : FrameLaws → (w : Setup) (s : ℕ) (evs : List Happening) (e : Happening) (x : PacketInput) (left : SaveOutcome) (p : PacketParts) → w.servers ≤ MAX_SERVERS
    → Arrives w s evs e x left → Contains (packets (opening_of s) (list_at w s evs) (Met x left)) p
    → is_cut p.body ≡ false → IsAmong (observation w evs e).frames p
seen_sent laws w s evs e x left p few a h short =
    let hears : heard_by (at_server s) left (meaning (at_server s) (heard (at_server s) (frames.of_server s (steps (world w evs)))) a.frame)
    ≡ Some (Met x left) =
    ap (heard_by (at_server s) left) a.says ∙ ap (λ (y : PacketInput). Some (Met y left)) (sym a.is) in
    seen_here laws w s evs e (ComesFrame a.frame left) (Met x left) p few a.does hears short h

-- A packet of an entry that arrived was sent.
pub sent_in : (w : Setup) (s : ℕ) (evs : List Happening) (e : Happening) (c : Coming Entry SaveOutcome) (y : Entry) (p : PacketParts)
    → outcome w (world w evs) e ≡ Does (changes.Met (OfServer s c))
    → entry_of (at_server s) (heard (at_server s) (frames.of_server s (steps (world w evs)))) c ≡ Some y
    → Contains (packets (opening_of s) (list_at w s evs) y) p → Contains (sent_packets w (trace w (world w (e ∷ evs)))) p
unfolding sent_packets
sent_in w s evs e c y p does hears h =
    let t = trace w (world w evs) in
    let x = entry_of (at_server s) (heard (at_server s) (frames.of_server s (steps (world w evs)))) c in
    let is : trace w (world w (e ∷ evs)) ≡ with_entry (option_map (AtServer s) x) t = ap (λ (r : Outcome). trace w (and_outcome r (world w evs))) does in
    subst (λ l. Contains (sent_packets w l) p) (sym (is ∙ ap (λ z. with_entry (option_map (AtServer s) z) t) hears))
    (Contains-append_right (sent_packets w t) (packets (opening_of s) (list_at w s evs) y) p h)

pub hears_it : (w : Setup) (s : ℕ) (evs : List Happening) (e : Happening) (x : PacketInput) (left : SaveOutcome) → (a : Arrives w s evs e x left)
    → entry_of (at_server s) (heard (at_server s) (frames.of_server s (steps (world w evs)))) (ComesFrame a.frame left) ≡ Some (Met x left)
hears_it w s evs e x left a = ap (heard_by (at_server s) left) a.says ∙ ap (λ (y : PacketInput). Some (Met y left)) (sym a.is)

-- A packet that a server sends is never cut: only job files are long enough, and it sends none.
pub short_packet : TakingLaws → (w : Setup) (s : ℕ) (evs : List Happening) (e : Happening) (c : Coming Entry SaveOutcome) (y : Entry) (p : PacketParts)
    → w.servers ≤ MAX_SERVERS → outcome w (world w evs) e ≡ Does (changes.Met (OfServer s c))
    → entry_of (at_server s) (heard (at_server s) (frames.of_server s (steps (world w evs)))) c ≡ Some y
    → Contains (packets (opening_of s) (list_at w s evs) y) p → (Long p.body → ⊥) → is_cut p.body ≡ false
short_packet laws w s evs e c y p few does hears h not_long = by (is_cut p.body) refl
  where
    by : (b : Bool) → is_cut p.body ≡ b → b ≡ false
    by false k = refl
    by true k =
        let now_seen = e ∷ evs in
        let fits = heard_fits w (steps (world w now_seen)) (world_fits laws.arriving.reports w now_seen few) in
        let i = sent_in w s evs e c y p does hears h in
        let packet = laws.arriving.ranges w (trace w (world w now_seen)) (laws.seen.traces w now_seen few) fits p i in
        absurd (not_long (long laws.lengths p.body (in_range p packet) packet.state k))

pub not_jobs : (jobs : ℕ) (state : State) → Long (bodies.State jobs state) → ⊥
not_jobs jobs state (OfJobs run text k) = cc
not_jobs jobs state (OfVerify run attempt text k) = cc

-- ---- what is said of runs

saved_so : (w : Setup) (s : ℕ) (evs : List Happening) (x y : PacketInput) (left l : SaveOutcome) → Met x left ≡ Met y l
    → l ≡ saved_for (due (opening_of s) (list_at w s evs) y) → left ≡ saved_for (due (opening_of s) (list_at w s evs) x)
saved_so w s evs x y left l is saved =
    same_left x y left l is ∙ saved ∙ ap (λ z. saved_for (due (opening_of s) (list_at w s evs) z)) (sym (same_event x y left l is))

saved_or_lost : (w : Setup) (s : ℕ) (evs : List Happening) (e : Happening) (r : Outcome) (x : PacketInput) (left : SaveOutcome) → Makes w (world w evs) s e r (Met x left)
    → (is_lost left ≡ true) ⊎ (left ≡ saved_for (due (opening_of s) (list_at w s evs) x))
saved_or_lost w s evs e r x left (ByFrame i f p l event there to says free saved is does) = inr (saved_so w s evs x (inputs.Deliver p) left l is saved)
saved_or_lost w s evs e r x left (ByLoss y l is lost d due_is) = inl (ap is_lost (same_left x y left l is) ∙ lost)
saved_or_lost w s evs e r x left (ByWorker j l event saved is c does) = inr (saved_so w s evs x (inputs.Issue j) left l is saved)
saved_or_lost w s evs e r x left (ByEnd end j k origin l event there free saved is c does) = inr (saved_so w s evs x _ left l is saved)
saved_or_lost w s evs e r x left (ByCheck boot a j report l event end saved is c does) = inr (saved_so w s evs x _ left l is saved)
saved_or_lost w s evs e r x left (ByCut is) = absurd cc
saved_or_lost w s evs e r x left (ByRestart l is) = absurd cc

-- What a packet of an entry says of a run.
entry_is_of_run : ServerLaws → (w : Setup) (s : ℕ) (evs : List Happening) (e : Happening) (y : Entry) (p : PacketParts) → entry_now w s evs e ≡ Some y
    → Contains (packets (opening_of s) (list_at w s evs) y) p
    → IsOfRun (last_run (opening_of s) (list_at w s evs)) (last_run (opening_of s) (list_at w s (e ∷ evs))) p.body
entry_is_of_run laws w s evs e (Met x left) p is h =
    let o = opening_of s in
    let list = list_at w s evs in
    let now : list_at w s (e ∷ evs) ≡ Met x left ∷ list = one_more w s evs e ∙ ap (λ z. with_entry z list) is in
    let m = makes w (world w evs) s e (Met x left) is in
    subst (λ l. IsOfRun (last_run o list) (last_run o l) p.body) (sym now)
    (sent_is_of_run laws o list x left p (saved_or_lost w s evs e (outcome w (world w evs) e) x left m) h)
entry_is_of_run laws w s evs e Cut p is h = absurd (none_in p h)
entry_is_of_run laws w s evs e (Restart left) p is h = absurd (none_in p h)

-- A report of a check is of the last run.
reported_run : TakingLaws → (w : Setup) (s : ℕ) (evs : List Happening) (e : Happening) (run : ℕ) → w.servers ≤ MAX_SERVERS
    → IsReported (observation w evs e) s run → last_run (opening_of s) (list_at w s evs) ≡ run
reported_run laws w s evs e run few r =
    let p = from_server s (bodies.Report run r.attempt r.job r.jobs r.report) in
    let k = sent_here laws.frames w s evs e p few refl r.sent in
    let same : run ≡ last_run (opening_of s) (list_at w s evs) = entry_is_of_run laws.server w s evs e k.entry p k.is k.sends in
    sym same

-- A run that is said to have started is none above the last.
pub started_upto : TakingLaws → (w : Setup) (s run : ℕ) (evs : List Happening) → w.servers ≤ MAX_SERVERS
    → IsAmong (frames_in (observations w evs)) (from_server s (bodies.Started run)) → run ≤ last_run (opening_of s) (list_at w s evs)
started_upto laws w s run [] few h = absurd (none_in h.bytes h.there)
started_upto laws w s run (e ∷ evs) few h =
    let p = from_server s (bodies.Started run) in
    elim (Contains-append_cases (frames_in (observations w evs)) (observation w evs e).frames h.bytes h.there) [
      | inl before ↦ let a = started_upto laws w s run evs few (record { bytes = h.bytes; there = before; says = h.says }) in
          let b = last_more laws.server.grow w s evs e in
          omega (arith, a, b)
      | inr now ↦ let k = sent_here laws.frames w s evs e p few refl (record { bytes = h.bytes; there = now; says = h.says }) in
          entry_is_of_run laws.server w s evs e k.entry p k.is k.sends
    ]

-- ---- no write is given

pub told_answer : (w : Setup) (past : List Change) (e : Happening) (r : Outcome) (t : Told) → told_by w past e r ≡ Ok t → t.answer ≡ worlds.answer w past e
told_answer w past e (Does c) t h = cc
told_answer w past e (Refuses fault) t h = absurd cc
told_answer w past e (Drops step) t h = absurd cc

write_of : (x : Option Issued) (ticket : Ticket) → answer_of_issue x ≡ answers.Issued (Write ticket) → gives_write x ≡ true
write_of None ticket h = absurd cc
write_of (Some a) ticket h = let same : a ≡ Write ticket = cc in ap (λ y. gives_write (Some y)) same

-- Where a state was taken of a run, with this event behind these.
pub record TakenAt (w : Setup) (s run : ℕ) (base : List Happening) : Type 0 where
  pub older : List Entry
  pub trigger : PacketInput
  pub was : SaveOutcome
  pub list : list_at w s base ≡ Met trigger was ∷ older
  pub job : ℕ
  pub state : State
  pub pulls : takes run job (request_of s trigger) (work (opening_of s) older) ≡ Some state
  pub last : run ≤ last_run (opening_of s) (list_at w s base)

none_is_given : TakingLaws → (w : Setup) (s run job write : ℕ) (mid base : List Happening) → TakenAt w s run base
    → last_run (opening_of s) (list_at w s (mid ++ base)) ≤ run → IsGiven (seen_since w mid base) s job write → ⊥
none_is_given laws w s run job write [] base at upto g = none_in g.given g.there
none_is_given laws w s run job write (e ∷ mid) base at upto g =
    let o = opening_of s in
    let past = world w (mid ++ base) in
    let a = last_more laws.server.grow w s (mid ++ base) e in
    let b = last_since laws.server.grow w s mid base in
    let least = at.last in
    let now : last_run o (list_at w s (mid ++ base)) ≡ run = omega (arith, a, b, least, upto) in
    elim (first_or_behind (observation w (mid ++ base) e) (seen_since w mid base) g.given g.there) [
      | inl here ↦ let is : e ≡ Issue s job = subst (λ (x : Observation). x.event ≡ Issue s job) (sym here) g.event in
          let told : told_of_happening w past e ≡ Ok g.answer = subst (λ (x : Observation). x.told ≡ Ok g.answer) (sym here) g.told in
          let answer : worlds.answer w past (Issue s job) ≡ answers.Issued (Write g.ticket) =
          ap (worlds.answer w past) (sym is) ∙ sym (told_answer w past e (outcome w past e) g.answer told) ∙ g.write in
          let yes = write_of (issue o (list_at w s (mid ++ base)) (inputs.Issue job)) g.ticket answer in
          let list : list_at w s (mid ++ base) ≡ since w s mid base ++ Met at.trigger at.was ∷ at.older =
          since_is w s mid base ∙ ap (λ l. since w s mid base ++ l) at.list in
          let no = laws.quiet o at.older (since w s mid base) at.trigger (inputs.Issue job) at.was run at.job at.state at.pulls
          (subst (λ l. last_run o l ≡ run) list now) in
          let both : true ≡ false = sym yes ∙ subst (λ l. gives_write (issue o l (inputs.Issue job)) ≡ false) (sym list) no in
          absurd cc
      | inr there ↦ none_is_given laws w s run job write mid base at (omega (arith, now))
          (record {
            given = g.given;
            there = there;
            event = g.event;
            answer = g.answer;
            told = g.told;
            ticket = g.ticket;
            write = g.write;
            number = g.number;
          })
    ]

pub is_quiet : TakingLaws → (w : Setup) (s run : ℕ) (later base : List Happening) → w.servers ≤ MAX_SERVERS → TakenAt w s run base
    → IsQuiet (seen_since w later base) s run
is_quiet laws w s run later base few at newer between o split reported job write given =
    let k = seen_at w later base newer o between split in
    let last = reported_run laws w s (k.earlier ++ base) k.event run few (subst (λ x. IsReported x s run) (sym k.here) reported) in
    none_is_given laws w s run job write k.earlier base at (omega (arith, last)) (subst (λ l. IsGiven l s job write) (sym k.before) given)
