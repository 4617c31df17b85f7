-- Writes that were told done, as they are seen and as a server heard it.
use Rattle.std.proofs.Common.{◌≡◌, refl, sym, ◌∙◌, ap, subst, inl, inr, ℕ, ◌≤◌, arith, Bool, true, false, List, [], ◌∷◌, ◌++◌, Option, Some, None, Ok}
use Rattle.std.specs.Prelude.{if◌then◌else◌, ◌==◌, is_ok, slice_get}
use Rattle.std.proofs.lemmas.Bool.{eq-eqb}
use Rattle.fc_base.specs.Counted.{has}
use Rattle.fc_base.specs.declared.fault.Fault.{Fault}
use Rattle.fc_base.specs.declared.numbers.Key.{Key}
use Rattle.fc_base.proofs.ListLemmas.{none_in, first_of, behind_one, first_or_behind}
use Rattle.job_file.specs.declared.job.Job.{Job}
use Rattle.engine.specs.History.{open_writes}
use Rattle.engine.specs.declared.issue.Ticket.{Ticket}
use Rattle.engine.specs.Running.{Origin}
use Rattle.engine.specs.Answers.{ticket_of}
use Rattle.disk_model.specs.declared.save_outcome.SaveOutcome.{SaveOutcome}
use Rattle.disk_model.specs.SaveOutcome.{saved_for}
use Rattle.messages.specs.Hearing.{Happens, with_entry}
use Rattle.server_core.specs.Inputs.{PacketInput}
use Rattle.server_core.specs.declared.input.Input.TheVariants as inputs
use Rattle.server_core.specs.declared.input.WriteEnd.{WriteEnd}
use Rattle.server_core.specs.declared.input.WriteEnd.TheVariants as ends
use Rattle.server_core.specs.History as server
use Rattle.server_core.specs.History.{Opening, Entry}
use Rattle.server_core.specs.Run.{Work, origin_of, history}
use Rattle.server_core.specs.OpenWrites.{open_origin, open_origin_of}
use Rattle.server_core.specs.Words.{last_run, work, due}
use Rattle.server_core.specs.Answers.{refusal}
use Rattle.server_core.specs.Accepted.{IsDoneBy, IsDoneIn}
use Rattle.server_core.specs.Laws.{NumbersGrow, PresentIsLast}
use Rattle.net_world.specs.Setup.{Setup}
use Rattle.net_world.specs.Happenings.{Happening, Done}
use Rattle.net_world.specs.Events.{happening_of_end}
use Rattle.net_world.specs.Trace.{of_server, opening_of}
use Rattle.net_world.specs.Frames.{FrameStep, OfServer, frames_sent}
use Rattle.net_world.specs.Changes.{Change, steps, trace}
use Rattle.net_world.specs.Writes.{open_at}
use Rattle.net_world.specs.Barred.{barring_fault}
use Rattle.net_world.specs.Outcomes.{Outcome, Does, outcome_of_step, unless_fault, unless_barred, end_of_write, outcome}
use Rattle.net_world.specs.World.{world, told_by, told_of_happening}
use Rattle.seen.specs.Observations.{Observation}
use Rattle.seen.specs.Takings.{IsDone}
use Rattle.seen.specs.Watching.{observation}
use Rattle.seen.proofs.EntryLemmas.{step_in, entry_by, Makes, ByFrame, ByLoss, ByWorker, ByEnd, ByCheck, ByCut, ByRestart}
use Rattle.seen.proofs.MakeLemmas.{makes}
use Rattle.seen.proofs.PlaceLemmas.{list_at, entry_now, one_more, since, since_is, seen_since}

-- ---- where an open write comes from

same_origin : (x y : Origin) → Some x ≡ Some y → x ≡ y
same_origin x y h = cc

pub record OfRun (x : Option Work) (j : ℕ) (origin : Origin) : Type 0 where
  pub at : Work
  pub is : x ≡ Some at
  pub key : origin.key ≡ record { run = at.run; server = at.server; job = j }

origin_in : (w : Work) (j k : ℕ) (x : Option Job) (origin : Origin) → open_origin_of w j k x ≡ Some origin
    → origin.key ≡ record { run = w.run; server = w.server; job = j }
origin_in w j k None origin h = absurd cc
origin_in w j k (Some job) origin h = by (has (open_writes (history (origin_of w j job) w.since)) k) h
  where
    by : (b : Bool) → (if b then Some (origin_of w j job) else None) ≡ Some origin → origin.key ≡ record { run = w.run; server = w.server; job = j }
    by true e = ap (λ (x : Origin). x.key) (sym (same_origin (origin_of w j job) origin e))
    by false e = absurd cc

pub of_run : (x : Option Work) (j k : ℕ) (origin : Origin) → open_origin x j k ≡ Some origin → OfRun x j origin
of_run None j k origin h = absurd cc
of_run (Some w) j k origin h = record { at = w; is = refl; key = origin_in w j k (slice_get w.jobs j) origin h }

make_key : ℕ → ℕ → ℕ → Key
make_key run s j = record { run = run; server = s; job = j }

-- The key of an open write names its server and job, and the last run.
pub open_key : PresentIsLast → (w : Setup) (s : ℕ) (events : List Happening) (j k : ℕ) (origin : Origin)
    → open_at (trace w (world w events)) s j k ≡ Some origin
    → origin.key ≡ record { run = last_run (opening_of s) (list_at w s events); server = s; job = j }
unfolding make_key
open_key law w s events j k origin h =
    let f = of_run (work (opening_of s) (list_at w s events)) j k origin h in
    let l = law (opening_of s) (list_at w s events) f.at f.is in
    f.key ∙ ap (λ r. make_key r f.at.server j) l.run ∙ ap (λ m. make_key (last_run (opening_of s) (list_at w s events)) m j) l.server

-- ---- as the server heard it, so it is seen

-- The event with which a write was told done.
pub record Ended (w : Setup) (past : List Change) (s : ℕ) (e : Happening) (r : Outcome) (ticket : Ticket) : Type 0 where
  pub job : ℕ
  pub write : ℕ
  pub origin : Origin
  pub event : e ≡ Done s job write
  pub there : open_at (trace w past) s job write ≡ Some origin
  pub ticket_is : ticket ≡ ticket_of origin write
  pub change : Change
  pub does : r ≡ Does change

same_end : (t u : Ticket) (a b : WriteEnd) (l m : SaveOutcome) → server.Met (inputs.WriteDone t a) l ≡ server.Met (inputs.WriteDone u b) m → (t ≡ u) × (a ≡ b)
same_end t u a b l m h = (cc, cc)

pub same_event : (x y : PacketInput) (l m : SaveOutcome) → server.Met x l ≡ server.Met y m → x ≡ y
same_event x y l m h = cc

pub ended : (w : Setup) (past : List Change) (s : ℕ) (e : Happening) (r : Outcome) (ticket : Ticket) (left : SaveOutcome)
    → Makes w past s e r (server.Met (inputs.WriteDone ticket ends.Done) left) → Ended w past s e r ticket
ended w past s e r ticket left (ByFrame i f p l event there to says free saved is does) = absurd cc
ended w past s e r ticket left (ByLoss x l is lost d due_is) =
    let same = same_event (inputs.WriteDone ticket ends.Done) x left l is in
    let no : None ≡ Some d = subst (λ (y : PacketInput). due (opening_of s) (of_server s (trace w past)) y ≡ Some d) (sym same) due_is in
    absurd cc
ended w past s e r ticket left (ByWorker j l event saved is c does) = absurd cc
ended w past s e r ticket left (ByEnd end j k origin l event there free saved is c does) =
    let same = same_end ticket (ticket_of origin k) ends.Done end left l is in
    record {
      job = j;
      write = k;
      origin = origin;
      event = subst (λ x. e ≡ happening_of_end x s j k) (sym same.1) event;
      there = there;
      ticket_is = same.0;
      change = c;
      does = does;
    }
ended w past s e r ticket left (ByCheck boot a j report l event end saved is c does) = absurd cc
ended w past s e r ticket left (ByCut is) = absurd cc
ended w past s e r ticket left (ByRestart l is) = absurd cc

earlier_done : (o : Observation) (among : List Observation) (s j k : ℕ) → IsDone among s j k → IsDone (o ∷ among) s j k
earlier_done o among s j k d = record { done = d.done; there = behind_one o among d.done d.there; event = d.event; accepted = d.accepted }

pub told_ok : (w : Setup) (past : List Change) (e : Happening) (r : Outcome) (c : Change) → r ≡ Does c → is_ok (told_by w past e r) ≡ true
told_ok w past e r c h = ap (λ x. is_ok (told_by w past e x)) h

-- A write that a server accepted as done with an event is seen to be.
done_now : PresentIsLast → (w : Setup) (s : ℕ) (events : List Happening) (e : Happening) (x : PacketInput) (left : SaveOutcome) (past : List Entry) (key : Key) (k : ℕ)
    (among : List Observation) → entry_now w s events e ≡ Some (server.Met x left) → IsDoneBy (opening_of s) past x key k
    → IsDone (observation w events e ∷ among) s key.job k
done_now law w s events e (inputs.WriteDone ticket ends.Done) left past key k among h d =
    let m = ended w (world w events) s e (outcome w (world w events) e) ticket left (makes w (world w events) s e (server.Met (inputs.WriteDone ticket ends.Done) left) h) in
    let opened = open_key law w s events m.job m.write m.origin m.there in
    let job : m.job ≡ key.job =
    ap (λ (y : Key). y.job) (sym opened ∙ ap (λ (y : Ticket). y.key) (sym m.ticket_is) ∙ d.0) in
    let write : m.write ≡ k = ap (λ (y : Ticket). y.seq) (sym m.ticket_is) ∙ d.1 in
    record {
      done = observation w events e;
      there = first_of (observation w events e) among;
      event = m.event ∙ ap (λ n. Done s n m.write) job ∙ ap (λ n. Done s key.job n) write;
      accepted = told_ok w (world w events) e (outcome w (world w events) e) m.change m.does;
    }
done_now law w s events e (inputs.WriteDone ticket ends.Failed) left past key k among h d = absurd d
done_now law w s events e (inputs.Deliver p) left past key k among h d = absurd d
done_now law w s events e (inputs.Issue j) left past key k among h d = absurd d
done_now law w s events e (inputs.CheckDone boot a j report) left past key k among h d = absurd d

done_by : PresentIsLast → (w : Setup) (s : ℕ) (mid base : List Happening) (e : Happening) (before : List Entry) (key : Key) (k : ℕ) (n : Option Entry)
    → entry_now w s (mid ++ base) e ≡ n
    → (IsDoneIn (opening_of s) before (since w s mid base) key k → IsDone (seen_since w mid base) s key.job k)
    → IsDoneIn (opening_of s) before (with_entry n (since w s mid base)) key k → IsDone (seen_since w (e ∷ mid) base) s key.job k
done_by law w s mid base e before key k None is f d =
    earlier_done (observation w (mid ++ base) e) (seen_since w mid base) s key.job k (f d)
done_by law w s mid base e before key k (Some (server.Met x left)) is f (inl d) =
    earlier_done (observation w (mid ++ base) e) (seen_since w mid base) s key.job k (f d)
done_by law w s mid base e before key k (Some (server.Met x left)) is f (inr d) =
    done_now law w s (mid ++ base) e x left (since w s mid base ++ before) key k (seen_since w mid base) is d
done_by law w s mid base e before key k (Some server.Cut) is f d =
    earlier_done (observation w (mid ++ base) e) (seen_since w mid base) s key.job k (f d)
done_by law w s mid base e before key k (Some (server.Restart left)) is f d =
    earlier_done (observation w (mid ++ base) e) (seen_since w mid base) s key.job k (f d)

-- A write that a server accepted as done since these events is seen to be.
pub done_is_seen : PresentIsLast → (w : Setup) (s : ℕ) (mid base : List Happening) (before : List Entry) (key : Key) (k : ℕ)
    → IsDoneIn (opening_of s) before (since w s mid base) key k → IsDone (seen_since w mid base) s key.job k
done_is_seen law w s [] base before key k d = absurd d
done_is_seen law w s (e ∷ mid) base before key k d =
    done_by law w s mid base e before key k (entry_now w s (mid ++ base) e) refl (done_is_seen law w s mid base before key k) d

-- ---- as it is seen, so the server heard it

-- The completion that a server has accepted with an event.
pub record Accepts (w : Setup) (s : ℕ) (events : List Happening) (e : Happening) (j k : ℕ) : Type 0 where
  pub origin : Origin
  pub there : open_at (trace w (world w events)) s j k ≡ Some origin
  pub free : refusal (opening_of s) (list_at w s events) (inputs.WriteDone (ticket_of origin k) ends.Done) ≡ None
  pub left : SaveOutcome
  pub heard : entry_now w s events e ≡ Some (server.Met (inputs.WriteDone (ticket_of origin k) ends.Done) left)

-- What isn't refused comes of what happens.
pub ok_by : (w : Setup) (past : List Change) (e : Happening) (x : Option Fault) (r : Outcome) → is_ok (told_by w past e (unless_barred x r)) ≡ true
    → (x ≡ None) × (is_ok (told_by w past e r) ≡ true)
ok_by w past e None r h = (refl, h)
ok_by w past e (Some fault) r h = absurd cc

-- The entry of a step of a server of its own.
pub own_entry : (s : ℕ) (y : Entry) (ps : List FrameStep) → entry_by s ps (Some (OfServer s (Happens y))) ≡ Some y
own_entry s y ps = by (s == s) (eq-eqb s s refl)
  where
    by : (b : Bool) → b ≡ true → (if b then Some y else None) ≡ Some y
    by true e = refl
    by false e = absurd cc

accepts_if : (w : Setup) (s : ℕ) (events : List Happening) (e : Happening) (j k : ℕ) (origin : Origin) (x : Option Fault)
    → open_at (trace w (world w events)) s j k ≡ Some origin
    → refusal (opening_of s) (list_at w s events) (inputs.WriteDone (ticket_of origin k) ends.Done) ≡ x
    → (left : SaveOutcome)
    → outcome w (world w events) e ≡ outcome_of_step (unless_fault x (Ok (OfServer s (Happens (server.Met (inputs.WriteDone (ticket_of origin k) ends.Done) left)))))
    → is_ok (told_by w (world w events) e (outcome_of_step (unless_fault x (Ok (OfServer s (Happens (server.Met (inputs.WriteDone (ticket_of origin k) ends.Done) left)))))))
    ≡ true
    → Accepts w s events e j k
accepts_if w s events e j k origin None there free left is h =
    let y = server.Met (inputs.WriteDone (ticket_of origin k) ends.Done) left in
    record {
      origin = origin;
      there = there;
      free = free;
      left = left;
      heard = ap (λ (r : Outcome). entry_by s (steps (world w events)) (step_in r)) is ∙ own_entry s y (steps (world w events));
    }
accepts_if w s events e j k origin (Some fault) there free left is h = absurd cc

accepts_by : (w : Setup) (s : ℕ) (events : List Happening) (j k : ℕ) (x : Option Origin) → open_at (trace w (world w events)) s j k ≡ x
    → outcome w (world w events) (Done s j k) ≡ outcome_of_step (end_of_write (trace w (world w events)) s k ends.Done x)
    → is_ok (told_by w (world w events) (Done s j k) (outcome_of_step (end_of_write (trace w (world w events)) s k ends.Done x))) ≡ true
    → Accepts w s events (Done s j k) j k
accepts_by w s events j k None is out h = absurd cc
accepts_by w s events j k (Some origin) is out h =
    let o = opening_of s in
    let list = list_at w s events in
    let x = inputs.WriteDone (ticket_of origin k) ends.Done in
    accepts_if w s events (Done s j k) j k origin (refusal o list x) is refl (saved_for (due o list x)) out h

-- A Done that isn't refused was accepted by its server.
pub accepts : (w : Setup) (s : ℕ) (events : List Happening) (j k : ℕ) → is_ok (told_of_happening w (world w events) (Done s j k)) ≡ true
    → Accepts w s events (Done s j k) j k
accepts w s events j k h =
    let past = world w events in
    let x = barring_fault w (trace w past) (frames_sent w (steps past)) (Done s j k) in
    let r = outcome_of_step (end_of_write (trace w past) s k ends.Done (open_at (trace w past) s j k)) in
    let ok = ok_by w past (Done s j k) x r h in
    accepts_by w s events j k (open_at (trace w past) s j k) refl (ap (λ y. unless_barred y r) ok.0) ok.1

heard_in : (o : Opening) (before between : List Entry) (key : Key) (k : ℕ) (n : Option Entry) → IsDoneIn o before between key k
    → IsDoneIn o before (with_entry n between) key k
heard_in o before between key k None d = d
heard_in o before between key k (Some (server.Met x left)) d = inl d
heard_in o before between key k (Some server.Cut) d = d
heard_in o before between key k (Some (server.Restart left)) d = d

last_with : NumbersGrow → (o : Opening) (n : Option Entry) (list : List Entry) → last_run o list ≤ last_run o (with_entry n list)
last_with grow o None list = omega arith
last_with grow o (Some e) list = (grow o e list).0

pub last_more : NumbersGrow → (w : Setup) (s : ℕ) (events : List Happening) (e : Happening)
    → last_run (opening_of s) (list_at w s events) ≤ last_run (opening_of s) (list_at w s (e ∷ events))
last_more grow w s events e =
    subst (λ l. last_run (opening_of s) (list_at w s events) ≤ last_run (opening_of s) l) (sym (one_more w s events e))
    (last_with grow (opening_of s) (entry_now w s events e) (list_at w s events))

pub last_since : NumbersGrow → (w : Setup) (s : ℕ) (mid base : List Happening)
    → last_run (opening_of s) (list_at w s base) ≤ last_run (opening_of s) (list_at w s (mid ++ base))
last_since grow w s [] base = omega arith
last_since grow w s (e ∷ mid) base =
    let a = last_since grow w s mid base in
    let b = last_more grow w s (mid ++ base) e in
    omega (arith, a, b)

-- The laws on which this rests.
pub record DoneLaws : Type 0 where
  pub grow : NumbersGrow
  pub last : PresentIsLast

heard_done : DoneLaws → (w : Setup) (s run : ℕ) (mid base : List Happening) (e : Happening) (before : List Entry) (j k : ℕ)
    → last_run (opening_of s) (list_at w s (mid ++ base)) ≡ run → list_at w s base ≡ before → e ≡ Done s j k
    → is_ok (told_of_happening w (world w (mid ++ base)) e) ≡ true
    → IsDoneIn (opening_of s) before (since w s (e ∷ mid) base) (record { run = run; server = s; job = j }) k
unfolding make_key
heard_done laws w s run mid base e before j k last below is ok =
    let a = accepts w s (mid ++ base) j k (subst (λ (x : Happening). is_ok (told_of_happening w (world w (mid ++ base)) x) ≡ true) is ok) in
    let list : list_at w s (mid ++ base) ≡ since w s mid base ++ before = since_is w s mid base ∙ ap (λ l. since w s mid base ++ l) below in
    let x = inputs.WriteDone (ticket_of a.origin k) ends.Done in
    let key : a.origin.key ≡ make_key run s j = open_key laws.last w s (mid ++ base) j k a.origin a.there ∙ ap (λ r. make_key r s j) last in
    let free : refusal (opening_of s) (since w s mid base ++ before) x ≡ None = subst (λ l. refusal (opening_of s) l x ≡ None) list a.free in
    let heard : entry_now w s (mid ++ base) e ≡ Some (server.Met x a.left) =
    subst (λ (y : Happening). entry_now w s (mid ++ base) y ≡ Some (server.Met x a.left)) (sym is) a.heard in
    subst (λ n. IsDoneIn (opening_of s) before (with_entry n (since w s mid base)) (make_key run s j) k) (sym heard) (inr (key, refl, free))

-- A write that is seen to be done since these events, while this is the last run, was accepted as done.
pub seen_is_done : DoneLaws → (w : Setup) (s run : ℕ) (mid base : List Happening) (before : List Entry) (j k : ℕ) → list_at w s base ≡ before
    → last_run (opening_of s) (list_at w s base) ≡ run → last_run (opening_of s) (list_at w s (mid ++ base)) ≡ run → IsDone (seen_since w mid base) s j k
    → IsDoneIn (opening_of s) before (since w s mid base) (record { run = run; server = s; job = j }) k
seen_is_done laws w s run [] base before j k below first last d = absurd (none_in d.done d.there)
seen_is_done laws w s run (e ∷ mid) base before j k below first last d =
    let o = opening_of s in
    let a = last_since laws.grow w s mid base in
    let b = last_more laws.grow w s (mid ++ base) e in
    let now : last_run o (list_at w s (mid ++ base)) ≡ run = omega (arith, a, b, first, last) in
    elim (first_or_behind (observation w (mid ++ base) e) (seen_since w mid base) d.done d.there) [
      | inl here ↦ heard_done laws w s run mid base e before j k now below
          (subst (λ (x : Observation). x.event ≡ Done s j k) (sym here) d.event)
          (subst (λ (x : Observation). is_ok x.told ≡ true) (sym here) d.accepted)
      | inr there ↦ heard_in o before (since w s mid base) (record { run = run; server = s; job = j }) k (entry_now w s (mid ++ base) e)
          (seen_is_done laws w s run mid base before j k below first now
          (record { done = d.done; there = there; event = d.event; accepted = d.accepted }))
    ]
