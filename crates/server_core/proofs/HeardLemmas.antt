-- What a server is asked to hold and to mark came in a packet of the client, in this life.
use Rattle.std.proofs.Common.{◌∙◌, sym, ◌≡◌, refl, ap, subst, inl, inr, ℕ, Bool, true, false, ◌&&◌, ◌==◌, List, [], ◌∷◌, Option, None, Some}
use Rattle.std.specs.Prelude.{slice_get, if◌then◌else◌, not, Result, Ok, Err, Contains}
use Rattle.std.proofs.lemmas.Bool.{eqb-true, and_parts}
use Rattle.std.proofs.lemmas.List.Elements.{Contains-append_cases, Contains-append_right}
use Rattle.fc_base.specs.declared.numbers.Key.{Key}
use Rattle.fc_base.specs.declared.record.JobParts.{JobParts}
use Rattle.job_file.specs.declared.job.Job.{Job}
use Rattle.job_file.specs.declared.job.Phase.TheVariants.{Read}
use Rattle.verify_state.specs.State.{State}
use Rattle.verify_state.specs.Misfit.{misfit}
use Rattle.messages.specs.declared.body.Body.{Body}
use Rattle.messages.specs.declared.body.Body.TheVariants as bodies
use Rattle.messages.specs.declared.node.Node.{Node}
use Rattle.messages.specs.declared.node.Node.TheVariants as nodes
use Rattle.messages.specs.declared.packet.PacketParts.{PacketParts}
use Rattle.disk_model.specs.declared.save_outcome.SaveOutcome.{SaveOutcome}
use Rattle.disk_model.specs.declared.save_outcome.SaveOutcome.TheVariants.{NoSave, Saved, LostNew, LostOld}
use Rattle.server_core.specs.Inputs.{PacketInput}
use Rattle.server_core.specs.declared.input.Input.TheVariants.{Deliver, Issue, WriteDone, CheckDone}
use Rattle.server_core.specs.History.{Opening, Entry, Met, Cut, Restart}
use Rattle.messages.specs.Nodes.{is_client, is_server}
use Rattle.server_core.specs.Request.{Request, ToStage, ToStart, ToTrigger, ToMark, ToStop, ToVerify, ToHold}
use Rattle.server_core.specs.Request.{ToPassFully, ToIssue, ToEnd, ToReport, ToNobody, request_in, request_of}
use Rattle.server_core.specs.Texts.{jobs_for}
use Rattle.server_core.specs.Run.{Work, goes_on, is_open, is_unended}
use Rattle.server_core.specs.Words.{Staged, is_on, boot, last_run, work, work_after, due}
use Rattle.server_core.specs.Check.{Check, With, is_above, new_check, opens, check_goes_on, or_opened, check_after, check, progress}
use Rattle.server_core.specs.Heard.{heard_with, heard_packets, IsHeard}
use Rattle.server_core.specs.Answers.{job_of_check, check_job}
use Rattle.server_core.proofs.HeldLemmas.{key_fits, with_state}
use Rattle.fc_base.proofs.ListLemmas.{none_in, only_in, first_of}

-- A packet of the client says what is asked, where that is to hold a state or to mark a job.
abbrev pub IsSaid : ℕ → List PacketParts → Request → Type 0
IsSaid me older (ToHold a s) = Contains older (record { from = nodes.Client; to = nodes.Server me; body = bodies.Saved a s })
IsSaid me older (ToMark r j) = Contains older (record { from = nodes.Client; to = nodes.Server me; body = bodies.StateAck r j })
IsSaid me older _ = Unit {0}

from_client : (n : Node) → is_client n ≡ true → n ≡ nodes.Client
from_client (nodes.Server s) h = cc
from_client nodes.Client h = refl
from_client nodes.Mirror h = cc

to_server : (me : ℕ) (n : Node) → is_server me n ≡ true → n ≡ nodes.Server me
to_server me (nodes.Server s) h = ap nodes.Server (eqb-true s me h)
to_server me nodes.Client h = cc
to_server me nodes.Mirror h = cc

same_packet : (f g t u : Node) (b c : Body) → f ≡ g → t ≡ u → b ≡ c
    → ◌≡◌ {A = PacketParts} (record { from = f; to = t; body = b }) (record { from = g; to = u; body = c })
same_packet f g t u b c x y z = cc

here : (me : ℕ) (p : PacketParts) (older : List PacketParts) (b : Body) → p.from ≡ nodes.Client → p.to ≡ nodes.Server me → p.body ≡ b
    → Contains (p ∷ older) (record { from = nodes.Client; to = nodes.Server me; body = b })
here me p older b f t e = subst (λ q. Contains (p ∷ older) q) (same_packet p.from nodes.Client p.to (nodes.Server me) p.body b f t e) (first_of p older)

body_said : (me : ℕ) (p : PacketParts) (older : List PacketParts) (b : Body) → p.from ≡ nodes.Client → p.to ≡ nodes.Server me → p.body ≡ b
    → IsSaid me (p ∷ older) (request_in b)
body_said me p older (bodies.Saved a s) from_is to_is e = here me p older (bodies.Saved a s) from_is to_is e
body_said me p older (bodies.StateAck r j) from_is to_is e = here me p older (bodies.StateAck r j) from_is to_is e
body_said me p older _ from_is to_is e = tt

packet_said : (me : ℕ) (p : PacketParts) (older : List PacketParts) (t : Bool) → (is_client p.from && is_server me p.to) ≡ t
    → IsSaid me (p ∷ older) (if t then request_in p.body else ToNobody)
packet_said me p older true e =
    let ends = and_parts (is_client p.from) (is_server me p.to) e in
    body_said me p older p.body (from_client p.from ends.0) (to_server me p.to ends.1) refl
packet_said me p older false e = tt

event_said : (me : ℕ) (e : PacketInput) (older : List PacketParts) → IsSaid me (heard_with e older) (request_of me e)
event_said me (Deliver p) older = packet_said me p older (is_client p.from && is_server me p.to) refl
event_said me (Issue j) older = tt
event_said me (WriteDone ticket end) older = tt
event_said me (CheckDone b a j report) older = tt

heard_before : (e : PacketInput) (older : List PacketParts) (p : PacketParts) → Contains older p → Contains (heard_with e older) p
heard_before (Deliver q) older p h = Contains-append_right (q ∷ []) older p h
heard_before (Issue j) older p h = h
heard_before (WriteDone ticket end) older p h = h
heard_before (CheckDone b x j report) older p h = h

said_before : (me : ℕ) (e : PacketInput) (older : List PacketParts) (x : Request) → IsSaid me older x → IsSaid me (heard_with e older) x
said_before me e older (ToHold a s) h = heard_before e older _ h
said_before me e older (ToMark r j) h = heard_before e older _ h
said_before me e older (ToStage r text) h = tt
said_before me e older (ToStart r) h = tt
said_before me e older (ToTrigger r act) h = tt
said_before me e older (ToStop r) h = tt
said_before me e older (ToVerify r a text) h = tt
said_before me e older (ToPassFully a j) h = tt
said_before me e older (ToIssue j) h = tt
said_before me e older (ToEnd ticket end) h = tt
said_before me e older (ToReport b a j report) h = tt
said_before me e older ToNobody h = tt

-- All that was asked was said.
abbrev pub Heard : ℕ → List PacketParts → List Request → Type 0
Heard me older since = (x : Request) → Contains since x → IsSaid me older x

pub one_heard : (me : ℕ) (e : PacketInput) (older : List PacketParts) (since : List Request) → Heard me older since
    → Heard me (heard_with e older) (request_of me e ∷ since)
one_heard me e older since f = λ x h.
    elim (Contains-append_cases (request_of me e ∷ []) since x h) [
      | inl i ↦ subst (λ y. IsSaid me (heard_with e older) y) (only_in (request_of me e) x i) (event_said me e older)
      | inr i ↦ said_before me e older x (f x i)
    ]

none_heard : (me : ℕ) (older : List PacketParts) (since : List Request) → since ≡ [] → Heard me older since
none_heard me older since e = λ x h. absurd (none_in x (subst (λ l. Contains l x) e h))

-- ---- the present run

abbrev pub WorkHeard : ℕ → List PacketParts → Option Work → Type 0
WorkHeard me older None = Unit {0}
WorkHeard me older (Some w) = Heard me older w.since

work_on : (me : ℕ) (e : PacketInput) (older : List PacketParts) (w : Option Work) → WorkHeard me older w
    → WorkHeard me (heard_with e older) (goes_on (request_of me e) w)
work_on me e older None h = tt
work_on me e older (Some w) h = one_heard me e older w.since h

work_after_heard : (me b : ℕ) (e : PacketInput) (older : List PacketParts) (left : SaveOutcome) (d : Option Staged) (w : Option Work) → WorkHeard me older w
    → WorkHeard me (heard_with e older) (work_after left d me b (request_of me e) w)
work_after_heard me b e older NoSave d w h = work_on me e older w h
work_after_heard me b e older Saved None w h = work_on me e older w h
work_after_heard me b e older Saved (Some s) w h = none_heard me (heard_with e older) [] refl
work_after_heard me b e older LostNew d w h = tt
work_after_heard me b e older LostOld d w h = tt

pub work_heard : (o : Opening) (past : List Entry) → WorkHeard o.me (heard_packets past) (work o past)
work_heard o [] = tt
work_heard o (Met e left ∷ past) = work_after_heard o.me (boot o past) e (heard_packets past) left (due o past e) (work o past) (work_heard o past)
work_heard o (Cut ∷ past) = tt
work_heard o (Restart left ∷ past) = tt

-- ---- the open check

-- A check that was just opened was asked nothing.
abbrev pub Fresh : Option Check → Type 0
Fresh None = Unit {0}
Fresh (Some c) = c.since ≡ []

opened_fresh : (me b r a : ℕ) (jobs : Result (List Job) ℕ) → Fresh (new_check me b r a jobs)
opened_fresh me b r a (Ok js) = refl
opened_fresh me b r a (Err value) = tt

fresh_if : (t : Bool) (c : Option Check) → Fresh c → Fresh (if t then c else None)
fresh_if true c h = h
fresh_if false c h = tt

pub opens_fresh : (on : Bool) (me b last : ℕ) (w : Option Work) (old : Option Check) (x : Request) → Fresh (opens on me b last w old x)
opens_fresh on me b last w old (ToVerify r a text) =
    fresh_if (on && ((r == last) && (is_above a old && (not (is_open w) && not (is_unended w))))) (new_check me b r a (jobs_for Read text))
    (opened_fresh me b r a (jobs_for Read text))
opens_fresh on me b last w old (ToStage r text) = tt
opens_fresh on me b last w old (ToStart r) = tt
opens_fresh on me b last w old (ToTrigger r act) = tt
opens_fresh on me b last w old (ToMark r j) = tt
opens_fresh on me b last w old (ToStop r) = tt
opens_fresh on me b last w old (ToHold a state) = tt
opens_fresh on me b last w old (ToPassFully a j) = tt
opens_fresh on me b last w old (ToIssue j) = tt
opens_fresh on me b last w old (ToEnd ticket end) = tt
opens_fresh on me b last w old (ToReport x a j report) = tt
opens_fresh on me b last w old ToNobody = tt

abbrev CheckHeard : ℕ → List PacketParts → Option Check → Type 0
CheckHeard me older None = Unit {0}
CheckHeard me older (Some c) = Heard me older c.since

check_on : (me : ℕ) (e : PacketInput) (older : List PacketParts) (new old : Option Check) → Fresh new → CheckHeard me older old
    → CheckHeard me (heard_with e older) (or_opened new (check_goes_on (request_of me e) old))
check_on me e older (Some c) old f h = none_heard me (heard_with e older) c.since f
check_on me e older None None f h = tt
check_on me e older None (Some c) f h = one_heard me e older c.since h

check_after_heard : (me : ℕ) (e : PacketInput) (older : List PacketParts) (left : SaveOutcome) (d : Option Staged) (new old : Option Check) → Fresh new
    → CheckHeard me older old → CheckHeard me (heard_with e older) (check_after left d new (request_of me e) old)
check_after_heard me e older NoSave d new old f h = check_on me e older new old f h
check_after_heard me e older Saved None new old f h = check_on me e older new old f h
check_after_heard me e older Saved (Some s) new old f h = tt
check_after_heard me e older LostNew d new old f h = tt
check_after_heard me e older LostOld d new old f h = tt

check_heard : (o : Opening) (past : List Entry) → CheckHeard o.me (heard_packets past) (check o past)
check_heard o [] = tt
check_heard o (Met e left ∷ past) =
    check_after_heard o.me e (heard_packets past) left (due o past e)
    (opens (is_on past) o.me (boot o past) (last_run o past) (work o past) (check o past) (request_of o.me e)) (check o past)
    (opens_fresh (is_on past) o.me (boot o past) (last_run o past) (work o past) (check o past) (request_of o.me e)) (check_heard o past)
check_heard o (Cut ∷ past) = tt
check_heard o (Restart left ∷ past) = tt

job_found : (o : Opening) (past : List Entry) (j : ℕ) (c : Check) (job : Job) → check o past ≡ Some c → slice_get c.jobs j ≡ Some job
    → check_job o past j ≡ Some job
job_found o past j c job is h = ap (λ x. job_of_check x j) is ∙ h

fits_own : (s : State) (key : Key) (job : JobParts) → misfit s key job ≡ None → misfit s s.key job ≡ None
fits_own s key job e = subst (λ k. misfit s k job ≡ None) (sym (key_fits s key job e)) e

pub with_was_heard : (o : Opening) (past : List Entry) (j : ℕ) (s : State) → progress o past j ≡ Some (With s) → IsHeard o past j s
with_was_heard o past j s h =
    let w = with_state o past j s h in
    let all = subst (λ c. CheckHeard o.me (heard_packets past) c) w.is_open_check (check_heard o past) in
    record {
      key = w.key;
      job = w.job;
      is_job = job_found o past j w.c w.job w.is_open_check w.is_job;
      fits = fits_own s (record { run = w.c.run; server = w.c.server; job = j }) w.job.rec w.came.fits;
      attempt = w.came.attempt;
      sent = all (ToHold w.came.attempt s) w.came.came;
    }
