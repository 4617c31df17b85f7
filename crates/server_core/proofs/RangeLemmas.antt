-- What a server is asked, and what it keeps, is within the ranges of packets, where what came is.
use Rattle.std.proofs.Common.{◌≡◌, refl, subst, ℕ, ◌^◌, ◌<◌, Bool, true, false, ◌&&◌, List, [], ◌∷◌, Option, None, Some}
use Rattle.std.specs.Prelude.{if◌then◌else◌, Result, Ok, Err}
use Rattle.std.proofs.lemmas.Bool.{and_parts}
use Rattle.fc_base.specs.declared.fault.Fault.{Fault}
use Rattle.fc_base.specs.declared.fault.Fault.TheVariants as base
use Rattle.fc_base.specs.Fault.{number_of}
use Rattle.fc_base.specs.Report.{is_report}
use Rattle.job_file.specs.declared.fault.JobFault.{JobFault}
use Rattle.job_file.specs.declared.job.Job.{Job}
use Rattle.job_file.specs.declared.job.Phase.{Phase}
use Rattle.job_file.specs.Fault.{fault_of}
use Rattle.job_file.specs.JobSet.{jobs_of, phase_in, refusal_of}
use Rattle.messages.specs.declared.body.Body.{Body}
use Rattle.messages.specs.declared.body.Body.TheVariants as bodies
use Rattle.messages.specs.Nodes.{is_node}
use Rattle.messages.specs.Ranges.{is_word, is_run, is_attempt, is_text, is_body}
use Rattle.disk_model.specs.declared.save_outcome.SaveOutcome.{SaveOutcome}
use Rattle.disk_model.specs.SaveOutcome.{has_new}
use Rattle.server_core.specs.Inputs.{PacketInput}
use Rattle.server_core.specs.declared.input.Input.TheVariants.{Deliver, Issue, WriteDone, CheckDone}
use Rattle.server_core.specs.History.{Opening, Entry, Met, Cut, Restart}
use Rattle.messages.specs.Nodes.{is_client, is_server}
use Rattle.server_core.specs.Request.{Request, ToStage, ToStart, ToTrigger, ToMark, ToStop, ToVerify, ToHold}
use Rattle.server_core.specs.Request.{ToPassFully, ToIssue, ToEnd, ToReport, ToNobody, request_in, request_of}
use Rattle.server_core.specs.Texts.{jobs_by, jobs_for, is_phase}
use Rattle.server_core.specs.Words.{Staged, last_run_after, last_run, due}
use Rattle.server_core.specs.Laws.{IsSet, TextsGiveSets}
use Rattle.server_core.specs.Ranges.{IsInRange, CameInRange, OpensInRange}
use Rattle.server_core.proofs.SetLemmas.{Rules, AllAsked, SomeStaged, Known, known, due_known}
use Rattle.server_core.proofs.StateLemmas.{run_below}

-- ---- texts

pub fault_word : (f : Fault) → is_word (number_of f) ≡ true
fault_word base.JobTooLong = refl
fault_word base.NotAscii = refl
fault_word base.BadLine = refl
fault_word base.UnknownOption = refl
fault_word base.BadValue = refl
fault_word base.JobNoJobs = refl
fault_word base.TooManyJobs = refl
fault_word base.NoSize = refl
fault_word base.OutOfLimits = refl
fault_word base.SharedFile = refl
fault_word base.MixedPhases = refl
fault_word base.JobNoMemory = refl
fault_word base.WrongPhase = refl
fault_word base.OldBoot = refl
fault_word base.NotInFlight = refl
fault_word base.StateShort = refl
fault_word base.StateBadMagic = refl
fault_word base.StateBadField = refl
fault_word base.Impossible = refl
fault_word base.StateTrailing = refl
fault_word base.NoMemory = refl
fault_word base.OtherKey = refl
fault_word base.OtherJob = refl
fault_word base.OtherPlace = refl
fault_word base.FrameShort = refl
fault_word base.FrameBadMagic = refl
fault_word base.BadKind = refl
fault_word base.FrameBadField = refl
fault_word base.FrameTooLong = refl
fault_word base.FrameTrailing = refl
fault_word base.FrameNoMemory = refl
fault_word base.Off = refl
fault_word base.WriteFault = refl
fault_word base.ReadFault = refl
fault_word base.SaveFault = refl
fault_word base.BadNote = refl
fault_word base.LoadFault = refl
fault_word base.Old = refl
fault_word base.Busy = refl
fault_word base.NoJobs = refl
fault_word base.Gone = refl
fault_word base.Overwritten = refl
fault_word base.Unknown = refl
fault_word base.BadJobs = refl
fault_word base.Misfit = refl
fault_word base.Down = refl
fault_word base.Misdirected = refl
fault_word base.NoSuchRun = refl
fault_word base.Conflict = refl
fault_word base.NumbersSpent = refl
fault_word base.TableFull = refl
fault_word base.NoFrame = refl
fault_word base.NodeOff = refl
fault_word base.NodeOn = refl
fault_word base.NoWrite = refl
fault_word base.NoSave = refl
fault_word base.NoServer = refl
fault_word base.Unlike = refl
fault_word base.UsedGeneration = refl
fault_word base.BadGeneration = refl
fault_word base.NoMirror = refl
fault_word base.TurnsSpent = refl
fault_word base.ReadError = refl
fault_word base.WriteError = refl
fault_word base.WrongSeat = refl
fault_word base.BadNotice = refl
fault_word base.EndOfInput = refl
fault_word base.NoJob = refl

abbrev pub TextFits : Result (List Job) ℕ → Type 0
TextFits (Ok js) = IsSet js
TextFits (Err value) = is_word value ≡ true

wrong_word : (fault : Option JobFault) (right : Bool) (js : List Job) (value : ℕ) → jobs_by fault right js ≡ Err value → is_word value ≡ true
wrong_word None true js value h = cc
wrong_word None false js value h = let e : number_of base.WrongPhase ≡ value = cc in subst (λ n. is_word n ≡ true) e (fault_word base.WrongPhase)
wrong_word (Some f) right js value h = let e : number_of (fault_of f) ≡ value = cc in subst (λ n. is_word n ≡ true) e (fault_word (fault_of f))

text_word : (phase : Phase) (text : List ℕ) (value : ℕ) → jobs_for phase text ≡ Err value → is_word value ≡ true
unfolding jobs_for
text_word phase text value h = wrong_word (refusal_of text) (is_phase phase (phase_in text)) (jobs_of text) value h

by_both : (t : Result (List Job) ℕ) → ((js : List Job) → t ≡ Ok js → IsSet js) → ((value : ℕ) → t ≡ Err value → is_word value ≡ true) → TextFits t
by_both (Ok js) f g = f js refl
by_both (Err value) f g = g value refl

pub text_fits : TextsGiveSets → (phase : Phase) (text : List ℕ) → TextFits (jobs_for phase text)
text_fits texts phase text = by_both (jobs_for phase text) (texts phase text) (text_word phase text)

-- ---- requests

abbrev pub RequestFits : Request → Type 0
RequestFits (ToStage r text) = is_run r ≡ true
RequestFits (ToStart r) = is_run r ≡ true
RequestFits (ToTrigger r act) = is_run r ≡ true
RequestFits (ToStop r) = is_run r ≡ true
RequestFits (ToVerify r a text) = (is_run r ≡ true) × (is_attempt a ≡ true)
RequestFits (ToReport b a j report) = is_report report ≡ true
RequestFits (ToMark r j) = Unit {0}
RequestFits (ToHold a state) = Unit {0}
RequestFits (ToPassFully a j) = Unit {0}
RequestFits (ToIssue j) = Unit {0}
RequestFits (ToEnd ticket end) = Unit {0}
RequestFits ToNobody = Unit {0}

body_asks : (b : Body) → is_body b ≡ true → RequestFits (request_in b)
body_asks (bodies.Jobs run text) h = (and_parts (is_run run) (is_text text) h).0
body_asks (bodies.Start run) h = h
body_asks (bodies.Trigger run act) h = h
body_asks (bodies.Stop run) h = h
body_asks (bodies.Verify run attempt text) h =
    let p = and_parts (is_run run && is_attempt attempt) (is_text text) h in
    let q = and_parts (is_run run) (is_attempt attempt) p.0 in
    (q.0, q.1)
body_asks _ h = tt

if_for_it : (b : Bool) (x : Request) → RequestFits x → RequestFits (if b then x else ToNobody)
if_for_it true x h = h
if_for_it false x h = tt

pub asked_fits : (me : ℕ) (e : PacketInput) → IsInRange e → RequestFits (request_of me e)
asked_fits me (Deliver p) h =
    if_for_it (is_client p.from && is_server me p.to) (request_in p.body)
    (body_asks p.body (and_parts (is_node p.from && is_node p.to) (is_body p.body) h.in_range).1)
asked_fits me (Issue j) h = tt
asked_fits me (WriteDone ticket end) h = tt
asked_fits me (CheckDone boot a j report) h = h

-- ---- what is kept

abbrev pub InRun : ℕ → Type 0
InRun r = is_run r ≡ true

abbrev pub InAttempt : ℕ → Type 0
InAttempt a = is_attempt a ≡ true

pub in_range : TextsGiveSets → Rules RequestFits InRun InAttempt
in_range texts = record { texts = texts; to_stage = λ r text q. q; to_verify = λ r a text q. q }

pub all_asked : (me : ℕ) (past : List Entry) → CameInRange past → AllAsked RequestFits me past
all_asked me [] h = tt
all_asked me (Met e left ∷ past) h = (asked_fits me e h.0, all_asked me past h.1)
all_asked me (Cut ∷ past) h = all_asked me past h
all_asked me (Restart left ∷ past) h = all_asked me past h

pub kept_in_range : TextsGiveSets → (o : Opening) (past : List Entry) → CameInRange past → Known RequestFits InRun InAttempt o past
kept_in_range texts o past h = known RequestFits InRun InAttempt (in_range texts) o past (all_asked o.me past h)

either_below : (b : Bool) (x y : ℕ) → x < 2 ^ 64 → y < 2 ^ 64 → (if b then x else y) < 2 ^ 64
either_below true x y h k = h
either_below false x y h k = k

recorded_below : (left : SaveOutcome) (d : Option Staged) (last : ℕ) → SomeStaged InRun d → last < 2 ^ 64 → last_run_after left d last < 2 ^ 64
recorded_below left None last h k = k
recorded_below left (Some s) last h k = either_below (has_new left) s.run last (run_below s.run h.run) k

pub last_below : TextsGiveSets → (o : Opening) (past : List Entry) → OpensInRange o → CameInRange past → last_run o past < 2 ^ 64
last_below texts o [] i h = i.last
last_below texts o (Met e left ∷ past) i h =
    recorded_below left (due o past e) (last_run o past) (due_known RequestFits InRun InAttempt o past e (kept_in_range texts o past h.1))
    (last_below texts o past i h.1)
last_below texts o (Cut ∷ past) i h = last_below texts o past i h
last_below texts o (Restart left ∷ past) i h = last_below texts o past i h
