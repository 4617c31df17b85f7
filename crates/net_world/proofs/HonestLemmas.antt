-- On an honest disk it is so in every world.
use Rattle.std.proofs.Common.{◌≡◌, refl, sym, ◌∙◌, ap, subst, ℕ, Bool, true, false, ◌&&◌, ◌==◌, List, [], ◌∷◌, Option, Some, None}
use Rattle.std.specs.Prelude.{if◌then◌else◌, slice_get}
use Rattle.std.proofs.lemmas.Bool.{eq-eqb, eqb-true, and_parts}
use Rattle.fc_base.specs.Counted.{has}
use Rattle.fc_base.specs.declared.record.JobParts.{JobParts}
use Rattle.job_file.specs.declared.job.Job.{Job}
use Rattle.messages.specs.declared.body.Body.{Body}
use Rattle.messages.specs.declared.body.Body.TheVariants as bodies
use Rattle.engine.specs.History as window
use Rattle.engine.specs.Running.{Origin}
use Rattle.engine.specs.declared.issue.Ticket.{Ticket}
use Rattle.server_core.specs.Inputs.{PacketInput}
use Rattle.server_core.specs.declared.input.Input.TheVariants.{Deliver, Issue as Issues, WriteDone, CheckDone}
use Rattle.server_core.specs.declared.input.WriteEnd.{WriteEnd}
use Rattle.server_core.specs.declared.input.WriteEnd.TheVariants.{Done, Failed}
use Rattle.disk_model.specs.declared.save_outcome.SaveOutcome.{SaveOutcome}
use Rattle.disk_model.specs.File.{put}
use Rattle.fc_base.proofs.ListLemmas.{none_in}
use Rattle.server_core.specs.History.{Entry, Met, Cut, Restart}
use Rattle.messages.specs.Nodes.{is_client, is_server}
use Rattle.server_core.specs.Request.{ToEnd, ToNobody, request_in}
use Rattle.server_core.specs.Run.{Work, origin_of, history}
use Rattle.server_core.specs.Words.{work}
use Rattle.net_world.specs.Setup.{Setup}
use Rattle.net_world.specs.Trace.{opening_of, of_server}
use Rattle.net_world.specs.Changes as changes
use Rattle.net_world.specs.Changes.{Change, Landed, Rotted, trace}
use Rattle.messages.specs.Hearing.{Comes, Happens, Meaning, Says, Waits, Spoils, Strays, meaning, heard_by, with_entry, heard}
use Rattle.net_world.specs.Frames as frames
use Rattle.net_world.specs.Frames.{OfServer, OfClient, OfMirror, at_server}
use Rattle.net_world.specs.Changes.{steps}
use Rattle.net_world.proofs.HearingLemmas.{server_with, server_by_client}
use Rattle.server_core.specs.OpenWrites.{open_origin_of, open_origin}
use Rattle.net_world.specs.Writes.{open_at}
use Rattle.net_world.specs.Contents.{with_write, is_file, content}
use Rattle.net_world.specs.Honest.{HoldsWrite, IsInFile, AreHonest}
use Rattle.net_world.proofs.GroundLemmas.{Ground}
use Rattle.net_world.proofs.NotionLemmas.{Notion, Survives, Always, At, at_job, Kept, TellsAt, kept_met, kept_cut, kept_restart}
use Rattle.net_world.proofs.LandingLemmas.{Lands, Same, One, kept_landed}

-- No packet tells that a write is done.
no_end : (b : Body) (ticket : Ticket) (end : WriteEnd) → request_in b ≡ ToEnd ticket end → ⊥
no_end (bodies.Jobs run text) ticket end h = cc
no_end _ ticket end h = cc

no_end_if : (t : Bool) (b : Body) (ticket : Ticket) (end : WriteEnd) → (if t then request_in b else ToNobody) ≡ ToEnd ticket end → ⊥
no_end_if true b ticket end h = no_end b ticket end h
no_end_if false b ticket end h = cc

-- The write of this ticket is open.
open_in_job : (w : Work) (j k : ℕ) (job : Job) → slice_get w.jobs j ≡ Some job → has (window.open_writes (history (origin_of w j job) w.since)) k ≡ true
    → open_origin (Some w) j k ≡ Some (origin_of w j job)
open_in_job w j k job is o = ap (open_origin_of w j k) is ∙ ap (λ b. if b then Some (origin_of w j job) else None) o

the_ticket : (a b : Ticket) (e f : WriteEnd) → ToEnd a e ≡ ToEnd b f → a ≡ b
the_ticket a b e f h = cc

-- This file alone: of others nothing is said.
abbrev pub only : ℕ → (ℕ → List ℕ) → ℕ → ℕ → List ℕ
only j held i = if i == j then held else λ sector. []

pub only_is : (j i : ℕ) (held : ℕ → List ℕ) → i ≡ j → only j held i ≡ held
only_is j i held same = ap (λ b. if b then held else λ sector. []) (eq-eqb i j same)

-- What an honest disk has is what the server is told.
tells : (w : Setup) (s j : ℕ) (past : List Change) (e : PacketInput) (left : SaveOutcome) → IsInFile w s j past (OfServer s (Happens (Met e left)))
    → TellsAt (λ i. i ≡ j) (opening_of s) (only j (content w past s j)) (of_server s (trace w past)) e
tells w s j past (WriteDone given Done) left honest = λ now is i job has_job ticket told key is_open own.
    let same : given ≡ ticket = the_ticket given ticket Done Done told in
    let here : ticket.key.job ≡ i = ap (λ (k : Rattle.fc_base.specs.declared.numbers.Key.Key). k.job) key in
    let at : open_at (trace w past) s i ticket.seq ≡ Some (origin_of now i job) =
    ap (λ x. open_origin x i ticket.seq) is ∙ open_in_job now i ticket.seq job has_job is_open in
    let at_file : open_at (trace w past) s j given.seq ≡ Some (origin_of now i job) =
    ap (λ (t : Ticket). open_at (trace w past) s j t.seq) same ∙ ap (λ m. open_at (trace w past) s m ticket.seq) (sym own) ∙ at in
    let there = honest refl (ap (λ (t : Ticket). t.key.job) same ∙ here ∙ own) (origin_of now i job) at_file in
    subst (λ c. HoldsWrite c (origin_of now i job).key (origin_of now i job).job ticket.seq) (sym (only_is j i (content w past s j) own))
    (subst (λ (t : Ticket). HoldsWrite (content w past s j) (origin_of now i job).key (origin_of now i job).job t.seq) same there)
tells w s j past (WriteDone given Failed) left honest = λ now is i job has_job ticket told. absurd cc
tells w s j past (Deliver p) left honest = λ now is i job has_job ticket told. absurd (no_end_if (is_client p.from && is_server s p.to) p.body ticket Done told)
tells w s j past (Issues n) left honest = λ now is i job has_job ticket told. absurd cc
tells w s j past (CheckDone boot a n report) left honest = λ now is i job has_job ticket told. absurd cc

-- ---- a step of this server

-- The notion holds of this file at its server.
abbrev pub KeptAt : Notion → Setup → ℕ → ℕ → List Change → List Entry → Type 0
KeptAt P w s j past list = Kept (At j P) (opening_of s) (only j (content w past s j)) list

kept_entry : {P : Notion} {May : ℕ → JobParts → Type 0} → Ground → Survives Always May P → (w : Setup) (s j : ℕ) (past : List Change) (e : Entry)
    → IsInFile w s j past (OfServer s (Happens e)) → KeptAt P w s j past (of_server s (trace w past)) → KeptAt P w s j past (e ∷ of_server s (trace w past))
kept_entry laws v w s j past (Met e left) honest k =
    kept_met laws (at_job v j) (opening_of s) (only j (content w past s j)) (of_server s (trace w past)) e left (tells w s j past e left honest) k
kept_entry laws v w s j past Cut honest k = kept_cut (opening_of s) (only j (content w past s j)) (of_server s (trace w past)) k
kept_entry laws v w s j past (Restart left) honest k = kept_restart (opening_of s) (only j (content w past s j)) (of_server s (trace w past)) left k

kept_step : {P : Notion} {May : ℕ → JobParts → Type 0} → Ground → Survives Always May P → (w : Setup) (s r j : ℕ) (past : List Change) (e : Entry) (t : Bool)
    → (t ≡ true → r ≡ s) → IsInFile w s j past (OfServer r (Happens e)) → KeptAt P w s j past (of_server s (trace w past))
    → KeptAt P w s j past (if t then e ∷ of_server s (trace w past) else of_server s (trace w past))
kept_step laws v w s r j past e true same honest k =
    kept_entry laws v w s j past e (subst (λ m. IsInFile w s j past (OfServer m (Happens e))) (same refl) honest) k
kept_step laws v w s r j past e false same honest k = k

-- ---- a landing at this server

-- Each write that landed in this file may have landed by its mask.
abbrev pub MayLand : (ℕ → JobParts → Type 0) → Setup → ℕ → ℕ → List Change → Type 0
MayLand May w s j [] = Unit {0}
MayLand May w s j (changes.Met step ∷ past) = MayLand May w s j past
MayLand May w s j (Landed r i k mask ∷ past) =
    MayLand May w s j past × (is_file r i s j ≡ true → (origin : Origin) → open_at (trace w past) r i k ≡ Some origin → May mask origin.job)
MayLand May w s j (Rotted r i sector bytes ∷ past) = MayLand May w s j past

found_open : (w : Work) (j k : ℕ) (job : Job) (b : Bool) (origin : Origin) → (if b then Some (origin_of w j job) else None) ≡ Some origin
    → (b ≡ true) × (origin_of w j job ≡ origin)
found_open w j k job true origin h = (refl, cc)
found_open w j k job false origin h = absurd cc

lands_job : (May : ℕ → JobParts → Type 0) (w : Setup) (s : ℕ) (past : List Change) (j k mask : ℕ) (here : Work) (origin : Origin) (x : Option Job)
    → work (opening_of s) (of_server s (trace w past)) ≡ Some here → slice_get here.jobs j ≡ x → open_origin_of here j k x ≡ Some origin → May mask origin.job
    → Lands May (opening_of s) (of_server s (trace w past)) j (content w past s j) (with_write k mask (Some origin) (content w past s j))
lands_job May w s past j k mask here origin None is has_job h may = absurd cc
lands_job May w s past j k mask here origin (Some job) is has_job h may =
    let f = found_open here j k job (has (window.open_writes (history (origin_of here j job) here.since)) k) origin h in
    One (record {
      now = here;
      job = job;
      write = k;
      mask = mask;
      works = is;
      has_job = has_job;
      is_open = f.0;
      may = subst (λ (x : Origin). May mask x.job) (sym f.1) may;
      content = ap (λ (x : Origin). with_write k mask (Some x) (content w past s j)) (sym f.1);
    })

lands_in : (May : ℕ → JobParts → Type 0) (w : Setup) (s : ℕ) (past : List Change) (j k mask : ℕ) (x : Option Work) (origin : Origin)
    → work (opening_of s) (of_server s (trace w past)) ≡ x → open_origin x j k ≡ Some origin → May mask origin.job
    → Lands May (opening_of s) (of_server s (trace w past)) j (content w past s j) (with_write k mask (Some origin) (content w past s j))
lands_in May w s past j k mask None origin is h may = absurd cc
lands_in May w s past j k mask (Some here) origin is h may = lands_job May w s past j k mask here origin (slice_get here.jobs j) is refl h may

lands_at : (May : ℕ → JobParts → Type 0) (w : Setup) (s : ℕ) (past : List Change) (j k mask : ℕ) (x : Option Origin) → open_at (trace w past) s j k ≡ x
    → ((origin : Origin) → x ≡ Some origin → May mask origin.job)
    → Lands May (opening_of s) (of_server s (trace w past)) j (content w past s j) (with_write k mask x (content w past s j))
lands_at May w s past j k mask None h may = Same refl
lands_at May w s past j k mask (Some origin) h may =
    lands_in May w s past j k mask (work (opening_of s) (of_server s (trace w past))) origin refl h (may origin refl)

lands_by : (May : ℕ → JobParts → Type 0) (w : Setup) (s r i j k mask : ℕ) (past : List Change) (t : Bool) → (t ≡ true → (r ≡ s) × (i ≡ j))
    → (t ≡ true → (origin : Origin) → open_at (trace w past) r i k ≡ Some origin → May mask origin.job)
    → Lands May (opening_of s) (of_server s (trace w past)) j (content w past s j)
    (if t then with_write k mask (open_at (trace w past) r i k) (content w past s j) else content w past s j)
lands_by May w s r i j k mask past true same may =
    let e = same refl in
    let there : open_at (trace w past) r i k ≡ open_at (trace w past) s j k =
    ap (λ m. open_at (trace w past) m i k) e.0 ∙ ap (λ m. open_at (trace w past) s m k) e.1 in
    subst (λ (x : Option Origin). Lands May (opening_of s) (of_server s (trace w past)) j (content w past s j) (with_write k mask x (content w past s j)))
    (sym there)
    (lands_at May w s past j k mask (open_at (trace w past) s j k) refl (λ origin is. may refl origin (there ∙ is)))
lands_by May w s r i j k mask past false same may = Same refl

the_file : (s r i j : ℕ) → is_file r i s j ≡ true → (r ≡ s) × (i ≡ j)
the_file s r i j h = let p = and_parts (r == s) (i == j) h in (eqb-true r s p.0, eqb-true i j p.1)

-- What lands in this file, or in another one, of which nothing is said.
lands_only : (May : ℕ → JobParts → Type 0) (w : Setup) (s j i : ℕ) (past : List Change) (old new : ℕ → List ℕ) (b : Bool) → i == j ≡ b
    → Lands May (opening_of s) (of_server s (trace w past)) j old new
    → Lands May (opening_of s) (of_server s (trace w past)) i (if b then old else λ sector. []) (if b then new else λ sector. [])
lands_only May w s j i past old new true is l =
    subst (λ n. Lands May (opening_of s) (of_server s (trace w past)) n old new) (sym (eqb-true i j is)) l
lands_only May w s j i past old new false is l = Same refl

-- ---- a frame comes to this server

-- No frame tells that a write is done.
comes_none : {P : Notion} {May : ℕ → JobParts → Type 0} → Ground → Survives Always May P → (w : Setup) (s j : ℕ) (past : List Change) (left : SaveOutcome) (m : Meaning)
    → KeptAt P w s j past (of_server s (trace w past)) → KeptAt P w s j past (with_entry (heard_by (at_server s) left m) (of_server s (trace w past)))
comes_none laws v w s j past left (Says p) k = kept_entry laws v w s j past (Met (Deliver p) left) tt k
comes_none laws v w s j past left Waits k = k
comes_none laws v w s j past left Spoils k = k
comes_none laws v w s j past left Strays k = k

comes_step : {P : Notion} {May : ℕ → JobParts → Type 0} → Ground → Survives Always May P
    → (w : Setup) (s r j : ℕ) (past : List Change) (left : SaveOutcome) (m : Meaning) (t : Bool) → (t ≡ true → r ≡ s) → KeptAt P w s j past (of_server s (trace w past))
    → KeptAt P w s j past (if t then with_entry (heard_by (at_server r) left m) (of_server s (trace w past)) else of_server s (trace w past))
comes_step {P} laws v w s r j past left m true same k =
    subst (λ i. KeptAt P w s j past (with_entry (heard_by (at_server i) left m) (of_server s (trace w past)))) (sym (same refl))
    (comes_none laws v w s j past left m k)
comes_step laws v w s r j past left m false same k = k

-- On an honest disk a notion that survives holds of its file.
pub kept : {P : Notion} {May : ℕ → JobParts → Type 0} → Ground → Survives Always May P → (w : Setup) (s j : ℕ) (past : List Change) → AreHonest w s j past
    → MayLand May w s j past → KeptAt P w s j past (of_server s (trace w past))
kept laws v w s j [] honest may = record { works = λ now h. absurd cc; states = λ i state c. absurd (none_in state c) }
kept laws v w s j (changes.Met (OfServer r (Happens e)) ∷ past) honest may =
    kept_step laws v w s r j past e (r == s) (eqb-true r s) honest.1 (kept laws v w s j past honest.0 may)
kept {P} laws v w s j (changes.Met (OfServer r (Comes f left)) ∷ past) honest may =
    let m = meaning (at_server r) (heard (at_server r) (frames.of_server r (steps past))) f in
    subst (λ list. KeptAt P w s j past list) (sym (server_with s r (heard_by (at_server r) left m) (trace w past)))
    (comes_step laws v w s r j past left m (r == s) (eqb-true r s) (kept laws v w s j past honest.0 may))
kept {P} laws v w s j (changes.Met (OfClient c) ∷ past) honest may =
    subst (λ list. KeptAt P w s j past list) (sym (server_by_client s _ (trace w past))) (kept laws v w s j past honest.0 may)
kept {P} {May} laws v w s j (changes.Met (OfMirror e) ∷ past) honest may = kept {P = P} {May = May} laws v w s j past honest.0 may
kept {P} {May} laws v w s j (Landed r i k mask ∷ past) honest may =
    let old = content w past s j in
    let new = content w (Landed r i k mask ∷ past) s j in
    kept_landed laws (at_job v j) (opening_of s) (only j old) (only j new) (of_server s (trace w past))
    (λ n. lands_only May w s j n past old new (n == j) refl (lands_by May w s r i j k mask past (is_file r i s j) (the_file s r i j) may.1))
    (kept laws v w s j past honest may.0)
kept {P} laws v w s j (Rotted r i sector bytes ∷ past) honest may =
    let stays : content w (Rotted r i sector bytes ∷ past) s j ≡ content w past s j =
    ap (λ b. if b then put sector bytes (content w past s j) else content w past s j) honest.1 in
    subst (λ c. Kept (At j P) (opening_of s) (only j c) (of_server s (trace w past))) (sym stays) (kept laws v w s j past honest.0 may)
