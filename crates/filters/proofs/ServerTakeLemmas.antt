-- What is answered to a record by a server's filter, from how its server's calls end.
use Rattle.std.proofs.Common.{length, length-append, ◌+◌, ◌≤◌, ◌≡◌, ℕ, Bool, false, List, [], ◌++◌, Option, None, Some, Result, Ok, Err, refl, sym, ap, ◌∙◌, subst, inl, inr, arith}
use Rattle.std.specs.Prelude.{Vec}
use Rattle.std.specs.declared.alloc.Global.{Global}
use Rattle.std.specs.Int.{w32, w64}
use Rattle.fc_base.specs.Layouts.{bytes_of}
use Rattle.fc_base.specs.declared.limits.TheConstants.{MAX_WRITES}
use Rattle.fc_base.specs.declared.record.JobParts.{JobParts}
use Rattle.fc_base.specs.declared.report.ReportParts.{ReportParts}
use Rattle.write_order.specs.Stamps.{written_bytes}
use Rattle.engine.specs.declared.issue.Ticket.{Ticket}
use Rattle.fc_base.specs.Fault.{sort_of}
use Rattle.fc_base.specs.declared.fault.Fault.{Fault}
use Rattle.fc_base.specs.declared.fault.FaultSort.{FaultSort}
use Rattle.fc_base.specs.declared.fault.FaultSort.TheVariants as sorts
use Rattle.disk_model.specs.Notes.{Note}
use Rattle.node.specs.Steps.{Ends, Faults}
use Rattle.engine.specs.declared.issue.Issue.{Issue as Answer}
use Rattle.engine.specs.Answers.{is_write}
use Rattle.job_file.specs.declared.job.Job.{Job}
use Rattle.server_core.specs.Inputs.{FrameInput}
use Rattle.server_core.specs.declared.input.Input.TheVariants.{Issue, CheckDone}
use Rattle.server_core.specs.declared.server.Server.{Server}
use Rattle.server_core.specs.History.{Opening}
use Rattle.server_core.specs.Note.{Says}
use Rattle.server_core.specs.Answers.{shown_entries, run_job}
use Rattle.server_core.specs.Hearing.{FrameEntry, packets_heard}
use Rattle.server_core.specs.FrameAnswers.{due, issue, refusal}
use Rattle.server_core.specs.FrameEnds.{StandsFor, steps, note_in}
use Rattle.server_core.specs.Handles.{outs_of_issue}
use Rattle.server_core.specs.Memory.{TakesNone}
use Rattle.server_core.specs.Laws.{LooksAtAll}
use Rattle.filters.specs.Written.{Written, Puts}
use Rattle.filters.proofs.OutputLemmas.{puts_both}
use Rattle.filters.specs.declared.checking.Checking.{Checking}
use Rattle.filters.specs.declared.note_buffer.NoteBuffer.{NoteBuffer}
use Rattle.filters.specs.declared.server_filter.ServerFilter.{ServerFilter}
use Rattle.filters.specs.declared.node_step.NodeStep.{NodeStep}
use Rattle.filters.specs.Kept.{note_kept}
use Rattle.filters.specs.declared.kinds.OutRecordKind.TheVariants.{Order, Want}
use Rattle.filters.specs.Kinds.{said_number}
use Rattle.filters.specs.Records.{head_bytes, record_bytes, end_bytes}
use Rattle.filters.specs.NodeSteps.{IsTaken, NotTaken, InputEnds, BodyEnds}
use Rattle.filters.specs.NodeTells.{answer_bytes}
use Rattle.filters.specs.UnderWay.{UnderWay}
use Rattle.filters.specs.ServerAt.{ServerAt, IsAt, answer_to, at_by, new_note, noted}
use Rattle.filters.specs.ServerTurns.{Asks, TakesTurn, TellsBy, TellsIt, order_bytes, order_if, order_name, ordered, ordered_by, want_bytes}
use Rattle.filters.specs.ServerLives.{TakesBody, TakesBy}
use Rattle.filters.specs.CheckRuns.{AreChecks, IsHere}
use Rattle.filters.specs.Steps.{AnswersBy}
use Rattle.filters.specs.ServerRuns.{Asked, WritesAnswer}
use Rattle.filters.proofs.NodeLemmas.{answer_is, note_so}
use Rattle.filters.proofs.OrderLemmas.{gave, refused_gives}

-- The server behind an input that is taken.
at_taken : {T : Type 0} (note : T → Note) (o : Opening) (at : ServerAt) (e : FrameInput) (old new : Server T) (a : NodeStep)
    → (note_in note old).bytes ≡ at.note → IsTaken (steps note o) (answer_to o at.list) at.list e old new a → IsAt note new o (at_by None o at e)
at_taken note o at e old new a was h = (
  h.stands,
  note_so (due o at.list e) (new_note o at.list e) at.note (note_in note old) (note_in note new) h.leaves was,
)

-- No input changes which checks are under way.
by_checks : (why : Option Fault) (o : Opening) (at : ServerAt) (e : FrameInput) → (at_by why o at e).checks ≡ at.checks
by_checks None o at e = refl
by_checks (Some fault) o at e = refl

-- A body that isn't taken.
not_taken_here : (o : Opening) (at : ServerAt) (e : FrameInput) (old mid : ServerFilter) (sort : FaultSort) (fault : Fault) → sort_of fault ≡ sort
    → (note_in note_kept old.server).bytes ≡ at.note → AreChecks mid.checks.items at.checks
    → NotTaken (steps note_kept o) at.list e sort fault old.server mid.server
    → (now : ServerAt) × IsHere mid o now × TakesBody o at (Ok e) now (end_bytes (Err fault))
not_taken_here o at e old mid sorts.Memory fault is was checks (same, stands) =
    (at, ((stands, ap (λ (n : Note). n.bytes) same ∙ was), checks), inr (fault, is, (refl, refl)))
not_taken_here o at e old mid sorts.Save fault is was checks ends = absurd ends
not_taken_here o at e old mid sorts.Refusal fault is was checks r = (
  at_by (Some fault) o at e,
  ((r.stands, ap (λ (n : Note). n.bytes) r.same_note ∙ was), checks),
  inl (subst (λ w. TakesBy w o at e (at_by (Some fault) o at e) (end_bytes (Err fault))) (sym r.why) (refl, refl)),
)

-- What is made of a body, by how the call ends and what is written of it.
pub body_taken : (asked : Opening → List FrameEntry → Result FrameInput Fault) (old mid new : ServerFilter) (result : Result NodeStep Fault)
    (first text : Written)
    → ((o : Opening) (past : List FrameEntry) → StandsFor note_kept old.server o past
    → BodyEnds (steps note_kept o) (answer_to o past) past (asked o past) old.server mid.server result)
    → mid.checks ≡ old.checks → WritesAnswer result mid new first text
    → AnswersBy (λ o at now answer. TakesBody o at (asked o at.list) now answer) (IsHere old) (IsHere new) first text
body_taken asked old mid new (Ok a) first text ends kept (written, wrote, turns) = record {
  answer = answer_bytes (note_in note_kept mid.server).bytes a ++ (written ++ end_bytes (Ok tt));
  written = wrote;
  takes = λ o at here. by o at here (asked o at.list) (ends o at.list here.0.0);
}
  where
    by : (o : Opening) (at : ServerAt) → IsHere old o at → (said : Result FrameInput Fault)
        → BodyEnds (steps note_kept o) (answer_to o at.list) at.list said old.server mid.server (Ok a)
        → (now : ServerAt) × IsHere new o now × TakesBody o at said now (answer_bytes (note_in note_kept mid.server).bytes a ++ (written ++ end_bytes (Ok tt)))
    by o at here (Ok e) h =
        let checks = subst (λ (cs : Vec (Option Checking) Global). AreChecks cs.items at.checks) (sym kept) here.1 in
        let t = turns o (at_by None o at e) (at_taken note_kept o at e old.server mid.server a here.0.1 h, checks) in (
          t.0,
          t.1,
          inl (subst (λ w. TakesBy w o at e t.0 (answer_bytes (note_in note_kept mid.server).bytes a ++ (written ++ end_bytes (Ok tt)))) (sym h.free)
              (record {
                written = written;
                turns = t.2.0;
                ordered = t.2.1;
                all = ap (λ l. l ++ (written ++ end_bytes (Ok tt)))
                    (answer_is (steps note_kept o) (answer_to o at.list) at.list e old.server mid.server a refl h);
              })),
        )
    by o at here (Err why) h = absurd h
body_taken asked old mid new (Err fault) first text ends kept (wrote, same) = record {
  answer = end_bytes (Err fault);
  written = wrote;
  takes = λ o at here. subst (λ (f : ServerFilter). (now : ServerAt) × IsHere f o now × TakesBody o at (asked o at.list) now (end_bytes (Err fault)))
      (sym same) (by o at here (asked o at.list) (ends o at.list here.0.0));
}
  where
    by : (o : Opening) (at : ServerAt) → IsHere old o at → (said : Result FrameInput Fault)
        → BodyEnds (steps note_kept o) (answer_to o at.list) at.list said old.server mid.server (Err fault)
        → (now : ServerAt) × IsHere mid o now × TakesBody o at said now (end_bytes (Err fault))
    by o at here (Ok e) is =
        let checks = subst (λ (cs : Vec (Option Checking) Global). AreChecks cs.items at.checks) (sym kept) here.1 in
        not_taken_here o at e old mid (sort_of fault) fault refl here.0.1 checks is
    by o at here (Err why) (is, stays) = (
      at,
      (
        subst (λ (s : Server NoteBuffer). IsAt note_kept s o at) (sym stays) here.0,
        subst (λ (cs : Vec (Option Checking) Global). AreChecks cs.items at.checks) (sym kept) here.1,
      ),
      (refl, ap (λ (f : Fault). end_bytes (Err f)) is),
    )

-- What is written for what a job answers.
abbrev pub written_for : Result Answer Fault → Job → List ℕ
written_for (Ok answer) job = order_if answer job.rec
written_for (Err fault) job = []

-- Whether a job gave a write.
abbrev pub is_given : Result Answer Fault → Bool
is_given (Ok answer) = is_write answer
is_given (Err fault) = false

-- A job was asked for its next write.
pub asked_turn : LooksAtAll → (o : Opening) (at : ServerAt) (j : ℕ) (job : Job) (old new : Server NoteBuffer) (result : Result Answer Fault)
    → IsAt note_kept old o at → Ends (steps note_kept o) at.list (Issue j) old new (outs_of_issue result) → TakesNone result
    → Some job ≡ run_job o (shown_entries (packets_heard o at.list)) j → job.rec.total ≤ MAX_WRITES
    → (now : ServerAt) × IsAt note_kept new o now × TakesTurn o at (Asks j) now (written_for result job) × Asked j (is_given result) o at now
asked_turn shows o at j job old new (Ok answer) (stands, was) a none there few = (
  at_by None o at (Issue j),
  (
    a.stands,
    note_so (due o at.list (Issue j)) (new_note o at.list (Issue j)) at.note (note_in note_kept old) (note_in note_kept new) a.leaves was,
  ),
  (
    sym (ap (λ w. at_by w o at (Issue j)) a.free),
    (ap (λ i. ordered i (Some job)) a.sends.issue_is ∙ ap (ordered (issue o at.list (Issue j))) there)
        ∙ sym (ap (λ w. ordered_by w o at.list j) a.free),
  ),
  gave shows o at j job answer a.free a.sends.issue_is there few,
)
asked_turn shows o at j job old new (Err fault) (stands, was) ends none there few = by (sort_of fault) ends
  where
    by : (sort : FaultSort) → Faults (steps note_kept o) at.list (Issue j) sort fault old new
        → (now : ServerAt) × IsAt note_kept new o now × TakesTurn o at (Asks j) now [] × Asked j false o at now
    by sorts.Memory l = absurd (none l.why)
    by sorts.Save f = absurd (omega (arith, f.cause))
    by sorts.Refusal r = (
      at_by (Some fault) o at (Issue j),
      (r.stands, ap (λ (n : Note). n.bytes) r.same_note ∙ was),
      (sym (ap (λ w. at_by w o at (Issue j)) r.why), sym (ap (λ w. ordered_by w o at.list j) r.why)),
      refused_gives o at j fault r.why,
    )

-- The same of a filter, whose checks stay.
pub asked_here : LooksAtAll → (o : Opening) (at : ServerAt) (j : ℕ) (job : Job) (old new : ServerFilter) (result : Result Answer Fault)
    → new.checks ≡ old.checks → IsHere old o at → Ends (steps note_kept o) at.list (Issue j) old.server new.server (outs_of_issue result) → TakesNone result
    → Some job ≡ run_job o (shown_entries (packets_heard o at.list)) j → job.rec.total ≤ MAX_WRITES
    → (now : ServerAt) × IsHere new o now × TakesTurn o at (Asks j) now (written_for result job) × Asked j (is_given result) o at now
asked_here shows o at j job old new result kept here ends none there few =
    let t = asked_turn shows o at j job old.server new.server result here.0 ends none there few in
    let stay : t.0.checks ≡ at.checks =
    ap (λ (s : ServerAt). s.checks) t.2.0 ∙ by_checks (refusal o at.list (Issue j)) o at (Issue j) in (
      t.0,
      (
        t.1,
        subst (λ (under : ℕ → Option UnderWay). AreChecks new.checks.items under) (sym stay)
            (subst (λ (cs : Vec (Option Checking) Global). AreChecks cs.items at.checks) (sym kept) here.1),
      ),
      t.2,
      t.3,
    )

-- The note of a server says what its list does.
pub note_says : {T : Type 0} (note : T → Note) (server : Server T) (o : Opening) (at : ServerAt) → IsAt note server o at → Says at.note (noted o at.list)
note_says note server o at (stands, is) = subst (λ bytes. Says bytes (noted o at.list)) is stands.core.durable

-- What is written where a report was told, and how that ends.
abbrev pub answer_if : Result NodeStep Fault → List ℕ → List ℕ
answer_if (Ok a) note = answer_bytes note a
answer_if (Err fault) note = []

abbrev pub end_of : Result NodeStep Fault → Result (Unit {0}) Fault
end_of (Ok a) = Ok tt
end_of (Err fault) = Err fault

-- A report was told.
pub told_it : (o : Opening) (at : ServerAt) (boot a j : ℕ) (report : ReportParts) (old new : Server NoteBuffer) (result : Result NodeStep Fault)
    → IsAt note_kept old o at → InputEnds (steps note_kept o) (answer_to o at.list) at.list (CheckDone boot a j report) old new result
    → (now : ServerAt) × IsAt note_kept new o now
    × TellsIt o at (CheckDone boot a j report) (end_of result) now (answer_if result (note_in note_kept new).bytes) × (now.checks ≡ at.checks)
told_it o at boot a j report old new (Ok told) (stands, was) h =
    let e = CheckDone boot a j report in (
      at_by None o at e,
      at_taken note_kept o at e old new told was h,
      inl (subst (λ w. TellsBy w o at e (Ok tt) (at_by None o at e) (answer_bytes (note_in note_kept new).bytes told)) (sym h.free)
          (refl, (refl, answer_is (steps note_kept o) (answer_to o at.list) at.list e old new told refl h))),
      refl,
    )
told_it o at boot a j report old new (Err fault) (stands, was) ends = by (sort_of fault) refl ends
  where
    by : (sort : FaultSort) → sort_of fault ≡ sort → NotTaken (steps note_kept o) at.list (CheckDone boot a j report) sort fault old new
        → (now : ServerAt) × IsAt note_kept new o now × TellsIt o at (CheckDone boot a j report) (Err fault) now [] × (now.checks ≡ at.checks)
    by sorts.Memory is (same, stays) = (at, (stays, ap (λ (n : Note). n.bytes) same ∙ was), inr (fault, is, refl, (refl, refl)), refl)
    by sorts.Save is f = absurd f
    by sorts.Refusal is r = (
      at_by (Some fault) o at (CheckDone boot a j report),
      (r.stands, ap (λ (n : Note). n.bytes) r.same_note ∙ was),
      inl (subst (λ w. TellsBy w o at (CheckDone boot a j report) (Err fault) (at_by (Some fault) o at (CheckDone boot a j report)) []) (sym r.why)
          (refl, (refl, refl))),
      refl,
    )

-- ---- orders, and blocks that are wanted

length-name : (ticket : Ticket) → length (order_name ticket.key ticket.seq ticket.block) ≡ 24
unfolding bytes_of
length-name ticket = refl

-- An order in its parts.
pub order_written : (ticket : Ticket) (job : JobParts) (block : List ℕ) (len : ℕ) (old first second new : Written) → len ≡ 24 + length block
    → Puts old first (head_bytes (said_number Order) len) → Puts first second (order_name ticket.key ticket.seq ticket.block) → Puts second new block
    → block ≡ written_bytes ticket.key job ticket.seq ticket.block → Puts old new (order_bytes ticket job)
order_written ticket job block len old first second new is head name wrote same =
    let body = order_name ticket.key ticket.seq ticket.block ++ block in
    let all : length body ≡ len = omega (arith, is, length-append (order_name ticket.key ticket.seq ticket.block) block, length-name ticket) in
    subst (λ b. Puts old new (record_bytes (said_number Order) (order_name ticket.key ticket.seq ticket.block ++ b))) same
    (subst (λ n. Puts old new (head_bytes (said_number Order) n ++ body)) (sym all)
    (puts_both old first new (head_bytes (said_number Order) len) body head
    (puts_both first second new (order_name ticket.key ticket.seq ticket.block) block name wrote)))

-- Wanted blocks in their parts.
pub want_written : (a j next count size : ℕ) (t0 t1 t2 t3 t4 t5 t6 : Written) → Puts t0 t1 (head_bytes (said_number Want) 24)
    → Puts t1 t2 (bytes_of w64 a) → Puts t2 t3 (bytes_of w32 j) → Puts t3 t4 (bytes_of w32 next) → Puts t4 t5 (bytes_of w32 count)
    → Puts t5 t6 (bytes_of w32 size) → Puts t0 t6 (want_bytes a j next count size)
unfolding bytes_of
want_written a j next count size t0 t1 t2 t3 t4 t5 t6 head p q r s t =
    puts_both t0 t1 t6 (head_bytes (said_number Want) 24) _ head
    (puts_both t1 t2 t6 (bytes_of w64 a) _ p
    (puts_both t2 t3 t6 (bytes_of w32 j) _ q
    (puts_both t3 t4 t6 (bytes_of w32 next) _ r (puts_both t4 t5 t6 (bytes_of w32 count) (bytes_of w32 size) s t))))
