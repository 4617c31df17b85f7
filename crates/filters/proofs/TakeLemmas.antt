-- What is answered to a record by the client's filter, from how its client's calls end.
use Rattle.std.proofs.Common.{◌≡◌, ℕ, Bool, true, false, if◌then◌else◌, List, [], ◌∷◌, ◌++◌, None, Some, Result, Ok, Err}
use Rattle.std.proofs.Common.{length, length-append, refl, sym, ap, ◌∙◌, subst, inl, inr, arith, ◌+◌, ◌*◌}
use Rattle.fc_base.specs.Fault.{sort_of}
use Rattle.fc_base.specs.Layouts.{bytes_of, spelled_blocks}
use Rattle.fc_base.specs.declared.fault.Fault.{Fault}
use Rattle.fc_base.specs.declared.fault.FaultSort.{FaultSort}
use Rattle.fc_base.specs.declared.fault.FaultSort.TheVariants as sorts
use Rattle.disk_model.specs.Notes.{Note}
use Rattle.disk_model.specs.declared.save_outcome.SaveOutcome.TheVariants.{NoSave}
use Rattle.messages.specs.Senses.{is_drop}
use Rattle.client_core.specs.declared.client.Client.{Client}
use Rattle.client_core.specs.Inputs.{FrameInput}
use Rattle.client_core.specs.declared.received.Received.{Received}
use Rattle.client_core.specs.History.{Opening}
use Rattle.client_core.specs.Note.{Says}
use Rattle.client_core.specs.Hearing.{FrameEntry, Met}
use Rattle.client_core.specs.FrameAnswers.{due, sense}
use Rattle.client_core.specs.FrameEnds.{StandsFor, note_in, steps}
use Rattle.filters.specs.Written.{Written, Puts}
use Rattle.filters.proofs.OutputLemmas.{puts_both}
use Rattle.filters.specs.declared.node_step.NodeStep.{NodeStep}
use Rattle.filters.specs.declared.kinds.InRecordKind.{InRecordKind}
use Rattle.filters.specs.declared.kinds.InRecordKind.TheVariants as told
use Rattle.filters.specs.declared.kinds.OutRecordKind.TheVariants.{Report}
use Rattle.filters.specs.Kinds.{said_number}
use Rattle.filters.specs.Records.{head_bytes, end_bytes}
use Rattle.filters.specs.ClientAsks.{input_in, report_names, report_counts}
use Rattle.filters.specs.NodeSteps.{BodyEnds, NotTaken}
use Rattle.filters.specs.NodeTells.{result_bytes}
use Rattle.filters.specs.ClientSteps.{answer_to, noted, after_refusal}
use Rattle.filters.specs.ClientLives.{ClientAt, IsAt, TakesBody, TakesKind, at_by, new_note, reply_by, report_bytes}
use Rattle.filters.specs.Steps.{AnswersBy}
use Rattle.filters.proofs.NodeLemmas.{answer_is, note_so}

-- What a refused input leaves.
pub stood : {T : Type 0} (note : T → Note) (o : Opening) (past : List FrameEntry) (e : FrameInput) (new : Client T) (b : Bool)
    → is_drop (sense o past e) ≡ b → StandsFor note new o (Met e NoSave ∷ past)
    → (is_drop (sense o past e) ≡ false → StandsFor note new o past)
    → StandsFor note new o (if b then Met e NoSave ∷ past else past)
stood note o past e new true is stands unchanged = stands
stood note o past e new false is stands unchanged = unchanged is

-- What an input that isn't answered leaves.
unfoldable pub not_taken : {T : Type 0} (note : T → Note) (o : Opening) (at : ClientAt) (e : FrameInput) (old new : Client T) (sort : FaultSort) (fault : Fault)
    → sort_of fault ≡ sort → (note_in note old).bytes ≡ at.note → NotTaken (steps note o) at.list e sort fault old new
    → (now : ClientAt) × IsAt note new o now × TakesBody o at (Ok e) now (end_bytes (Err fault))
not_taken note o at e old new sorts.Memory fault is was (same, stands) =
    (at, (stands, ap (λ (n : Note). n.bytes) same ∙ was), inr (fault, is, (refl, refl)))
not_taken note o at e old new sorts.Save fault is was ends = absurd ends
not_taken note o at e old new sorts.Refusal fault is was r = (
  record at { list = after_refusal o at.list e },
  (stood note o at.list e new (is_drop (sense o at.list e)) refl r.stands r.unchanged, ap (λ (n : Note). n.bytes) r.same_note ∙ was),
  inl (sym (ap (λ w. at_by w o at e) r.why), sym (ap (λ w. reply_by w o at.list e) r.why)),
)

-- What the client makes of a body, by how its call ends.
unfoldable pub body_taken : {T : Type 0} (note : T → Note) (o : Opening) (at : ClientAt) (asked : Result FrameInput Fault) (old new : Client T)
    (result : Result NodeStep Fault)
    → IsAt note old o at → BodyEnds (steps note o) (answer_to o at.list) at.list asked old new result
    → (now : ClientAt) × IsAt note new o now × TakesBody o at asked now (result_bytes (note_in note new).bytes result)
body_taken note o at (Ok e) old new (Ok a) is h = (
  at_by None o at e,
  (h.stands, note_so (due o at.list e) (new_note o at.list e) at.note (note_in note old) (note_in note new) h.leaves is.1),
  inl (
    sym (ap (λ w. at_by w o at e) h.free),
    ap (λ l. l ++ end_bytes (Ok tt)) (answer_is (steps note o) (answer_to o at.list) at.list e old new a refl h)
        ∙ sym (ap (λ w. reply_by w o at.list e) h.free),
  ),
)
body_taken note o at (Ok e) old new (Err fault) is h = not_taken note o at e old new (sort_of fault) fault refl is.1 h
body_taken note o at (Err why) old new (Ok a) is h = absurd h
body_taken note o at (Err why) old new (Err fault) is (told, same) =
    (at, subst (λ client. IsAt note client o at) (sym same) is, (refl, ap (λ (f : Fault). end_bytes (Err f)) told))

-- The note of a client says what its list does.
pub note_says : {T : Type 0} (note : T → Note) (client : Client T) (o : Opening) (at : ClientAt) → IsAt note client o at → Says at.note (noted o at.list)
note_says note client o at (stands, is) = subst (λ bytes. Says bytes (noted o at.list)) is stands.core.durable

-- All other kinds than three are asked of the client.
pub kind_taken : (o : Opening) (at : ClientAt) (kind : InRecordKind) (body : List ℕ) (now : ClientAt) (answer : List ℕ)
    → (kind ≡ told.Look → ⊥) → (kind ≡ told.Show → ⊥) → (kind ≡ told.Ends → ⊥) → TakesBody o at (input_in kind body) now answer
    → TakesKind o at (Some kind) body now answer
kind_taken o at told.Look body now answer look show ends takes = absurd (look refl)
kind_taken o at told.Show body now answer look show ends takes = absurd (show refl)
kind_taken o at told.Ends body now answer look show ends takes = absurd (ends refl)
kind_taken o at told.Note body now answer look show ends takes = takes
kind_taken o at told.Frame body now answer look show ends takes = takes
kind_taken o at told.Done body now answer look show ends takes = takes
kind_taken o at told.Failed body now answer look show ends takes = takes
kind_taken o at told.Blocks body now answer look show ends takes = takes
kind_taken o at told.Unread body now answer look show ends takes = takes
kind_taken o at told.Begin body now answer look show ends takes = takes
kind_taken o at told.Trigger body now answer look show ends takes = takes
kind_taken o at told.Stop body now answer look show ends takes = takes
kind_taken o at told.Verify body now answer look show ends takes = takes
kind_taken o at told.Tick body now answer look show ends takes = takes

-- What only looks leaves the client where it is.
pub only_looks : (IsHere : Opening → ClientAt → Type 0) (kind : InRecordKind) (body bytes : List ℕ) (old mid new : Written) → Puts old mid bytes
    → Puts mid new (end_bytes (Ok tt))
    → ((o : Opening) (at : ClientAt) → IsHere o at → TakesKind o at (Some kind) body at (bytes ++ end_bytes (Ok tt)))
    → AnswersBy (λ o at now answer. TakesKind o at (Some kind) body now answer) IsHere IsHere old new
only_looks IsHere kind body bytes old mid new wrote ended takes = record {
  answer = bytes ++ end_bytes (Ok tt);
  written = puts_both old mid new bytes (end_bytes (Ok tt)) wrote ended;
  takes = λ o at h. (at, h, takes o at h);
}

-- ---- reports

length-blocks : (blocks : List ℕ) → length (spelled_blocks blocks) ≡ 4 * length blocks
unfolding bytes_of
length-blocks [] = refl
length-blocks (b ∷ bs) = omega (arith, length-blocks bs)

length-names : (r : Received) → length (report_names r) ≡ 24
unfolding bytes_of
length-names r = refl

length-counts : (r : Received) → length (report_counts r.report) ≡ 16
unfolding bytes_of
length-counts r = refl

-- A report in its parts.
pub report_written : (r : Received) (old first second third new : Written) (len : ℕ) → len ≡ 40 + 4 * length r.report.first
    → Puts old first (head_bytes (said_number Report) len) → Puts first second (report_names r) → Puts second third (report_counts r.report)
    → Puts third new (spelled_blocks r.report.first) → Puts old new (report_bytes r)
report_written r old first second third new len is head names counts blocks =
    let body = report_names r ++ (report_counts r.report ++ spelled_blocks r.report.first) in
    let all : length body ≡ len =
    omega (
      arith,
      is,
      length-append (report_names r) (report_counts r.report ++ spelled_blocks r.report.first),
      length-append (report_counts r.report) (spelled_blocks r.report.first),
      length-names r,
      length-counts r,
      length-blocks r.report.first,
    ) in
    subst (λ n. Puts old new (head_bytes (said_number Report) n ++ body)) (sym all)
    (puts_both old first new (head_bytes (said_number Report) len) body head
    (puts_both first second new (report_names r) (report_counts r.report ++ spelled_blocks r.report.first) names
    (puts_both second third new (report_counts r.report) (spelled_blocks r.report.first) counts blocks)))
