-- A server's answers that are cut.
use Rattle.std.proofs.Common.{◌≡◌, ◌==◌, ℕ, Bool, true, false, take, drop, List, [], ◌∷◌, ◌++◌, length, Option, None, Some, Result, Ok, Err}
use Rattle.std.proofs.Common.{refl, ap, ◌∙◌, inl, inr, arith}
use Rattle.std.specs.Prelude.{nat_lt}
use Rattle.fc_base.specs.declared.fault.Fault.{Fault}
use Rattle.fc_base.specs.declared.report.ReportParts.{ReportParts}
use Rattle.server_core.specs.declared.input.WriteEnd.TheVariants as ends
use Rattle.server_core.specs.Inputs.{FrameInput}
use Rattle.server_core.specs.declared.input.Input.TheVariants.{Issue, CheckDone}
use Rattle.server_core.specs.History.{Opening}
use Rattle.server_core.specs.Note.{Says, spelling}
use Rattle.server_core.specs.declared.note.ServerNote.{ServerNote}
use Rattle.server_core.specs.Hearing.{Cut}
use Rattle.messages.specs.FrameBytes.{frame_at, frame_faults}
use Rattle.server_core.specs.FrameAnswers.{refusal, due}
use Rattle.filters.specs.declared.names.BlockName.{BlockName}
use Rattle.filters.specs.declared.names.TheConstants.{BLOCK_NAME}
use Rattle.filters.specs.declared.kinds.InRecordKind.{InRecordKind}
use Rattle.filters.specs.declared.kinds.InRecordKind.TheVariants as told
use Rattle.filters.specs.Kinds.{told_numbered}
use Rattle.filters.specs.Records.{end_bytes}
use Rattle.filters.specs.UnderWay.{UnderWay, report_before, with_blocks}
use Rattle.filters.specs.ServerAt.{ServerAt, at_by, new_note, noted, with_check}
use Rattle.filters.specs.ServerTurns.{Turn, Asks, Begins, GoesOn, TakesTurn, TellsBy, TellsReport, Turns}
use Rattle.filters.specs.ServerChecks.{FeedsBy, FeedsIf, GivesUpBy, GivesUpIf, block_in, named, named_with_block}
use Rattle.filters.specs.ServerLives.{EndsBy, ServerTakes, TakesBody, TakesBy, TakesKind, end_in, frame_in, write_in}
use Rattle.filters.specs.ServerCuts.{LivesGoOn}
use Rattle.filters.specs.Lives.{RecordParts, Lives}
use Rattle.filters.proofs.NodeCutLemmas.{SaysFirst, due_first, cut_anywhere, left_keeps}

-- ---- turns save nothing

ask_note : (why : Option Fault) (o : Opening) (at : ServerAt) (j : ℕ) → (at_by why o at (Issue j)).note ≡ at.note
ask_note None o at j = refl
ask_note (Some fault) o at j = refl

pub tell_note : (why : Option Fault) (o : Opening) (at : ServerAt) (b a j : ℕ) (r : ReportParts) → (at_by why o at (CheckDone b a j r)).note ≡ at.note
tell_note None o at b a j r = refl
tell_note (Some fault) o at b a j r = refl

note_of : (now at : ServerAt) → now ≡ at → now.note ≡ at.note
note_of now at is = ap (λ (s : ServerAt). s.note) is

tells_note : (why : Option Fault) (o : Opening) (at : ServerAt) (b a j : ℕ) (r : ReportParts) (end : Result (Unit {0}) Fault) (now : ServerAt) (answer : List ℕ)
    → TellsBy why o at (CheckDone b a j r) end now answer → now.note ≡ at.note
tells_note None o at b a j r end now answer (ends, (is, said)) = note_of now _ is ∙ tell_note None o at b a j r
tells_note (Some fault) o at b a j r end now answer (ends, (is, said)) = note_of now _ is ∙ tell_note (Some fault) o at b a j r

report_note : (o : Opening) (at : ServerAt) (j : ℕ) (u : UnderWay) (r : ReportParts) (end : Result (Unit {0}) Fault) (now : ServerAt) (answer : List ℕ)
    → TellsReport o at j u r end now answer → now.note ≡ at.note
report_note o at j u r end now answer (fits, inl tells) =
    tells_note (refusal o at.list (CheckDone u.boot u.attempt j r)) o (with_check j None at) u.boot u.attempt j r end now answer tells
report_note o at j u r end now answer (fits, inr (fault, memory, ends, (is, said))) = note_of now _ is

goes_note : (o : Opening) (at : ServerAt) (j : ℕ) (u : UnderWay) (end : Result (Unit {0}) Fault) (now : ServerAt) (answer : List ℕ)
    → GoesOn o at j u end now answer → now.note ≡ at.note
goes_note o at j u end now answer (inl (first, count, wants, ends, (is, said))) = note_of now _ is
goes_note o at j u end now answer (inr (r, over, tells)) = report_note o at j u r end now answer tells

turn_note : (o : Opening) (at : ServerAt) (turn : Turn) (now : ServerAt) (answer : List ℕ) → TakesTurn o at turn now answer → now.note ≡ at.note
turn_note o at (Asks j) now answer (is, said) = note_of now _ is ∙ ask_note (refusal o at.list (Issue j)) o at j
turn_note o at (Begins j) now answer begins = goes_note o at j begins.check begins.end now answer begins.goes

pub turns_note : (o : Opening) (first now : ServerAt) (written : List ℕ) → Turns o first now written → now.note ≡ first.note
turns_note o first now written (turns, lived) = by turns now written lived
  where
    by : (ts : List Turn) (end : ServerAt) (told : List ℕ) → Lives (TakesTurn o) first ts end told → end.note ≡ first.note
    by [] end told (is, nothing) = note_of end first is
    by (t ∷ ts) end told more = turn_note o more.before t end more.answer more.takes ∙ by ts more.before more.earlier more.lived

-- ---- a save comes first

abbrev note : ServerAt → List ℕ
note at = at.note

some_bytes : (x : ℕ) (xs : List ℕ) → x ∷ xs ≡ [] → ⊥
some_bytes x xs is = absurd (omega (arith, ap length is))

some_note : (n : ServerNote) → spelling n ≡ [] → ⊥
some_note n is = some_bytes 70 _ is

input_first : (o : Opening) (why : Option Fault) (before : ServerAt) (e : FrameInput) (after : ServerAt) (answer : List ℕ)
    → TakesBy why o before e after answer → SaysFirst note before after answer
input_first o None before e after answer f =
    due_first note (due o before.list e) (new_note o before.list e) _ (f.written ++ end_bytes (Ok tt)) answer before after (some_note _)
    (turns_note o (at_by None o before e) after f.written f.turns) f.all
input_first o (Some fault) before e after answer (is, said) = inl (note_of after _ is)

body_first : (o : Opening) (before : ServerAt) (asked : Result FrameInput Fault) (after : ServerAt) (answer : List ℕ) → TakesBody o before asked after answer
    → SaysFirst note before after answer
body_first o before (Ok e) after answer (inl takes) = input_first o (refusal o before.list e) before e after answer takes
body_first o before (Ok e) after answer (inr (fault, memory, (is, said))) = inl (note_of after before is)
body_first o before (Err why) after answer (is, said) = inl (note_of after before is)

-- What is told of a check saves nothing.
fed_note : (o : Opening) (at : ServerAt) (u : Option UnderWay) (name : BlockName) (bytes : List ℕ) (end : Result (Unit {0}) Fault) (now : ServerAt) (answer : List ℕ)
    → FeedsBy u o at name bytes end now answer → now.note ≡ at.note
fed_note o at None name bytes end now answer (ends, (is, said)) = note_of now at is
fed_note o at (Some u) name bytes end now answer (inl (given, wanted, goes)) = goes_note o at name.job (with_blocks u given bytes) end now answer goes
fed_note o at (Some u) name bytes end now answer (inr (none, (ends, (is, said)))) = note_of now at is

feeds_note : (short : Bool) (o : Opening) (at : ServerAt) (body : List ℕ) (end : Result (Unit {0}) Fault) (now : ServerAt) (answer : List ℕ)
    → FeedsIf short o at body end now answer → now.note ≡ at.note
feeds_note true o at body end now answer (ends, (is, said)) = note_of now at is
feeds_note false o at body end now answer feeds =
    fed_note o at (named o at (block_in (take BLOCK_NAME body))) (block_in (take BLOCK_NAME body)) (drop BLOCK_NAME body) end now answer feeds

given_up_note : (o : Opening) (at : ServerAt) (u : Option UnderWay) (name : BlockName) (end : Result (Unit {0}) Fault) (now : ServerAt) (answer : List ℕ)
    → GivesUpBy u o at name end now answer → now.note ≡ at.note
given_up_note o at None name end now answer (ends, (is, said)) = note_of now at is
given_up_note o at (Some u) name end now answer tells = report_note o at name.job u (report_before u name.block) end now answer tells

gives_up_note : (good : Bool) (o : Opening) (at : ServerAt) (body : List ℕ) (end : Result (Unit {0}) Fault) (now : ServerAt) (answer : List ℕ)
    → GivesUpIf good o at body end now answer → now.note ≡ at.note
gives_up_note false o at body end now answer (ends, (is, said)) = note_of now at is
gives_up_note true o at body end now answer gives =
    given_up_note o at (named_with_block o at (block_in body)) (block_in body) end now answer gives

ends_note : (end : Result (Unit {0}) Fault) (o : Opening) (at : ServerAt) (front : List ℕ) (now : ServerAt) (answer : List ℕ)
    → EndsBy end o at front now answer → now.note ≡ at.note
ends_note (Ok taken) o at front now answer follows = turns_note o at now follows.written follows.turns
ends_note (Err fault) o at front now answer (is, said) = note_of now at is

kind_first : (o : Opening) (before : ServerAt) (kind : Option InRecordKind) (body : List ℕ) (after : ServerAt) (answer : List ℕ)
    → TakesKind o before kind body after answer → SaysFirst note before after answer
kind_first o before (Some told.Frame) body after answer takes =
    body_first o before (frame_in (frame_faults body) (frame_at body)) after answer takes
kind_first o before (Some told.Done) body after answer takes = body_first o before (end_in o before.list ends.Done (write_in body)) after answer takes
kind_first o before (Some told.Failed) body after answer takes = body_first o before (end_in o before.list ends.Failed (write_in body)) after answer takes
kind_first o before (Some told.Blocks) body after answer takes =
    inl (ends_note takes.end o takes.mid takes.front after answer takes.ends
    ∙ feeds_note (nat_lt (length body) BLOCK_NAME) o before body takes.end takes.mid takes.front takes.comes)
kind_first o before (Some told.Unread) body after answer takes =
    inl (ends_note takes.end o takes.mid takes.front after answer takes.ends
    ∙ gives_up_note (length body == BLOCK_NAME) o before body takes.end takes.mid takes.front takes.comes)
kind_first o before _ body after answer (is, said) = inl (note_of after before is)

takes_first : (o : Opening) (before after : ServerAt) (r : RecordParts) (answer : List ℕ) → ServerTakes o before r after answer
    → SaysFirst note before after answer
takes_first o before after r answer (takes, says) = kind_first o before (told_numbered r.kind) r.body after answer takes

pub lives_go_on : LivesGoOn
lives_go_on o first now records front back says lived =
    let c = cut_anywhere note (ServerTakes o) (takes_first o) first now records front back lived in
    let left_says = left_keeps note (ServerTakes o) (takes_first o) (λ at. Says at.note (noted o at.list))
    (λ before after r answer takes said. takes.1) first c.0 records front says c.1 in
    record {
      left = c.0;
      cuts = c.1;
      next = record { past = Cut ∷ c.0.list; me_is = refl; says = left_says; begins = refl };
    }
