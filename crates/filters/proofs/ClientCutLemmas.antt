-- The answers of the client's filter that are cut.
use Rattle.std.proofs.Common.{◌≡◌, ℕ, Bool, true, false, List, [], ◌∷◌, length, Option, None, Some, Result, Ok, Err}
use Rattle.std.proofs.Common.{◌*◌, ◌^◌, ◌<◌, ◌≤◌, ◌&&◌, if◌then◌else◌, nat_le, refl, sym, ap, ◌∙◌, subst, inl, inr, arith}
use Rattle.std.proofs.lemmas.Bool.{leb-true, and_parts}
use Rattle.fc_base.specs.declared.limits.TheConstants.{MAX_GENERATION}
use Rattle.fc_base.specs.declared.fault.Fault.{Fault}
use Rattle.disk_model.specs.declared.save_outcome.SaveOutcome.TheVariants.{Saved}
use Rattle.messages.specs.Ranges.{is_generation}
use Rattle.client_core.specs.Inputs.{FrameInput}
use Rattle.client_core.specs.declared.note.ClientNote.{ClientNote}
use Rattle.client_core.specs.History.{Opening}
use Rattle.client_core.specs.Note.{IsNoted, Says, SaysOneThing, SaysWhatIsWritten, blank, new_note as note_anew, note_of, spelling}
use Rattle.client_core.specs.Words.{renewed_after}
use Rattle.client_core.specs.Hearing.{Renew, Cut}
use Rattle.client_core.specs.FrameAnswers.{refusal, due}
use Rattle.filters.specs.declared.beginning.Beginning.TheVariants.{Renewed}
use Rattle.filters.specs.declared.kinds.InRecordKind.{InRecordKind}
use Rattle.filters.specs.declared.kinds.InRecordKind.TheVariants as told
use Rattle.filters.specs.Kinds.{told_numbered}
use Rattle.filters.specs.Records.{end_bytes}
use Rattle.filters.specs.declared.asking.EndsAsked.{EndsAsked}
use Rattle.filters.specs.ClientAsks.{ends_in, input_in}
use Rattle.filters.specs.NodeSteps.{Leaves}
use Rattle.filters.specs.NodeCuts.{CutsAnswer}
use Rattle.filters.specs.ClientSteps.{noted, after_answer}
use Rattle.filters.specs.ClientLives.{ClientAt, ClientTakes, MayBegin, TakesBody, TakesKind, TellsEnds, at_by, new_note, reply_by, restarts, starts}
use Rattle.filters.specs.Lives.{RecordParts}
use Rattle.filters.specs.ClientCuts.{LivesGoOn, RenewalsGoOn}
use Rattle.filters.proofs.BeginLemmas.{blank_said, first_is}
use Rattle.filters.proofs.NodeCutLemmas.{SaysFirst, cut_anywhere, due_first, left_keeps, part_of}

abbrev note : ClientAt → List ℕ
note at = at.note

-- A note that is saved isn't empty.
some_bytes : (x : ℕ) (xs : List ℕ) → x ∷ xs ≡ [] → ⊥
some_bytes x xs is = absurd (omega (arith, ap length is))

some_note : (n : ClientNote) → spelling n ≡ [] → ⊥
unfolding note_of
some_note n is = some_bytes 70 _ is

input_first : (o : Opening) (why : Option Fault) (before : ClientAt) (e : FrameInput) (after : ClientAt) (answer : List ℕ)
    → Leaves (at_by why o before e) (reply_by why o before.list e) after answer → SaysFirst note before after answer
input_first o None before e after answer (is, said) =
    due_first note (due o before.list e) (new_note o before.list e) _ (end_bytes (Ok tt)) answer before after
    (some_note (noted o (after_answer o before.list e))) (ap note is) said
input_first o (Some fault) before e after answer (is, said) = inl (ap note is)

body_first : (o : Opening) (before : ClientAt) (asked : Result FrameInput Fault) (after : ClientAt) (answer : List ℕ) → TakesBody o before asked after answer
    → SaysFirst note before after answer
body_first o before (Ok e) after answer (inl leaves) = input_first o (refusal o before.list e) before e after answer leaves
body_first o before (Ok e) after answer (inr (fault, memory, (is, said))) = inl (ap note is)
body_first o before (Err why) after answer (is, said) = inl (ap note is)

ends_first : (o : Opening) (before : ClientAt) (asked : Option EndsAsked) (after : ClientAt) (answer : List ℕ) → TellsEnds o before asked after answer
    → SaysFirst note before after answer
ends_first o before (Some asked) after answer (inl (is, said)) = inl (ap note is)
ends_first o before (Some asked) after answer (inr (fault, memory, (is, said))) = inl (ap note is)
ends_first o before None after answer (is, said) = inl (ap note is)

kind_first : (o : Opening) (before : ClientAt) (kind : Option InRecordKind) (body : List ℕ) (after : ClientAt) (answer : List ℕ)
    → TakesKind o before kind body after answer → SaysFirst note before after answer
kind_first o before None body after answer (is, said) = inl (ap note is)
kind_first o before (Some told.Look) body after answer (is, said) = inl (ap note is)
kind_first o before (Some told.Show) body after answer (is, said) = inl (ap note is)
kind_first o before (Some told.Ends) body after answer takes = ends_first o before (ends_in body) after answer takes
kind_first o before (Some told.Note) body after answer takes = body_first o before (input_in told.Note body) after answer takes
kind_first o before (Some told.Frame) body after answer takes = body_first o before (input_in told.Frame body) after answer takes
kind_first o before (Some told.Done) body after answer takes = body_first o before (input_in told.Done body) after answer takes
kind_first o before (Some told.Failed) body after answer takes = body_first o before (input_in told.Failed body) after answer takes
kind_first o before (Some told.Blocks) body after answer takes = body_first o before (input_in told.Blocks body) after answer takes
kind_first o before (Some told.Unread) body after answer takes = body_first o before (input_in told.Unread body) after answer takes
kind_first o before (Some told.Begin) body after answer takes = body_first o before (input_in told.Begin body) after answer takes
kind_first o before (Some told.Trigger) body after answer takes = body_first o before (input_in told.Trigger body) after answer takes
kind_first o before (Some told.Stop) body after answer takes = body_first o before (input_in told.Stop body) after answer takes
kind_first o before (Some told.Verify) body after answer takes = body_first o before (input_in told.Verify body) after answer takes
kind_first o before (Some told.Tick) body after answer takes = body_first o before (input_in told.Tick body) after answer takes

takes_first : (o : Opening) (before after : ClientAt) (r : RecordParts) (answer : List ℕ) → ClientTakes o before r after answer
    → SaysFirst note before after answer
takes_first o before after r answer (takes, says) = kind_first o before (told_numbered r.kind) r.body after answer takes

-- A note that isn't empty never becomes so.
may_stays : (mirror : Bool) (before after : ClientAt) (answer : List ℕ) → SaysFirst note before after answer → MayBegin (restarts mirror) before.note
    → MayBegin (restarts mirror) after.note
may_stays false before after answer says may = tt
may_stays true before after answer (inl same) may = λ none. may (sym same ∙ none)
may_stays true before after answer (inr (behind, is, some)) may = some

pub lives_go_on : LivesGoOn
lives_go_on mirror o first now records front back may says lived =
    let c = cut_anywhere note (ClientTakes o) (takes_first o) first now records front back lived in
    let left_says = left_keeps note (ClientTakes o) (takes_first o) (λ at. Says at.note (noted o at.list))
    (λ before after r answer takes said. takes.1) first c.0 records front says c.1 in
    record {
      left = c.0;
      cuts = c.1;
      may = left_keeps note (ClientTakes o) (takes_first o) (λ at. MayBegin (restarts mirror) at.note)
          (λ before after r answer takes h. may_stays mirror before after answer (takes_first o before after r answer takes) h) first c.0 records front may c.1;
      next = record { past = Cut ∷ c.0.list; servers_are = refl; says = left_says; begins = sym (first_is mirror (Cut ∷ c.0.list) c.0.note) };
    }

-- ---- a client that begins anew

of_renewed : (g : ℕ) → is_generation g ≡ true → IsNoted (note_anew g)
of_renewed g h =
    let low : g ≤ MAX_GENERATION = leb-true g MAX_GENERATION ((and_parts (nat_le 1 g) (nat_le g MAX_GENERATION) h).1) in
    let small : g * 2 ^ 32 < 2 ^ 64 = omega arith in
    record { generation = low; runs = small; attempts = small; count = omega arith; states = tt; keys = refl }

renewed_noted : (g : ℕ) (n : ClientNote) → n ≡ blank → is_generation g ≡ true → renewed_after true g n ≡ note_anew g
renewed_noted g n empty is = ap (renewed_after true g) empty ∙ ap (λ b. if b && true then note_anew g else blank) is

pub renewals_go_on : SaysOneThing → SaysWhatIsWritten → RenewalsGoOn
renewals_go_on one reads g o past front back free says is =
    let before : ClientAt = record { list = past; note = [] } in
    let c = part_of note before (starts (Renewed g) past []) front back (inr (end_bytes (Ok tt), sym is, some_note (note_anew g))) in
    record { left = c.0; cuts = c.1; says = by c.0 c.1 }
  where
    anew : noted o (Renew g Saved ∷ past) ≡ note_anew g
    anew = renewed_noted g (noted o past) (one [] (noted o past) blank says blank_said) free

    by : (left : ClientAt) → CutsAnswer note (record { list = past; note = [] }) (starts (Renewed g) past []) front left → Says left.note (noted o left.list)
    by left (inl (there, save)) = subst (λ (at : ClientAt). Says at.note (noted o at.list)) (sym there)
        (subst (Says (spelling (note_anew g))) (sym anew) (reads (note_anew g) (of_renewed g free)))
    by left (inr (there, part)) = subst (λ (at : ClientAt). Says at.note (noted o at.list)) (sym there) says
