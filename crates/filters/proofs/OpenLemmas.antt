-- A filter over its note.
use Rattle.std.proofs.Common.{◌≡◌, ◌⊎◌, ◌∙◌, ap, append_assoc, append-nil, refl, sym, subst, ℕ, Bool, true, false, true≢false, List, [], ◌++◌, Option, None, Some, IfSome, IfOk, Result, Ok, Err, inl, inr}
use Rattle.std.specs.Prelude.{IsTrue, OnErr}
use Rattle.std.specs.Io.KnownBytes.{Appends, Consumes}
use Rattle.fc_base.specs.declared.fault.Fault.{Fault}
use Rattle.filters.specs.declared.kinds.InRecordKind.TheVariants as told
use Rattle.filters.specs.Kinds.{told_number}
use Rattle.filters.specs.Records.{record_bytes, end_bytes}
use Rattle.filters.specs.Written.{Written, AppendsFront, Puts, PutsBy}
use Rattle.filters.specs.Lives.{Breaks, DoesNotBegin, Filter, HasRun, HasNoNote, RunsOver, Runs}
use Rattle.filters.specs.Steps.{Stops, StopsBy}
use Rattle.filters.proofs.OutputLemmas.{puts_both}
use Rattle.filters.proofs.RunLemmas.{opened}

-- A run over all of its input.
whole_run : (Over : List ℕ → (List ℕ → Type 0) → ℕ → Type 0) (input : List ℕ) (old new : Written) (status : ℕ) → Over input (Puts old new) status
    → Stops Over input old new status
whole_run Over input old new status ran = record {
  read = input;
  rest = [];
  end = status;
  input_is = sym (append-nil input);
  ran = ran;
  why = inl (refl, refl);
}

module _ {O S N : Type 0} (f : Filter O S N) where
  -- It is opened, and runs.
  pub runs_over : (note : List ℕ) (said : N) (Now : O → S → Type 0) (input : Option (List ℕ)) (first text new : Written) (status : ℕ)
      → f.Says note said → ((o : O) (s : S) → f.Begins note said o s → Now o s) → Puts first text (f.opening said)
      → StopsBy (HasRun f.Takes Now []) input text new status → StopsBy (RunsOver f note) input first new status
  runs_over note said Now None first text new status says begins wrote (same, ran) = (same ∙ wrote.0, tt)
  runs_over note said Now (Some i) first text new status says begins wrote (same, stops) = (
    same ∙ wrote.0,
    record {
      read = stops.read;
      rest = stops.rest;
      end = stops.end;
      input_is = stops.input_is;
      ran = inl (said, says, opened f.Takes Now (f.Begins note said) (f.opening said) stops.read first text new stops.end begins wrote stops.ran);
      why = stops.why;
    },
  )

  -- Or it isn't opened.
  pub not_over : (note : List ℕ) (fault : Fault) (input : Option (List ℕ)) (first new : Written) (status : ℕ) → f.Refuses note fault
      → status ≡ 2 → Puts first new (end_bytes (Err fault))
      → StopsBy (RunsOver f note) input first new status
  not_over note fault None first new status why two wrote = (wrote.0, tt)
  not_over note fault (Some i) first new status why two wrote =
      (wrote.0, whole_run (RunsOver f note) i first new status (inr (record { fault = fault; why = why; written = wrote; refused = two })))

  -- What holds of what was written holds of more.
  run_so : (A B : List ℕ → Type 0) (Begins : O → S → Type 0) (opening input : List ℕ) (status : ℕ) → ((bytes : List ℕ) → A bytes → B bytes)
      → HasRun f.Takes Begins opening input A status → HasRun f.Takes Begins opening input B status
  run_so A B Begins opening input status so ran = record {
    records = ran.records;
    rest = ran.rest;
    answers = ran.answers;
    last = ran.last;
    read = ran.read;
    written = so (opening ++ (ran.answers ++ ran.last)) ran.written;
    lives = ran.lives;
    closes = ran.closes;
  }

  not_so : (A B : List ℕ → Type 0) (Why : Fault → Type 0) (status : ℕ) → ((bytes : List ℕ) → A bytes → B bytes) → DoesNotBegin Why A status
      → DoesNotBegin Why B status
  not_so A B Why status so ends =
      record { fault = ends.fault; why = ends.why; written = so (end_bytes (Err ends.fault)) ends.written; refused = ends.refused }

  over_so : (A B : List ℕ → Type 0) (note behind : List ℕ) (status : ℕ) → ((bytes : List ℕ) → A bytes → B bytes) → RunsOver f note behind A status
      → RunsOver f note behind B status
  over_so A B note behind status so (inl (said, says, ran)) =
      inl (said, says, run_so A B (f.Begins note said) (f.opening said) behind status so ran)
  over_so A B note behind status so (inr ends) = inr (not_so A B (f.Refuses note) status so ends)

  runs_so : (A B : List ℕ → Type 0) (input : List ℕ) (status : ℕ) → ((bytes : List ℕ) → A bytes → B bytes) → Runs f input A status → Runs f input B status
  runs_so A B input status so (inl begins) =
      inl (record { note = begins.note; behind = begins.behind; first = begins.first; holds = over_so A B begins.note begins.behind status so begins.holds })
  runs_so A B input status so (inr ends) = inr (not_so A B (HasNoNote input) status so ends)

  -- The note came, behind a flush.
  pub with_note : (input rest : Option (List ℕ)) (first mid new : Written) (note : List ℕ) (status : ℕ)
      → Consumes input rest (record_bytes (told_number told.Note) note) → Puts first mid []
      → StopsBy (RunsOver f note) rest mid new status → StopsBy (Runs f) input first new status
  with_note None rest first mid new note status read kept (same, over) = (same ∙ kept.0, tt)
  with_note (Some i) None first mid new note status read kept (same, over) = absurd read
  with_note (Some i) (Some behind) first mid new note status read kept (same, stops) =
      let bytes = record_bytes (told_number told.Note) note in (
        same ∙ kept.0,
        record {
          read = bytes ++ stops.read;
          rest = stops.rest;
          end = stops.end;
          input_is = read ∙ (ap (λ l. bytes ++ l) stops.input_is ∙ sym (append_assoc bytes stops.read stops.rest));
          ran = inl (record {
            note = note;
            behind = stops.read;
            first = refl;
            holds = over_so (Puts mid new) (Puts first new) note stops.read stops.end (λ l wrote. puts_both first mid new [] l kept wrote) stops.ran;
          });
          why = stops.why;
        },
      )

  -- No note came.
  pub without_note : (input : Option (List ℕ)) (first mid new : Written) (fault : Fault) (status : ℕ) → IfSome input (λ i. HasNoNote i fault)
      → Puts first mid [] → status ≡ 2 → Puts mid new (end_bytes (Err fault))
      → StopsBy (Runs f) input first new status
  without_note None first mid new fault status why kept two wrote = (wrote.0 ∙ kept.0, tt)
  without_note (Some i) first mid new fault status why kept two wrote = (
    wrote.0 ∙ kept.0,
    whole_run (Runs f) i first new status
        (inr (record { fault = fault; why = why; written = puts_both first mid new [] (end_bytes (Err fault)) kept wrote; refused = two })),
  )

  -- ---- what is told of it

  not_failed : (t : Bool) → t ≡ false → IsTrue t → ⊥
  not_failed t is failed = absurd (true≢false (sym failed ∙ is))

  appends_of : (old new : Written) (bytes : List ℕ) → old.failed ≡ false → new.failed ≡ false → Puts old new bytes → Appends old.bytes new.bytes bytes
  appends_of old new bytes first now puts =
      subst (λ t. PutsBy false t old.bytes new.bytes bytes) now (subst (λ t. PutsBy t new.failed old.bytes new.bytes bytes) first puts.1)

  front_of : (old new : Written) (bytes : List ℕ) → old.failed ≡ false → new.failed ≡ true → Puts old new bytes
      → AppendsFront old.bytes new.bytes bytes
  front_of old new bytes first now puts =
      subst (λ t. PutsBy false t old.bytes new.bytes bytes) now (subst (λ t. PutsBy t new.failed old.bytes new.bytes bytes) first puts.1)

  -- No write has failed.
  pub all_written : {E : Type 0} (input : Option (List ℕ)) (old new : Written) (status : ℕ) (r : Result ℕ E) → old.failed ≡ false
      → IfSome input (λ i. Stops (Runs f) i old new status) → IfOk r (λ told. (new.failed ≡ false) × (told ≡ status))
      → IfSome input (λ i. IfOk r (Runs f i (Appends old.bytes new.bytes)))
  all_written None old new status r first ran told = tt
  all_written (Some i) old new status (Err e) first ran told = tt
  all_written (Some i) old new status (Ok x) first stops told = by stops.why
    where
      so : (bytes : List ℕ) → Puts old new bytes → Appends old.bytes new.bytes bytes
      so bytes puts = appends_of old new bytes first told.0 puts

      by : ((stops.rest ≡ []) × (stops.end ≡ status)) ⊎ IsTrue new.failed → Runs f i (Appends old.bytes new.bytes) x
      by (inl (none, same)) =
          let all : stops.read ≡ i = sym (stops.input_is ∙ (ap (λ l. stops.read ++ l) none ∙ append-nil stops.read)) in
          subst (λ k. Runs f i (Appends old.bytes new.bytes) k) (same ∙ sym told.1)
          (subst (λ l. Runs f l (Appends old.bytes new.bytes) stops.end) all
          (runs_so (Puts old new) (Appends old.bytes new.bytes) stops.read stops.end so stops.ran))
      by (inr failed) = absurd (not_failed new.failed told.0 failed)

  -- One has.
  pub some_written : {T E : Type 0} (input : Option (List ℕ)) (old new : Written) (status : ℕ) (r : Result T E) → old.failed ≡ false
      → IfSome input (λ i. Stops (Runs f) i old new status) → OnErr r (new.failed ≡ true)
      → IfSome input (λ i. OnErr r (Breaks f i old.bytes new.bytes))
  some_written None old new status r first ran told = tt
  some_written (Some i) old new status (Ok x) first ran told = tt
  some_written (Some i) old new status (Err e) first stops told = record {
    read = stops.read;
    rest = stops.rest;
    status = stops.end;
    input_is = stops.input_is;
    runs = runs_so (Puts old new) (AppendsFront old.bytes new.bytes) stops.read stops.end (λ l puts. front_of old new l first told puts) stops.ran;
  }
