-- A filter's run, record by record.
use Rattle.std.proofs.Common.{◌≡◌, ℕ, ◌+◌, ◌-◌, ◌^◌, List, [], ◌∷◌, ◌++◌, Option, None, Some, IfSome, Err}
use Rattle.std.proofs.Common.{refl, sym, ◌∙◌, subst, inl, inr, arith, append-nil}
use Rattle.std.specs.Prelude.{IsTrue}
use Rattle.std.specs.Io.KnownBytes.{IsAtEnd}
use Rattle.std.proofs.KnownBytes.{Consumes-nil, Consumes-trans}
use Rattle.fc_base.specs.declared.fault.Fault.{Fault}
use Rattle.fc_base.specs.declared.fault.Fault.TheVariants as faults
use Rattle.filters.specs.Records.{record_bytes, end_bytes}
use Rattle.filters.specs.Written.{Written, Puts}
use Rattle.filters.specs.Lives.{RecordParts, HasNoRecord, GoesNoFurther, Closes, HasRun, read_bytes}
use Rattle.filters.specs.Steps.{AnswersRecord, Ends, StepsBy, Stops, StopsBy, SoFar}
use Rattle.filters.proofs.OutputLemmas.{puts_both, puts_none}

-- No record more can be read.
pub further : (count : ℕ) (rest : List ℕ) (fault : Fault) → HasNoRecord rest fault → GoesNoFurther count rest fault
further count rest faults.EndOfInput why = why
further count rest faults.BadNotice why = why
further count rest faults.NoMemory why = why
further count rest faults.ReadError why = tt
further count rest _ why = absurd why

module _ {O S : Type 0} (Takes : O → S → RecordParts → S → List ℕ → Type 0) where
  -- Behind a flush.
  pub flushed : (Before After : O → S → Type 0) (r : RecordParts) (first mid text : Written) → Puts first mid []
      → AnswersRecord Takes Before After r mid text → AnswersRecord Takes Before After r first text
  flushed Before After r first mid text kept more = record {
    answer = more.answer;
    written = puts_both first mid text [] more.answer kept more.written;
    takes = more.takes;
  }

  -- A step that reads no record.
  pub fails : (Before After : O → S → Type 0) (input new_input : Option (List ℕ)) (first mid text : Written) (fault : Fault) (status : ℕ)
      → IfSome input (λ rest. HasNoRecord rest fault) → Puts first mid [] → Puts mid text (end_bytes (Err fault)) → status ≡ 2
      → StepsBy Takes Before After input new_input first text (Some status)
  fails Before After None new_input first mid text fault status why kept wrote two = (wrote.0 ∙ kept.0, tt)
  fails Before After (Some rest) new_input first mid text fault status why kept wrote two = (
    wrote.0 ∙ kept.0,
    (
      end_bytes (Err fault),
      puts_both first mid text [] (end_bytes (Err fault)) kept wrote,
      λ count. inl (inr (fault, further count rest fault why, refl, two)),
    ),
  )

  -- One where a write has failed.
  pub breaks : (Before After : O → S → Type 0) (input new_input : Option (List ℕ)) (first text : Written) (status : ℕ) → Puts first text []
      → IsTrue text.failed → StepsBy Takes Before After input new_input first text (Some status)
  breaks Before After None new_input first text status kept failed = (kept.0, tt)
  breaks Before After (Some rest) new_input first text status kept failed = (kept.0, ([], kept, λ count. inr (failed, refl)))

  -- One where the input has ended.
  pub closes_all : (Before After : O → S → Type 0) (input new_input : Option (List ℕ)) (first text : Written) → IsAtEnd input → Puts first text []
      → StepsBy Takes Before After input new_input first text (Some 0)
  closes_all Before After None new_input first text end kept = (kept.0, tt)
  closes_all Before After (Some rest) new_input first text end kept = (kept.0, ([], kept, λ count. inl (inl (end, refl, refl))))

  -- A run that begins.
  pub begun : (Begins : O → S → Type 0) (input : Option (List ℕ)) (text : Written) → SoFar Takes Begins Begins input input text text 0
  begun Begins input text = record {
    records = [];
    answers = [];
    read = Consumes-nil input;
    written = puts_none text;
    lives = λ o first h. (first, h, (refl, refl));
    counted = refl;
  }

  -- One record more.
  pub goes_on : (Begins Before After : O → S → Type 0) (first_input input new_input : Option (List ℕ)) (first text new_text : Written) (count : ℕ)
      → SoFar Takes Begins Before first_input input first text count → StepsBy Takes Before After input new_input text new_text None
      → SoFar Takes Begins After first_input new_input first new_text (count + 1)
  goes_on Begins Before After first_input input new_input first text new_text count so_far (r, read, more) = record {
    records = r ∷ so_far.records;
    answers = so_far.answers ++ more.answer;
    read = Consumes-trans first_input input new_input (read_bytes so_far.records) (record_bytes r.kind r.body) so_far.read read;
    written = puts_both first text new_text so_far.answers more.answer so_far.written more.written;
    lives = λ o begin h.
        let l = so_far.lives o begin h in
        let t = more.takes o l.0 l.1 in (
          t.0,
          t.1,
          record { before = l.0; earlier = so_far.answers; answer = more.answer; lived = l.2; takes = t.2; all = refl },
        );
    counted = omega (arith, so_far.counted);
  }

  -- A run ends.
  pub ended : (Begins Now : O → S → Type 0) (first_input input : Option (List ℕ)) (first text new_text : Written) (count status : ℕ)
      → SoFar Takes Begins Now first_input input first text count
      → IfSome input (λ rest. (last : List ℕ) × Puts text new_text last × Ends new_text count rest last status)
      → IfSome first_input (λ whole. Stops (HasRun Takes Begins []) whole first new_text status)
  ended Begins Now None input first text new_text count status so_far ends = tt
  ended Begins Now (Some whole) None first text new_text count status so_far ends = absurd so_far.read
  ended Begins Now (Some whole) (Some rest) first text new_text count status so_far (last, wrote, inl closes) = record {
    read = whole;
    rest = [];
    end = status;
    input_is = sym (append-nil whole);
    ran = record {
      records = so_far.records;
      rest = rest;
      answers = so_far.answers;
      last = last;
      read = so_far.read;
      written = puts_both first text new_text so_far.answers last so_far.written wrote;
      lives = λ o begin h. let l = so_far.lives o begin h in (l.0, l.2);
      closes = subst (λ n. Closes n rest last status) (sym so_far.counted) closes;
    };
    why = inl (refl, refl);
  }
  ended Begins Now (Some whole) (Some rest) first text new_text count status so_far (last, wrote, inr (failed, none)) = record {
    read = read_bytes so_far.records;
    rest = rest;
    end = 0;
    input_is = so_far.read;
    ran = record {
      records = so_far.records;
      rest = [];
      answers = so_far.answers;
      last = [];
      read = sym (append-nil (read_bytes so_far.records));
      written = puts_both first text new_text so_far.answers [] so_far.written (subst (Puts text new_text) none wrote);
      lives = λ o begin h. let l = so_far.lives o begin h in (l.0, l.2);
      closes = inl (refl, refl, refl);
    };
    why = inr failed;
  }

  -- A step ends it.
  pub step_ends : (Begins Now After : O → S → Type 0) (first_input input new_input : Option (List ℕ)) (first text new_text : Written) (count status : ℕ)
      → SoFar Takes Begins Now first_input input first text count → StepsBy Takes Now After input new_input text new_text (Some status)
      → StopsBy (HasRun Takes Begins []) first_input first new_text status
  step_ends Begins Now After first_input None new_input first text new_text count status so_far (same, step) =
      (same ∙ so_far.written.0, ended Begins Now first_input None first text new_text count status so_far tt)
  step_ends Begins Now After first_input (Some rest) new_input first text new_text count status so_far (same, (last, wrote, ends)) =
      (same ∙ so_far.written.0, ended Begins Now first_input (Some rest) first text new_text count status so_far (last, wrote, ends count))

  -- All is read that may be.
  pub spent : (Begins Now : O → S → Type 0) (first_input input : Option (List ℕ)) (first text new_text : Written) (count status : ℕ)
      → count ≡ 2 ^ 64 - 1 → SoFar Takes Begins Now first_input input first text count
      → status ≡ 2 → Puts text new_text (end_bytes (Err faults.TurnsSpent))
      → StopsBy (HasRun Takes Begins []) first_input first new_text status
  spent Begins Now None input first text new_text count status all so_far two wrote = (wrote.0 ∙ so_far.written.0, tt)
  spent Begins Now (Some whole) None first text new_text count status all so_far two wrote = absurd so_far.read
  spent Begins Now (Some whole) (Some rest) first text new_text count status all so_far two wrote = (
    wrote.0 ∙ so_far.written.0,
    ended Begins Now (Some whole) (Some rest) first text new_text count status so_far
        (end_bytes (Err faults.TurnsSpent), wrote, inl (inr (faults.TurnsSpent, all, refl, two))),
  )

  -- What is written before it.
  pub opened : (Begins Opens : O → S → Type 0) (opening input : List ℕ) (first text new_text : Written) (status : ℕ)
      → ((o : O) (s : S) → Opens o s → Begins o s) → Puts first text opening → HasRun Takes Begins [] input (Puts text new_text) status
      → HasRun Takes Opens opening input (Puts first new_text) status
  opened Begins Opens opening input first text new_text status implies wrote ran = record {
    records = ran.records;
    rest = ran.rest;
    answers = ran.answers;
    last = ran.last;
    read = ran.read;
    written = puts_both first text new_text opening (ran.answers ++ ran.last) wrote ran.written;
    lives = λ o s h. ran.lives o s (implies o s h);
    closes = ran.closes;
  }
