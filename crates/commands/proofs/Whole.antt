-- What is answered to the front of an input that was read is the answer to the whole of it.
use Rattle.std.proofs.Common.{◌≡◌, ◌+◌, inl, inr, ℕ, ◌<◌, Bool, true, false, nat_lt, List, ◌++◌, length, Option, None, Some}
use Rattle.std.proofs.Common.{Result, Ok, Err, IfSome, slice_get, refl, sym, subst, ◌∙◌, arith}
use Rattle.std.proofs.lemmas.Bool.{cases_lt}
use Rattle.std.proofs.lemmas.Bool.Decides.{nat_tests}
use Rattle.fc_base.specs.declared.limits.TheConstants.{MAX_TEXT}
use Rattle.job_file.specs.declared.fault.JobFault.{JobFault}
use Rattle.job_file.specs.declared.fault.JobFault.TheVariants.{TooLong}
use Rattle.job_file.specs.Fault.{when}
use Rattle.job_file.specs.JobSet.{refusal_of}
use Rattle.program_io.specs.declared.refusal.PrintedRefusal.{PrintedRefusal}
use Rattle.program_io.specs.Input.{IsRead, ReadsAreFronts, ShortReadsAreWhole}
use Rattle.program_io.specs.Refusals.{RefusesText}
use Rattle.commands.specs.Answer.{AreLinesOf, AnswersText}

first_is_long : (test : Bool) (faults more : List JobFault) → test ≡ true → slice_get ((when test TooLong ++ faults) ++ more) 0 ≡ Some TooLong
first_is_long true faults more e = refl
first_is_long false faults more e = absurd (cc)

none_is_long : (test : Bool) (faults more : List JobFault) → slice_get ((when test TooLong ++ faults) ++ more) 0 ≡ None → test ≡ false
none_is_long true faults more e = absurd (cc)
none_is_long false faults more e = refl

-- A longer text is refused as such.
refused_long : (text : List ℕ) → MAX_TEXT < length text → refusal_of text ≡ Some TooLong
refused_long text long = first_is_long (nat_lt MAX_TEXT (length text)) _ _ (grind (arith, nat_tests))

sound_is_short : (text : List ℕ) → refusal_of text ≡ None → length text < MAX_TEXT + 1
sound_is_short text sound =
    let short : nat_lt MAX_TEXT (length text) ≡ false = none_is_long (nat_lt MAX_TEXT (length text)) _ _ sound in
    grind (arith, nat_tests)

-- The lines of what was read are those of the whole.
lines_of_whole : ShortReadsAreWhole → (text : List ℕ) (new : Option (List ℕ)) (bytes lines : List ℕ) → IsRead (MAX_TEXT + 1) (Some text) new bytes
    → AreLinesOf lines bytes → AreLinesOf lines text
lines_of_whole whole text new bytes lines read are =
    subst (AreLinesOf lines) (whole (MAX_TEXT + 1) text new bytes read (sound_is_short bytes are.sound)) are

-- The first fault of what was read is that of the whole.
refuses_whole : ShortReadsAreWhole → ReadsAreFronts → (text : List ℕ) (new : Option (List ℕ)) (bytes : List ℕ) (refusal : PrintedRefusal)
    → IsRead (MAX_TEXT + 1) (Some text) new bytes → RefusesText refusal bytes → RefusesText refusal text
refuses_whole whole fronts text new bytes refusal read refuses =
    elim (cases_lt (length bytes) (MAX_TEXT + 1)) [
      | inl short ↦ subst (RefusesText refusal) (whole (MAX_TEXT + 1) text new bytes read short) refuses
      | inr long ↦ record {
        fault = refuses.fault;
        first = refused_long text (omega (arith, long, fronts (MAX_TEXT + 1) text new bytes read))
            ∙ (sym (refused_long bytes (omega (arith, long))) ∙ refuses.first);
        refused = refuses.refused;
      }
    ]

-- The answer to what was read of an input is the answer to all of it.
pub answers_whole : ShortReadsAreWhole → ReadsAreFronts → {X : Type 0} (view : X → List ℕ) (old new : Option (List ℕ)) (bytes : List ℕ)
    (answer : Result X PrintedRefusal)
    → IsRead (MAX_TEXT + 1) old new bytes → AnswersText view answer bytes → IfSome old (AnswersText view answer)
answers_whole whole fronts view None new bytes answer read h = tt
answers_whole whole fronts view (Some text) new bytes (Ok lines) read h = lines_of_whole whole text new bytes (view lines) read h
answers_whole whole fronts view (Some text) new bytes (Err refusal) read (inl first) = inl (refuses_whole whole fronts text new bytes refusal read first)
answers_whole whole fronts view (Some text) new bytes (Err refusal) read (inr other) = inr other
