-- The client's part of the story, step by step.
use Rattle.std.proofs.Common.{◌≡◌, ◌≤◌, ℕ, inl, refl, sym, subst, arith, List, ◌++◌}
use Rattle.std.specs.Prelude.{Ok}
use Rattle.fc_base.specs.Layouts.{bytes_of, number_in}
use Rattle.fc_base.specs.Marks.{word_of, is_marked, ends_by}
use Rattle.verify_state.specs.State.{IsState, has_come_by}
use Rattle.verify_state.specs.Spelling.{spelling, key_bytes, job_bytes}
use Rattle.messages.specs.declared.body.Body.TheVariants.{JobsOk, Start, Trigger, State, WantState, Saved as Brings, Report}
use Rattle.messages.specs.declared.frame.Frame.{Frame}
use Rattle.messages.specs.declared.refusal.Act.TheVariants.{Cut as CutOff}
use Rattle.messages.specs.Bodies.{length_of, spelled_state}
use Rattle.messages.specs.Choices.{act_numbered}
use Rattle.messages.specs.FrameBytes.{frame_spelling, IsShort}
use Rattle.messages.specs.FrameLaws.{FramesAreRead, IsFrame}
use Rattle.messages.specs.Laws.{LengthsAreBounded}
use Rattle.client_core.specs.Inputs.{Deliver}
use Rattle.client_core.specs.Note.{Says, IsNoted, SaysWhatIsWritten}
use Rattle.client_core.specs.Refusals.{has_next, is_of_generation, is_free_to_number, is_begun, is_for_client, is_from_server, is_from_mirror}
use Rattle.filters.specs.declared.kinds.InRecordKind.TheVariants as told
use Rattle.filters.specs.ClientAsks.{input_in}
use Rattle.filters.specs.ClientLives.{ClientAt, ClientTakes, TakesBody}
use Rattle.filters.specs.ClientSteps.{noted}
use Rattle.filters.specs.Kinds.{told_numbered}
use Rattle.uses.specs.ClientCut.{opening, first, one_run, begun, begins, first_answer}
use Rattle.uses.specs.Story.{taken, report, tells, asks, brings, sends, ends, starting, triggering, kept_note, keeping, verify_note, verifying, giving, shown, triggers, verifies, keeping_answer, verifying_answer}
use Rattle.uses.proofs.ClientCutLemmas.{is_begun_note, takes_begin}
use Rattle.uses.proofs.StateLemmas.{word_0, word_1, word_2, word_3}

pub is_taken : IsState taken
unfolding word_of is_marked ends_by has_come_by
is_taken = record {
  key = refl;
  run = omega arith;
  limits = refl;
  seed = omega arith;
  pattern = omega arith;
  words = refl;
  word = (word_0, (word_1, (word_2, (word_3, tt))));
  come = refl;
  counted = refl;
}

is_kept : IsNoted kept_note
is_kept = record { generation = omega arith; runs = omega arith; attempts = omega arith; count = omega arith; states = (is_taken, tt); keys = refl }

is_verified : IsNoted verify_note
is_verified = record { generation = omega arith; runs = omega arith; attempts = omega arith; count = omega arith; states = (is_taken, tt); keys = refl }

-- A frame that comes is read as itself.
takes_frame : FramesAreRead → (f : Frame) → IsFrame f → IsShort f → (at now : ClientAt) (answer : List ℕ) → TakesBody opening at (Ok (Deliver f)) now answer
    → Says now.note (noted opening now.list) → ClientTakes opening at (brings f) now answer
unfolding told_numbered
takes_frame law f is short at now answer takes says =
    let read = law f is short in
    let input : input_in told.Frame (frame_spelling f) ≡ Ok (Deliver f) = rw (read.0, read.1) refl in
    (subst (λ r. TakesBody opening at r now answer) (sym input) takes, says)

pub begins_run : SaysWhatIsWritten → ClientTakes opening first begins begun first_answer
unfolding told_numbered has_next is_of_generation is_free_to_number
begins_run written = (takes_begin, written one_run is_begun_note)

says_starting : SaysWhatIsWritten → Says starting.note (noted opening starting.list)
unfolding has_next is_of_generation is_free_to_number is_for_client is_from_server is_from_mirror
says_starting written = written one_run is_begun_note

pub is_ready : FramesAreRead → SaysWhatIsWritten → ClientTakes opening begun (brings (tells (JobsOk 1 1))) starting (sends (asks (Start 1)) ++ ends)
unfolding bytes_of has_next is_of_generation is_free_to_number is_for_client is_from_server is_from_mirror
is_ready law written =
    takes_frame law (tells (JobsOk 1 1)) (record { in_range = refl; state = tt }) (omega arith) begun starting (sends (asks (Start 1)) ++ ends)
    (inl (refl, refl)) (says_starting written)

says_triggering : SaysWhatIsWritten → Says triggering.note (noted opening triggering.list)
unfolding has_next is_of_generation is_free_to_number is_begun is_for_client is_from_server is_from_mirror
says_triggering written = written one_run is_begun_note

pub asks_for_states : SaysWhatIsWritten → ClientTakes opening starting triggers triggering (sends (asks (Trigger 1 CutOff)) ++ ends)
unfolding told_numbered bytes_of number_in act_numbered has_next is_of_generation is_free_to_number is_begun is_for_client is_from_server is_from_mirror
asks_for_states written = (inl (refl, refl), says_triggering written)

says_keeping : SaysWhatIsWritten → Says keeping.note (noted opening keeping.list)
unfolding has_next is_of_generation is_free_to_number is_begun is_for_client is_from_server is_from_mirror
says_keeping written = written kept_note is_kept

pub state_is_short : LengthsAreBounded → length_of (State 1 taken) ≤ 1024
state_is_short law = let few : length_of (State 1 taken) ≤ 140 = law (State 1 taken) refl is_taken in omega (arith, few)

pub saved_is_short : LengthsAreBounded → length_of (Brings 1 taken) ≤ 1024
saved_is_short law = let few : length_of (Brings 1 taken) ≤ 144 = law (Brings 1 taken) refl is_taken in omega (arith, few)

pub keeps : LengthsAreBounded → FramesAreRead → SaysWhatIsWritten → ClientTakes opening triggering (brings (tells (State 1 taken))) keeping keeping_answer
unfolding bytes_of has_next is_of_generation is_free_to_number is_begun is_for_client is_from_server is_from_mirror
keeps lengths law written =
    takes_frame law (tells (State 1 taken)) (record { in_range = refl; state = is_taken }) (state_is_short lengths) triggering keeping keeping_answer
    (inl (refl, refl)) (says_keeping written)

says_verifying : SaysWhatIsWritten → Says verifying.note (noted opening verifying.list)
unfolding has_next is_of_generation is_free_to_number is_begun is_for_client is_from_server is_from_mirror
says_verifying written = written verify_note is_verified

pub asks_to_verify : SaysWhatIsWritten → ClientTakes opening keeping verifies verifying verifying_answer
unfolding told_numbered bytes_of number_in has_next is_of_generation is_free_to_number is_begun is_for_client is_from_server is_from_mirror
asks_to_verify written = (inl (refl, refl), says_verifying written)

says_giving : SaysWhatIsWritten → Says giving.note (noted opening giving.list)
unfolding has_next is_of_generation is_free_to_number is_begun is_for_client is_from_server is_from_mirror
says_giving written = written verify_note is_verified

pub gives : FramesAreRead → SaysWhatIsWritten → ClientTakes opening verifying (brings (tells (WantState 1 1 0))) giving (sends (asks (Brings 1 taken)) ++ ends)
unfolding bytes_of spelled_state spelling key_bytes job_bytes has_next is_of_generation is_free_to_number is_begun is_for_client is_from_server is_from_mirror
gives law written =
    takes_frame law (tells (WantState 1 1 0)) (record { in_range = refl; state = tt }) (omega arith) verifying giving (sends (asks (Brings 1 taken)) ++ ends)
    (inl (refl, refl)) (says_giving written)

says_shown : SaysWhatIsWritten → Says shown.note (noted opening shown.list)
unfolding has_next is_of_generation is_free_to_number is_begun is_for_client is_from_server is_from_mirror
says_shown written = written verify_note is_verified

pub shows : FramesAreRead → SaysWhatIsWritten → ClientTakes opening giving (brings (tells (Report 1 1 0 1 report))) shown ends
unfolding has_next is_of_generation is_free_to_number is_begun is_for_client is_from_server is_from_mirror
shows law written =
    takes_frame law (tells (Report 1 1 0 1 report)) (record { in_range = refl; state = tt }) (omega arith) giving shown ends (inl (refl, refl))
    (says_shown written)
