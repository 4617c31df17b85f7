-- The server's part of the story, step by step.
use Rattle.std.proofs.Common.{◌≡◌, ◌≤◌, ◌<◌, ℕ, zero, suc, true, false, inl, inr, refl, sym, subst, arith, List, [], ◌∷◌, ◌++◌, length, take, drop, take-append-drop, append_assoc, append-nil, ap, ◌∙◌, None, Some}
use Rattle.std.specs.Prelude.{Ok, codes}
use Rattle.rand_core.specs.Steps.{u32_at, stream_of, word_bytes}
use Rattle.rand_core.specs.Stream.{fill_bytes}
use Rattle.fc_base.specs.Layouts.{bytes_of, number_in}
use Rattle.job_file.specs.declared.job.Job.{Job}
use Rattle.verify_state.specs.Misfit.{misfit}
use Rattle.verify_state.specs.Spelling.{spelling, key_bytes, job_bytes}
use Rattle.write_order.specs.Stamps.{counting_bytes, stamped_sector}
use Rattle.write_order.specs.Words.{word, state_after}
use Rattle.messages.specs.declared.body.Body.TheVariants.{Jobs, Start, Trigger, State, Verify, WantState, Saved as Brings, Report}
use Rattle.messages.specs.declared.frame.Frame.{Frame}
use Rattle.messages.specs.declared.refusal.Act.TheVariants.{Cut as CutOff}
use Rattle.messages.specs.Bodies.{spelled_state}
use Rattle.messages.specs.FrameBytes.{frame_spelling, frame_at, frame_faults, IsShort}
use Rattle.messages.specs.FrameLaws.{FramesAreRead, IsFrame}
use Rattle.messages.specs.Laws.{LengthsAreBounded}
use Rattle.recheck.specs.Faults.{is_checked}
use Rattle.server_core.specs.declared.input.Input.TheVariants.{Deliver, CheckDone}
use Rattle.server_core.specs.declared.status.Status.{Status}
use Rattle.server_core.specs.declared.status.Stage.TheVariants.{Idle}
use Rattle.server_core.specs.Answers.{shown_entries, check_job, status}
use Rattle.server_core.specs.Check.{progress}
use Rattle.server_core.specs.Hearing.{packets_heard}
use Rattle.server_core.specs.Note.{Says}
use Rattle.server_core.specs.Run.{has_open, have_ended}
use Rattle.server_core.specs.Taken.{job_state}
use Rattle.server_core.specs.Texts.{jobs_for}
use Rattle.filters.specs.Kinds.{told_numbered}
use Rattle.filters.specs.ServerAt.{ServerAt, noted, with_check}
use Rattle.filters.specs.ServerLives.{ServerTakes, TakesBody, frame_in}
use Rattle.filters.specs.ServerOrders.{AreAllGiven}
use Rattle.filters.specs.ServerChecks.{Feeds, AreWanted}
use Rattle.filters.specs.ServerTurns.{Turns, Asks, Begins, IsNew, ready_by, TellsIt, GoesOn}
use Rattle.filters.specs.UnderWay.{UnderWay, IsOver, WantsMore}
use Rattle.uses.specs.OneJob.{key, job, text, reading_text}
use Rattle.uses.specs.ServerCut.{opening, hears, first, staged, started, first_answer, second_answer}
use Rattle.uses.specs.Story.{taken, report, tells, asks, brings, sends, ends, writing, triggered, again, wanting, check, checking, checked, tells_done, has_block, second_order, wants_block}
use Rattle.uses.proofs.ServerCutLemmas.{takes_jobs, takes_start, says_staged, says_start}
use Rattle.uses.proofs.StoryClientLemmas.{is_taken, saved_is_short}

-- A frame that comes is read as itself.
takes_frame : FramesAreRead → (f : Frame) → IsFrame f → IsShort f → (at now : ServerAt) (answer : List ℕ) → TakesBody opening at (Ok (Deliver f)) now answer
    → Says now.note (noted opening now.list) → ServerTakes opening at (brings f) now answer
unfolding told_numbered
takes_frame law f is short at now answer takes says =
    let read = law f is short in
    let input : frame_in (frame_faults (frame_spelling f)) (frame_at (frame_spelling f)) ≡ Ok (Deliver f) = rw (read.0, read.1) refl in
    (subst (λ r. TakesBody opening at r now answer) (sym input) takes, says)

-- ---- the run

pub stages : FramesAreRead → ServerTakes opening first (brings (asks (Jobs 1 text))) staged first_answer
stages law =
    takes_frame law (asks (Jobs 1 text)) (record { in_range = refl; state = tt }) (omega arith) first staged first_answer takes_jobs says_staged

pub starts : FramesAreRead → ServerTakes opening staged (brings (asks (Start 1))) started second_answer
starts law =
    takes_frame law (asks (Start 1)) (record { in_range = refl; state = tt }) (omega arith) staged started second_answer takes_start says_start

given_writing : AreAllGiven opening writing.list
unfolding jobs_for has_open have_ended
given_writing zero few = refl
given_writing (suc j) few = refl

-- The server once the end of write 0 is told, and before its turn.
ended : ServerAt
ended = record writing { list = drop 1 writing.list }

orders : Turns opening ended writing second_order
unfolding ended bytes_of jobs_for has_open have_ended stamped_sector counting_bytes
orders = (
  Asks 0 ∷ [],
  record { before = ended; earlier = []; answer = second_order; lived = (refl, refl); takes = (refl, refl); all = refl },
)

says_writing : Says writing.note (noted opening writing.list)
unfolding jobs_for has_open have_ended
says_writing = record { boot_range = omega arith; last_range = omega arith; spelled = inl refl }

pub writes : ServerTakes opening started tells_done writing (second_order ++ ends)
unfolding ended told_numbered bytes_of number_in jobs_for has_open have_ended
writes = (inl (record { written = second_order; turns = orders; ordered = given_writing; all = refl }), says_writing)

-- ---- the trigger, and the cut

given_triggered : AreAllGiven opening triggered.list
unfolding jobs_for has_open have_ended
given_triggered zero few = refl
given_triggered (suc j) few = refl

says_triggered : Says triggered.note (noted opening triggered.list)
unfolding jobs_for has_open have_ended
says_triggered = record { boot_range = omega arith; last_range = omega arith; spelled = inl refl }

-- What is behind a part of what is sent, up to the end of the answer.
abbrev pub left_out : List ℕ → ℕ → List ℕ
left_out front n = drop n front ++ ends

in_two : (front : List ℕ) (n : ℕ) → take n front ++ left_out front n ≡ (front ++ []) ++ ([] ++ ends)
in_two front n =
    sym (append_assoc (take n front) (drop n front) ends)
    ∙ ap (λ l. l ++ ends) (take-append-drop n front ∙ sym (append-nil front))

pub takes_trigger : FramesAreRead → ServerTakes opening writing (brings (asks (Trigger 1 CutOff))) triggered
    (take 50 (sends (tells (State 1 taken))) ++ left_out (sends (tells (State 1 taken))) 50)
unfolding jobs_for has_open have_ended job_state bytes_of spelled_state spelling key_bytes job_bytes
takes_trigger law =
    takes_frame law (asks (Trigger 1 CutOff)) (record { in_range = refl; state = tt }) (omega arith) writing triggered
    (take 50 (sends (tells (State 1 taken))) ++ left_out (sends (tells (State 1 taken))) 50)
    (inl (record { written = []; turns = ([], (refl, refl)); ordered = given_triggered; all = in_two (sends (tells (State 1 taken))) 50 })) says_triggered

-- ---- the check

given_wanting : AreAllGiven opening wanting.list
unfolding jobs_for has_open have_ended
given_wanting j few = refl

says_wanting : Says wanting.note (noted opening wanting.list)
unfolding jobs_for has_open have_ended
says_wanting = record { boot_range = omega arith; last_range = omega arith; spelled = inl refl }

pub wants : FramesAreRead → ServerTakes opening again (brings (asks (Verify 1 1 reading_text))) wanting (sends (tells (WantState 1 1 0)) ++ ends)
unfolding bytes_of jobs_for has_open have_ended
wants law =
    takes_frame law (asks (Verify 1 1 reading_text)) (record { in_range = refl; state = tt }) (omega arith) again wanting
    (sends (tells (WantState 1 1 0)) ++ ends) (inl (record { written = []; turns = ([], (refl, refl)); ordered = given_wanting; all = refl }))
    says_wanting

-- The server once the state came back, and before the check begins.
abbrev held : ServerAt
held = record wanting { list = hears (Brings 1 taken) ∷ wanting.list }

abbrev the_job : Job
the_job = record { name = codes "a"; filename = None; rec = job; save = true; load = true; fatal = false }

abbrev the_status : Status
the_status = record { boot = 2; last_run = 1; staged = 0; run = 0; stage = Idle; attempt = 1 }

abbrev new_check : UnderWay
new_check = record check { count = 0 }

is_shown : the_status ≡ status opening (shown_entries (packets_heard opening held.list))
unfolding jobs_for has_open have_ended
is_shown = refl

is_job : check_job opening (shown_entries (packets_heard opening held.list)) 0 ≡ Some the_job
unfolding jobs_for has_open have_ended
is_job = refl

is_ready : ready_by (progress opening (shown_entries (packets_heard opening held.list)) 0) ≡ Some (Some taken)
unfolding jobs_for has_open have_ended misfit word state_after u32_at stream_of word_bytes fill_bytes
is_ready = refl

is_new : IsNew opening held 0 new_check
is_new = record {
  shown = the_status;
  job = the_job;
  state = Some taken;
  shown_is = is_shown;
  is_job = is_job;
  ready = is_ready;
  other = refl;
  boot_is = refl;
  attempt_is = refl;
  expected_is = refl;
  fatal_is = refl;
  none_came = refl;
}

is_checked_0 : (b : ℕ) → 0 ≤ b → b < 1 → is_checked check.expected b ≡ true
is_checked_0 zero from below = refl
is_checked_0 (suc b) from below = absurd (omega (arith, below))

wants_more : WantsMore new_check 0 1
wants_more = record {
  wanted = record {
    behind = omega arith;
    none_before = λ b from below. absurd (omega (arith, below));
    some = omega arith;
    few = omega arith;
    within = omega arith;
    checked = is_checked_0;
    all = inr (inr refl);
  };
  unended = refl;
}

begins_check : Turns opening held checking wants_block
begins_check = (
  Begins 0 ∷ [],
  record {
    before = held;
    earlier = [];
    answer = wants_block;
    lived = (refl, refl);
    takes = record { check = new_check; end = Ok tt; new = is_new; goes = inl (0, 1, wants_more, refl, (refl, refl)) };
    all = refl;
  },
)

given_checking : AreAllGiven opening checking.list
unfolding jobs_for has_open have_ended
given_checking j few = refl

says_checking : Says checking.note (noted opening checking.list)
unfolding jobs_for has_open have_ended
says_checking = record { boot_range = omega arith; last_range = omega arith; spelled = inl refl }

pub checks : LengthsAreBounded → FramesAreRead → ServerTakes opening wanting (brings (asks (Brings 1 taken))) checking (wants_block ++ ends)
unfolding jobs_for has_open have_ended misfit word state_after u32_at stream_of word_bytes fill_bytes
checks lengths law =
    takes_frame law (asks (Brings 1 taken)) (record { in_range = refl; state = is_taken }) (saved_is_short lengths) wanting checking
    (wants_block ++ ends) (inl (record { written = wants_block; turns = begins_check; ordered = given_checking; all = refl })) says_checking

-- The check once its block came.
abbrev full_check : UnderWay
full_check = record check { came = record { block = 0; bytes = stamped_sector key 0 0 0 } ∷ [] }

-- Block 1 isn't checked: no write to it is done.
none_wanted : (b : ℕ) → 1 ≤ b → b < 2 → is_checked check.expected b ≡ false
none_wanted zero from below = absurd (omega (arith, from))
none_wanted (suc zero) from below = refl
none_wanted (suc (suc b)) from below = absurd (omega (arith, below))

is_over : IsOver full_check report
unfolding stamped_sector counting_bytes
is_over = record { report = refl; over = inl none_wanted }

given_checked : AreAllGiven opening checked.list
unfolding jobs_for has_open have_ended misfit word state_after u32_at stream_of word_bytes fill_bytes
given_checked j few = refl

says_checked : Says checked.note (noted opening checked.list)
unfolding jobs_for has_open have_ended
says_checked = record { boot_range = omega arith; last_range = omega arith; spelled = inl refl }

tells_report : TellsIt opening (with_check 0 None checking) (CheckDone 2 1 0 report) (Ok tt) checked (sends (tells (Report 1 1 0 1 report)))
unfolding bytes_of jobs_for has_open have_ended misfit word state_after u32_at stream_of word_bytes fill_bytes
tells_report = inl (refl, (refl, refl))

goes_on : GoesOn opening checking 0 full_check (Ok tt) checked (sends (tells (Report 1 1 0 1 report)))
goes_on = inr (report, is_over, (refl, tells_report))

are_wanted : AreWanted check (length (stamped_sector key 0 0 0)) 1
unfolding stamped_sector counting_bytes
are_wanted = record { some = omega arith; wanted = omega arith; whole = refl }

feeds : Feeds opening checking has_block.body (Ok tt) checked (sends (tells (Report 1 1 0 1 report)))
unfolding bytes_of number_in stamped_sector counting_bytes jobs_for has_open have_ended
feeds = inl (1, are_wanted, goes_on)

pub reports : ServerTakes opening checking has_block checked (sends (tells (Report 1 1 0 1 report)) ++ ends)
unfolding told_numbered
reports = (
  record {
    end = Ok tt;
    mid = checked;
    front = sends (tells (Report 1 1 0 1 report));
    comes = feeds;
    ends = record { written = []; turns = ([], (refl, refl)); ordered = given_checked; all = refl };
  },
  says_checked,
)
