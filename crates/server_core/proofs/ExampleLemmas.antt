-- The examples, by computation.
use Rattle.std.proofs.Common.{refl}
use Rattle.verify_state.specs.Misfit.{misfit}
use Rattle.server_core.specs.Texts.{jobs_for}
use Rattle.server_core.specs.Run.{has_open, have_ended}
use Rattle.server_core.specs.Taken.{job_state}
use Rattle.server_core.specs.Examples.{StartsAndIssues, TakesOnce, ForgetsByACut, SavesBeforeItStarts, StopsForGood, ChecksTheLastRun, RefusesAMisfit}

pub starts_and_issues : StartsAndIssues
unfolding jobs_for has_open have_ended job_state
starts_and_issues = record { stages = refl; starts = refl; again = refl; write = refl; done = refl }

pub takes_once : TakesOnce
unfolding jobs_for has_open have_ended job_state
takes_once = record { counts = refl; stays = refl; cut = refl; once = refl }

pub forgets_by_a_cut : ForgetsByACut
unfolding jobs_for has_open have_ended job_state
forgets_by_a_cut = record { trigger_gone = refl; start_old = refl; ticket_old = refl }

pub saves_before_it_starts : SavesBeforeItStarts
unfolding jobs_for has_open have_ended job_state
saves_before_it_starts = record { unsaved = refl; staged_again = refl; saved = refl }

pub stops_for_good : StopsForGood
unfolding jobs_for has_open have_ended job_state
stops_for_good = record { stopped = refl; gone = refl; issues_none = refl }

pub checks_the_last_run : ChecksTheLastRun
unfolding jobs_for has_open have_ended job_state
checks_the_last_run = record { busy = refl; wants = refl; unknown = refl; wrong = refl }

pub refuses_a_misfit : RefusesAMisfit
unfolding jobs_for has_open have_ended job_state misfit
refuses_a_misfit = record { refused = refl; once = refl }
