use Rattle.seen.proofs.ExampleLemmas as lemmas
use Rattle.seen.proofs.StoryLemmas as stories
use Rattle.seen.proofs.example.examples.Goals as goal

pub returns-clause-state : goal.returns-clause-state
returns-clause-state c = lemmas.sees_a_state c.examples.ensures.checks c.found_states.ensures.key c.each_is_taken.ensures

pub returns-clause-report : goal.returns-clause-report
returns-clause-report c = lemmas.sees_a_report c.examples.ensures.checks c.each_report_is_exact.ensures c.each_report_was_told.ensures

pub returns-clause-disks : goal.returns-clause-disks
returns-clause-disks c = stories.sees_honest_disks

pub returns-clause-cut : goal.returns-clause-cut
returns-clause-cut c = lemmas.sees_a_cut c.examples.ensures.checks c.cuts_are_behind_acks.ensures

pub returns-clause-ack : goal.returns-clause-ack
returns-clause-ack c = lemmas.sees_an_ack c.sent_frames_are_read.ensures c.acks_are_of_kept.ensures

pub returns-clause-kept : goal.returns-clause-kept
returns-clause-kept c =
    lemmas.sees_it_kept c.sent_frames_are_read.ensures c.what_comes_is_kept.ensures c.ended_is_kept.ensures

pub returns-clause-none : goal.returns-clause-none
returns-clause-none c = lemmas.sees_no_state c.sent_frames_are_read.ensures c.no_saved_is_of_none.ensures

pub returns-clause-refusal : goal.returns-clause-refusal
returns-clause-refusal c = lemmas.sees_a_refusal c.refusals_change_nothing.ensures

pub returns-clause-runs : goal.returns-clause-runs
returns-clause-runs c = lemmas.sees_two_runs c.numbers_are_given_once.ensures

pub returns-clause-frame : goal.returns-clause-frame
returns-clause-frame c = lemmas.sees_no_frame c.unknown_is_refused.ensures
