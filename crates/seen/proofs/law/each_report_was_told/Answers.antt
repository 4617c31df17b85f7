use Rattle.seen.proofs.ToldLemmas as lemmas
use Rattle.seen.proofs.law.each_report_was_told.Goals as goal

pub returns : goal.returns
returns c = lemmas.each_report_was_told (record {
  files = record {
    taking = record {
      seen = record {
        read = c.sent_frames_are_read.ensures;
        frames = c.frames_are_of_packets.ensures.frames;
        traces = c.each_world_is_a_trace.ensures.packets;
        held = c.one_state_of_each_job.ensures.held;
        once = c.one_taking.ensures;
      };
      frames = record {
        own = c.frames_are_of_packets.ensures.own;
        read = c.sent_frames_are_read.ensures;
        to_client = c.packets_go_to_client.ensures;
        to_peers = c.packets_go_to_peers.ensures;
        over = c.packets_go_to_the_client.ensures;
      };
      arriving = record {
        traces = c.each_world_is_a_trace.ensures.frames;
        read = c.sent_frames_are_read.ensures;
        frames = c.frames_are_of_packets.ensures.frames;
        together = c.only_sent_comes_together.ensures.step;
        tags = c.tags_name_one_body.ensures;
        ranges = c.sent_are_in_range.ensures;
        reports = record { fit = c.reports_fit.ensures; sets = c.legal_histories.ensures.checks };
      };
      server = record {
        grow = c.numbers_grow.ensures;
        last = c.starts.ensures.last;
        due = c.due_starts.ensures;
        checks = c.open_check_is_last.ensures;
      };
      lengths = c.lengths_are_bounded.ensures;
      counts = c.counts_the_done.ensures;
      quiet = c.quiet.ensures.while_last;
    };
    texts = record {
      traces = c.each_world_is_a_trace.ensures.packets;
      goes = c.packets_go_to_client.ensures;
      over = c.packets_go_to_the_client.ensures;
      runs = c.numbers_are_given_once.ensures.runs;
      attempts = c.numbers_are_given_once.ensures.attempts;
    };
  };
  exact = c.checks_are_exact.ensures;
  heard = c.with_was_heard.ensures;
  few = c.honest_disks.ensures.few;
  none = c.honest_disks.ensures.none;
}) c.shown_reports_were_made.ensures.sent
