use Rattle.filter_traces.proofs.FleetLemmas.{fleets_are_traces}
use Rattle.filter_traces.proofs.law.fleet_law.Goals as goal

pub returns : goal.returns
returns c =
    fleets_are_traces
    (record {
      only_sent = c.only_sent_is_heard.ensures;
      in_range = c.sent_are_in_range.ensures;
      of_packets = c.frames_are_of_packets.ensures.frames;
      own = c.frames_are_of_packets.ensures.own;
      readable = c.frames_are_readable.ensures;
      read = c.frames_are_read_back.ensures;
    })
    (record {
      once = c.one_state_of_each_job.ensures.once;
      held = c.one_state_of_each_job.ensures.held;
      counted = c.one_state_of_each_job.ensures.counted;
      quiet = c.one_state_of_each_job.ensures.quiet;
      reports = c.shown_reports_were_made.ensures.held;
      served = c.ends_are_kept.ensures.served;
      cut = c.ends_are_kept.ensures.cut;
      equal = c.nothing_differs.ensures.packets;
      runs = c.numbers_are_given_once.ensures.runs;
      attempts = c.numbers_are_given_once.ensures.attempts;
      starts = c.numbers_are_given_once.ensures.starts;
      run_texts = c.one_text_of_each.ensures.runs;
      attempt_texts = c.one_text_of_each.ensures.attempts;
    })
