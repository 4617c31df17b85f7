use Rattle.assembly.proofs.TraceLemmas.{merges_name_a_trace as names}
use Rattle.assembly.proofs.law.merges_name_a_trace.Goals as goal

pub returns : goal.returns
returns c =
    names (record {
      only_sent = c.only_sent_is_heard.ensures;
      in_range = c.sent_are_in_range.ensures;
      of_packets = c.frames_are_of_packets.ensures.frames;
      readable = c.frames_are_readable.ensures;
      read = c.frames_are_read_back.ensures;
    })
