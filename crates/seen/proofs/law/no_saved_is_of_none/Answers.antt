use Rattle.seen.proofs.NoneLemmas as lemmas
use Rattle.seen.proofs.law.no_saved_is_of_none.Goals as goal

pub returns : goal.returns
returns c = lemmas.no_saved_is_of_none
    (record {
      own = c.frames_are_of_packets.ensures.own;
      read = c.sent_frames_are_read.ensures;
      to_client = c.packets_go_to_client.ensures;
      to_peers = c.packets_go_to_peers.ensures;
      over = c.packets_go_to_the_client.ensures;
    })
    c.no_saved_is_of_none.ensures
