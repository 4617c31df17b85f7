use Rattle.net_world.proofs.PassLemmas as lemmas
use Rattle.net_world.proofs.passes.held_states_were_sent.Goals as goal

pub returns-clause-carried : goal.returns-clause-carried
returns-clause-carried c = lemmas.carried_states_were_sent
    (record {
      going = record {
        sends = c.the_taken.ensures.sent;
        to_client = c.packets_go_to_client.ensures;
        to_peers = c.packets_go_to_peers.ensures;
        over = c.packets_go_to_the_client.ensures;
      };
      notes = c.kept_was_sent.ensures.noted;
      saved = c.saved_is_kept.ensures;
      copies = c.copies_are_of_states.ensures;
      mirror_notes = c.kept_was_sent-2.ensures.noted;
      mirror_copies = c.copies_are_kept.ensures.noted;
    })

pub returns-clause-kept : goal.returns-clause-kept
returns-clause-kept c = lemmas.kept_states_were_sent (record {
  going = record {
    sends = c.the_taken.ensures.sent;
    to_client = c.packets_go_to_client.ensures;
    to_peers = c.packets_go_to_peers.ensures;
    over = c.packets_go_to_the_client.ensures;
  };
  notes = c.kept_was_sent.ensures.noted;
  saved = c.saved_is_kept.ensures;
  copies = c.copies_are_of_states.ensures;
  mirror_notes = c.kept_was_sent-2.ensures.noted;
  mirror_copies = c.copies_are_kept.ensures.noted;
})

pub returns-clause-copied : goal.returns-clause-copied
returns-clause-copied c = lemmas.copied_states_were_sent
    (record {
      going = record {
        sends = c.the_taken.ensures.sent;
        to_client = c.packets_go_to_client.ensures;
        to_peers = c.packets_go_to_peers.ensures;
        over = c.packets_go_to_the_client.ensures;
      };
      notes = c.kept_was_sent.ensures.noted;
      saved = c.saved_is_kept.ensures;
      copies = c.copies_are_of_states.ensures;
      mirror_notes = c.kept_was_sent-2.ensures.noted;
      mirror_copies = c.copies_are_kept.ensures.noted;
    })
