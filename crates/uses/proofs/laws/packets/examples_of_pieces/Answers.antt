use Rattle.uses.proofs.PieceLemmas as lemmas
use Rattle.uses.proofs.laws.packets.examples_of_pieces.Goals as goal

pub returns-clause-bytes : goal.returns-clause-bytes
returns-clause-bytes c = lemmas.gives_the_bytes c.pieces_come_together.ensures.bytes

pub returns-clause-packet : goal.returns-clause-packet
returns-clause-packet c = lemmas.gives_the_packet c.pieces_come_together.ensures.packet

pub returns-clause-whole : goal.returns-clause-whole
returns-clause-whole c = lemmas.is_given_whole c.pieces_come_together.ensures.packet c.only_whole_bodies_are_given.ensures

pub returns-clause-sent : goal.returns-clause-sent
returns-clause-sent c = lemmas.is_of_those_sent c.only_sent_comes_together.ensures.step

pub returns-clause-given : goal.returns-clause-given
returns-clause-given c = lemmas.gives_one_that_was_sent c.only_sent_comes_together.ensures.all
