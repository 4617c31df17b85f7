-- Pieces, by computation and by the laws of messages.
use Rattle.std.proofs.Common.{◌≡◌, refl, ap, subst, arith, true, ◌∷◌, []}
use Rattle.std.specs.Prelude.{Contains}
use Rattle.fc_base.specs.Layouts.{bytes_of, number_in}
use Rattle.messages.specs.Kinds.{kind_numbered}
use Rattle.messages.specs.declared.frame.Frame.TheVariants.{Piece}
use Rattle.messages.specs.declared.packet.PacketParts.{PacketParts}
use Rattle.messages.specs.declared.piece.PieceParts.{PieceParts}
use Rattle.messages.specs.Assemblies.{rows_after_piece}
use Rattle.messages.specs.FrameLaws.{FramesAreFew, FramesAreRead, FramesAreReadable, NoFrameBeginsAnother, OnlyFramesAreRead}
use Rattle.messages.specs.Laws.{IsPacket}
use Rattle.messages.specs.PieceLaws.{IsPartOf, ArePackets, OneBodyOfEachTag, WasSent, WasCut, AreFramesOf, PiecesGiveTheBytes, PiecesGiveThePacket, OnlyWholeBodiesAreGiven, OnlySentComesTogether, OnlySentIsGiven}
use Rattle.messages.specs.Pieces.{is_cut, tag_of, pieces_of, frames_of}
use Rattle.uses.specs.Packets.{long_packet}
use Rattle.uses.specs.Pieces.{first_piece, last_piece, tag, bytes, rows, sent, came, piece_bytes}
use Rattle.uses.specs.Pieces.{GivesTheBytes, GivesThePacket, IsGivenWhole, IsOfThoseSent, GivesOneThatWasSent, AreReadableAndFew, PieceIsReadBack, PieceBeginsNoOther, SaysAFrame}
use Rattle.fc_base.proofs.ListLemmas.{first_of, only_in}
use Rattle.uses.proofs.ListLemmas.{each_is_byte, of_two, of_three, second_of}

packet_1 : IsPacket (long_packet 1)
packet_1 = record { in_range = refl; state = tt }

packet_2 : IsPacket (long_packet 2)
packet_2 = record { in_range = refl; state = tt }

-- ---- of any bytes

part_last : IsPartOf (tag 1) (bytes 1) (last_piece 1)
part_last = record { tag_is = refl; bytes_are = refl }

part_first : IsPartOf (tag 1) (bytes 1) (first_piece 1)
part_first = record { tag_is = refl; bytes_are = refl }

parts : (q : PieceParts) → Contains (last_piece 1 ∷ last_piece 1 ∷ []) q → IsPartOf (tag 1) (bytes 1) q
parts = of_two (IsPartOf (tag 1) (bytes 1)) (last_piece 1) (last_piece 1) part_last part_last

pub gives_the_bytes : PiecesGiveTheBytes → GivesTheBytes
unfolding bytes_of number_in
gives_the_bytes law = record {
  length_is = refl;
  new = refl;
  parts = parts;
  lacks = refl;
  part = part_first;
  gives = law (tag 1) (bytes 1) refl rows refl (last_piece 1 ∷ last_piece 1 ∷ []) parts refl (first_piece 1) part_first;
}

-- ---- of a packet

last_of_1 : Contains (pieces_of (long_packet 1)) (last_piece 1)
last_of_1 = second_of (first_piece 1) (last_piece 1) []

pieces : (q : PieceParts) → Contains (last_piece 1 ∷ last_piece 1 ∷ []) q → Contains (pieces_of (long_packet 1)) q
pieces = of_two (Contains (pieces_of (long_packet 1))) (last_piece 1) (last_piece 1) last_of_1 last_of_1

piece : (q : PieceParts) → Contains (last_piece 1 ∷ []) q → Contains (pieces_of (long_packet 1)) q
piece q h = subst (Contains (pieces_of (long_packet 1))) (only_in (last_piece 1) q h) last_of_1

first_of_1 : Contains (pieces_of (long_packet 1)) (first_piece 1)
first_of_1 = first_of (first_piece 1) (last_piece 1 ∷ [])

pub gives_the_packet : PiecesGiveThePacket → GivesThePacket
gives_the_packet law = record {
  packet = packet_1;
  cut = refl;
  new = refl;
  pieces = pieces;
  lacks = refl;
  piece = first_of_1;
  gives = law (long_packet 1) packet_1 refl rows refl (last_piece 1 ∷ last_piece 1 ∷ []) pieces refl (first_piece 1) first_of_1;
  waits = law (long_packet 1) packet_1 refl rows refl (last_piece 1 ∷ []) piece refl (last_piece 1) last_of_1;
}

pub is_given_whole : PiecesGiveThePacket → OnlyWholeBodiesAreGiven → IsGivenWhole
is_given_whole together law =
    let gives = together (long_packet 1) packet_1 refl rows refl (last_piece 1 ∷ []) piece refl (first_piece 1) first_of_1 in
    record {
      gives = gives;
      whole = (law (rows_after_piece rows (last_piece 1)) (first_piece 1) (long_packet 1)).0 gives;
    }

-- ---- of what was sent

packets : ArePackets sent
packets = of_two IsPacket (long_packet 1) (long_packet 2) packet_1 packet_2

one_body : OneBodyOfEachTag sent
one_body p q p_in q_in p_cut q_cut same =
    of_two (λ x. is_cut x.body ≡ true → tag_of x.body ≡ tag_of q.body → x.body ≡ q.body) (long_packet 1) (long_packet 2)
    (λ cut e. of_two (λ y. tag_of (long_packet 1).body ≡ tag_of y.body → (long_packet 1).body ≡ y.body) (long_packet 1) (long_packet 2)
    (λ e. refl) (λ e. absurd (omega (arith, ap (λ t. t.run) e))) q q_in e)
    (λ cut e. of_two (λ y. tag_of (long_packet 2).body ≡ tag_of y.body → (long_packet 2).body ≡ y.body) (long_packet 1) (long_packet 2)
    (λ e. absurd (omega (arith, ap (λ t. t.run) e))) (λ e. refl) q q_in e)
    p p_in p_cut same

of_1 : Contains sent (long_packet 1)
of_1 = first_of (long_packet 1) (long_packet 2 ∷ [])

of_2 : Contains sent (long_packet 2)
of_2 = second_of (long_packet 1) (long_packet 2) []

first_was_cut : WasCut sent (tag 2) 0 (first_piece 2).bytes
first_was_cut = record { packet = long_packet 2; was_sent = of_2; cut = refl; tag_is = refl; bytes_are = refl }

last_was_cut : WasCut sent (tag 1) 1024 (last_piece 1).bytes
last_was_cut = record { packet = long_packet 1; was_sent = of_1; cut = refl; tag_is = refl; bytes_are = refl }

both_came : WasSent sent (rows_after_piece rows (last_piece 1))
both_came = ((first_was_cut, tt), ((last_was_cut, tt), tt))

pub is_of_those_sent : OnlySentComesTogether → IsOfThoseSent
is_of_those_sent law = record {
  packets = packets;
  one_body = one_body;
  came = both_came;
  was_sent = of_1;
  piece = (refl, first_of_1);
  gives =
      law sent packets one_body (rows_after_piece rows (last_piece 1)) both_came (long_packet 1) of_1 (first_piece 1)
      (refl, first_of_1);
}

frames : AreFramesOf sent (Piece (first_piece 1) ∷ came)
frames =
    of_three (λ f. (p : PacketParts) × Contains sent p × Contains (frames_of p) f) (Piece (first_piece 1)) (Piece (last_piece 1)) (Piece (first_piece 2))
    (long_packet 1, of_1, first_of (Piece (first_piece 1)) (Piece (last_piece 1) ∷ []))
    (long_packet 1, of_1, second_of (Piece (first_piece 1)) (Piece (last_piece 1)) [])
    (long_packet 2, of_2, first_of (Piece (first_piece 2)) (Piece (last_piece 2) ∷ []))

pub gives_one_that_was_sent : OnlySentIsGiven → GivesOneThatWasSent
gives_one_that_was_sent law = record {
  packets = packets;
  one_body = one_body;
  frames = frames;
  gives = law sent packets one_body (Piece (first_piece 1)) came frames;
}

-- ---- as bytes

pub are_readable_and_few : FramesAreReadable → FramesAreFew → AreReadableAndFew
are_readable_and_few readable few = record {
  packet = packet_1;
  pieces = refl;
  readable = readable (long_packet 1) packet_1;
  few = few (long_packet 1) packet_1;
}

pub piece_is_read_back : FramesAreRead → PieceIsReadBack
unfolding bytes_of
piece_is_read_back law = record {
  frame = refl;
  short = tt;
  faultless = (law (Piece (last_piece 1)) refl tt).0;
  read = (law (Piece (last_piece 1)) refl tt).1;
}

pub piece_begins_no_other : NoFrameBeginsAnother → PieceBeginsNoOther
unfolding bytes_of
piece_begins_no_other law = record {
  frame = refl;
  itself = refl;
  no_other = λ g more h e. law (Piece (last_piece 1)) g more refl h e;
}

pub says_a_frame : OnlyFramesAreRead → SaysAFrame
unfolding bytes_of number_in kind_numbered
says_a_frame law = record {
  are_bytes = each_is_byte piece_bytes refl;
  faultless = refl;
  says = law piece_bytes (each_is_byte piece_bytes refl) refl;
  says_this = refl;
}
