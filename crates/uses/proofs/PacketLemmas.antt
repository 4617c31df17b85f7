-- Packets, by computation and by the laws of messages.
use Rattle.std.proofs.Common.{◌≡◌, ℕ, refl}
use Rattle.fc_base.specs.Layouts.{bytes_of, number_in}
use Rattle.messages.specs.declared.kind.PacketKind.TheVariants as kinds
use Rattle.messages.specs.Bodies.{length_of, length_limit}
use Rattle.messages.specs.Kinds.{kind_numbered}
use Rattle.messages.specs.Laws.{IsPacket, SpellingsAreRead, OnlyPacketsAreRead, NoneBeginsAnother, LengthsAreBounded}
use Rattle.uses.specs.OneJob.{state}
use Rattle.uses.specs.Packets.{state_packet, start_packet, start_bytes, IsReadBack, SaysAPacket, BeginsNoOther, IsWithinItsLength}
use Rattle.messages.specs.declared.body.Body.TheVariants.{State}
use Rattle.uses.proofs.ListLemmas.{each_is_byte}
use Rattle.uses.proofs.StateLemmas.{is_state}

state_is_packet : IsPacket state_packet
state_is_packet = record { in_range = refl; state = is_state }

start_is_packet : IsPacket start_packet
start_is_packet = record { in_range = refl; state = tt }

pub is_read_back : SpellingsAreRead → IsReadBack
is_read_back law = record {
  packet = state_is_packet;
  faultless = (law state_packet state_is_packet).0;
  read = (law state_packet state_is_packet).1;
}

pub says_a_packet : OnlyPacketsAreRead → SaysAPacket
unfolding bytes_of number_in kind_numbered
says_a_packet law = record {
  are_bytes = each_is_byte start_bytes refl;
  faultless = refl;
  says = law start_bytes (each_is_byte start_bytes refl) refl;
  says_this = refl;
}

pub begins_no_other : NoneBeginsAnother → BeginsNoOther
unfolding bytes_of
begins_no_other law = record {
  packet = start_is_packet;
  itself = refl;
  no_other = λ q more h e. law start_packet q more start_is_packet h e;
}

pub is_within_its_length : (n : ℕ) → length_of (State 1 state) ≡ n → length_limit kinds.State ≡ n → LengthsAreBounded → IsWithinItsLength n
is_within_its_length n length_is limit_is law = record {
  in_range = refl;
  keeps = is_state;
  bounded = law (State 1 state) refl is_state;
  length_is = length_is;
  limit_is = limit_is;
}
