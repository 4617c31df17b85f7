-- The examples, by computation.
use Rattle.std.proofs.Common.{refl}
use Rattle.client_core.specs.Refusals.{is_for_client, is_from_server, is_from_mirror, is_begun, has_next, is_of_generation, is_free_to_number}
use Rattle.attempt_ends.specs.Places.{all_places}
use Rattle.attempt_ends.specs.Asked.{jobs_read}
use Rattle.attempt_ends.specs.Examples.{EndsAtPlaces, Servers, Texts}

pub ends_at_places : EndsAtPlaces
ends_at_places =
    record { sound = refl; at_fault = refl; nothing = refl; unread = refl; in_full = refl; hides_none = refl; refused = refl; unanswered = refl; unasked = refl; none_there = refl; not_made = refl }

pub servers : Servers
unfolding jobs_read all_places has_next is_of_generation is_free_to_number is_begun is_for_client is_from_server is_from_mirror
servers = record {
  both = record { places = refl; words = refl };
  one_away = record { places = refl; words = refl };
  faults_first = record { places = refl; words = refl };
  nothing = record { places = refl; words = refl };
  full_pass = record { places = refl; words = refl };
}

pub texts : Texts
unfolding jobs_read all_places has_next is_of_generation is_free_to_number is_begun is_for_client is_from_server is_from_mirror
texts = record {
  one_less = record { places = refl; words = refl };
  one_more = record { places = refl; words = refl };
  overtaken = record { places = refl; words = refl };
}
