-- The examples, by computation.
use Rattle.std.proofs.Common.{refl}
use Rattle.verify_state.specs.Same.{is_same}
use Rattle.client_core.specs.Refusals.{is_for_client, is_from_server, is_from_mirror, is_begun, has_next, is_of_generation, is_free_to_number}
use Rattle.client_core.specs.Examples.{Begins, WaitsForTheBusy, KeepsTheFirst, TriggersToTheEnd, Verifies, GoesDown, KeepsWhatIsNoted, ForgetsByACut}
use Rattle.client_core.specs.Examples.{AsksAgainInOrder, SpendsNumbers}
use Rattle.client_core.specs.MirrorExamples.{NumbersOnceGranted, CopiesWhatIsKept, FetchesWhatWasLost, HearsItsMirrorAlone}

pub begins : Begins
unfolding has_next is_of_generation is_free_to_number is_for_client is_from_server is_from_mirror
begins = record { jobs = refl; again = refl; start = refl; once = refl; start_again = refl; lacks_jobs = refl; good = refl }

pub waits_for_the_busy : WaitsForTheBusy
unfolding has_next is_of_generation is_free_to_number is_for_client is_from_server is_from_mirror
waits_for_the_busy = record { busy = refl; ended = refl }

pub keeps_the_first : KeepsTheFirst
unfolding has_next is_of_generation is_free_to_number is_begun is_for_client is_from_server is_from_mirror is_same
keeps_the_first = record { acknowledged = refl; kept = refl; saved_once = refl; again = refl; conflict = refl; misdirected = refl }

pub triggers_to_the_end : TriggersToTheEnd
unfolding has_next is_of_generation is_free_to_number is_begun is_for_client is_from_server is_from_mirror is_same
triggers_to_the_end = record { one = refl; unsettled = refl; both = refl; settled = refl }

pub verifies : Verifies
unfolding has_next is_of_generation is_free_to_number is_begun is_for_client is_from_server is_from_mirror is_same
verifies = record { kept = refl; none = refl; report = refl; good = refl; misfit = refl }

pub goes_down : GoesDown
unfolding has_next is_of_generation is_free_to_number
goes_down = record { sends_nothing = refl; down = refl; next = refl; again = refl }

pub keeps_what_is_noted : KeepsWhatIsNoted
unfolding has_next is_of_generation is_free_to_number is_begun is_for_client is_from_server is_from_mirror is_same
keeps_what_is_noted = record { acknowledged = refl; saved = refl }

pub forgets_by_a_cut : ForgetsByACut
unfolding has_next is_of_generation is_free_to_number is_begun is_for_client is_from_server is_from_mirror is_same
forgets_by_a_cut = record { quiet = refl; next = refl; kept = refl; known = refl; unknown = refl }

pub asks_again_in_order : AsksAgainInOrder
unfolding has_next is_of_generation is_free_to_number is_begun is_for_client is_from_server is_from_mirror is_same
asks_again_in_order = record { order = refl }

pub spends_numbers : SpendsNumbers
unfolding has_next is_of_generation is_free_to_number
spends_numbers = record { spent = refl }

pub numbers_once_granted : NumbersOnceGranted
unfolding has_next is_of_generation is_free_to_number is_begun is_for_client is_from_server is_from_mirror is_same
numbers_once_granted =
    record { not_yet = refl; asked = refl; quiet = refl; other = refl; asked_no_more = refl; given = refl; asked_in_each_life = refl; not_without = refl }

pub copies_what_is_kept : CopiesWhatIsKept
unfolding has_next is_of_generation is_free_to_number is_begun is_for_client is_from_server is_from_mirror is_same
copies_what_is_kept = record { acknowledged = refl; once = refl; again = refl; no_more = refl; in_each_life = refl }

pub fetches_what_was_lost : FetchesWhatWasLost
unfolding has_next is_of_generation is_free_to_number is_begun is_for_client is_from_server is_from_mirror is_same
fetches_what_was_lost = record { lost = refl; asked = refl; kept = refl; given = refl }

pub hears_its_mirror_alone : HearsItsMirrorAlone
unfolding has_next is_of_generation is_free_to_number is_begun is_for_client is_from_server is_from_mirror is_same
hears_its_mirror_alone = record { from_a_server = refl; without = refl; nothing_else = refl }
