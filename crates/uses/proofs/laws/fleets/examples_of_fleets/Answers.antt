use Rattle.uses.proofs.FleetLemmas as lemmas
use Rattle.uses.proofs.FleetBeginLemmas as beginning
use Rattle.uses.proofs.laws.fleets.examples_of_fleets.Goals as goal

pub returns-clause-story : goal.returns-clause-story
returns-clause-story c =
    lemmas.goes_through_the_story c.lengths_are_bounded.ensures c.frames_are_read_back.ensures c.notes_are_read_back.ensures c.fleet_law.ensures

pub returns-clause-mirror : goal.returns-clause-mirror
returns-clause-mirror c = beginning.begins_with_a_mirror c.notes_are_read_back.ensures c.fleets_begin_law.ensures

pub returns-clause-older : goal.returns-clause-older
returns-clause-older c = beginning.begins_over_older c.fleets_begin_again_law.ensures
