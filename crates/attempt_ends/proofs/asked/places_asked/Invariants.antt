use Rattle.std.proofs.Common.{◌≡◌, List, map}
use Rattle.std.specs.Prelude.{filter_map}
use Rattle.fc_base.specs.Counted.{numbers_below}
use Rattle.client_core.specs.History.{Opening}
use Rattle.client_core.specs.Words.{words_noted, shown_entries}
use Rattle.client_core.specs.Hearing.{FrameEntry, packets_heard}
use Rattle.client_core.specs.FrameEnds.{StandsFor}
use Rattle.attempt_ends.specs.Asked.{place_asked}
use Rattle.attempt_ends.specs.Places.{place_numbered}
use Rattle.attempt_ends.proofs.asked.places_asked.Given as goal

abbrev pub invariant-loop-number : goal.invariant-loop-number
invariant-loop-number g l =
    (opening : Opening) (past : List FrameEntry) → StandsFor g.N.Notes.note l.client opening past
    → l.places.items
    ≡ filter_map (place_asked l.servers l.run l.jobs (words_noted opening (shown_entries (packets_heard opening past))).kept)
    (map place_numbered (numbers_below l.number))
