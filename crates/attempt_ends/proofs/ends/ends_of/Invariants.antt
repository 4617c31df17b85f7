use Rattle.std.proofs.Common.{◌≡◌, ◌≤◌, List, map, length}
use Rattle.std.specs.Prelude.{filter_map}
use Rattle.fc_base.specs.Counted.{numbers_below}
use Rattle.client_core.specs.History.{Opening}
use Rattle.client_core.specs.Words.{shown_entries}
use Rattle.client_core.specs.Hearing.{FrameEntry, packets_heard}
use Rattle.client_core.specs.FrameEnds.{StandsFor}
use Rattle.attempt_ends.specs.Attempts.{attempt_of}
use Rattle.attempt_ends.specs.PlaceEnds.{end_at, at_place}
use Rattle.attempt_ends.specs.Places.{place_numbered}
use Rattle.attempt_ends.proofs.ends.ends_of.Given as goal

abbrev pub invariant-loop-number : goal.invariant-loop-number
invariant-loop-number g l = record {
  few : length l.told.items ≤ l.number;
  told : (opening : Opening) (past : List FrameEntry) → StandsFor g.N.Notes.note l.client opening past
      → l.told.items
      ≡ filter_map (λ place. at_place place (end_at (attempt_of l.run l.attempt l.attempts.made) opening
      (shown_entries (packets_heard opening past)) l.run l.attempt place))
      (map place_numbered (numbers_below l.number));
}
