-- How an attempt of a run ended at each place, by all that came to its client.
use Rattle.std.specs.Prelude.{ℕ, Bool, true, false, ◌&&◌, ◌==◌, nat_lt, if◌then◌else◌, List, Option, Some, None, is_some, find, filter_map}
use Rattle.std.specs.Option.{option_map}
use Rattle.fc_base.specs.declared.report.ReportEnd.{ReportEnd}
use Rattle.fc_base.specs.declared.report.ReportEnd.TheVariants.{Whole, AtFault, ReadFault}
use Rattle.fc_base.specs.declared.report.ReportParts.{ReportParts}
use Rattle.client_core.specs.declared.outcome.Outcome.{Outcome}
use Rattle.client_core.specs.declared.outcome.Outcome.TheVariants as outcomes
use Rattle.client_core.specs.declared.outcome.RequestKind.TheVariants as kinds
use Rattle.client_core.specs.declared.received.Received.{Received}
use Rattle.client_core.specs.History.{Opening, Entry}
use Rattle.client_core.specs.Life.{life}
use Rattle.client_core.specs.Outcomes.{outcome}
use Rattle.client_core.specs.Reports.{reports}
use Rattle.client_core.specs.Words.{kept_state}
use Rattle.attempt_ends.specs.declared.place.Place.{Place}
use Rattle.attempt_ends.specs.declared.asked.AskedPlace.{AskedPlace}
use Rattle.attempt_ends.specs.declared.attempts.Attempted.{Attempted}
use Rattle.attempt_ends.specs.declared.ends.EndAt.{EndAt}
use Rattle.attempt_ends.specs.declared.place_end.Counts.{Counts}
use Rattle.attempt_ends.specs.declared.place_end.PlaceEnd.{PlaceEnd}
use Rattle.attempt_ends.specs.declared.place_end.PlaceEnd.TheVariants.{Refused, Unasked, Unanswered, InFull, Unread, Nothing, Faults, Sound}
use Rattle.attempt_ends.specs.Places.{all_places, key_at}
use Rattle.attempt_ends.specs.Asked.{asked_in}

-- ---- at a place of which a report has come

-- The counts of a report.
abbrev pub counts_of : ReportParts → Counts
counts_of r = record { checked = r.checked; faults = r.faults }

-- By the state, and each block could be read: nothing had to be there; or no block is at fault; or
-- some are.
abbrev pub end_by_counts : Counts → PlaceEnd
end_by_counts c =
    if c.checked == 0 then Nothing else (if c.faults == 0 then Sound c.checked else Faults c)

-- By the state: it ends at a block that could not be read, or all of it counts.
abbrev pub end_to : Counts → ReportEnd → PlaceEnd
end_to c (ReadFault block) = Unread c block
end_to c Whole = end_by_counts c
end_to c AtFault = end_by_counts c

-- What a report says that is by a state.
abbrev pub end_by_state : ReportParts → PlaceEnd
end_by_state r = end_to (counts_of r) r.end

-- What a report says, by whether it is known to be by a state.
abbrev pub end_by_report : Bool → ReportParts → PlaceEnd
end_by_report by_state r = if by_state then end_by_state r else InFull (counts_of r)

-- ---- at a place of which none has come

-- A place ends as refused where the attempt was refused at its server, and else as is said here.
abbrev pub or_refused : Outcome → PlaceEnd → PlaceEnd
or_refused (outcomes.Refused reason) end = Refused reason
or_refused outcomes.None end = end
or_refused outcomes.Open end = end
or_refused outcomes.Good end = end

-- ---- at any place

-- At a place that it asks for: what the report says that has come, whatever the server refused
-- besides; else it is refused or unanswered.
abbrev pub asked_end : Bool → Outcome → Option Received → PlaceEnd
asked_end by_state outcome (Some r) = end_by_report by_state r.report
asked_end by_state outcome None = or_refused outcome Unanswered

-- At a place that it doesn't ask for, of which a state is kept: it is refused or unasked.
abbrev pub unasked_end : Bool → Outcome → Option PlaceEnd
unasked_end kept outcome = if kept then Some (or_refused outcome Unasked) else None

-- Where the attempt was made, by what it asks for here.
abbrev pub made_end : Option AskedPlace → Bool → Outcome → Option Received → Option PlaceEnd
made_end (Some a) kept outcome report = Some (asked_end a.by_state outcome report)
made_end None kept outcome report = unasked_end kept outcome

-- Where it wasn't made in this life, or verifies another run.
abbrev pub unmade_end : Bool → Option PlaceEnd
unmade_end kept = if kept then Some Unanswered else None

-- By the attempt, if it was made.
abbrev pub end_by : Option Attempted → Place → Bool → Outcome → Option Received → Option PlaceEnd
end_by (Some made) place kept outcome report =
    made_end (asked_in place made.asked) kept outcome report
end_by None place kept outcome report = unmade_end kept

-- A report is the one of this attempt and place.
abbrev pub is_report_of : ℕ → Place → Received → Bool
is_report_of attempt place r =
    (r.attempt == attempt) && ((r.server == place.server) && (r.job == place.job))

-- The report of this attempt and place, if one has come.
abbrev pub report_of : ℕ → Place → List Received → Option Received
report_of attempt place reports = find (is_report_of attempt place) reports

-- A state of the run is kept of the place.
abbrev pub is_kept : Opening → List Entry → ℕ → Place → Bool
is_kept opening past run place = is_some (kept_state opening past (key_at run place))

-- How an attempt of a run ended at a place: by what it asked for, if it was made; whether a state
-- is kept of the place; how the attempt stands at the server; and the report that has come. A place
-- of which none is kept, and which it doesn't ask for, is none of its places.
abbrev pub end_at : Option Attempted → Opening → List Entry → ℕ → ℕ → Place → Option PlaceEnd
end_at made opening past run attempt place =
    end_by made place (is_kept opening past run place)
    (outcome opening past kinds.Verify attempt place.server)
    (report_of attempt place (reports (life opening past)))

-- The end at a place, if there is one.
abbrev pub at_place : Place → Option PlaceEnd → Option EndAt
at_place place end = option_map (λ e. record { place = place; end = e }) end

-- How an attempt of a run ended at each of its places, ascending.
abbrev pub ends : Option Attempted → Opening → List Entry → ℕ → ℕ → List EndAt
ends made opening past run attempt =
    filter_map (λ place. at_place place (end_at made opening past run attempt place)) all_places

-- ---- what an end comes to

-- Blocks are at fault, by the state: also before a block that could not be read.
abbrev pub has_faults : PlaceEnd → Bool
has_faults (Faults c) = true
has_faults (Unread c block) = nat_lt 0 c.faults
has_faults _ = false

-- Some of what should have been checked wasn't.
abbrev pub is_left_out : PlaceEnd → Bool
is_left_out (Refused reason) = true
is_left_out Unasked = true
is_left_out Unanswered = true
is_left_out (Unread c block) = true
is_left_out _ = false

-- The check of a place says nothing of what was written: it was in full, or no block was checked.
abbrev pub says_nothing : PlaceEnd → Bool
says_nothing (InFull c) = true
says_nothing Nothing = true
says_nothing _ = false

-- What was counted by the state.
abbrev pub counts_by_state : PlaceEnd → Counts
counts_by_state (Unread c block) = c
counts_by_state (Faults c) = c
counts_by_state (Sound checked) = record { checked = checked; faults = 0 }
counts_by_state _ = record { checked = 0; faults = 0 }
