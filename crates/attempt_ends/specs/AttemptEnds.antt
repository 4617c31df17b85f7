-- How an attempt ended, in one word and in sums.
use Rattle.std.specs.Prelude.{ℕ, Bool, ◌||◌, ◌==◌, if◌then◌else◌, List, length, sum_by}
use Rattle.std.specs.List.{list_any}
use Rattle.client_core.specs.History.{Opening, Entry}
use Rattle.attempt_ends.specs.declared.conclusion.AttemptEnd.{AttemptEnd}
use Rattle.attempt_ends.specs.declared.conclusion.AttemptEnd.TheVariants.{Sound, Faults, NotWhole, NoVerdict}
use Rattle.attempt_ends.specs.declared.conclusion.Sums.{Sums}
use Rattle.attempt_ends.specs.declared.ends.EndAt.{EndAt}
use Rattle.attempt_ends.specs.Attempts.{attempts_made, attempt_of}
use Rattle.attempt_ends.specs.PlaceEnds.{ends, has_faults, is_left_out, says_nothing, counts_by_state}

-- Some place has faults, by its state.
abbrev pub some_has_faults : List EndAt → Bool
some_has_faults ends = list_any (λ at. has_faults at.end) ends

-- At some place it is refused, unasked, unanswered or unread.
abbrev pub some_is_left_out : List EndAt → Bool
some_is_left_out ends = list_any (λ at. is_left_out at.end) ends

-- Some place was checked in full, or nothing had to be there.
abbrev pub some_says_nothing : List EndAt → Bool
some_says_nothing ends = list_any (λ at. says_nothing at.end) ends

-- The word for all places, the first that holds. Faults come first: what is left out hides none.
abbrev pub attempt_end : List EndAt → AttemptEnd
attempt_end ends =
    if some_has_faults ends then Faults
    else (if some_is_left_out ends then NotWhole
    else (if (length ends == 0) || some_says_nothing ends then NoVerdict else Sound))

-- The sums of what was counted by states.
abbrev pub sums_of : List EndAt → Sums
sums_of ends = record {
  checked = sum_by (λ at. (counts_by_state at.end).checked) ends;
  faults = sum_by (λ at. (counts_by_state at.end).faults) ends;
}

-- How this attempt of a run ended at its places, by all that came to the client.
abbrev pub ends_told : Opening → List Entry → ℕ → ℕ → List EndAt
ends_told opening past run attempt =
    ends (attempt_of run attempt (attempts_made opening past)) opening past run attempt
