-- The places that an attempt asks for, and where its check is by a state.
use Rattle.std.specs.Prelude.{ℕ, Bool, ◌&&◌, nat_lt, if◌then◌else◌, List, [], Option, Some, None, is_some, is_none, find, filter_map, slice_get}
use Rattle.job_file.specs.declared.job.Job.{Job}
use Rattle.job_file.specs.JobSet.{jobs_of, refusal_of}
use Rattle.verify_state.specs.State.{State}
use Rattle.verify_state.specs.StateTable.{kept_of}
use Rattle.attempt_ends.specs.declared.place.Place.{Place}
use Rattle.attempt_ends.specs.declared.asked.AskedPlace.{AskedPlace}
use Rattle.attempt_ends.specs.Places.{all_places, key_at, is_same_place}

-- The jobs of a text: none where it is refused.
unfoldable pub jobs_read : List ℕ → List Job
jobs_read text = if is_none (refusal_of text) then jobs_of text else []

-- What is asked for of a job at a place, where the text has it. The check there is by a state where
-- the job loads one, and one of its key is kept.
abbrev pub job_asked : ℕ → List State → Place → Option Job → Option AskedPlace
job_asked run kept place None = None
job_asked run kept place (Some job) = Some (record {
  place = place;
  by_state = job.load && is_some (kept_of (key_at run place) kept);
})

-- What is asked for at a place: something, where it is of one of so many servers, and of one of the
-- jobs.
abbrev pub place_asked : ℕ → ℕ → List Job → List State → Place → Option AskedPlace
place_asked servers run jobs kept place =
    if nat_lt place.server servers then job_asked run kept place (slice_get jobs place.job)
    else None

-- All that an attempt asks for, ascending, which verifies a run by this text at so many servers,
-- where these states are kept.
abbrev pub places_asked : ℕ → ℕ → List ℕ → List State → List AskedPlace
places_asked servers run text kept =
    filter_map (place_asked servers run (jobs_read text) kept) all_places

-- What is asked for at a place, among all that is.
abbrev pub asked_in : Place → List AskedPlace → Option AskedPlace
asked_in place asked = find (λ a. is_same_place place a.place) asked
