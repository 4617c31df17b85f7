-- How it is spelled how an attempt ended.
use Rattle.std.specs.Prelude.{ℕ, List, [], ◌∷◌, ◌++◌}
use Rattle.std.specs.List.{flat_map}
use Rattle.std.specs.Int.{w32, w64}
use Rattle.fc_base.specs.Layouts.{bytes_of}
use Rattle.messages.specs.Choices.{reason_number}
use Rattle.attempt_ends.specs.declared.conclusion.AttemptEnd.{AttemptEnd}
use Rattle.attempt_ends.specs.declared.conclusion.AttemptEnd.TheVariants as words
use Rattle.attempt_ends.specs.declared.conclusion.Sums.{Sums}
use Rattle.attempt_ends.specs.declared.ends.EndAt.{EndAt}
use Rattle.attempt_ends.specs.declared.place.Place.{Place}
use Rattle.attempt_ends.specs.declared.place_end.PlaceEnd.{PlaceEnd}
use Rattle.attempt_ends.specs.declared.place_end.PlaceEnd.TheVariants as at
use Rattle.attempt_ends.specs.AttemptEnds.{attempt_end, sums_of}
use Rattle.filters.specs.declared.asking.EndsAsked.{EndsAsked}
use Rattle.filters.specs.declared.ending.EndNumbers.{EndNumbers}
use Rattle.filters.specs.declared.kinds.OutRecordKind.TheVariants as said
use Rattle.filters.specs.Kinds.{said_number}
use Rattle.filters.specs.Records.{record_bytes}

-- An end that has no numbers with it.
abbrev pub bare : ℕ → EndNumbers
bare end = record { end = end; checked = 0; faults = 0; block = 0; reason = 0 }

-- The number of an end at a place, and those that go with it: the blocks that were checked, those
-- at fault, the block that could not be read, and the reason of a refusal.
abbrev pub numbers_of : PlaceEnd → EndNumbers
numbers_of (at.Refused reason) = record (bare 1) { reason = reason_number reason }
numbers_of at.Unasked = bare 2
numbers_of at.Unanswered = bare 3
numbers_of (at.InFull c) = record (bare 4) { checked = c.checked; faults = c.faults }
numbers_of (at.Unread c block) =
    record (bare 5) { checked = c.checked; faults = c.faults; block = block }
numbers_of at.Nothing = bare 6
numbers_of (at.Faults c) = record (bare 7) { checked = c.checked; faults = c.faults }
numbers_of (at.Sound checked) = record (bare 8) { checked = checked }

-- Whose an end is: the attempt of a run, at a place.
abbrev pub end_names : EndsAsked → Place → List ℕ
end_names asked place =
    bytes_of w64 asked.run ++ (bytes_of w64 asked.attempt
    ++ (bytes_of w32 place.server ++ bytes_of w32 place.job))

-- The numbers of an end.
abbrev pub end_counts : EndNumbers → List ℕ
end_counts n =
    bytes_of w32 n.end ++ (bytes_of w32 n.checked ++ (bytes_of w32 n.faults
    ++ (bytes_of w32 n.block ++ bytes_of w32 n.reason)))

-- How an attempt ended at a place.
abbrev pub place_bytes : EndsAsked → EndAt → List ℕ
place_bytes asked e =
    record_bytes (said_number said.PlaceEnd)
    (end_names asked e.place ++ end_counts (numbers_of e.end))

-- The number of the word for all places.
abbrev pub word_number : AttemptEnd → ℕ
word_number words.Sound = 0
word_number words.Faults = 1
word_number words.NotWhole = 2
word_number words.NoVerdict = 3

-- The sums of what was counted by states.
abbrev pub sums_bytes : Sums → List ℕ
sums_bytes s = bytes_of w64 s.checked ++ bytes_of w64 s.faults

-- Which attempt it is, of which run.
abbrev pub attempt_bytes : EndsAsked → List ℕ
attempt_bytes asked = bytes_of w64 asked.run ++ bytes_of w64 asked.attempt

-- How an attempt ended in one word, and in sums.
abbrev pub word_bytes : EndsAsked → AttemptEnd → Sums → List ℕ
word_bytes asked end sums =
    record_bytes (said_number said.AttemptEnd)
    (attempt_bytes asked ++ ((word_number end ∷ []) ++ sums_bytes sums))

-- How an attempt ended: place by place, and then in one word.
abbrev pub told_bytes : EndsAsked → List EndAt → List ℕ
told_bytes asked ends =
    flat_map (place_bytes asked) ends ++ word_bytes asked (attempt_end ends) (sums_of ends)
