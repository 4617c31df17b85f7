-- How an attempt ended, as it is written.
use Rattle.std.proofs.Common.{◌≡◌, [], ◌∷◌, ◌++◌, length, length-append, refl, sym, subst, arith}
use Rattle.fc_base.specs.Layouts.{bytes_of}
use Rattle.attempt_ends.specs.declared.conclusion.AttemptEnd.{AttemptEnd}
use Rattle.attempt_ends.specs.declared.conclusion.Sums.{Sums}
use Rattle.attempt_ends.specs.declared.ends.EndAt.{EndAt}
use Rattle.attempt_ends.specs.declared.place.Place.{Place}
use Rattle.filters.specs.Written.{Written, Puts}
use Rattle.filters.proofs.OutputLemmas.{puts_both}
use Rattle.filters.specs.declared.asking.EndsAsked.{EndsAsked}
use Rattle.filters.specs.declared.ending.EndNumbers.{EndNumbers}
use Rattle.filters.specs.declared.kinds.OutRecordKind.TheVariants as said
use Rattle.filters.specs.Kinds.{said_number}
use Rattle.filters.specs.Records.{head_bytes}
use Rattle.filters.specs.EndTells.{numbers_of, end_names, end_counts, place_bytes, word_number, attempt_bytes, sums_bytes, word_bytes}

length_names : (asked : EndsAsked) (place : Place) → length (end_names asked place) ≡ 24
unfolding bytes_of
length_names asked place = refl

length_counts : (n : EndNumbers) → length (end_counts n) ≡ 20
unfolding bytes_of
length_counts n = refl

length_attempt : (asked : EndsAsked) → length (attempt_bytes asked) ≡ 16
unfolding bytes_of
length_attempt asked = refl

length_sums : (s : Sums) → length (sums_bytes s) ≡ 16
unfolding bytes_of
length_sums s = refl

-- The end at a place in its parts.
pub place_written : (asked : EndsAsked) (e : EndAt) (old first second new : Written) → Puts old first (head_bytes (said_number said.PlaceEnd) 44)
    → Puts first second (end_names asked e.place) → Puts second new (end_counts (numbers_of e.end)) → Puts old new (place_bytes asked e)
place_written asked e old first second new head names counts =
    let body = end_names asked e.place ++ end_counts (numbers_of e.end) in
    let all : length body ≡ 44 =
    omega (arith, length-append (end_names asked e.place) (end_counts (numbers_of e.end)), length_names asked e.place, length_counts (numbers_of e.end)) in
    subst (λ n. Puts old new (head_bytes (said_number said.PlaceEnd) n ++ body)) (sym all)
    (puts_both old first new (head_bytes (said_number said.PlaceEnd) 44) body head
    (puts_both first second new (end_names asked e.place) (end_counts (numbers_of e.end)) names counts))

-- The word in its parts.
pub word_written : (asked : EndsAsked) (end : AttemptEnd) (s : Sums) (old first second third new : Written)
    → Puts old first (head_bytes (said_number said.AttemptEnd) 33) → Puts first second (attempt_bytes asked)
    → Puts second third (word_number end ∷ []) → Puts third new (sums_bytes s) → Puts old new (word_bytes asked end s)
word_written asked end s old first second third new head names word sums =
    let body = attempt_bytes asked ++ ((word_number end ∷ []) ++ sums_bytes s) in
    let all : length body ≡ 33 =
    omega (
      arith,
      length-append (attempt_bytes asked) ((word_number end ∷ []) ++ sums_bytes s),
      length-append (word_number end ∷ []) (sums_bytes s),
      length_attempt asked,
      length_sums s,
    ) in
    subst (λ n. Puts old new (head_bytes (said_number said.AttemptEnd) n ++ body)) (sym all)
    (puts_both old first new (head_bytes (said_number said.AttemptEnd) 33) body head
    (puts_both first second new (attempt_bytes asked) ((word_number end ∷ []) ++ sums_bytes s) names
    (puts_both second third new (word_number end ∷ []) (sums_bytes s) word sums)))
