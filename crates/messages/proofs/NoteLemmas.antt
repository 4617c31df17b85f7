-- The frames of an event, one after the other.
use Rattle.std.proofs.Common.{◌≡◌, sym, ◌∙◌, ap, subst, ℕ, ◌+◌, ◌≤◌, arith, List, [], ◌∷◌, ◌++◌, append_assoc, length, take, drop, Some}
use Rattle.std.specs.Prelude.{sum_by, All, slice_get}
use Rattle.std.proofs.lemmas.List.{drop_more, take_more}
use Rattle.std.proofs.lemmas.List.Sums.{sum_by-cons}
use Rattle.std.proofs.lemmas.Option.{slice_get_within, get_or_from_slice_get}
use Rattle.messages.specs.Network.{IsSpelled}
use Rattle.messages.specs.KeptNetwork.{Stored, Queued, StayKept}

-- The first i frames are in, and there is room for the others.
pub record IsNoted (sent : List (List ℕ)) (i : ℕ) (old : Stored) (before : Queued) (new : Stored) (after : Queued) : Type 0 where
  pub within : i ≤ length sent
  pub frames : new.frames ≡ old.frames ++ take i sent
  pub more : length (drop i sent) ≤ new.more
  pub waiting : length (drop i sent) ≤ after.more
  pub bytes : sum_by (λ (frame : List ℕ). length frame) (drop i sent) ≤ new.bytes
  pub kept : StayKept old.frames new.frames before.lists after.lists

-- What is left begins with the next one.
next : (sent : List (List ℕ)) (i : ℕ) (f : List ℕ) → slice_get sent i ≡ Some f → drop i sent ≡ f ∷ drop (i + 1) sent
next sent i f is = drop_more sent i [] (slice_get_within sent i f is) ∙ ap (λ (x : List ℕ). x ∷ drop (i + 1) sent) (get_or_from_slice_get sent i f [] is)

pub next_bytes : (sent : List (List ℕ)) (i : ℕ) (f : List ℕ) → slice_get sent i ≡ Some f
    → sum_by (λ (frame : List ℕ). length frame) (drop i sent) ≡ length f + sum_by (λ (frame : List ℕ). length frame) (drop (i + 1) sent)
next_bytes sent i f is =
    ap (sum_by (λ (frame : List ℕ). length frame)) (next sent i f is) ∙ sum_by-cons (λ (frame : List ℕ). length frame) f (drop (i + 1) sent)

pub next_length : (sent : List (List ℕ)) (i : ℕ) (f : List ℕ) → slice_get sent i ≡ Some f → length (drop i sent) ≡ length (drop (i + 1) sent) + 1
next_length sent i f is = omega (arith, ap (λ (xs : List (List ℕ)). length xs) (next sent i f is))

pub next_spelled : (sent : List (List ℕ)) (i : ℕ) (f : List ℕ) → slice_get sent i ≡ Some f → All IsSpelled sent → IsSpelled f
next_spelled sent i f is all = subst IsSpelled (get_or_from_slice_get sent i f [] is) (all i [] (slice_get_within sent i f is))

next_taken : (sent old : List (List ℕ)) (i : ℕ) (f : List ℕ) → slice_get sent i ≡ Some f → (old ++ take i sent) ++ f ∷ [] ≡ old ++ take (i + 1) sent
next_taken sent old i f is =
    append_assoc old (take i sent) (f ∷ [])
    ∙ ap (λ (xs : List (List ℕ)). old ++ xs) (sym (take_more sent i [] (slice_get_within sent i f is)
    ∙ ap (λ (x : List ℕ). take i sent ++ x ∷ []) (get_or_from_slice_get sent i f [] is)))

pub noted_more : (sent : List (List ℕ)) (i : ℕ) (old : Stored) (before : Queued) (mid : Stored) (between : Queued) (new : Stored) (after : Queued) (f : List ℕ)
    → IsNoted sent i old before mid between → slice_get sent i ≡ Some f
    → new.frames ≡ mid.frames ++ f ∷ [] → mid.more ≤ new.more + 1 → between.more ≤ after.more + 1 → mid.bytes ≤ new.bytes + length f
    → StayKept mid.frames new.frames between.lists after.lists → IsNoted sent (i + 1) old before new after
noted_more sent i old before mid between new after f noted is frames_are more waiting bytes kept = record {
  within = omega (arith, slice_get_within sent i f is);
  frames = frames_are ∙ ap (λ (xs : List (List ℕ)). xs ++ f ∷ []) noted.frames ∙ next_taken sent old.frames i f is;
  more = omega (arith, noted.more, more, next_length sent i f is);
  waiting = omega (arith, noted.waiting, waiting, next_length sent i f is);
  bytes = omega (arith, noted.bytes, bytes, next_bytes sent i f is);
  kept = λ journal was. kept journal (noted.kept journal was);
}
