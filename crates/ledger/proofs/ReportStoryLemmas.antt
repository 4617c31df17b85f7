-- Places behind stories, and their reports.
use Rattle.std.proofs.Common.{◌≡◌, ℕ, zero, suc, ◌+◌, ◌<◌, Bool, false, List, [], ◌∷◌, length, filter, refl, ap, ◌∙◌, arith}
use Rattle.std.specs.List.{range_with_len}
use Rattle.std.proofs.lemmas.List.{length-replicate, get_or-replicate}
use Rattle.std.proofs.lemmas.List.FromFn.{length-map-range_with_len, get_or-map-range_with_len}
use Rattle.ledger.specs.declared.entry.RunWrite.{RunWrite}
use Rattle.ledger.specs.Entries.{is_fault, behind_run, behind_lost_run, behind_check}
use Rattle.ledger.specs.Places.{Place, entry_of, with_each, is_lost}
use Rattle.ledger.specs.Reports.{report}
use Rattle.ledger.specs.Stories.{Happened, ran, lost_run, checked, Step, content_after, entry_after, entry_by_step, place_after, place_by_step, NothingLost}
use Rattle.ledger.proofs.StoryLemmas.{nothing_told}

each_length : (change : ℕ → List RunWrite → List RunWrite) (place : Place) → length (with_each change place).entries ≡ length place.entries
each_length change place = length-map-range_with_len (λ b. change b (entry_of place b)) 0 (length place.entries)

each_entry : (change : ℕ → List RunWrite → List RunWrite) (place : Place) (b : ℕ) → b < length place.entries
    → entry_of (with_each change place) b ≡ change b (entry_of place b)
each_entry change place b lt = get_or-map-range_with_len (λ k. change k (entry_of place k)) 0 (length place.entries) b b [] lt (omega arith)

step_length : (what : Happened) (content : ℕ → List ℕ) (place : Place) → length (place_by_step what content place).entries ≡ length place.entries
step_length checked content place = each_length (behind_check content) place
step_length (ran e) content place = each_length (behind_run e) place
step_length (lost_run job) content place = each_length (behind_lost_run job) place

step_entry : (what : Happened) (content : ℕ → List ℕ) (place : Place) (b : ℕ) → b < length place.entries
    → entry_of (place_by_step what content place) b ≡ entry_by_step what content b (entry_of place b)
step_entry checked content place b lt = each_entry (behind_check content) place b lt
step_entry (ran e) content place b lt = each_entry (behind_run e) place b lt
step_entry (lost_run job) content place b lt = each_entry (behind_lost_run job) place b lt

place_length : (bs blocks : ℕ) (steps : List Step) → length (place_after bs blocks steps).entries ≡ blocks
place_length bs blocks [] = length-replicate {A = List RunWrite} blocks []
place_length bs blocks (s ∷ older) = step_length s.what s.content (place_after bs blocks older) ∙ place_length bs blocks older

pub place_entry : (bs blocks : ℕ) (steps : List Step) (block : ℕ) → block < blocks → entry_of (place_after bs blocks steps) block ≡ entry_after steps block
place_entry bs blocks [] block lt = get_or-replicate {A = List RunWrite} blocks block [] [] lt
place_entry bs blocks (s ∷ older) block lt =
    step_entry s.what s.content (place_after bs blocks older) block (omega (arith, place_length bs blocks older))
    ∙ ap (entry_by_step s.what s.content block) (place_entry bs blocks older block lt)

-- A filter that none of these passes leaves nothing.
none_pass : (p : ℕ → Bool) (a n : ℕ) → ((k : ℕ) → k < a + n → p k ≡ false) → length (filter p (range_with_len a n)) ≡ 0
none_pass p a zero none = refl
none_pass p a (suc n) none =
    let here : p a ≡ false = none a (omega arith) in
    let rest = none_pass p (a + 1) n (λ k lt. none k (omega arith)) in
    rw (here) rest

pub no_report : (first : ℕ → List ℕ) (bs blocks : ℕ) (steps : List Step) → ((block : ℕ) → block < blocks → NothingLost first steps block)
    → (report (place_after bs blocks steps) (content_after first steps)).faults ≡ 0
no_report first bs blocks steps kept =
    let place = place_after bs blocks steps in
    let held = content_after first steps in
    none_pass (is_lost place held) 0 (length place.entries) (λ b lt.
    let below : b < blocks = omega (arith, place_length bs blocks steps) in
    ap (is_fault held b) (place_entry bs blocks steps b below) ∙ nothing_told first steps b (kept b below))
