-- What the word for all places says of each.
use Rattle.std.proofs.Common.{◌≡◌, refl, sym, ap, subst, ◌∙◌, ℕ, zero, suc, ◌+◌, ◌*◌, ◌<◌, ◌≤◌, Bool, true, false, ◌&&◌, ◌||◌, List, [], ◌∷◌, ◌++◌, Option, None, Some, if◌then◌else◌, length, map, arith}
use Rattle.std.specs.Prelude.{◌/◌, ◌%◌, ◌==◌, is_some, filter_map, IsTrue}
use Rattle.std.specs.List.{cons_option, list_any, AllByRecursion}
use Rattle.std.proofs.lemmas.Bool.Decides.{nat_tests}
use Rattle.std.proofs.lemmas.List.{map-append}
use Rattle.std.proofs.lemmas.List.Elements.{filter_map-append}
use Rattle.std.proofs.lemmas.List.Folds.{list_any-append}
use Rattle.fc_base.specs.Counted.{numbers_below}
use Rattle.fc_base.specs.declared.limits.TheConstants.{MAX_JOBS, MAX_SERVERS}
use Rattle.fc_base.specs.declared.report.ReportEnd.{ReportEnd}
use Rattle.fc_base.specs.declared.report.ReportEnd.TheVariants.{Whole, AtFault, ReadFault}
use Rattle.fc_base.specs.declared.report.ReportParts.{ReportParts}
use Rattle.messages.specs.declared.body.Body.TheVariants as bodies
use Rattle.client_core.specs.declared.outcome.Outcome.{Outcome}
use Rattle.client_core.specs.declared.outcome.Outcome.TheVariants as outcomes
use Rattle.client_core.specs.declared.outcome.RequestKind.TheVariants as kinds
use Rattle.client_core.specs.declared.received.Received.{Received}
use Rattle.client_core.specs.History.{Opening, Entry}
use Rattle.client_core.specs.Laws.{FirstKeptStays}
use Rattle.client_core.specs.Life.{Deed, life}
use Rattle.client_core.specs.Outcomes.{outcome}
use Rattle.client_core.specs.Packets.{to_server, state_for}
use Rattle.client_core.specs.Reports.{reports}
use Rattle.client_core.specs.Words.{words_noted}
use Rattle.attempt_ends.specs.declared.asked.AskedPlace.{AskedPlace}
use Rattle.attempt_ends.specs.declared.attempts.Attempted.{Attempted}
use Rattle.attempt_ends.specs.declared.conclusion.AttemptEnd.TheVariants as words
use Rattle.attempt_ends.specs.declared.ends.EndAt.{EndAt}
use Rattle.attempt_ends.specs.declared.place.Place.{Place}
use Rattle.attempt_ends.specs.declared.place.TheConstants.{PLACES}
use Rattle.attempt_ends.specs.declared.place_end.Counts.{Counts}
use Rattle.attempt_ends.specs.declared.place_end.PlaceEnd.{PlaceEnd}
use Rattle.attempt_ends.specs.declared.place_end.PlaceEnd.TheVariants.{Refused, Unasked, Unanswered, InFull, Unread, Nothing, Faults, Sound}
use Rattle.attempt_ends.specs.Places.{place_numbered, all_places, key_at}
use Rattle.attempt_ends.specs.Asked.{asked_in}
use Rattle.attempt_ends.specs.Attempts.{attempts_made, attempt_of}
use Rattle.attempt_ends.specs.PlaceEnds.{counts_of, end_by_counts, end_to, end_by_report, or_refused, asked_end, unasked_end, made_end, end_by, end_at, at_place, report_of, is_kept, has_faults, is_left_out, says_nothing}
use Rattle.attempt_ends.specs.AttemptEnds.{attempt_end, ends_told, some_has_faults, some_is_left_out, some_says_nothing}
use Rattle.attempt_ends.specs.Laws.{IsSound, SoundChecksAll, IsGiven, StatesAreGiven}
use Rattle.attempt_ends.proofs.AttemptLemmas.{HasState, HasStates, states_stay, attempts_have}

-- ---- each place is one of all

or_left : (a b : Bool) → (a || b) ≡ false → a ≡ false
or_left true b h = cc
or_left false b h = refl

or_right : (a b : Bool) → (a || b) ≡ false → b ≡ false
or_right true b h = cc
or_right false b h = h

given_false : {A B : Type 0} (f : B → Bool) (h : A → Option B) (a : A) (x : B) → h a ≡ Some x → list_any f (filter_map h (a ∷ [])) ≡ false → f x ≡ false
given_false f h a x is none = or_left (f x) false (subst (λ o. list_any f (cons_option o []) ≡ false) is none)

split_none : {B : Type 0} (f : B → Bool) (h : Place → Option B) (n : ℕ) → list_any f (filter_map h (map place_numbered (numbers_below (suc n)))) ≡ false
    → (list_any f (filter_map h (map place_numbered (numbers_below n))) || list_any f (filter_map h (place_numbered n ∷ []))) ≡ false
split_none f h n none =
    sym (list_any-append f (filter_map h (map place_numbered (numbers_below n))) (filter_map h (place_numbered n ∷ [])))
    ∙ ap (list_any f) (sym (ap (filter_map h) (map-append place_numbered (numbers_below n) (n ∷ []))
    ∙ filter_map-append h (map place_numbered (numbers_below n)) (place_numbered n ∷ []))) ∙ none

by_place : {B : Type 0} (f : B → Bool) (h : Place → Option B) (n k : ℕ) (x : B) (b : Bool) → (k == n) ≡ b → k < suc n → h (place_numbered k) ≡ Some x
    → list_any f (filter_map h (place_numbered n ∷ [])) ≡ false → (k < n → f x ≡ false) → f x ≡ false
by_place f h n k x true same below is none before =
    let e : k ≡ n = grind (arith, nat_tests) in
    given_false f h (place_numbered n) x (subst (λ m. h (place_numbered m) ≡ Some x) e is) none
by_place f h n k x false other below is none before =
    let d : k < n = grind (arith, nat_tests) in
    before d

-- None of all has this: nor has the one with a number below.
pub none_has : {B : Type 0} (f : B → Bool) (h : Place → Option B) (n k : ℕ) (x : B) → k < n → h (place_numbered k) ≡ Some x
    → list_any f (filter_map h (map place_numbered (numbers_below n))) ≡ false → f x ≡ false
none_has f h zero k x below is none = absurd (omega (arith, below))
none_has f h (suc n) k x below is none =
    let front = list_any f (filter_map h (map place_numbered (numbers_below n))) in
    let last = list_any f (filter_map h (place_numbered n ∷ [])) in
    let split = split_none f h n none in
    by_place f h n k x (k == n) refl below is (or_right front last split) (λ d. none_has f h n k x d is (or_left front last split))

-- ---- a place whose end is sound

is_sound : (e : PlaceEnd) → has_faults e ≡ false → is_left_out e ≡ false → says_nothing e ≡ false → (n : ℕ) × (e ≡ Sound n)
is_sound (Refused reason) a b c = cc
is_sound Unasked a b c = cc
is_sound Unanswered a b c = cc
is_sound (InFull k) a b c = cc
is_sound (Unread k block) a b c = cc
is_sound Nothing a b c = cc
is_sound (Faults k) a b c = cc
is_sound (Sound n) a b c = (n, refl)

from_counts : (k f n : ℕ) (a b : Bool) (c : Counts) → (k == 0) ≡ a → (f == 0) ≡ b → (if a then Nothing else (if b then Sound k else Faults c)) ≡ Sound n
    → (1 ≤ k) × (f ≡ 0)
from_counts k f n true b c some none is = cc
from_counts k f n false true c some none is =
    let more : 1 ≤ k = grind (arith, nat_tests) in
    let zeros : f ≡ 0 = grind (arith, nat_tests) in
    (more, zeros)
from_counts k f n false false c some none is = cc

to_end : (c : Counts) (e : ReportEnd) (n : ℕ) → end_to c e ≡ Sound n → (1 ≤ c.checked) × (c.faults ≡ 0)
to_end c (ReadFault block) n is = cc
to_end c Whole n is = from_counts c.checked c.faults n (c.checked == 0) (c.faults == 0) c refl refl is
to_end c AtFault n is = from_counts c.checked c.faults n (c.checked == 0) (c.faults == 0) c refl refl is

from_report : (by_state : Bool) (r : ReportParts) (n : ℕ) → end_by_report by_state r ≡ Sound n → (by_state ≡ true) × (1 ≤ r.checked) × (r.faults ≡ 0)
from_report false r n is = cc
from_report true r n is = let t = to_end (counts_of r) r.end n is in (refl, t.0, t.1)

no_refusal : (q : Outcome) (e : PlaceEnd) (n : ℕ) → is_left_out e ≡ true → or_refused q e ≡ Sound n → ⊥
no_refusal (outcomes.Refused reason) e n left is = cc
no_refusal outcomes.None e n left is = cc
no_refusal outcomes.Open e n left is = cc
no_refusal outcomes.Good e n left is = cc

-- What is known of a place that ends as sound.
record Known (made : Option Attempted) (place : Place) (report : Option Received) : Type 0 where
  attempt : Attempted
  is_made : made ≡ Some attempt
  asked : AskedPlace
  is_asked : asked_in place attempt.asked ≡ Some asked
  by_state : asked.by_state ≡ true
  received : Received
  came : report ≡ Some received
  some : 1 ≤ received.report.checked
  none_at_fault : received.report.faults ≡ 0

known_by : (made : Attempted) (place : Place) (q : Outcome) (report : Option Received) (a : Option AskedPlace) → asked_in place made.asked ≡ a
    → (kept : Bool) (n : ℕ) → made_end a kept q report ≡ Some (Sound n) → Known (Some made) place report
known_by made place q report None is true n ends = absurd (no_refusal q Unasked n refl (some_is ends))
  where
    some_is : {x y : PlaceEnd} → Some x ≡ Some y → x ≡ y
    some_is h = cc
known_by made place q report None is false n ends = cc
known_by made place q None (Some a) is kept n ends = absurd (no_refusal q Unanswered n refl (some_is ends))
  where
    some_is : {x y : PlaceEnd} → Some x ≡ Some y → x ≡ y
    some_is h = cc
known_by made place q (Some r) (Some a) is kept n ends =
    let t = from_report a.by_state r.report n (some_is ends) in
    record { attempt = made; is_made = refl; asked = a; is_asked = is; by_state = t.0; received = r; came = refl; some = t.1; none_at_fault = t.2 }
  where
    some_is : {x y : PlaceEnd} → Some x ≡ Some y → x ≡ y
    some_is h = cc

known_of : (made : Option Attempted) (place : Place) (kept : Bool) (q : Outcome) (report : Option Received) (n : ℕ)
    → end_by made place kept q report ≡ Some (Sound n) → Known made place report
known_of None place true q report n ends = cc
known_of None place false q report n ends = cc
known_of (Some made) place kept q report n ends = known_by made place q report (asked_in place made.asked) refl kept n ends

-- ---- a place of which a state is kept has an end

has_end : (made : Option Attempted) (place : Place) (q : Outcome) (report : Option Received) → (e : PlaceEnd) × (end_by made place true q report ≡ Some e)
has_end None place q report = (Unanswered, refl)
has_end (Some made) place q report = by (asked_in place made.asked)
  where
    by : (a : Option AskedPlace) → (e : PlaceEnd) × (made_end a true q report ≡ Some e)
    by None = (or_refused q Unasked, refl)
    by (Some a) = (asked_end a.by_state q report, refl)

-- ---- the word is sound

word_is : (a b c d : Bool) → (if a then words.Faults else (if b then words.NotWhole else (if d || c then words.NoVerdict else words.Sound))) ≡ words.Sound
    → (a ≡ false) × (b ≡ false) × (c ≡ false)
word_is true b c d is = cc
word_is false true c d is = cc
word_is false false c true is = cc
word_is false false true false is = cc
word_is false false false false is = (refl, refl, refl)

number_of : (place : Place) → place.job < MAX_JOBS → place_numbered (place.server * MAX_JOBS + place.job) ≡ place
number_of place few = grind arith

pub sound_checks_all : SoundChecksAll
unfolding all_places
sound_checks_all o past run attempt place server job sound kept =
    let es = ends_told o past run attempt in
    let made = attempt_of run attempt (attempts_made o past) in
    let q = outcome o past kinds.Verify attempt place.server in
    let report = report_of attempt place (reports (life o past)) in
    let w = word_is (some_has_faults es) (some_is_left_out es) (some_says_nothing es) (length es == 0) sound in
    let there = has_end made place q report in
    let k = place.server * MAX_JOBS + place.job in
    let below : k < PLACES = omega (arith, server, job) in
    let at : at_place (place_numbered k) (end_at made o past run attempt (place_numbered k)) ≡ Some (record { place = place; end = there.0 }) =
    subst (λ p. at_place p (end_at made o past run attempt p) ≡ Some (record { place = place; end = there.0 })) (sym (number_of place job))
    (ap (λ b. at_place place (end_by made place b q report)) kept ∙ ap (at_place place) there.1) in
    let none : (f : EndAt → Bool) → list_any f es ≡ false → f (record { place = place; end = there.0 }) ≡ false =
    λ f h. none_has f (λ p. at_place p (end_at made o past run attempt p)) PLACES k (record { place = place; end = there.0 }) below at h in
    let s = is_sound there.0 (none (λ e. has_faults e.end) w.0) (none (λ e. is_left_out e.end) w.1) (none (λ e. says_nothing e.end) w.2) in
    let known = known_of made place true q report s.0 (there.1 ∙ ap Some s.1) in
    record {
      made = known.attempt;
      is_made = known.is_made;
      asked = known.asked;
      is_asked = known.is_asked;
      by_state = known.by_state;
      received = known.received;
      came = known.came;
      some = known.some;
      none_at_fault = known.none_at_fault;
    }

-- ---- states are given

all_map : {A : Type 0} (P Q : A → Type 0) → ((a : A) → P a → Q a) → (xs : List A) → AllByRecursion P xs → AllByRecursion Q xs
all_map P Q f [] h = tt
all_map P Q f (a ∷ xs) (h, hs) = (f a h, all_map P Q f xs hs)

pub states_are_given : FirstKeptStays → StatesAreGiven
states_are_given stays o newer past none =
    all_map (HasStates o past) (λ made. AllByRecursion (IsGiven o (newer ++ past) made) made.asked)
    (λ made h. all_map (HasState (words_noted o (newer ++ past)).kept made.run) (IsGiven o (newer ++ past) made)
    (λ a has by mirror deeds. let s = has by in (
      s.0,
      s.1,
      ap (λ state. state_for made.run made.attempt a.place.job a.place.server state ∷ []) s.1,
    )) made.asked (states_stay stays o newer past none made h))
    (attempts_made o past) (attempts_have stays o past)
