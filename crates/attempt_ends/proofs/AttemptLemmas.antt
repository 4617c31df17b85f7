-- The attempts of a life, as what is shown has them; and the states that are kept where an attempt asks
-- for a place by its state.
use Rattle.std.proofs.Common.{◌≡◌, refl, sym, ap, subst, ◌∙◌, ℕ, Bool, true, false, ◌&&◌, List, [], ◌∷◌, ◌++◌, Option, None, Some, if◌then◌else◌}
use Rattle.std.specs.Prelude.{is_some, is_none, nat_lt, slice_get, filter_map, not, IsTrue}
use Rattle.std.specs.List.{cons_option, AllByRecursion}
use Rattle.fc_base.specs.declared.fault.Fault.{Fault}
use Rattle.disk_model.specs.declared.save_outcome.SaveOutcome.{SaveOutcome}
use Rattle.disk_model.specs.declared.save_outcome.SaveOutcome.TheVariants as lefts
use Rattle.disk_model.specs.SaveOutcome.{is_lost}
use Rattle.job_file.specs.declared.job.Job.{Job}
use Rattle.verify_state.specs.State.{State}
use Rattle.verify_state.specs.StateTable.{kept_of}
use Rattle.client_core.specs.Inputs.{PacketInput, Begin, Trigger, Stop, Verify, Deliver, Tick}
use Rattle.client_core.specs.declared.note.ClientNote.{ClientNote}
use Rattle.client_core.specs.History.{Opening, Entry, Met, Cut, Restart, Renew, Lose}
use Rattle.client_core.specs.Laws.{FirstKeptStays, loses_nothing}
use Rattle.client_core.specs.Saves.{Addition, is_answer}
use Rattle.client_core.specs.Words.{is_on, words_noted, kept_state, due, refusal, is_answered, shown_entries}
use Rattle.attempt_ends.specs.declared.asked.AskedPlace.{AskedPlace}
use Rattle.attempt_ends.specs.declared.attempts.Attempted.{Attempted}
use Rattle.attempt_ends.specs.declared.place.Place.{Place}
use Rattle.attempt_ends.specs.Places.{all_places, key_at}
use Rattle.attempt_ends.specs.Asked.{job_asked, place_asked, places_asked, jobs_read}
use Rattle.attempt_ends.specs.Attempts.{attempt_by, attempts_made}

-- ---- what is shown

lost_unanswered : (d : Option Addition) (left : SaveOutcome) → is_lost left ≡ true → is_answer d left ≡ false
lost_unanswered None lefts.NoSave lost = cc
lost_unanswered None lefts.Saved lost = cc
lost_unanswered None lefts.LostNew lost = refl
lost_unanswered None lefts.LostOld lost = refl
lost_unanswered (Some a) lefts.NoSave lost = cc
lost_unanswered (Some a) lefts.Saved lost = cc
lost_unanswered (Some a) lefts.LostNew lost = refl
lost_unanswered (Some a) lefts.LostOld lost = refl

and_false : (b : Bool) → (b && false) ≡ false
and_false true = refl
and_false false = refl

by_lost : (o : Opening) (past : List Entry) (c : PacketInput) (left : SaveOutcome) (lost : Bool) → is_lost left ≡ lost
    → attempts_made o (if lost then past else Met c left ∷ past) ≡ attempts_made o (Met c left ∷ past)
by_lost o past c left true is =
    ap (λ b. if b then attempts_made o past ++ attempt_by o.servers (words_noted o past) c else attempts_made o past)
    (sym (ap (λ b. is_none (refusal o past c) && b) (lost_unanswered (due o past c) left is) ∙ and_false (is_none (refusal o past c))))
by_lost o past c left false is = refl

off_refused : (o : Opening) (past : List Entry) (c : PacketInput) (left : SaveOutcome) → is_on past ≡ false → is_answered o past c left ≡ false
off_refused o past c left off = rw off refl

by_on : (o : Opening) (past : List Entry) (c : PacketInput) (left : SaveOutcome) (on : Bool) → is_on past ≡ on
    → attempts_made o (shown_entries past) ≡ attempts_made o past
    → attempts_made o (if on then (if is_lost left then past else Met c left ∷ past) else shown_entries past) ≡ attempts_made o (Met c left ∷ past)
by_on o past c left true is h = by_lost o past c left (is_lost left) refl
by_on o past c left false is h =
    h ∙ ap (λ b. if b then attempts_made o past ++ attempt_by o.servers (words_noted o past) c else attempts_made o past) (sym (off_refused o past c left is))

by_saved : (o : Opening) (past : List Entry) (g : ℕ) (left : SaveOutcome) (b : Bool) → attempts_made o (if b then Renew g left ∷ past else []) ≡ []
by_saved o past g left true = refl
by_saved o past g left false = refl

-- What is shown has all attempts of the life.
pub shown_attempts : (o : Opening) (past : List Entry) → attempts_made o (shown_entries past) ≡ attempts_made o past
shown_attempts o [] = refl
shown_attempts o (Met c left ∷ past) = by_on o past c left (is_on past) refl (shown_attempts o past)
shown_attempts o (Cut ∷ past) = refl
shown_attempts o (Restart mirror ∷ past) = refl
shown_attempts o (Renew g left ∷ past) = by_saved o past g left _
shown_attempts o (Lose ∷ past) = refl

-- ---- what is kept where a check is by a state

-- A state of the place is kept.
abbrev pub HasState : List State → ℕ → AskedPlace → Type 0
HasState kept run a = a.by_state ≡ true → (state : State) × (kept_of (key_at run a.place) kept ≡ Some state)

some_state : (load : Bool) (o : Option State) → (load && is_some o) ≡ true → (state : State) × (o ≡ Some state)
some_state true None h = cc
some_state true (Some s) h = (s, refl)
some_state false o h = cc

job_has : (run : ℕ) (kept : List State) (place : Place) (job : Option Job) (x : AskedPlace) → job_asked run kept place job ≡ Some x → HasState kept run x
job_has run kept place None x is = cc
job_has run kept place (Some job) x is =
    subst (λ (o : Option AskedPlace). IsHas o) is (some_state job.load (kept_of (key_at run place) kept))
  where
    IsHas : Option AskedPlace → Type 0
    IsHas None = Unit {0}
    IsHas (Some a) = HasState kept run a

place_has : (servers run : ℕ) (jobs : List Job) (kept : List State) (place : Place) (b : Bool) (x : AskedPlace)
    → (if b then job_asked run kept place (slice_get jobs place.job) else None) ≡ Some x → HasState kept run x
place_has servers run jobs kept place true x is = job_has run kept place (slice_get jobs place.job) x is
place_has servers run jobs kept place false x is = cc

one_given : {B : Type 0} (P : B → Type 0) (o : Option B) (ys : List B) → ((x : B) → o ≡ Some x → P x) → AllByRecursion P ys → AllByRecursion P (cons_option o ys)
one_given P None ys each h = h
one_given P (Some x) ys each h = (each x refl, h)

all_given : {A B : Type 0} (P : B → Type 0) (h : A → Option B) → ((a : A) (x : B) → h a ≡ Some x → P x) → (xs : List A) → AllByRecursion P (filter_map h xs)
all_given P h each [] = tt
all_given P h each (a ∷ xs) = one_given P (h a) (filter_map h xs) (each a) (all_given P h each xs)

pub asked_have : (servers run : ℕ) (text : List ℕ) (kept : List State) → AllByRecursion (HasState kept run) (places_asked servers run text kept)
asked_have servers run text kept =
    all_given (HasState kept run) (place_asked servers run (jobs_read text) kept)
    (λ place x is. place_has servers run (jobs_read text) kept place (nat_lt place.server servers) x is) all_places

all_map : {A : Type 0} (P Q : A → Type 0) → ((a : A) → P a → Q a) → (xs : List A) → AllByRecursion P xs → AllByRecursion Q xs
all_map P Q f [] h = tt
all_map P Q f (a ∷ xs) (h, hs) = (f a h, all_map P Q f xs hs)

all_append : {A : Type 0} (P : A → Type 0) → (xs ys : List A) → AllByRecursion P xs → AllByRecursion P ys → AllByRecursion P (xs ++ ys)
all_append P [] ys h k = k
all_append P (a ∷ xs) ys (h, hs) k = (h, all_append P xs ys hs k)

-- Each place of an attempt that is checked by its state has one.
abbrev pub HasStates : Opening → List Entry → Attempted → Type 0
HasStates o past made = AllByRecursion (HasState (words_noted o past).kept made.run) made.asked

pub states_stay : FirstKeptStays → (o : Opening) (newer past : List Entry) → IsTrue (loses_nothing newer) → (made : Attempted) → HasStates o past made
    → HasStates o (newer ++ past) made
states_stay stays o newer past none made h =
    all_map (HasState (words_noted o past).kept made.run) (HasState (words_noted o (newer ++ past)).kept made.run)
    (λ a has by. let s = has by in (s.0, stays o newer past (key_at made.run a.place) s.0 none s.1)) made.asked h

made_have : (o : Opening) (past : List Entry) (c : PacketInput)
    → AllByRecursion (HasStates o past) (attempt_by o.servers (words_noted o past) c)
made_have o past (Verify run text) = (asked_have o.servers run text (words_noted o past).kept, tt)
made_have o past (Begin text) = tt
made_have o past (Trigger run act) = tt
made_have o past (Stop run) = tt
made_have o past (Deliver p) = tt
made_have o past Tick = tt

by_answer : {A : Type 0} (P : A → Type 0) (xs ys : List A) (b : Bool) → AllByRecursion P xs → AllByRecursion P ys
    → AllByRecursion P (if b then xs ++ ys else xs)
by_answer P xs ys true h k = all_append P xs ys h k
by_answer P xs ys false h k = h

-- In each attempt of the life they have.
pub attempts_have : FirstKeptStays → (o : Opening) (past : List Entry) → AllByRecursion (HasStates o past) (attempts_made o past)
attempts_have stays o [] = tt
attempts_have stays o (Met c left ∷ past) =
    all_map (HasStates o past) (HasStates o (Met c left ∷ past)) (λ made h. states_stay stays o (Met c left ∷ []) past refl made h)
    (attempts_made o (Met c left ∷ past))
    (by_answer (HasStates o past) (attempts_made o past) (attempt_by o.servers (words_noted o past) c) (is_answered o past c left)
    (attempts_have stays o past) (made_have o past c))
attempts_have stays o (Cut ∷ past) = tt
attempts_have stays o (Restart mirror ∷ past) = tt
attempts_have stays o (Renew g left ∷ past) = tt
attempts_have stays o (Lose ∷ past) = tt
