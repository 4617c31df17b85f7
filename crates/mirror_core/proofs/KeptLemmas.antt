-- A kept state stays, and came in a Copy of the client; the generation never falls.
use Rattle.std.proofs.Common.{◌≡◌, refl, ap, ◌⊎◌, inl, inr, ℕ, ◌≤◌, arith, Bool, true, false, List, [], ◌∷◌, ◌++◌, Option, None, Some}
use Rattle.std.specs.Prelude.{nat_lt, if◌then◌else◌, Contains}
use Rattle.std.proofs.lemmas.Bool.Decides.{nat_tests}
use Rattle.std.proofs.lemmas.List.Elements.{Contains-append_left, Contains-append_right, Contains-push_cases}
use Rattle.fc_base.specs.declared.numbers.Key.{Key}
use Rattle.fc_base.specs.declared.fault.Fault.{Fault}
use Rattle.verify_state.specs.State.{State}
use Rattle.disk_model.specs.declared.save_outcome.SaveOutcome.{SaveOutcome}
use Rattle.disk_model.specs.SaveOutcome.{has_new}
use Rattle.messages.specs.declared.frame.Frame.{Frame}
use Rattle.verify_state.specs.StateTable.{kept_of}
use Rattle.verify_state.specs.TableLaws.{FoundStays, FoundOrLast}
use Rattle.mirror_core.specs.declared.note.MirrorNote.{MirrorNote}
use Rattle.mirror_core.specs.declared.request.Request.{Request}
use Rattle.mirror_core.specs.declared.request.Request.TheVariants.{Copy, Fetch}
use Rattle.mirror_core.specs.History.{Entry, Met, Cut, Restart}
use Rattle.mirror_core.specs.Requests.{request_in}
use Rattle.mirror_core.specs.Refusals.{refusal_by}
use Rattle.mirror_core.specs.Saves.{Addition, Grant, Keep, with_addition, unless_kept, unless_refused, addition_of, due_by, noted_after}
use Rattle.mirror_core.specs.Words.{is_on, words_noted, generation, kept_state}
use Rattle.mirror_core.specs.Laws.{FirstKeptStays, GenerationsRise, KeptWasSent, NotedWasSent, packet_in, packets_come, from_client}
use Rattle.fc_base.proofs.ListLemmas.{one}
use Rattle.mirror_core.proofs.RequestLemmas.{asked_copy}

-- ---- what is kept stays

added_stays : FoundStays → (key : Key) (a : Addition) (n : MirrorNote) (s : State) → kept_of key n.kept ≡ Some s → kept_of key (with_addition a n).kept ≡ Some s
added_stays stays key (Grant g) n s h = h
added_stays stays key (Keep state) n s h = stays key n.kept (state ∷ []) s h

noted_stays : FoundStays → (key : Key) (new : Bool) (d : Option Addition) (n : MirrorNote) (s : State) → kept_of key n.kept ≡ Some s
    → kept_of key (noted_after new d n).kept ≡ Some s
noted_stays stays key new None n s h = h
noted_stays stays key true (Some a) n s h = added_stays stays key a n s h
noted_stays stays key false (Some a) n s h = h

stays_after : FoundStays → (o : MirrorNote) (e : Entry) (past : List Entry) (key : Key) (s : State) → kept_state o past key ≡ Some s
    → kept_state o (e ∷ past) key ≡ Some s
stays_after stays o (Met f left) past key s h = noted_stays stays key (has_new left) (due_by (is_on past) (words_noted o past) f) (words_noted o past) s h
stays_after stays o Cut past key s h = h
stays_after stays o Restart past key s h = h

pub first_kept_stays : FoundStays → FirstKeptStays
first_kept_stays stays o [] past key s h = h
first_kept_stays stays o (e ∷ more) past key s h = stays_after stays o e (more ++ past) key s (first_kept_stays stays o more past key s h)

-- ---- an addition is of no smaller generation

abbrev Rises : MirrorNote → Option Addition → Type 0
Rises n (Some (Grant g)) = n.generation ≤ g
Rises n _ = Unit {0}

granted_rises : (n : MirrorNote) (g : ℕ) (b : Bool) → nat_lt n.generation g ≡ b → Rises n (if b then Some (Grant g) else None)
granted_rises n g true e = grind (arith, nat_tests)
granted_rises n g false e = tt

kept_rises : (n : MirrorNote) (state : State) (k : Option State) → Rises n (unless_kept k state)
kept_rises n state None = tt
kept_rises n state (Some s) = tt

asked_rises : (n : MirrorNote) (q : Option Request) → Rises n (addition_of n q)
asked_rises n None = tt
asked_rises n (Some (Copy state)) = kept_rises n state (kept_of state.key n.kept)
asked_rises n (Some (Fetch g)) = granted_rises n g (nat_lt n.generation g) refl

free_rises : (n : MirrorNote) (r : Option Fault) (d : Option Addition) → Rises n d → Rises n (unless_refused r d)
free_rises n None d h = h
free_rises n (Some f) d h = tt

after_rises : (n : MirrorNote) (new : Bool) (d : Option Addition) → Rises n d → n.generation ≤ (noted_after new d n).generation
after_rises n new None h = omega arith
after_rises n true (Some (Grant g)) h = h
after_rises n true (Some (Keep s)) h = omega arith
after_rises n false (Some a) h = omega arith

rises_after : (o : MirrorNote) (e : Entry) (past : List Entry) → generation o past ≤ generation o (e ∷ past)
rises_after o (Met f left) past =
    after_rises (words_noted o past) (has_new left) (due_by (is_on past) (words_noted o past) f)
    (free_rises (words_noted o past) (refusal_by (is_on past) (words_noted o past) f) (addition_of (words_noted o past) (request_in f))
    (asked_rises (words_noted o past) (request_in f)))
rises_after o Cut past = omega arith
rises_after o Restart past = omega arith

pub generations_rise : GenerationsRise
generations_rise o [] past = omega arith
generations_rise o (e ∷ more) past =
    let a : generation o past ≤ generation o (more ++ past) = generations_rise o more past in
    let b : generation o (more ++ past) ≤ generation o (e ∷ (more ++ past)) = rises_after o e (more ++ past) in
    omega arith

-- ---- where a kept state came from

grant_only : (b new : Bool) (n : MirrorNote) (g : ℕ) (key : Key) (s : State) → kept_of key (noted_after new (if b then Some (Grant g) else None) n).kept ≡ Some s
    → kept_of key n.kept ≡ Some s
grant_only true true n g key s h = h
grant_only true false n g key s h = h
grant_only false new n g key s h = h

copy_only : FoundOrLast → (n : MirrorNote) (new : Bool) (state : State) (key : Key) (s : State) (before : Option State)
    → kept_of key (noted_after new (unless_kept before state) n).kept ≡ Some s → (kept_of key n.kept ≡ Some s) ⊎ (state ≡ s)
copy_only only n new state key s (Some before) h = inl h
copy_only only n true state key s None h = elim (only key n.kept state s h) [ inl e ↦ inl e | inr e ↦ inr e.0 ]
copy_only only n false state key s None h = inl h

asked_came : FoundOrLast → (n : MirrorNote) (new : Bool) (r : Option Fault) (q : Option Request) (key : Key) (s : State)
    → kept_of key (noted_after new (unless_refused r (addition_of n q)) n).kept ≡ Some s → (kept_of key n.kept ≡ Some s) ⊎ (q ≡ Some (Copy s))
asked_came only n new (Some f) q key s h = inl h
asked_came only n new None None key s h = inl h
asked_came only n new None (Some (Fetch g)) key s h = inl (grant_only (nat_lt n.generation g) new n g key s h)
asked_came only n new None (Some (Copy state)) key s h =
    elim (copy_only only n new state key s (kept_of state.key n.kept) h) [ inl e ↦ inl e | inr e ↦ inr (ap (λ x. Some (Copy x)) e) ]

copy_in : (f : Frame) (left : SaveOutcome) (s : State) → request_in f ≡ Some (Copy s) → Contains (packet_in (Met f left)) (from_client s)
copy_in f left s h = rw (asked_copy f s h) (one (from_client s) (from_client s) refl)

earlier : (o : MirrorNote) (e : Entry) (past : List Entry) (key : Key) (s : State) → (kept_state o [] key ≡ Some s) ⊎ Contains (packets_come past) (from_client s)
    → (kept_state o [] key ≡ Some s) ⊎ Contains (packets_come (e ∷ past)) (from_client s)
earlier o e past key s (inl h) = inl h
earlier o e past key s (inr h) = inr (Contains-append_right (packet_in e) (packets_come past) (from_client s) h)

now_or_earlier : (o : MirrorNote) (f : Frame) (left : SaveOutcome) (past : List Entry) (key : Key) (s : State)
    → (kept_state o past key ≡ Some s) ⊎ (request_in f ≡ Some (Copy s))
    → (kept_state o past key ≡ Some s → (kept_state o [] key ≡ Some s) ⊎ Contains (packets_come past) (from_client s))
    → (kept_state o [] key ≡ Some s) ⊎ Contains (packets_come (Met f left ∷ past)) (from_client s)
now_or_earlier o f left past key s (inl h) k = earlier o (Met f left) past key s (k h)
now_or_earlier o f left past key s (inr h) k = inr (Contains-append_left (packet_in (Met f left)) (packets_come past) (from_client s) (copy_in f left s h))

pub kept_was_sent : FoundOrLast → KeptWasSent
kept_was_sent only o [] key s h = inl h
kept_was_sent only o (Met f left ∷ past) key s h =
    now_or_earlier o f left past key s (asked_came only (words_noted o past) (has_new left) (refusal_by (is_on past) (words_noted o past) f)
    (request_in f) key s h) (λ e. kept_was_sent only o past key s e)
kept_was_sent only o (Cut ∷ past) key s h = earlier o Cut past key s (kept_was_sent only o past key s h)
kept_was_sent only o (Restart ∷ past) key s h = earlier o Restart past key s (kept_was_sent only o past key s h)

-- ---- where each state in the note came from

grant_none : (b new : Bool) (n : MirrorNote) (g : ℕ) (s : State) → Contains (noted_after new (if b then Some (Grant g) else None) n).kept s → Contains n.kept s
grant_none true true n g s h = h
grant_none true false n g s h = h
grant_none false new n g s h = h

copy_last : (n : MirrorNote) (new : Bool) (state s : State) (before : Option State) → Contains (noted_after new (unless_kept before state) n).kept s
    → Contains n.kept s ⊎ (state ≡ s)
copy_last n new state s (Some before) h = inl h
copy_last n true state s None h = Contains-push_cases n.kept state s h
copy_last n false state s None h = inl h

asked_last : (n : MirrorNote) (new : Bool) (r : Option Fault) (q : Option Request) (s : State)
    → Contains (noted_after new (unless_refused r (addition_of n q)) n).kept s → Contains n.kept s ⊎ (q ≡ Some (Copy s))
asked_last n new (Some f) q s h = inl h
asked_last n new None None s h = inl h
asked_last n new None (Some (Fetch g)) s h = inl (grant_none (nat_lt n.generation g) new n g s h)
asked_last n new None (Some (Copy state)) s h =
    elim (copy_last n new state s (kept_of state.key n.kept) h) [ inl e ↦ inl e | inr e ↦ inr (ap (λ x. Some (Copy x)) e) ]

sent_earlier : (o : MirrorNote) (e : Entry) (past : List Entry) (s : State) → Contains o.kept s ⊎ Contains (packets_come past) (from_client s)
    → Contains o.kept s ⊎ Contains (packets_come (e ∷ past)) (from_client s)
sent_earlier o e past s (inl h) = inl h
sent_earlier o e past s (inr h) = inr (Contains-append_right (packet_in e) (packets_come past) (from_client s) h)

sent_now_or_earlier : (o : MirrorNote) (f : Frame) (left : SaveOutcome) (past : List Entry) (s : State)
    → Contains (words_noted o past).kept s ⊎ (request_in f ≡ Some (Copy s))
    → (Contains (words_noted o past).kept s → Contains o.kept s ⊎ Contains (packets_come past) (from_client s))
    → Contains o.kept s ⊎ Contains (packets_come (Met f left ∷ past)) (from_client s)
sent_now_or_earlier o f left past s (inl h) k = sent_earlier o (Met f left) past s (k h)
sent_now_or_earlier o f left past s (inr h) k = inr (Contains-append_left (packet_in (Met f left)) (packets_come past) (from_client s) (copy_in f left s h))

pub noted_was_sent : NotedWasSent
noted_was_sent o [] s h = inl h
noted_was_sent o (Met f left ∷ past) s h =
    sent_now_or_earlier o f left past s (asked_last (words_noted o past) (has_new left) (refusal_by (is_on past) (words_noted o past) f) (request_in f) s h)
    (λ e. noted_was_sent o past s e)
noted_was_sent o (Cut ∷ past) s h = sent_earlier o Cut past s (noted_was_sent o past s h)
noted_was_sent o (Restart ∷ past) s h = sent_earlier o Restart past s (noted_was_sent o past s h)
