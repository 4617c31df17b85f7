-- A State that is seen to come to the client is seen to be kept, until the note is lost.
use Rattle.std.proofs.Common.{◌≡◌, refl, sym, ◌∙◌, ap, subst, ℕ, Bool, true, false, List, [], ◌∷◌, ◌++◌, Option, Some, None, append_assoc}
use Rattle.std.specs.Prelude.{◌≤◌, ◌&&◌, not, is_ok, Contains}
use Rattle.std.proofs.lemmas.Bool.{and_parts}
use Rattle.std.proofs.lemmas.List.Elements.{Contains-append_left}
use Rattle.fc_base.specs.declared.limits.TheConstants.{MAX_SERVERS}
use Rattle.fc_base.specs.declared.numbers.Key.{Key}
use Rattle.verify_state.specs.State.{State}
use Rattle.disk_model.specs.SaveOutcome.{has_new, saved_for}
use Rattle.node.specs.Steps.{unless_refused}
use Rattle.verify_state.specs.StateTable.{kept_of}
use Rattle.verify_state.specs.TableLaws.{FoundHasItsKey, LastIsFound}
use Rattle.messages.specs.declared.body.Body.TheVariants as bodies
use Rattle.messages.specs.declared.frame.Frame.TheVariants.{Whole}
use Rattle.messages.specs.declared.packet.PacketParts.{PacketParts}
use Rattle.client_core.specs.Inputs.{PacketInput, Deliver}
use Rattle.client_core.specs.History.{Opening, Entry, Met}
use Rattle.client_core.specs.declared.note.ClientNote.{ClientNote}
use Rattle.client_core.specs.Laws.{FirstKeptStays}
use Rattle.client_core.specs.Saves.{Keep, unless_kept, addition_of, noted_after}
use Rattle.client_core.specs.Words.{is_on, words_noted, refusal, due, kept_state}
use Rattle.net_world.specs.Setup.{Setup}
use Rattle.net_world.specs.Happenings.{Happening, LoseNote}
use Rattle.net_world.specs.Trace.{client_opening}
use Rattle.net_world.specs.Changes.{steps}
use Rattle.net_world.specs.Outcomes.{outcome}
use Rattle.net_world.specs.World.{world, saved_state}
use Rattle.seen.specs.Observations.{Observation}
use Rattle.seen.specs.Sightings.{Comes, IsAmong, IsSeen, InFrame, InNote, from_server}
use Rattle.seen.specs.Kept.{is_of_client, is_answer, is_loss, keeps_note, StaysKept}
use Rattle.seen.specs.Claims.{WhatComesIsKept}
use Rattle.seen.specs.Watching.{observation, observations, OfAllThatIsSeen}
use Rattle.seen.proofs.PlaceLemmas.{seen_in}
use Rattle.seen.proofs.FrameLemmas.{frames_by_step, sent_more, step_now, sent_at, frames_are, say_among}
use Rattle.seen.proofs.ClientLemmas.{client_at}
use Rattle.seen.proofs.AckLemmas.{shown_if}
use Rattle.seen.proofs.SeenLemmas.{SeenLaws, one_state}
use Rattle.seen.proofs.ComeLemmas.{has_met, came_in_frame, on_behind, on_then}
use Rattle.seen.proofs.LossLemmas.{kept_behind}

-- The laws on which this rests.
pub record KeptLaws : Type 0 where
  pub seen : SeenLaws
  pub has : FoundHasItsKey
  pub last : LastIsFound
  pub stays : FirstKeptStays

-- ---- what the note shows

-- The client's note shows what it keeps, while the client is on.
showing : (w : Setup) (evs : List Happening) (key : Key) (state : State) → is_on (client_at w evs) ≡ true
    → kept_state (client_opening w) (client_at w evs) key ≡ Some state → saved_state w (world w evs) key ≡ Some state
showing w evs key state on kept = shown_if (is_on (client_at w evs)) (kept_state (client_opening w) (client_at w evs) key) state on kept

-- ---- a State comes

-- The client keeps a state of the key of a State that it has taken.
keeps_one : LastIsFound → (o : Opening) (list : List Entry) (s jobs : ℕ) (state : State)
    → refusal o list (Deliver (from_server s (bodies.State jobs state))) ≡ None
    → (kept : State) × (kept_state o (Met (Deliver (from_server s (bodies.State jobs state)))
    (saved_for (due o list (Deliver (from_server s (bodies.State jobs state))))) ∷ list) state.key ≡ Some kept)
keeps_one law o list s jobs state free = by (kept_of state.key n.kept) refl
  where
    n : ClientNote
    n = words_noted o list

    c : PacketInput
    c = Deliver (from_server s (bodies.State jobs state))

    adds : due o list c ≡ unless_kept (kept_of state.key n.kept) state
    adds = ap (λ x. unless_refused x (addition_of n c)) free

    by : (x : Option State) → kept_of state.key n.kept ≡ x → (kept : State) × (kept_state o (Met c (saved_for (due o list c)) ∷ list) state.key ≡ Some kept)
    by None is =
        let d : due o list c ≡ Some (Keep state) = adds ∙ ap (λ x. unless_kept x state) is in
        (state, ap (λ x. kept_of state.key (noted_after (has_new (saved_for x)) x n).kept) d ∙ law n.kept state is)
    by (Some k) is =
        let d : due o list c ≡ None = adds ∙ ap (λ x. unless_kept x state) is in
        (k, ap (λ x. kept_of state.key (noted_after (has_new (saved_for x)) x n).kept) d ∙ is)

-- It is that state.
record KeepsNow (w : Setup) (evs : List Happening) (state : State) : Type 0 where
  pub on : is_on (client_at w evs) ≡ true
  pub kept : kept_state (client_opening w) (client_at w evs) state.key ≡ Some state

keeps_now : KeptLaws → (w : Setup) (evs : List Happening) (e : Happening) (s jobs : ℕ) (state : State) → w.servers ≤ MAX_SERVERS
    → Comes (observations w evs) (observation w evs e) (from_server s (bodies.State jobs state)) → KeepsNow w (e ∷ evs) state
keeps_now laws w evs e s jobs state few c =
    let p = from_server s (bodies.State jobs state) in
    let read = laws.seen.read in
    let o = client_opening w in
    let now_at = e ∷ evs in
    let met = has_met read w evs e p few refl c in
    let on = on_behind w evs e (Deliver p) met in
    let one = keeps_one laws.last o (client_at w evs) s jobs state met.free in
    let kept : kept_state o (client_at w now_at) state.key ≡ Some one.0 = ap (λ l. kept_state o l state.key) met.list ∙ one.1 in
    let key : (one.0).key ≡ state.key = laws.has state.key (words_noted o (client_at w now_at)).kept one.0 kept in
    let noted : IsSeen (observations w now_at) one.0 =
    InNote [] (observations w evs) (observation w evs e) refl (ap (saved_state w (world w now_at)) key ∙ showing w now_at state.key one.0 on kept) in
    let all = sent_more w (world w evs) (outcome w (world w evs) e) in
    let more = frames_by_step w (steps (world w evs)) (step_now w evs e) in
    let i : Contains (sent_at w now_at) (Whole p) =
    subst (λ fs. Contains fs (Whole p)) (sym all) (Contains-append_left (sent_at w evs) more (Whole p) (came_in_frame read w evs e p few c)) in
    let framed : IsSeen (observations w now_at) state =
    InFrame p (subst (λ fs. IsAmong fs p) (sym (frames_are w now_at)) (say_among read w now_at few (sent_at w now_at) p i i)) refl in
    record { on = on; kept = kept ∙ ap Some (one_state laws.seen w now_at few one.0 state noted framed key) }

-- ---- it stays

not_empty : (x : Observation) (xs ys : List Observation) → [] ≡ x ∷ xs → ⊥
not_empty x xs ys h = cc

same_first : (x y : Observation) (xs ys : List Observation) → x ∷ xs ≡ y ∷ ys → x ≡ y
same_first x y xs ys h = cc

same_rest : (x y : Observation) (xs ys : List Observation) → x ∷ xs ≡ y ∷ ys → xs ≡ ys
same_rest x y xs ys h = cc

not_false : (b : Bool) → not b ≡ true → b ≡ false
not_false true h = absurd cc
not_false false h = refl

-- What is kept at a moment is kept behind events in which the note isn't lost.
kept_since : FirstKeptStays → (w : Setup) (evs : List Happening) (between rest : List Observation) (key : Key) (state : State)
    → observations w evs ≡ between ++ rest → keeps_note between ≡ true
    → ((base : List Happening) → observations w base ≡ rest → kept_state (client_opening w) (client_at w base) key ≡ Some state)
    → kept_state (client_opening w) (client_at w evs) key ≡ Some state
kept_since law w evs [] rest key state split h base = base evs split
kept_since law w [] (x ∷ between) rest key state split h base = absurd (not_empty x (between ++ rest) [] split)
kept_since law w (e ∷ evs) (x ∷ between) rest key state split h base =
    let here = same_first (observation w evs e) x (observations w evs) (between ++ rest) split in
    let before = same_rest (observation w evs e) x (observations w evs) (between ++ rest) split in
    let both = and_parts (not (is_loss x.event && is_ok x.told)) (keeps_note between) h in
    let own = not_false (is_loss x.event && is_ok x.told) both.0 in
    kept_behind law w evs e key state (subst (λ (y : Observation). (is_loss y.event && is_ok y.told) ≡ false) (sym here) own)
    (kept_since law w evs between rest key state before both.1 base)

no_loss : (e : Happening) (b : Bool) → is_of_client e ≡ true → (is_loss e && b) ≡ false
no_loss LoseNote b h = absurd cc
no_loss _ b h = refl

-- What is kept is shown behind an answer of the client.
shown_then : FirstKeptStays → (w : Setup) (evs : List Happening) (e : Happening) (key : Key) (state : State) → is_answer (observation w evs e) ≡ true
    → kept_state (client_opening w) (client_at w evs) key ≡ Some state → (observation w evs e).saved key ≡ Some state
shown_then law w evs e key state answers kept =
    let told = (observation w evs e).told in
    let both = and_parts (is_of_client e) (is_ok told) answers in
    showing w (e ∷ evs) key state (on_then w evs e both.0 both.1) (kept_behind law w evs e key state (no_loss e (is_ok told) both.0) kept)

stays : KeptLaws → (w : Setup) (events : List Happening) (newer older : List Observation) (came : Observation) (s jobs : ℕ) (state : State)
    → w.servers ≤ MAX_SERVERS → observations w events ≡ newer ++ came ∷ older → Comes older came (from_server s (bodies.State jobs state))
    → StaysKept newer came state
stays laws w events newer older came s jobs state few split c =
    record { at_once = at_once; later = later }
  where
    p : PacketParts
    p = from_server s (bodies.State jobs state)

    kept_here : (evs : List Happening) (e : Happening) → observation w evs e ≡ came → observations w evs ≡ older → KeepsNow w (e ∷ evs) state
    kept_here evs e here before =
        keeps_now laws w evs e s jobs state few
        (subst (λ x. Comes (observations w evs) x p) (sym here) (subst (λ l. Comes l came p) (sym before) c))

    at_once : came.saved state.key ≡ Some state
    at_once =
        let k = seen_in w events newer came older split in
        let now = kept_here k.earlier k.event k.here k.before in
        subst (λ (x : Observation). x.saved state.key ≡ Some state) k.here (showing w (k.event ∷ k.earlier) state.key state now.on now.kept)

    base : (evs : List Happening) → observations w evs ≡ came ∷ older → kept_state (client_opening w) (client_at w evs) state.key ≡ Some state
    base [] is = absurd (not_empty came older [] is)
    base (e ∷ evs) is =
        (kept_here evs e (same_first (observation w evs e) came (observations w evs) older is)
        (same_rest (observation w evs e) came (observations w evs) older is)).kept

    later : (after between : List Observation) (o : Observation) → newer ≡ after ++ o ∷ between → keeps_note between ≡ true → is_answer o ≡ true
        → o.saved state.key ≡ Some state
    later after between o newer_is keeps answers =
        let whole : observations w events ≡ after ++ o ∷ (between ++ came ∷ older) = split ∙ ap (λ l. l ++ came ∷ older) newer_is ∙ append_assoc after (o ∷ between) (came ∷ older) in
        let k = seen_in w events after o (between ++ came ∷ older) whole in
        let kept = kept_since laws.stays w k.earlier between (came ∷ older) state.key state k.before keeps base in
        subst (λ (x : Observation). x.saved state.key ≡ Some state) k.here
        (shown_then laws.stays w k.earlier k.event state.key state (subst (λ x. is_answer x ≡ true) (sym k.here) answers) kept)

pub what_comes_is_kept : KeptLaws → OfAllThatIsSeen WhatComesIsKept
what_comes_is_kept laws w events few newer older came s jobs state split c = stays laws w events newer older came s jobs state few split c
