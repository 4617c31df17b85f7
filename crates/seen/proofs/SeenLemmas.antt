-- A state that is seen is the one that was taken of its key.
use Rattle.std.proofs.Common.{◌≡◌, refl, sym, ◌∙◌, ap, subst, Bool, true, false, List, [], ◌∷◌, ◌++◌, Option, Some, None}
use Rattle.std.specs.Prelude.{if◌then◌else◌, Contains, ◌≤◌}
use Rattle.fc_base.specs.declared.limits.TheConstants.{MAX_SERVERS}
use Rattle.fc_base.specs.declared.numbers.Key.{Key}
use Rattle.fc_base.proofs.ListLemmas.{first_of}
use Rattle.verify_state.specs.State.{State}
use Rattle.messages.specs.declared.frame.Frame.TheVariants.{Whole}
use Rattle.server_core.specs.Taken.{takings}
use Rattle.server_core.specs.Laws.{TakenAtMostOnce}
use Rattle.client_core.specs.Words.{kept_state}
use Rattle.messages.specs.declared.node.Node.TheVariants.{Client}
use Rattle.net_world.specs.Setup.{Setup}
use Rattle.net_world.specs.Happenings.{Happening}
use Rattle.net_world.specs.Trace.{opening_of, client_opening, of_client}
use Rattle.net_world.specs.Holders.{ByClient, ByPacket}
use Rattle.net_world.specs.Claims.{OfEachTrace}
use Rattle.net_world.specs.Headline.{HeldIsTheTaken}
use Rattle.net_world.specs.FrameLaws.{FramesAreOfPackets}
use Rattle.net_world.specs.Barred.{is_on}
use Rattle.net_world.specs.Changes.{steps, trace}
use Rattle.net_world.specs.World.{world, saved_state}
use Rattle.net_world.specs.WorldLaws.{SentFramesAreRead, EachWorldIsATrace}
use Rattle.net_world.proofs.ListLemmas.{single}
use Rattle.net_world.proofs.OnlySentLemmas.{frame_is}
use Rattle.seen.specs.Observations.{Observation}
use Rattle.seen.specs.Sightings.{IsAmong, IsSeen, InFrame, InNote}
use Rattle.seen.specs.Claims.{OneState}
use Rattle.seen.specs.Watching.{observations, OfAllThatIsSeen}
use Rattle.seen.proofs.PlaceLemmas.{list_at, since, since_is, seen_in}
use Rattle.seen.proofs.FrameLemmas.{sent_at, frames_are, read_among}
use Rattle.seen.proofs.RunLemmas.{takings_stay}

-- The laws on which this rests.
pub record SeenLaws : Type 0 where
  pub read : SentFramesAreRead
  pub frames : FramesAreOfPackets
  pub traces : EachWorldIsATrace
  pub held : OfEachTrace HeldIsTheTaken
  pub once : TakenAtMostOnce

shown : (b : Bool) (x : Option State) (state : State) → (if b then x else None) ≡ Some state → x ≡ Some state
shown true x state h = h
shown false x state h = absurd cc

-- All that was ever taken of a key in a world.
abbrev pub all_taken : Setup → List Happening → Key → List State
all_taken w events key = takings (opening_of key.server) key.run key.job (list_at w key.server events)

pub seen_was_taken : SeenLaws → (w : Setup) (events : List Happening) → w.servers ≤ MAX_SERVERS → (state : State) → IsSeen (observations w events) state
    → all_taken w events state.key ≡ state ∷ []
seen_was_taken laws w events few state (InFrame p there carries) =
    let i = read_among laws.read w events few (sent_at w events) (λ f k. k) p (subst (λ fs. IsAmong fs p) (frames_are w events) there) in
    laws.held w (trace w (world w events)) (laws.traces w events few) state.key state
    (ByPacket p (frame_is laws.frames w (steps (world w events)) (Whole p) i) carries refl)
seen_was_taken laws w events few state (InNote newer older o split note) =
    let k = seen_in w events newer o older split in
    let now_at = k.event ∷ k.earlier in
    let t = trace w (world w now_at) in
    let saved : saved_state w (world w now_at) state.key ≡ Some state = subst (λ (x : Observation). x.saved state.key ≡ Some state) (sym k.here) note in
    let kept = shown (is_on w t Client) (kept_state (client_opening w) (of_client w t) state.key) state saved in
    let taken : all_taken w now_at state.key ≡ state ∷ [] = laws.held w t (laws.traces w now_at few) state.key state (ByClient kept) in
    let o = opening_of state.key.server in
    let i : Contains (all_taken w now_at state.key) state = subst (λ l. Contains l state) (sym taken) (first_of state []) in
    let stays = takings_stay o state.key.run state.key.job (since w state.key.server k.later now_at) (list_at w state.key.server now_at) state i in
    let all : list_at w state.key.server events ≡ since w state.key.server k.later now_at ++ list_at w state.key.server now_at =
    ap (list_at w state.key.server) k.split ∙ since_is w state.key.server k.later now_at in
    single (all_taken w events state.key) state (laws.once o state.key.run state.key.job (list_at w state.key.server events))
    (subst (λ l. Contains (takings o state.key.run state.key.job l) state) (sym all) stays)

same_one : (a b : State) → a ∷ [] ≡ b ∷ [] → a ≡ b
same_one a b h = cc

pub one_state : SeenLaws → OfAllThatIsSeen OneState
one_state laws w events few a b x y same =
    same_one a b (sym (seen_was_taken laws w events few a x) ∙ ap (all_taken w events) same ∙ seen_was_taken laws w events few b y)
