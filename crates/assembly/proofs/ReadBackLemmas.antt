-- Frames that were sent in a trace are read back from their bytes.
use Rattle.std.proofs.Common.{◌≡◌, refl, sym, ◌∙◌, ap, subst, ℕ, zero, suc, ◌<◌, arith, List, [], ◌∷◌, take, Option, Some, None}
use Rattle.std.specs.Prelude.{All, Contains, map, slice_get}
use Rattle.std.specs.Option.{ForSome, option_and_then, option_map}
use Rattle.std.proofs.lemmas.List.Elements.{All-contains}
use Rattle.std.proofs.lemmas.Option.{slice_get-map, slice_get_within, get_or_from_slice_get, same_Some}
use Rattle.messages.specs.declared.frame.Frame.{Frame}
use Rattle.messages.specs.FrameBytes.{frame_at, frame_spelling}
use Rattle.messages.specs.FrameLaws.{FramesAreRead, FramesAreReadable, IsReadable}
use Rattle.net_world.specs.Setup.{without_mirror}
use Rattle.net_world.specs.Frames.{FrameStep, frames_sent, trace_heard, IsFrameTrace}
use Rattle.net_world.specs.FrameLaws.{FramesAreOfPackets, OnlySentIsHeard}
use Rattle.net_world.specs.InRange.{FitsFrames, SentAreInRange}
use Rattle.net_world.proofs.FrameRangeLemmas.{sent_readable}
use Rattle.net_world.proofs.OnlySentLemmas.{heard_fits}
use Rattle.assembly.proofs.RefusalLemmas.{CameOf}

-- The laws on which this rests.
pub record Laws : Type 0 where
  pub only_sent : OnlySentIsHeard
  pub in_range : SentAreInRange
  pub of_packets : FramesAreOfPackets
  pub readable : FramesAreReadable
  pub read : FramesAreRead

-- ---- the frames of packets

pub trace_readable : Laws → (n : ℕ) (t : List FrameStep) → IsFrameTrace (without_mirror n) t → FitsFrames (without_mirror n) t
    → All IsReadable (frames_sent (without_mirror n) t)
trace_readable laws n t legal fits =
    let are = laws.in_range (without_mirror n) (trace_heard (without_mirror n) t) (laws.only_sent (without_mirror n) t legal fits)
    (heard_fits (without_mirror n) t fits) in
    sent_readable laws.readable laws.of_packets (without_mirror n) t are

-- ---- a frame by its bytes

-- A frame below a number is among the first of that number.
among_first : (fs : List (List ℕ)) (count i : ℕ) (bytes : List ℕ) → i < count → slice_get fs i ≡ Some bytes → slice_get (take count fs) i ≡ Some bytes
among_first [] count i bytes l h = absurd (omega (arith, slice_get_within [] i bytes h))
among_first (f ∷ fs) zero i bytes l h = absurd (omega (arith, l))
among_first (f ∷ fs) (suc count) zero bytes l h = h
among_first (f ∷ fs) (suc count) (suc i) bytes l h = among_first fs count i bytes (omega (arith, l)) h

read_at : FramesAreRead → (frames : List Frame) (i : ℕ) (bytes : List ℕ) (x : Option Frame) → All IsReadable frames → slice_get frames i ≡ x
    → option_map frame_spelling x ≡ Some bytes → (f : Frame) → frame_at bytes ≡ Some f → Contains frames f
read_at read frames i bytes None all at is f says = cc
read_at read frames i bytes (Some g) all at is f says =
    let there : Contains frames g = (i, slice_get_within frames i g at, get_or_from_slice_get frames i g g at) in
    let fit = All-contains IsReadable frames g all there in
    let spelled = same (frame_spelling g) is in
    let again : frame_at bytes ≡ Some g = subst (λ (b : List ℕ). frame_at b ≡ Some g) spelled (read g fit.in_range fit.is_short).1 in
    subst (Contains frames) (same_Some g f (sym again ∙ says)) there
  where
    same : (other : List ℕ) → Some other ≡ Some bytes → other ≡ bytes
    same other h = cc

-- What is taken of the first frames of a network was sent, where these were sent.
pub taken_was_sent : Laws → (n : ℕ) (t : List FrameStep) (frames : List (List ℕ)) (count : ℕ) → IsFrameTrace (without_mirror n) t
    → FitsFrames (without_mirror n) t → map frame_spelling (frames_sent (without_mirror n) t) ≡ take count frames
    → (taken : Option ℕ) → ForSome taken (λ i. i < count) → CameOf (frames_sent (without_mirror n) t) (option_and_then (λ i. slice_get frames i) taken)
taken_was_sent laws n t frames count legal fits are None below = tt
taken_was_sent laws n t frames count legal fits are (Some i) below = by_found (slice_get frames i) refl
  where
    by_found : (x : Option (List ℕ)) → slice_get frames i ≡ x → CameOf (frames_sent (without_mirror n) t) x
    by_found None is = tt
    by_found (Some bytes) is = λ f says.
        read_at laws.read (frames_sent (without_mirror n) t) i bytes (slice_get (frames_sent (without_mirror n) t) i) (trace_readable laws n t legal fits) refl
        (sym (slice_get-map frame_spelling (frames_sent (without_mirror n) t) i)
        ∙ (ap (λ (fs : List (List ℕ)). slice_get fs i) are ∙ among_first frames count i bytes (below i refl) is))
        f says
