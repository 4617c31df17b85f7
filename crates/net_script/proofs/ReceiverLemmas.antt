-- The node that a sent frame is for, by a look at its bytes.
use Rattle.std.proofs.Common.{◌≡◌, ◌≤◌, ℕ, List, Option, Some, None, slice_get, refl, sym, ◌∙◌, ap, subst, Contains}
use Rattle.std.specs.Option.{option_map}
use Rattle.std.proofs.lemmas.List.Elements.{Contains-get_or}
use Rattle.std.proofs.lemmas.Option.{slice_get-map, slice_get_within, get_or_from_slice_get}
use Rattle.fc_base.specs.declared.limits.TheConstants.{MAX_SERVERS}
use Rattle.messages.specs.declared.frame.Frame.{Frame}
use Rattle.messages.specs.declared.frame.Frame.TheVariants.{Whole, Piece}
use Rattle.messages.specs.declared.reading.look.FrameLook.{FrameLook}
use Rattle.messages.specs.FrameBytes.{frame_spelling}
use Rattle.messages.specs.Looks.{look_of, LooksAtFrames}
use Rattle.net_world.specs.Setup.{Setup}
use Rattle.net_world.specs.Happenings.{Happening}
use Rattle.net_world.specs.Changes.{steps}
use Rattle.net_world.specs.Frames.{frames_sent, to_of}
use Rattle.net_world.specs.World.{world, frames}
use Rattle.net_world.specs.WorldLaws.{SentAreFrames}

-- The frame with these bytes, and what a look at them says.
pub record Looked (sent : List Frame) (i : ℕ) (looked : Option FrameLook) : Type 0 where
  pub frame : Frame
  pub at : slice_get sent i ≡ Some frame
  pub looks : looked ≡ Some (look_of frame)

contained : (sent : List Frame) (i : ℕ) (f : Frame) → slice_get sent i ≡ Some f → Contains sent f
contained sent i f at = subst (Contains sent) (get_or_from_slice_get sent i f f at) (Contains-get_or sent i f (slice_get_within sent i f at))

pub looked_at : SentAreFrames → (setup : Setup) (before : List Happening) → setup.servers ≤ MAX_SERVERS → (kept : List (List ℕ))
    → kept ≡ frames setup (world setup before)
    → (i : ℕ) (bytes : List ℕ) → slice_get kept i ≡ Some bytes → (looked : Option FrameLook) → LooksAtFrames bytes looked
    → Looked (frames_sent setup (steps (world setup before))) i looked
looked_at law setup before few kept kept_is i bytes at looked looks = with_frame (slice_get sent i) refl
  where
    sent : List Frame
    sent = frames_sent setup (steps (world setup before))

    spelled : option_map frame_spelling (slice_get sent i) ≡ Some bytes
    spelled = sym (slice_get-map frame_spelling sent i) ∙ ap (λ l. slice_get l i) (sym kept_is) ∙ at

    with_frame : (x : Option Frame) → slice_get sent i ≡ x → Looked sent i looked
    with_frame None is = let never : ◌≡◌ {A = Option (List ℕ)} None (Some bytes) = sym (ap (option_map frame_spelling) is) ∙ spelled in absurd cc
    with_frame (Some f) is =
        let said : ◌≡◌ {A = Option (List ℕ)} (Some (frame_spelling f)) (Some bytes) = sym (ap (option_map frame_spelling) is) ∙ spelled in
        let same : frame_spelling f ≡ bytes = cc in
        record { frame = f; at = is; looks = looks f ((law setup before f few (contained sent i f is)).0) same }

same_to : (f : Frame) → (look_of f).to ≡ to_of f
same_to (Whole p) = refl
same_to (Piece q) = refl

pub receiver_is : (sent : List Frame) (i : ℕ) (look : FrameLook) → Looked sent i (Some look) → Some look.to ≡ option_map to_of (slice_get sent i)
receiver_is sent i look l =
    let said : ◌≡◌ {A = Option FrameLook} (Some look) (Some (look_of l.frame)) = l.looks in
    let same : look ≡ look_of l.frame = cc in
    ap (λ k. Some k.to) same ∙ ap Some (same_to l.frame) ∙ sym (ap (option_map to_of) l.at)

pub never_unknown : (sent : List Frame) (i : ℕ) → Looked sent i None → ⊥
never_unknown sent i l = let said : ◌≡◌ {A = Option FrameLook} None (Some (look_of l.frame)) = l.looks in cc
