-- The frame of a number, read from where it lies.
use Rattle.std.proofs.Common.{◌≡◌, refl, sym, ◌∙◌, ap, ℕ, ◌≤◌, arith, List, length, Option, Some, None, Err}
use Rattle.std.specs.Prelude.{slice_get, Contains}
use Rattle.std.specs.Option.{option_map}
use Rattle.std.proofs.lemmas.Option.{slice_get-map, slice_get_past, slice_get_within, get_or_from_slice_get}
use Rattle.messages.specs.declared.frame.Frame.{Frame}
use Rattle.messages.specs.FrameBytes.{frame_spelling, frame_at}
use Rattle.net_world.specs.declared.world.World.{World}
use Rattle.net_world.specs.Setup.{Setup}
use Rattle.fc_base.specs.declared.fault.Fault.{Fault}
use Rattle.fc_base.specs.declared.fault.Fault.TheVariants.{NoFrame, NoMemory}
use Rattle.net_world.specs.Happenings.{Happening, Deliver}
use Rattle.net_world.specs.Barred.{unless_sent}
use Rattle.net_world.specs.Delivering.{FindsFrame}
use Rattle.net_world.specs.Ends.{Ends}
use Rattle.net_world.proofs.EndsLemmas.{refuses, stops}
use Rattle.net_world.specs.Frames.{frames_sent}
use Rattle.net_world.specs.Changes.{Change, steps, trace}
use Rattle.net_world.specs.World.{world}
use Rattle.net_world.specs.WorldLaws.{SentFramesAreRead}
use Rattle.net_world.specs.Sending.{sent_in}
use Rattle.net_world.specs.Stands.{StandsFor}
use Rattle.net_world.proofs.ServeLemmas.{first_is}
use Rattle.net_world.proofs.ListLemmas.{same_some}

pub no_frame : (w : Setup) (past : List Change) (now : World) (number : ℕ) → StandsFor w past now → length (sent_in now.sent) ≤ number
    → slice_get (frames_sent w (steps past)) number ≡ None
no_frame w past now number stands h = slice_get_past (frames_sent w (steps past)) number (omega (arith, first_is w past now stands, h))

-- A frame with these bytes.
record HasBytes (x : Option Frame) (bytes : List ℕ) : Type 0 where
  frame : Frame
  is : x ≡ Some frame
  bytes_are : frame_spelling frame ≡ bytes

of_bytes : (x : Option Frame) (bytes : List ℕ) → option_map frame_spelling x ≡ Some bytes → HasBytes x bytes
of_bytes None bytes h = absurd (none_some h)
  where
    none_some : None ≡ Some bytes → ⊥
    none_some e = cc
of_bytes (Some f) bytes h = record { frame = f; is = refl; bytes_are = same_some (frame_spelling f) bytes h }

pub frame_found : SentFramesAreRead → (w : Setup) (events : List Happening) (now : World) (number : ℕ) (bytes : List ℕ) (f : Frame)
    → StandsFor w (world w events) now → slice_get (sent_in now.sent) number ≡ Some bytes → frame_at bytes ≡ Some f
    → slice_get (frames_sent w (steps (world w events))) number ≡ Some f
frame_found law w events now number bytes f stands at read =
    let past = world w events in
    let fs = frames_sent w (steps past) in
    let h = of_bytes (slice_get fs number) bytes (sym (slice_get-map frame_spelling fs number) ∙ ap (λ xs. slice_get xs number) (sym stands.sent_is) ∙ at) in
    let in_it : Contains fs h.frame = (number, slice_get_within fs number h.frame h.is, get_or_from_slice_get fs number h.frame h.frame h.is) in
    let again = (law w events h.frame stands.few in_it).1 in
    h.is ∙ sym again ∙ ap frame_at h.bytes_are ∙ read

-- There is no such frame, or memory has run out.
pub lost_frame : (w : Setup) (past : List Change) (now : World) (number : ℕ) (fault : Fault) → StandsFor w past now → FindsFrame w past number (Err fault)
    → Ends w past (Deliver number) now (Err fault)
lost_frame w past now number NoFrame stands h =
    refuses w past (Deliver number) NoFrame now refl (stops w past (Deliver number) NoFrame (ap (unless_sent w (trace w past)) h)) stands
lost_frame w past now number NoMemory stands h = (refl, stands)
lost_frame w past now number _ stands h = absurd h
