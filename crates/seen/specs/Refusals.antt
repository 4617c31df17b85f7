-- What is refused, as far as it is seen, and what a refusal changes.
use Rattle.std.specs.Prelude.{◌≡◌, List, [], ◌∷◌, Option, None, slice_get}
use Rattle.fc_base.specs.declared.numbers.Key.{Key}
use Rattle.verify_state.specs.State.{State}
use Rattle.net_world.specs.Happenings.{Happening, Deliver, Land, Done, Fail}
use Rattle.seen.specs.Observations.{Observation, frames_in}
use Rattle.seen.specs.Files.{given_write}

-- What the client's note showed of this key behind these; at first it shows nothing.
abbrev pub saved_before : Key → List Observation → Option State
saved_before key [] = None
saved_before key (o ∷ past) = o.saved key

-- With this event no frame was sent, and the client's note shows what it showed before.
pub record ChangesNothing (seen : List Observation) (o : Observation) : Type 0 where
  pub sends : o.frames ≡ []
  pub shows : (key : Key) → o.saved key ≡ saved_before key seen

-- The event is of a frame that wasn't sent, or of a write that wasn't given.
abbrev pub IsOfNone : List Observation → Happening → Type 0
IsOfNone seen (Deliver i) = slice_get (frames_in seen) i ≡ None
IsOfNone seen (Land s j k mask) = given_write s j k seen ≡ None
IsOfNone seen (Done s j k) = given_write s j k seen ≡ None
IsOfNone seen (Fail s j k) = given_write s j k seen ≡ None
IsOfNone seen _ = ⊥
