-- A frame that wasn't sent, and a write that wasn't given, are seen to be refused.
use Rattle.std.proofs.Common.{◌≡◌, refl, sym, ◌∙◌, ap, subst, ℕ, true, Option, Some, None, Err}
use Rattle.std.specs.Prelude.{List, slice_get, is_some}
use Rattle.std.specs.Option.{option_map, option_or}
use Rattle.std.proofs.lemmas.Option.{slice_get-map}
use Rattle.fc_base.specs.declared.fault.Fault.{Fault}
use Rattle.fc_base.specs.declared.fault.Fault.TheVariants.{NoFrame, NoWrite}
use Rattle.engine.specs.Running.{Origin}
use Rattle.engine.specs.Answers.{ticket_of}
use Rattle.messages.specs.declared.frame.Frame.{Frame}
use Rattle.messages.specs.FrameBytes.{frame_spelling}
use Rattle.messages.specs.declared.node.Node.TheVariants.{Server}
use Rattle.net_world.specs.Setup.{Setup}
use Rattle.net_world.specs.Happenings.{Happening, Deliver, Land, Done, Fail}
use Rattle.net_world.specs.Barred.{barring_fault, unless, unless_on, unless_sent, unless_open}
use Rattle.net_world.specs.Changes.{steps, trace}
use Rattle.net_world.specs.Frames.{frames_sent}
use Rattle.net_world.specs.Outcomes.{unless_barred, brings}
use Rattle.net_world.specs.Writes.{open_at}
use Rattle.net_world.specs.World.{world, told_by, told_of_happening}
use Rattle.seen.specs.Observations.{Observation, frames_in}
use Rattle.seen.specs.Files.{given_write}
use Rattle.seen.specs.Refusals.{IsOfNone}
use Rattle.seen.specs.Claims.{UnknownIsRefused}
use Rattle.seen.specs.Watching.{observations, OfAllThatIsSeen}
use Rattle.seen.proofs.PlaceLemmas.{seen_in}
use Rattle.seen.proofs.FrameLemmas.{sent_at, frames_are}
use Rattle.seen.proofs.GivenLemmas.{open_was_given}

-- The event is refused by this fault.
abbrev IsRefused : Setup → List Happening → Happening → Type 0
IsRefused w evs e = (fault : Fault) × (told_of_happening w (world w evs) e ≡ Err fault)

-- What the world bars is refused.
barred : (w : Setup) (evs : List Happening) (e : Happening) (x : Option Fault)
    → barring_fault w (trace w (world w evs)) (frames_sent w (steps (world w evs))) e ≡ x → is_some x ≡ true → IsRefused w evs e
barred w evs e None is h = absurd cc
barred w evs e (Some fault) is h = (fault, ap (λ x. told_by w (world w evs) e (unless_barred x (brings w (world w evs) e))) is)

none_there : (w : Setup) (evs : List Happening) (i : ℕ) (x : Option Frame) → slice_get (sent_at w evs) i ≡ x → slice_get (frames_in (observations w evs)) i ≡ None
    → x ≡ None
none_there w evs i None is h = refl
none_there w evs i (Some f) is h =
    let shown : slice_get (frames_in (observations w evs)) i ≡ Some (frame_spelling f) =
    ap (λ l. slice_get l i) (frames_are w evs) ∙ slice_get-map frame_spelling (sent_at w evs) i ∙ ap (option_map frame_spelling) is in
    let no : None ≡ Some (frame_spelling f) = sym h ∙ shown in
    absurd cc

not_open : (w : Setup) (evs : List Happening) (s j k : ℕ) (x : Option Origin) → open_at (trace w (world w evs)) s j k ≡ x
    → given_write s j k (observations w evs) ≡ None → x ≡ None
not_open w evs s j k None is h = refl
not_open w evs s j k (Some origin) is h = let no : None ≡ Some (ticket_of origin k) = sym h ∙ open_was_given w s evs j k origin is in absurd cc

-- Where no write is open, the world bars what is of one.
no_write : (x : Option Fault) (open_here : Option Origin) → open_here ≡ None → is_some (option_or x (unless (is_some open_here) NoWrite)) ≡ true
no_write (Some fault) open_here h = refl
no_write None None h = refl
no_write None (Some origin) h = absurd cc

write_refused : (w : Setup) (evs : List Happening) (s j k : ℕ) (e : Happening)
    → barring_fault w (trace w (world w evs)) (frames_sent w (steps (world w evs))) e ≡ unless_open w (trace w (world w evs)) s j k
    → given_write s j k (observations w evs) ≡ None → IsRefused w evs e
write_refused w evs s j k e is h =
    let t = trace w (world w evs) in
    let none = not_open w evs s j k (open_at t s j k) refl h in
    barred w evs e (unless_open w t s j k) is (no_write (unless_on w t (Server s)) (open_at t s j k) none)

frame_refused : (w : Setup) (evs : List Happening) (i : ℕ) → slice_get (frames_in (observations w evs)) i ≡ None → IsRefused w evs (Deliver i)
frame_refused w evs i h =
    let none = none_there w evs i (slice_get (sent_at w evs) i) refl h in
    barred w evs (Deliver i) (Some NoFrame) (ap (unless_sent w (trace w (world w evs))) none) refl

here : (w : Setup) (evs : List Happening) (e : Happening) → IsOfNone (observations w evs) e → IsRefused w evs e
here w evs (Deliver i) h = frame_refused w evs i h
here w evs (Land s j k mask) h = write_refused w evs s j k (Land s j k mask) refl h
here w evs (Done s j k) h = write_refused w evs s j k (Done s j k) refl h
here w evs (Fail s j k) h = write_refused w evs s j k (Fail s j k) refl h
here w evs _ h = absurd h

pub unknown_is_refused : OfAllThatIsSeen UnknownIsRefused
unknown_is_refused w events few newer older o split h =
    let k = seen_in w events newer o older split in
    let now = subst (λ (x : Observation). IsOfNone (observations w k.earlier) x.event) (sym k.here) (subst (λ l. IsOfNone l o.event) (sym k.before) h) in
    let refused = here w k.earlier k.event now in
    (refused.0, ap (λ (x : Observation). x.told) (sym k.here) ∙ refused.1)
