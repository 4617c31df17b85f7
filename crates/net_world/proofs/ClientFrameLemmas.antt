-- What comes of a frame that comes to the client.
use Rattle.std.proofs.Common.{◌≡◌, refl, sym, ◌∙◌, ap, subst, inl, inr, ◌⊎◌, ℕ, Bool, true, false, List, Some, None, Result, Ok, Err}
use Rattle.fc_base.specs.declared.fault.Fault.{Fault}
use Rattle.fc_base.specs.declared.fault.Fault.TheVariants.{FrameBadField, NodeOff}
use Rattle.fc_base.specs.declared.fault.FaultSort.{FaultSort}
use Rattle.fc_base.specs.declared.fault.FaultSort.TheVariants as sorts
use Rattle.fc_base.specs.Fault.{sort_of}
use Rattle.disk_model.specs.declared.save_outcome.SaveOutcome.{SaveOutcome}
use Rattle.disk_model.specs.declared.save_outcome.SaveOutcome.TheVariants.{NoSave}
use Rattle.disk_model.specs.SaveOutcome.{saved_for}
use Rattle.messages.specs.declared.packet.PacketParts.{PacketParts}
use Rattle.messages.specs.declared.frame.Frame.{Frame}
use Rattle.messages.specs.declared.node.Node.TheVariants.{Client}
use Rattle.messages.specs.Hearing.{Heard, Meaning, Says, Waits, Spoils, Strays, Comes, meaning}
use Rattle.messages.specs.Senses.{sense_of, is_drop, refusal_of_sense, heard_or}
use Rattle.client_core.specs.Inputs as inputs
use Rattle.client_core.specs.History as client
use Rattle.client_core.specs.Words as words
use Rattle.client_core.specs.Hearing.{rules, heard_at, packets_heard}
use Rattle.client_core.specs.FrameAnswers as framed
use Rattle.client_core.specs.FrameAnswers.{sense}
use Rattle.net_world.specs.declared.told.Told.{Told}
use Rattle.net_world.specs.declared.world.World.{World}
use Rattle.net_world.specs.Setup.{Setup}
use Rattle.net_world.specs.Happenings as happenings
use Rattle.net_world.specs.Trace.{Step, of_client, client_opening}
use Rattle.net_world.specs.Frames as frames
use Rattle.net_world.specs.Frames.{OfClient, at_client}
use Rattle.net_world.specs.Changes.{Change, Met, steps, trace}
use Rattle.net_world.specs.Barred.{unless_on, unless}
use Rattle.net_world.specs.Outcomes.{Outcome, Does, Refuses, Drops, comes_to_client, comes_to, delivery, said_to_client, brings, outcome}
use Rattle.net_world.specs.World.{told_of_happening, told_by, and_outcome}
use Rattle.net_world.specs.Stands.{StandsFor}
use Rattle.net_world.specs.Ends as ends
use Rattle.net_world.specs.Ends.{Ends, changes_after}
use Rattle.net_world.specs.Asking as asking
use Rattle.net_world.specs.Asking.{entries, step_by, IsBarred, Refuses as ClientRefuses, ClientEnds}
use Rattle.net_world.proofs.ClientHeardLemmas.{heard_is, hears_same}
use Rattle.net_world.proofs.EndsLemmas.{GoesTo, frame_bar, goes, stops, does, refusing}
use Rattle.net_world.proofs.OutcomeLemmas.{misses, misdirected, bad_field}
use Rattle.net_world.proofs.AskEndsLemmas.{told_is}

-- ---- a frame

come : Frame → SaveOutcome → Outcome
come f left = Does (Met (OfClient (Comes f left)))

says_here : (w : Setup) (t : List Step) (f : Frame) (p : PacketParts) → words.refusal (client_opening w) (of_client w t) (inputs.Deliver p) ≡ None
    → comes_to_client w t f (Says p) ≡ come f (saved_for (words.due (client_opening w) (of_client w t) (inputs.Deliver p)))
unfolding come
says_here w t f p h = rw h refl

says_ok : (w : Setup) (t : List Step) (f : Frame) (p : PacketParts) (list : List client.Entry) → list ≡ of_client w t
    → words.refusal (client_opening w) list (inputs.Deliver p) ≡ None
    → comes_to_client w t f (Says p) ≡ come f (saved_for (words.due (client_opening w) list (inputs.Deliver p)))
says_ok w t f p list is =
    subst (λ l. words.refusal (client_opening w) l (inputs.Deliver p) ≡ None
    → comes_to_client w t f (Says p) ≡ come f (saved_for (words.due (client_opening w) l (inputs.Deliver p)))) (sym is) (says_here w t f p)

refused_here : (w : Setup) (t : List Step) (f : Frame) (p : PacketParts) (fault : Fault)
    → words.refusal (client_opening w) (of_client w t) (inputs.Deliver p) ≡ Some fault → comes_to_client w t f (Says p) ≡ Refuses fault
refused_here w t f p fault h = rw h refl

says_err : (w : Setup) (t : List Step) (f : Frame) (p : PacketParts) (list : List client.Entry) (fault : Fault) → list ≡ of_client w t
    → words.refusal (client_opening w) list (inputs.Deliver p) ≡ Some fault
    → comes_to_client w t f (Says p) ≡ Refuses fault
says_err w t f p list fault is h = refused_here w t f p fault (ap (λ l. words.refusal (client_opening w) l (inputs.Deliver p)) (sym is) ∙ h)

meaning_ok : (w : Setup) (t : List Step) (f : Frame) (list : List client.Entry) → list ≡ of_client w t → (m : Meaning)
    → refusal_of_sense (rules (client_opening w)) list (sense_of inputs.Deliver m) ≡ None
    → comes_to_client w t f m ≡ come f (saved_for (heard_or None (words.due (client_opening w) list) (sense_of inputs.Deliver m)))
unfolding come
meaning_ok w t f list is (Says p) h = says_ok w t f p list is h
meaning_ok w t f list is Waits h = refl
meaning_ok w t f list is Spoils h = absurd cc
meaning_ok w t f list is Strays h = absurd (misses (words.is_on list) h)

-- What comes of a frame that is refused: a tag may be dropped.
DroppedOr : Frame → Fault → Bool → Outcome → Type 0
DroppedOr f fault drops out = ((drops ≡ false) × (out ≡ Refuses fault)) ⊎ ((drops ≡ true) × (fault ≡ FrameBadField) × (out ≡ Drops (OfClient (Comes f NoSave))))

meaning_err : (w : Setup) (t : List Step) (f : Frame) (list : List client.Entry) (fault : Fault) → list ≡ of_client w t → words.is_on list ≡ true
    → (m : Meaning) → refusal_of_sense (rules (client_opening w)) list (sense_of inputs.Deliver m) ≡ Some fault
    → DroppedOr f fault (is_drop (sense_of inputs.Deliver m)) (comes_to_client w t f m)
unfolding DroppedOr
meaning_err w t f list fault is on (Says p) h = inl (refl, says_err w t f p list fault is h)
meaning_err w t f list fault is on Waits h = absurd cc
meaning_err w t f list fault is on Spoils h = inr (refl, bad_field fault h, refl)
meaning_err w t f list fault is on Strays h = inl (refl, ap Refuses (misdirected (words.is_on list) fault on h))

-- What a frame says is the same by the client's own list.
pub said_is : (w : Setup) (past : List Change) (f : Frame)
    → meaning (rules (client_opening w)) (heard_at (client_opening w) (entries w past)) f ≡ said_to_client w (steps past) f
said_is w past f = ap (λ (h : Heard client.Entry). meaning (at_client w) h f) (hears_same w (frames.of_client w (steps past)))

frame_ok : (w : Setup) (past : List Change) (f : Frame) → framed.refusal (client_opening w) (entries w past) (inputs.Deliver f) ≡ None
    → comes_to_client w (trace w past) f (said_to_client w (steps past) f) ≡ Does (Met (step_by w past (inputs.Deliver f)))
unfolding come
frame_ok w past f h =
    ap (comes_to_client w (trace w past) f) (sym (said_is w past f))
    ∙ meaning_ok w (trace w past) f (packets_heard (client_opening w) (entries w past)) (heard_is w past)
    (meaning (rules (client_opening w)) (heard_at (client_opening w) (entries w past)) f) h

frame_err : (w : Setup) (past : List Change) (f : Frame) (fault : Fault) → words.is_on (packets_heard (client_opening w) (entries w past)) ≡ true
    → framed.refusal (client_opening w) (entries w past) (inputs.Deliver f) ≡ Some fault
    → DroppedOr f fault (is_drop (sense (client_opening w) (entries w past) (inputs.Deliver f)))
    (comes_to_client w (trace w past) f (said_to_client w (steps past) f))
frame_err w past f fault on h =
    let m = meaning (rules (client_opening w)) (heard_at (client_opening w) (entries w past)) f in
    subst (λ x. DroppedOr f fault (is_drop (sense_of inputs.Deliver m)) (comes_to_client w (trace w past) f x)) (said_is w past f)
    (meaning_err w (trace w past) f (packets_heard (client_opening w) (entries w past)) fault (heard_is w past) on m h)

-- ---- its delivery

on_of : (on : Bool) → unless on NodeOff ≡ None → on ≡ true
on_of true h = refl
on_of false h = cc

-- A client that can be reached is on.
up_of : (w : Setup) (past : List Change) → unless_on w (trace w past) Client ≡ None → words.is_on (packets_heard (client_opening w) (entries w past)) ≡ true
up_of w past h = ap words.is_on (heard_is w past) ∙ on_of (words.is_on (of_client w (trace w past))) h

frame_comes : (w : Setup) (past : List Change) (number : ℕ) (f : Frame) → GoesTo w past number f Client
    → brings w past (happenings.Deliver number) ≡ comes_to_client w (trace w past) f (said_to_client w (steps past) f)
frame_comes w past number f g = ap (delivery w past) g.is_sent ∙ ap (λ node. comes_to w past node f) g.goes_to

delivery_ends : (w : Setup) (past : List Change) (number : ℕ) (f : Frame) (t : Told) (new : World) → GoesTo w past number f Client
    → ClientEnds w past (inputs.Deliver f) new (Ok t) → Ends w past (happenings.Deliver number) new (Ok t)
delivery_ends w past number f t new g h =
    let e = happenings.Deliver number in
    does w past e (Met (step_by w past (inputs.Deliver f))) t new
    (goes w past e (frame_bar w past number f Client g ∙ h.on) ∙ frame_comes w past number f g ∙ frame_ok w past f h.free)
    (told_is w past e (inputs.Deliver f) t new h refl) h.stands

dropped : (w : Setup) (past : List Change) (f : Frame) (fault : Fault) (e : happenings.Happening) (new : World)
    → outcome w past e ≡ comes_to_client w (trace w past) f (said_to_client w (steps past) f)
    → ClientRefuses w past (inputs.Deliver f) fault new
    → DroppedOr f fault (is_drop (sense (client_opening w) (entries w past) (inputs.Deliver f)))
    (comes_to_client w (trace w past) f (said_to_client w (steps past) f))
    → (told_of_happening w past e ≡ Err fault) × StandsFor w (changes_after w past e) new
unfolding DroppedOr
dropped w past f fault e new is r (inl d) = refusing w past e fault new (is ∙ d.1) (r.unchanged d.0)
dropped w past f fault e new is r (inr d) = (
  ap (told_by w past e) (is ∙ d.2) ∙ ap (λ x. Err x) (sym d.1),
  subst (λ x. StandsFor w (and_outcome x past) new) (sym (is ∙ d.2)) r.stands,
)

unanswered : (w : Setup) (past : List Change) (number : ℕ) (f : Frame) (fault : Fault) (new : World) → GoesTo w past number f Client
    → IsBarred w past fault new ⊎ ClientRefuses w past (inputs.Deliver f) fault new
    → (told_of_happening w past (happenings.Deliver number) ≡ Err fault) × StandsFor w (changes_after w past (happenings.Deliver number)) new
unanswered w past number f fault new g (inl b) =
    refusing w past (happenings.Deliver number) fault new
    (stops w past (happenings.Deliver number) fault (frame_bar w past number f Client g ∙ b.why)) b.unchanged
unanswered w past number f fault new g (inr r) =
    dropped w past f fault (happenings.Deliver number) new
    (goes w past (happenings.Deliver number) (frame_bar w past number f Client g ∙ r.on) ∙ frame_comes w past number f g) r
    (frame_err w past f fault (up_of w past r.on) r.why)

delivery_sort : (w : Setup) (past : List Change) (number : ℕ) (f : Frame) (fault : Fault) (new : World) → GoesTo w past number f Client → (sort : FaultSort)
    → asking.Faults w past (inputs.Deliver f) sort fault new
    → ends.Faults w past (happenings.Deliver number) sort fault new
delivery_sort w past number f fault new g sorts.Memory h = h
delivery_sort w past number f fault new g sorts.Save h = h
delivery_sort w past number f fault new g sorts.Refusal h = unanswered w past number f fault new g h

delivery_fails : (w : Setup) (past : List Change) (number : ℕ) (f : Frame) (fault : Fault) (new : World) → GoesTo w past number f Client
    → ClientEnds w past (inputs.Deliver f) new (Err fault)
    → Ends w past (happenings.Deliver number) new (Err fault)
delivery_fails w past number f fault new g h = delivery_sort w past number f fault new g (sort_of fault) h

-- A delivery to the client ends as the event that it is.
pub comes_as : (w : Setup) (past : List Change) (number : ℕ) (f : Frame) (result : Result Told Fault) (new : World) → GoesTo w past number f Client
    → ClientEnds w past (inputs.Deliver f) new result → Ends w past (happenings.Deliver number) new result
comes_as w past number f (Ok t) new g h = delivery_ends w past number f t new g h
comes_as w past number f (Err fault) new g h = delivery_fails w past number f fault new g h
