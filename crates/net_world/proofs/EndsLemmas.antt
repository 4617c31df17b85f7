-- How what comes to a server ends, as an event of a world.
use Rattle.std.proofs.Common.{◌≡◌, refl, sym, ◌∙◌, ap, subst, inl, inr, ◌⊎◌, ℕ, Bool, true, false, ◌&&◌, List, ◌∷◌, Option, Some, None, Result, Ok, Err}
use Rattle.fc_base.specs.declared.fault.Fault.{Fault}
use Rattle.fc_base.specs.declared.fault.Fault.TheVariants.{NoSave}
use Rattle.fc_base.specs.declared.fault.FaultSort.{FaultSort}
use Rattle.fc_base.specs.declared.fault.FaultSort.TheVariants as sorts
use Rattle.fc_base.specs.Fault.{sort_of}
use Rattle.messages.specs.declared.node.Node.{Node}
use Rattle.messages.specs.declared.node.Node.TheVariants as nodes
use Rattle.messages.specs.Senses.{is_drop}
use Rattle.node.specs.Steps.{is_answer}
use Rattle.server_core.specs.Inputs.{PacketInput, FrameInput}
use Rattle.server_core.specs.declared.input.Input.TheVariants as inputs
use Rattle.fc_base.specs.declared.record.JobParts.{JobParts}
use Rattle.engine.specs.declared.issue.Ticket.{Ticket}
use Rattle.server_core.specs.declared.input.WriteEnd.{WriteEnd}
use Rattle.server_core.specs.declared.input.WriteEnd.TheVariants as write_ends
use Rattle.server_core.specs.Hearing.{packets_heard}
use Rattle.server_core.specs.FrameAnswers as framed
use Rattle.server_core.specs.FrameAnswers.{sense}
use Rattle.server_core.specs.Answers as answers
use Rattle.net_world.specs.declared.told.WorldAnswer.{WorldAnswer}
use Rattle.net_world.specs.declared.told.Told.{Told}
use Rattle.net_world.specs.declared.world.World.{World}
use Rattle.net_world.specs.Setup.{Setup}
use Rattle.net_world.specs.Happenings.{Happening}
use Rattle.net_world.specs.Happenings as happenings
use Rattle.net_world.specs.Trace.{opening_of}
use Rattle.std.specs.Prelude.{slice_get, is_some}
use Rattle.messages.specs.declared.frame.Frame.{Frame}
use Rattle.net_world.specs.Frames.{frames_sent, to_of}
use Rattle.net_world.specs.Changes.{Change, Met, steps, trace}
use Rattle.net_world.specs.Barred.{unless_on, unless_sent, unless_open, barring_fault}
use Rattle.net_world.specs.Writes.{open_at}
use Rattle.net_world.specs.Events.{happening_of_end}
use Rattle.net_world.specs.Finding.{IsOpen, FindsWrite}
use Rattle.net_world.specs.Outcomes.{Does, Refuses, outcome_of_step, where_saved, met_by_server, comes_to_server}
use Rattle.net_world.specs.Outcomes.{said_to_server, lost_by, comes_to, delivery, end_of_write, brings, unless_barred, outcome}
use Rattle.net_world.specs.World.{answer, and_outcome, told_by, told_of_happening, answer_of_issue, act}
use Rattle.net_world.specs.Stands.{StandsFor}
use Rattle.net_world.specs.Ends as ends
use Rattle.net_world.specs.Ends.{Ends, changes_after}
use Rattle.net_world.specs.Serving as serving
use Rattle.net_world.specs.Serving.{entries, step_by, Serves, IsBarred, Refuses as ServerRefuses, ServerEnds}
use Rattle.net_world.proofs.ServeLemmas.{same_told, heard_is, up_of}
use Rattle.net_world.proofs.OutcomeLemmas.{DroppedOr, met_ok, met_err, act_is, frame_ok, frame_err, frame_answer}

-- ---- how an event ends, by what comes of it

pub goes : (w : Setup) (past : List Change) (e : Happening) → barring_fault w (trace w past) (frames_sent w (steps past)) e ≡ None
    → outcome w past e ≡ brings w past e
goes w past e h = ap (λ x. unless_barred x (brings w past e)) h

pub stops : (w : Setup) (past : List Change) (e : Happening) (fault : Fault) → barring_fault w (trace w past) (frames_sent w (steps past)) e ≡ Some fault
    → outcome w past e ≡ Refuses fault
stops w past e fault h = ap (λ x. unless_barred x (brings w past e)) h

-- It does this, and is told so.
pub does : (w : Setup) (past : List Change) (e : Happening) (change : Change) (t : Told) (new : World) → outcome w past e ≡ Does change
    → told_by w past e (Does change) ≡ Ok t → StandsFor w (change ∷ past) new
    → Ends w past e new (Ok t)
does w past e change t new is tells stands = (ap (told_by w past e) is ∙ tells, subst (λ x. StandsFor w (and_outcome x past) new) (sym is) stands)

-- It is refused, and nothing changes.
pub refusing : (w : Setup) (past : List Change) (e : Happening) (fault : Fault) (new : World) → outcome w past e ≡ Refuses fault → StandsFor w past new
    → (told_of_happening w past e ≡ Err fault) × StandsFor w (changes_after w past e) new
refusing w past e fault new is stands = (ap (told_by w past e) is, subst (λ x. StandsFor w (and_outcome x past) new) (sym is) stands)

-- A fault is a refusal, so that its sort is that.
pub refuses : (w : Setup) (past : List Change) (e : Happening) (fault : Fault) (new : World) → sort_of fault ≡ sorts.Refusal → outcome w past e ≡ Refuses fault
    → StandsFor w past new → Ends w past e new (Err fault)
refuses w past e fault new sort is stands = subst (λ x. ends.Faults w past e x fault new) (sym sort) (refusing w past e fault new is stands)

-- What is due is saved, and else nothing is.
pub some_save : {X Y : Type 0} (x : Option X) (y : Y) → is_some x ≡ true → where_saved x y ≡ Ok y
some_save None y h = absurd cc
some_save (Some a) y h = refl

pub no_save : {X Y : Type 0} (x : Option X) (y : Y) → is_some x ≡ false → where_saved x y ≡ Err NoSave
no_save None y h = refl
no_save (Some a) y h = absurd cc

-- A save that is cut off answers nothing.
pub no_answer : {D : Type 0} (free : Bool) (x : Option D) (landed : Bool) → (free && is_answer x (lost_by landed)) ≡ false
no_answer true None true = refl
no_answer true None false = refl
no_answer true (Some a) true = refl
no_answer true (Some a) false = refl
no_answer false x landed = refl

-- ---- an event that a server meets

-- What happens comes to the server as this, and is barred as all that asks for the server to be on.
pub record ComesTo (w : Setup) (past : List Change) (s : ℕ) (e : Happening) (i : FrameInput) : Type 0 where
  pub bar : barring_fault w (trace w past) (frames_sent w (steps past)) e ≡ unless_on w (trace w past) (nodes.Server s)
  pub ok : (t : Told) (new : World) → Serves w past s i new t → brings w past e ≡ Does (Met (step_by past s i))
  pub err : (fault : Fault) (new : World) → ServerRefuses w past s i fault new → brings w past e ≡ Refuses fault
  pub keeps : is_drop (sense (opening_of s) (entries past s) i) ≡ false

-- What a step is told with this answer.
told_is : (w : Setup) (past : List Change) (s : ℕ) (e : Happening) (i : FrameInput) (served : Told) (a : WorldAnswer) (new : World) → Serves w past s i new served
    → a ≡ answer w past e
    → told_by w past e (Does (Met (step_by past s i))) ≡ Ok (record served { answer = a })
told_is w past s e i served a new h is =
    ap (λ x. Ok x)
    (sym (same_told (record served { answer = a }) _ _ _ _ is (ap (λ (t : Told). t.first) h.told_is) (ap (λ (t : Told). t.sent) h.told_is)
    (ap (λ (t : Told). t.act) h.told_is ∙ sym (act_is w past s i))))

-- What is told with an answer of the world's own.
pub told_ends : (w : Setup) (past : List Change) (s : ℕ) (e : Happening) (i : FrameInput) (served : Told) (a : WorldAnswer) (t : Told) (new : World)
    → ComesTo w past s e i → Serves w past s i new served → a ≡ answer w past e
    → t ≡ record served { answer = a } → Ends w past e new (Ok t)
told_ends w past s e i served a t new c h is tells =
    does w past e (Met (step_by past s i)) t new (goes w past e (c.bar ∙ h.on) ∙ c.ok served new h)
    (told_is w past s e i served a new h is ∙ ap (λ x. Ok x) (sym tells)) h.stands

-- The event is answered what the server answers of writes.
Answers : Setup → List Change → ℕ → Happening → FrameInput → Type 0
Answers w past s e i = answer_of_issue (framed.issue (opening_of s) (entries past s) i) ≡ answer w past e

-- What is told as the server's step.
served_as : (w : Setup) (past : List Change) (s : ℕ) (e : Happening) (i : FrameInput) (t : Told) (new : World) → Serves w past s i new t → Answers w past s e i
    → told_by w past e (Does (Met (step_by past s i))) ≡ Ok t
unfolding Answers
served_as w past s e i t new h is = told_is w past s e i t t.answer new h (ap (λ (x : Told). x.answer) h.told_is ∙ is)

served_ends : (w : Setup) (past : List Change) (s : ℕ) (e : Happening) (i : FrameInput) (t : Told) (new : World)
    → ComesTo w past s e i → Serves w past s i new t → Answers w past s e i → Ends w past e new (Ok t)
served_ends w past s e i t new c h is =
    does w past e (Met (step_by past s i)) t new (goes w past e (c.bar ∙ h.on) ∙ c.ok t new h) (served_as w past s e i t new h is) h.stands

refused_ends : (w : Setup) (past : List Change) (s : ℕ) (e : Happening) (i : FrameInput) (fault : Fault) (new : World) → ComesTo w past s e i
    → IsBarred w past s fault new ⊎ ServerRefuses w past s i fault new
    → (told_of_happening w past e ≡ Err fault) × StandsFor w (changes_after w past e) new
refused_ends w past s e i fault new c (inl b) = refusing w past e fault new (stops w past e fault (c.bar ∙ b.why)) b.unchanged
refused_ends w past s e i fault new c (inr r) = refusing w past e fault new (goes w past e (c.bar ∙ r.on) ∙ c.err fault new r) (r.unchanged c.keeps)

by_sort : (w : Setup) (past : List Change) (s : ℕ) (e : Happening) (i : FrameInput) (fault : Fault) (new : World) → ComesTo w past s e i → (sort : FaultSort)
    → serving.Faults w past s i sort fault new → ends.Faults w past e sort fault new
by_sort w past s e i fault new c sorts.Memory h = h
by_sort w past s e i fault new c sorts.Save h = h
by_sort w past s e i fault new c sorts.Refusal h = refused_ends w past s e i fault new c h

-- What isn't answered.
pub unserved_ends : (w : Setup) (past : List Change) (s : ℕ) (e : Happening) (i : FrameInput) (fault : Fault) (new : World) → ComesTo w past s e i
    → ServerEnds w past s i new (Err fault) → Ends w past e new (Err fault)
unserved_ends w past s e i fault new c h = by_sort w past s e i fault new c (sort_of fault) h

-- ---- an event that is no frame

-- The server meets this event.
pub record Meets (w : Setup) (past : List Change) (s : ℕ) (e : Happening) (event : PacketInput) : Type 0 where
  pub bar : barring_fault w (trace w past) (frames_sent w (steps past)) e ≡ unless_on w (trace w past) (nodes.Server s)
  pub meets : brings w past e ≡ outcome_of_step (met_by_server (trace w past) s event)

issue_comes : (w : Setup) (past : List Change) (s j : ℕ) (e : Happening) → Meets w past s e (inputs.Issue j) → ComesTo w past s e (inputs.Issue j)
issue_comes w past s j e m = record {
  bar = m.bar;
  ok = λ t new h. m.meets ∙ ap outcome_of_step (met_ok (trace w past) s (inputs.Issue j) (packets_heard (opening_of s) (entries past s))
      (heard_is w past s) h.free);
  err = λ fault new h. m.meets ∙ ap outcome_of_step (met_err (trace w past) s (inputs.Issue j) (packets_heard (opening_of s) (entries past s)) fault
      (heard_is w past s) h.why);
  keeps = refl;
}

-- ---- a worker asks for a write

issue_answer : (w : Setup) (past : List Change) (s j : ℕ) → Answers w past s (happenings.Issue s j) (inputs.Issue j)
unfolding Answers
issue_answer w past s j = ap (λ list. answer_of_issue (answers.issue (opening_of s) list (inputs.Issue j))) (heard_is w past s)

asks : (w : Setup) (past : List Change) (s j : ℕ) → Meets w past s (happenings.Issue s j) (inputs.Issue j)
asks w past s j = record { bar = refl; meets = refl }

pub issue_ends : (w : Setup) (past : List Change) (s j : ℕ) (result : Result Told Fault) (new : World) → ServerEnds w past s (inputs.Issue j) new result
    → Ends w past (happenings.Issue s j) new result
issue_ends w past s j (Ok t) new h =
    served_ends w past s (happenings.Issue s j) (inputs.Issue j) t new (issue_comes w past s j (happenings.Issue s j) (asks w past s j)) h (issue_answer w past s j)
issue_ends w past s j (Err fault) new h =
    unserved_ends w past s (happenings.Issue s j) (inputs.Issue j) fault new (issue_comes w past s j (happenings.Issue s j) (asks w past s j)) h

-- ---- a write has ended

bar_is : (w : Setup) (past : List Change) (s j k : ℕ) (end : WriteEnd)
    → barring_fault w (trace w past) (frames_sent w (steps past)) (happening_of_end end s j k) ≡ unless_open w (trace w past) s j k
bar_is w past s j k write_ends.Done = refl
bar_is w past s j k write_ends.Failed = refl

brings_is : (w : Setup) (past : List Change) (s j k : ℕ) (end : WriteEnd)
    → brings w past (happening_of_end end s j k) ≡ outcome_of_step (end_of_write (trace w past) s k end (open_at (trace w past) s j k))
brings_is w past s j k write_ends.Done = refl
brings_is w past s j k write_ends.Failed = refl

answer_is : (w : Setup) (past : List Change) (s j k : ℕ) (end : WriteEnd) (ticket : Ticket)
    → Answers w past s (happening_of_end end s j k) (inputs.WriteDone ticket end)
unfolding Answers
answer_is w past s j k write_ends.Done ticket = refl
answer_is w past s j k write_ends.Failed ticket = refl

ended_comes : (w : Setup) (past : List Change) (s j k : ℕ) (end : WriteEnd) (ticket : Ticket) (rec : JobParts) → IsOpen w past s j k ticket rec
    → ComesTo w past s (happening_of_end end s j k) (inputs.WriteDone ticket end)
ended_comes w past s j k end ticket rec h =
    let meets : brings w past (happening_of_end end s j k) ≡ outcome_of_step (met_by_server (trace w past) s (inputs.WriteDone ticket end)) =
    brings_is w past s j k end ∙ ap (λ x. outcome_of_step (end_of_write (trace w past) s k end x)) h.is_open
    ∙ ap (λ t. outcome_of_step (met_by_server (trace w past) s (inputs.WriteDone t end))) (sym h.ticket_is) in
    record {
      bar = bar_is w past s j k end ∙ h.there ∙ sym h.on;
      ok = λ t new g. meets ∙ ap outcome_of_step (met_ok (trace w past) s (inputs.WriteDone ticket end) (packets_heard (opening_of s) (entries past s))
          (heard_is w past s) g.free);
      err = λ fault new g. meets ∙ ap outcome_of_step (met_err (trace w past) s (inputs.WriteDone ticket end)
          (packets_heard (opening_of s) (entries past s)) fault (heard_is w past s) g.why);
      keeps = refl;
    }

pub end_ends : (w : Setup) (past : List Change) (s j k : ℕ) (end : WriteEnd) (ticket : Ticket) (rec : JobParts) (result : Result Told Fault) (new : World)
    → IsOpen w past s j k ticket rec
    → ServerEnds w past s (inputs.WriteDone ticket end) new result → Ends w past (happening_of_end end s j k) new result
end_ends w past s j k end ticket rec (Ok t) new h g =
    served_ends w past s (happening_of_end end s j k) (inputs.WriteDone ticket end) t new (ended_comes w past s j k end ticket rec h) g
    (answer_is w past s j k end ticket)
end_ends w past s j k end ticket rec (Err fault) new h g =
    unserved_ends w past s (happening_of_end end s j k) (inputs.WriteDone ticket end) fault new (ended_comes w past s j k end ticket rec h) g

-- Nothing is open there.
pub end_unopen : (w : Setup) (past : List Change) (s j k : ℕ) (end : WriteEnd) (fault : Fault) (new : World) → FindsWrite w past s j k (Err fault)
    → StandsFor w past new → Ends w past (happening_of_end end s j k) new (Err fault)
end_unopen w past s j k end fault new h stands =
    refuses w past (happening_of_end end s j k) fault new h.1 (stops w past (happening_of_end end s j k) fault (bar_is w past s j k end ∙ h.0)) stands

-- ---- a frame comes to a server

-- It has this number, and goes to this node.
pub record GoesTo (w : Setup) (past : List Change) (number : ℕ) (f : Frame) (node : Node) : Type 0 where
  pub is_sent : slice_get (frames_sent w (steps past)) number ≡ Some f
  pub goes_to : to_of f ≡ node

pub frame_bar : (w : Setup) (past : List Change) (number : ℕ) (f : Frame) (node : Node) → GoesTo w past number f node
    → barring_fault w (trace w past) (frames_sent w (steps past)) (happenings.Deliver number) ≡ unless_on w (trace w past) node
frame_bar w past number f node g = ap (unless_sent w (trace w past)) g.is_sent ∙ ap (unless_on w (trace w past)) g.goes_to

frame_comes : (w : Setup) (past : List Change) (number : ℕ) (f : Frame) (s : ℕ) → GoesTo w past number f (nodes.Server s)
    → brings w past (happenings.Deliver number) ≡ comes_to_server (trace w past) s f (said_to_server (steps past) s f)
frame_comes w past number f s g = ap (delivery w past) g.is_sent ∙ ap (λ node. comes_to w past node f) g.goes_to

delivery_answer : (w : Setup) (past : List Change) (number : ℕ) (f : Frame) (s : ℕ) → Answers w past s (happenings.Deliver number) (inputs.Deliver f)
unfolding Answers
delivery_answer w past number f s = frame_answer past s f

delivered : (w : Setup) (past : List Change) (number : ℕ) (f : Frame) (s : ℕ) (t : Told) (new : World)
    → GoesTo w past number f (nodes.Server s) → Serves w past s (inputs.Deliver f) new t → Ends w past (happenings.Deliver number) new (Ok t)
delivered w past number f s t new g h =
    let e = happenings.Deliver number in
    does w past e (Met (step_by past s (inputs.Deliver f))) t new
    (goes w past e (frame_bar w past number f (nodes.Server s) g ∙ h.on) ∙ frame_comes w past number f s g ∙ frame_ok w past s f h.free)
    (served_as w past s e (inputs.Deliver f) t new h (delivery_answer w past number f s)) h.stands

dropped : (w : Setup) (past : List Change) (s : ℕ) (f : Frame) (fault : Fault) (e : Happening) (new : World)
    → outcome w past e ≡ comes_to_server (trace w past) s f (said_to_server (steps past) s f)
    → ServerRefuses w past s (inputs.Deliver f) fault new
    → DroppedOr s f fault (is_drop (sense (opening_of s) (entries past s) (inputs.Deliver f)))
    (comes_to_server (trace w past) s f (said_to_server (steps past) s f))
    → (told_of_happening w past e ≡ Err fault) × StandsFor w (changes_after w past e) new
unfolding DroppedOr
dropped w past s f fault e new is r (inl d) = refusing w past e fault new (is ∙ d.1) (r.unchanged d.0)
dropped w past s f fault e new is r (inr d) = (
  ap (told_by w past e) (is ∙ d.2) ∙ ap (λ x. Err x) (sym d.1),
  subst (λ x. StandsFor w (and_outcome x past) new) (sym (is ∙ d.2)) r.stands,
)

unanswered : (w : Setup) (past : List Change) (number : ℕ) (f : Frame) (s : ℕ) (fault : Fault) (new : World) → GoesTo w past number f (nodes.Server s)
    → IsBarred w past s fault new ⊎ ServerRefuses w past s (inputs.Deliver f) fault new
    → (told_of_happening w past (happenings.Deliver number) ≡ Err fault) × StandsFor w (changes_after w past (happenings.Deliver number)) new
unanswered w past number f s fault new g (inl b) =
    refusing w past (happenings.Deliver number) fault new
    (stops w past (happenings.Deliver number) fault (frame_bar w past number f (nodes.Server s) g ∙ b.why)) b.unchanged
unanswered w past number f s fault new g (inr r) =
    dropped w past s f fault (happenings.Deliver number) new
    (goes w past (happenings.Deliver number) (frame_bar w past number f (nodes.Server s) g ∙ r.on) ∙ frame_comes w past number f s g) r
    (frame_err w past s f fault (up_of w past s r.on) r.why)

delivery_sort : (w : Setup) (past : List Change) (number : ℕ) (f : Frame) (s : ℕ) (fault : Fault) (new : World) → GoesTo w past number f (nodes.Server s)
    → (sort : FaultSort) → serving.Faults w past s (inputs.Deliver f) sort fault new
    → ends.Faults w past (happenings.Deliver number) sort fault new
delivery_sort w past number f s fault new g sorts.Memory h = h
delivery_sort w past number f s fault new g sorts.Save h = h
delivery_sort w past number f s fault new g sorts.Refusal h = unanswered w past number f s fault new g h

pub delivery_ends : (w : Setup) (past : List Change) (number : ℕ) (f : Frame) (s : ℕ) (result : Result Told Fault) (new : World)
    → GoesTo w past number f (nodes.Server s) → ServerEnds w past s (inputs.Deliver f) new result
    → Ends w past (happenings.Deliver number) new result
delivery_ends w past number f s (Ok t) new g h = delivered w past number f s t new g h
delivery_ends w past number f s (Err fault) new g h = delivery_sort w past number f s fault new g (sort_of fault) h
