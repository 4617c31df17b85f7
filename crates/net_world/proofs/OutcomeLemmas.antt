-- What comes of what happens to a server, by its list of frames.
use Rattle.std.proofs.Common.{◌≡◌, refl, sym, ◌∙◌, ap, subst, inl, inr, ◌⊎◌, ℕ, Bool, true, false, List, Option, Some, None, Result, Ok, Err}
use Rattle.std.specs.Prelude.{◌&&◌, if◌then◌else◌}
use Rattle.std.specs.Option.{option_map}
use Rattle.fc_base.specs.declared.fault.Fault.{Fault}
use Rattle.fc_base.specs.declared.fault.Fault.TheVariants.{Misdirected, Down, FrameBadField}
use Rattle.disk_model.specs.declared.save_outcome.SaveOutcome.{SaveOutcome}
use Rattle.disk_model.specs.declared.save_outcome.SaveOutcome.TheVariants.{NoSave}
use Rattle.disk_model.specs.SaveOutcome.{saved_for}
use Rattle.messages.specs.declared.packet.PacketParts.{PacketParts}
use Rattle.messages.specs.declared.frame.Frame.{Frame}
use Rattle.messages.specs.declared.body.Body.{Body}
use Rattle.messages.specs.declared.body.Body.TheVariants as bodies
use Rattle.messages.specs.Nodes.{is_client, is_server}
use Rattle.messages.specs.declared.refusal.Act.TheVariants as acts
use Rattle.messages.specs.Hearing.{Heard, Meaning, Says, Waits, Spoils, Strays, Comes, Happens, meaning, heard_by}
use Rattle.messages.specs.Senses.{sense_of, is_drop, refusal_of_sense, heard_or}
use Rattle.server_core.specs.Inputs.{PacketInput, FrameInput}
use Rattle.server_core.specs.declared.input.Input.TheVariants as inputs
use Rattle.server_core.specs.History as server
use Rattle.server_core.specs.Run.{Work}
use Rattle.server_core.specs.Request.{ToNobody, request_in}
use Rattle.server_core.specs.Words as words
use Rattle.server_core.specs.Words.{Staged}
use Rattle.server_core.specs.Answers as answers
use Rattle.server_core.specs.Hearing.{rules, heard_at, packets_heard}
use Rattle.server_core.specs.FrameAnswers as framed
use Rattle.server_core.specs.FrameAnswers.{sense}
use Rattle.net_world.specs.declared.told.WorldAnswer.TheVariants as answers_told
use Rattle.net_world.specs.Setup.{Setup}
use Rattle.net_world.specs.Trace.{Step, AtServer, of_server, opening_of}
use Rattle.net_world.specs.Frames.{OfServer, at_server}
use Rattle.net_world.specs.Changes.{Change, Met as Changed, steps, trace}
use Rattle.net_world.specs.Outcomes.{Outcome, Does, Refuses, Drops, outcome_of_step, unless_fault, met_by_server, comes_to_server, said_to_server}
use Rattle.net_world.specs.World.{answer_of_issue, act, act_of}
use Rattle.net_world.specs.Serving.{entries, step_by}
use Rattle.net_world.proofs.StandLemmas.{servers_stand}
use Rattle.net_world.proofs.ServeLemmas.{heard_is}
use Rattle.net_world.proofs.NodeLemmas.{not_lost}

passes : {X : Type 0} (x : Option Fault) (r : Result X Fault) → x ≡ None → unless_fault x r ≡ r
passes x r h = rw h refl

fails : {X : Type 0} (x : Option Fault) (r : Result X Fault) (fault : Fault) → x ≡ Some fault → unless_fault x r ≡ Err fault
fails x r fault h = rw h refl

-- ---- an event that is no frame

met_here : (t : List Step) (s : ℕ) (e : PacketInput) → answers.refusal (opening_of s) (of_server s t) e ≡ None
    → met_by_server t s e ≡ Ok (OfServer s (Happens (server.Met e (saved_for (words.due (opening_of s) (of_server s t) e)))))
met_here t s e h = passes (answers.refusal (opening_of s) (of_server s t) e) _ h

pub met_ok : (t : List Step) (s : ℕ) (e : PacketInput) (list : List server.Entry) → list ≡ of_server s t → answers.refusal (opening_of s) list e ≡ None
    → met_by_server t s e ≡ Ok (OfServer s (Happens (server.Met e (saved_for (words.due (opening_of s) list e)))))
met_ok t s e list is =
    subst (λ l. answers.refusal (opening_of s) l e ≡ None
    → met_by_server t s e ≡ Ok (OfServer s (Happens (server.Met e (saved_for (words.due (opening_of s) l e)))))) (sym is) (met_here t s e)

pub met_err : (t : List Step) (s : ℕ) (e : PacketInput) (list : List server.Entry) (fault : Fault) → list ≡ of_server s t
    → answers.refusal (opening_of s) list e ≡ Some fault → met_by_server t s e ≡ Err fault
met_err t s e list fault is h = fails (answers.refusal (opening_of s) (of_server s t) e) _ fault (ap (λ l. answers.refusal (opening_of s) l e) (sym is) ∙ h)

-- ---- a frame

come : ℕ → Frame → SaveOutcome → Outcome
come s f left = Does (Changed (OfServer s (Comes f left)))

says_here : (t : List Step) (s : ℕ) (f : Frame) (p : PacketParts) → answers.refusal (opening_of s) (of_server s t) (inputs.Deliver p) ≡ None
    → comes_to_server t s f (Says p) ≡ come s f (saved_for (words.due (opening_of s) (of_server s t) (inputs.Deliver p)))
unfolding come
says_here t s f p h =
    ap outcome_of_step (passes (answers.refusal (opening_of s) (of_server s t) (inputs.Deliver p))
    (Ok (OfServer s (Comes f (saved_for (words.due (opening_of s) (of_server s t) (inputs.Deliver p)))))) h)

says_ok : (t : List Step) (s : ℕ) (f : Frame) (p : PacketParts) (list : List server.Entry) → list ≡ of_server s t
    → answers.refusal (opening_of s) list (inputs.Deliver p) ≡ None
    → comes_to_server t s f (Says p) ≡ come s f (saved_for (words.due (opening_of s) list (inputs.Deliver p)))
says_ok t s f p list is =
    subst (λ l. answers.refusal (opening_of s) l (inputs.Deliver p) ≡ None
    → comes_to_server t s f (Says p) ≡ come s f (saved_for (words.due (opening_of s) l (inputs.Deliver p)))) (sym is) (says_here t s f p)

says_err : (t : List Step) (s : ℕ) (f : Frame) (p : PacketParts) (list : List server.Entry) (fault : Fault) → list ≡ of_server s t
    → answers.refusal (opening_of s) list (inputs.Deliver p) ≡ Some fault
    → comes_to_server t s f (Says p) ≡ Refuses fault
says_err t s f p list fault is h =
    ap outcome_of_step (fails (answers.refusal (opening_of s) (of_server s t) (inputs.Deliver p))
    (Ok (OfServer s (Comes f (saved_for (words.due (opening_of s) (of_server s t) (inputs.Deliver p)))))) fault
    (ap (λ l. answers.refusal (opening_of s) l (inputs.Deliver p)) (sym is) ∙ h))

pub misses : (on : Bool) → (if on then Some Misdirected else Some Down) ≡ None → ⊥
misses true h = cc
misses false h = cc

pub misdirected : (on : Bool) (fault : Fault) → on ≡ true → (if on then Some Misdirected else Some Down) ≡ Some fault → Misdirected ≡ fault
misdirected true fault h k = cc
misdirected false fault h k = cc

meaning_ok : (t : List Step) (s : ℕ) (f : Frame) (list : List server.Entry) → list ≡ of_server s t → (m : Meaning)
    → refusal_of_sense (rules (opening_of s)) list (sense_of inputs.Deliver m) ≡ None
    → comes_to_server t s f m ≡ come s f (saved_for (heard_or None (words.due (opening_of s) list) (sense_of inputs.Deliver m)))
unfolding come
meaning_ok t s f list is (Says p) h = says_ok t s f p list is h
meaning_ok t s f list is Waits h = refl
meaning_ok t s f list is Spoils h = absurd cc
meaning_ok t s f list is Strays h = absurd (misses (words.is_on list) h)

-- What comes of a frame that is refused: a tag may be dropped.
unfoldable pub DroppedOr : ℕ → Frame → Fault → Bool → Outcome → Type 0
DroppedOr s f fault drops out =
    ((drops ≡ false) × (out ≡ Refuses fault)) ⊎ ((drops ≡ true) × (fault ≡ FrameBadField) × (out ≡ Drops (OfServer s (Comes f NoSave))))

pub bad_field : (fault : Fault) → Some FrameBadField ≡ Some fault → fault ≡ FrameBadField
bad_field fault h = cc

meaning_err : (t : List Step) (s : ℕ) (f : Frame) (list : List server.Entry) (fault : Fault) → list ≡ of_server s t → words.is_on list ≡ true → (m : Meaning)
    → refusal_of_sense (rules (opening_of s)) list (sense_of inputs.Deliver m) ≡ Some fault
    → DroppedOr s f fault (is_drop (sense_of inputs.Deliver m)) (comes_to_server t s f m)
unfolding DroppedOr
meaning_err t s f list fault is on (Says p) h = inl (refl, says_err t s f p list fault is h)
meaning_err t s f list fault is on Waits h = absurd cc
meaning_err t s f list fault is on Spoils h = inr (refl, bad_field fault h, refl)
meaning_err t s f list fault is on Strays h = inl (refl, ap Refuses (misdirected (words.is_on list) fault on h))

-- What a frame says is the same by the server's own list.
pub said_is : (w : Setup) (s : ℕ) (past : List Change) (f : Frame)
    → meaning (rules (opening_of s)) (heard_at (opening_of s) (entries past s)) f ≡ said_to_server (steps past) s f
said_is w s past f = ap (λ (h : Heard server.Entry). meaning (at_server s) h f) (servers_stand w s (steps past)).hears

pub frame_ok : (w : Setup) (past : List Change) (s : ℕ) (f : Frame) → framed.refusal (opening_of s) (entries past s) (inputs.Deliver f) ≡ None
    → comes_to_server (trace w past) s f (said_to_server (steps past) s f) ≡ Does (Changed (step_by past s (inputs.Deliver f)))
unfolding come
frame_ok w past s f h =
    ap (comes_to_server (trace w past) s f) (sym (said_is w s past f))
    ∙ meaning_ok (trace w past) s f (packets_heard (opening_of s) (entries past s)) (heard_is w past s)
    (meaning (rules (opening_of s)) (heard_at (opening_of s) (entries past s)) f) h

pub frame_err : (w : Setup) (past : List Change) (s : ℕ) (f : Frame) (fault : Fault) → words.is_on (packets_heard (opening_of s) (entries past s)) ≡ true
    → framed.refusal (opening_of s) (entries past s) (inputs.Deliver f) ≡ Some fault
    → DroppedOr s f fault (is_drop (sense (opening_of s) (entries past s) (inputs.Deliver f)))
    (comes_to_server (trace w past) s f (said_to_server (steps past) s f))
frame_err w past s f fault on h =
    let m = meaning (rules (opening_of s)) (heard_at (opening_of s) (entries past s)) f in
    subst (λ x. DroppedOr s f fault (is_drop (sense_of inputs.Deliver m)) (comes_to_server (trace w past) s f x)) (said_is w s past f)
    (meaning_err (trace w past) s f (packets_heard (opening_of s) (entries past s)) fault (heard_is w past s) on m h)

-- ---- what the server answers of writes

-- A frame is answered nothing of writes.
none_of_body : (now : Option Work) (b : Body) → answer_of_issue (answers.issue_for now (request_in b)) ≡ answers_told.Plain
none_of_body now (bodies.Jobs run text) = refl
none_of_body now _ = refl

none_of_request : (now : Option Work) (mine : Bool) (b : Body) → answer_of_issue (answers.issue_for now (if mine then request_in b else ToNobody)) ≡ answers_told.Plain
none_of_request now true b = none_of_body now b
none_of_request now false b = refl

none_of_meaning : (o : server.Opening) (list : List server.Entry) (m : Meaning) → answer_of_issue (heard_or None (answers.issue o list) (sense_of inputs.Deliver m)) ≡ answers_told.Plain
none_of_meaning o list (Says p) = none_of_request (words.work o list) (is_client p.from && is_server o.me p.to) p.body
none_of_meaning o list Waits = refl
none_of_meaning o list Spoils = refl
none_of_meaning o list Strays = refl

pub frame_answer : (past : List Change) (s : ℕ) (f : Frame) → answer_of_issue (framed.issue (opening_of s) (entries past s) (inputs.Deliver f)) ≡ answers_told.Plain
frame_answer past s f =
    let o = opening_of s in
    none_of_meaning o (packets_heard o (entries past s)) (meaning (rules o) (heard_at o (entries past s)) f)

-- ---- what the server asks of its caller

act_here : (t : List Step) (s : ℕ) (e : PacketInput) (x : Option Staged) (list : List server.Entry) → list ≡ of_server s t
    → act_of t (Some (AtServer s (server.Met e (saved_for x)))) ≡ answers.act (opening_of s) list e
act_here t s e x list is =
    ap (λ lost. if lost then acts.None else answers.act (opening_of s) (of_server s t) e) (not_lost x) ∙ ap (λ l. answers.act (opening_of s) l e) (sym is)

act_said : (t : List Step) (s : ℕ) (list : List server.Entry) → list ≡ of_server s t → (m : Meaning)
    → act_of t (option_map (AtServer s)
    (heard_by (rules (opening_of s)) (saved_for (heard_or None (words.due (opening_of s) list) (sense_of inputs.Deliver m))) m))
    ≡ heard_or acts.None (answers.act (opening_of s) list) (sense_of inputs.Deliver m)
act_said t s list is (Says p) = act_here t s (inputs.Deliver p) (words.due (opening_of s) list (inputs.Deliver p)) list is
act_said t s list is Waits = refl
act_said t s list is Spoils = refl
act_said t s list is Strays = refl

pub act_is : (w : Setup) (past : List Change) (s : ℕ) (e : FrameInput) → act w past (Changed (step_by past s e)) ≡ framed.act (opening_of s) (entries past s) e
act_is w past s (inputs.Deliver f) =
    let o = opening_of s in
    let list = packets_heard o (entries past s) in
    let m = meaning (rules o) (heard_at o (entries past s)) f in
    ap (λ x. act_of (trace w past) (option_map (AtServer s)
    (heard_by (rules o) (saved_for (heard_or None (words.due o list) (sense_of inputs.Deliver m))) x))) (sym (said_is w s past f))
    ∙ act_said (trace w past) s list (heard_is w past s) m
act_is w past s (inputs.Issue j) = act_here (trace w past) s (inputs.Issue j) (framed.due (opening_of s) (entries past s) (inputs.Issue j))
    (packets_heard (opening_of s) (entries past s)) (heard_is w past s)
act_is w past s (inputs.WriteDone ticket end) = act_here (trace w past) s (inputs.WriteDone ticket end)
    (framed.due (opening_of s) (entries past s) (inputs.WriteDone ticket end)) (packets_heard (opening_of s) (entries past s)) (heard_is w past s)
act_is w past s (inputs.CheckDone boot a j report) = act_here (trace w past) s (inputs.CheckDone boot a j report)
    (framed.due (opening_of s) (entries past s) (inputs.CheckDone boot a j report)) (packets_heard (opening_of s) (entries past s)) (heard_is w past s)
