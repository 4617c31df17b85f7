-- What happens to a server without a frame or an answer: it is cut, and restarted.
use Rattle.std.proofs.Common.{◌≡◌, refl, sym, ◌∙◌, ap, ℕ, ◌+◌, ◌^◌, ◌<◌, ◌≤◌, Bool, true, false, List, [], ◌∷◌, length, Some, None, Ok, Err}
use Rattle.std.specs.Prelude.{if◌then◌else◌, map, not, nat_lt}
use Rattle.std.specs.Option.{option_or}
use Rattle.std.proofs.lemmas.Bool.{lt-ltb, le-ltb}
use Rattle.fc_base.specs.declared.fault.Fault.{Fault}
use Rattle.fc_base.specs.declared.fault.Fault.TheVariants.{NoServer, NodeOn, NoMemory, NumbersSpent}
use Rattle.disk_model.specs.declared.save_outcome.SaveOutcome.TheVariants as lefts
use Rattle.messages.specs.FrameBytes.{frame_spelling}
use Rattle.messages.specs.declared.node.Node.TheVariants as nodes
use Rattle.messages.specs.declared.refusal.Act.{Act}
use Rattle.messages.specs.declared.refusal.Act.TheVariants as acts
use Rattle.server_core.specs.Words as words
use Rattle.server_core.specs.Hearing as hearing
use Rattle.server_core.specs.Hearing.{FrameEntry, is_up, packets_heard}
use Rattle.net_world.specs.ServerNodes.{ServerNode}
use Rattle.net_world.specs.declared.told.WorldAnswer.{WorldAnswer}
use Rattle.net_world.specs.declared.told.WorldAnswer.TheVariants.{Plain}
use Rattle.net_world.specs.declared.told.Told.{Told}
use Rattle.net_world.specs.declared.world.World.{World}
use Rattle.net_world.specs.Setup.{Setup}
use Rattle.net_world.specs.Happenings.{Happening, Cut, Restart}
use Rattle.net_world.specs.Trace.{opening_of, of_server}
use Rattle.net_world.specs.Frames.{FrameStep, frames_sent, frames_of_step}
use Rattle.net_world.specs.Changes.{Change, Met, steps, trace}
use Rattle.net_world.specs.Barred.{unless_on, unless_off, is_on, unless}
use Rattle.server_core.specs.Words.{has_boot}
use Rattle.net_world.specs.Outcomes.{Does, Refuses, outcome_of_step, outcome}
use Rattle.net_world.specs.World.{answer, act, told_by, frame_count}
use Rattle.net_world.specs.Telling.{plainly_told}
use Rattle.net_world.specs.Sending.{sent_in}
use Rattle.net_world.specs.ServerNodes as servers
use Rattle.net_world.specs.Stands.{StandsFor}
use Rattle.net_world.specs.Ends.{Ends}
use Rattle.net_world.specs.Serving.{entries, step_of}
use Rattle.net_world.proofs.MetLemmas.{HasMoved, server_stepped, server_kept}
use Rattle.net_world.proofs.ServeLemmas.{heard_is, up_is, frames_are, first_is, first_fails}
use Rattle.net_world.proofs.EndsLemmas.{does, goes, stops, refuses}

-- ---- a step that sends nothing and is told plainly

pub record IsPlain (w : Setup) (past : List Change) (e : Happening) (step : FrameStep) : Type 0 where
  pub comes : outcome w past e ≡ Does (Met step)
  pub answered : answer w past e ≡ Plain
  pub silent : frames_of_step w (steps past) step ≡ []
  pub asks : act w past (Met step) ≡ acts.None

plain_told : (a : WorldAnswer) (first sent : ℕ) (asked : Act) → a ≡ Plain → sent ≡ 0 → asked ≡ acts.None
    → record { answer = a; first = first; sent = sent; act = asked } ≡ plainly_told first
plain_told a first sent asked e f g = rw (e, f, g) refl

pub told_plainly : (w : Setup) (past : List Change) (e : Happening) (step : FrameStep) (first : ℕ) (t : Told) → IsPlain w past e step
    → first ≡ length (frames_sent w (steps past)) → t ≡ plainly_told first → told_by w past e (Does (Met step)) ≡ Ok t
told_plainly w past e step first t p f tells =
    ap (λ x. Ok x)
    (plain_told (answer w past e) (length (frames_sent w (steps past))) (frame_count w past (Met step)) (act w past (Met step)) p.answered
    (ap (λ fs. length fs) p.silent) p.asks
    ∙ ap plainly_told (sym f) ∙ sym tells)

pub plain_ends : (w : Setup) (past : List Change) (s : ℕ) (e : Happening) (entry : FrameEntry) (node : ServerNode) (first : ℕ) (t : Told) (old new : World)
    → StandsFor w past old → HasMoved s node [] old new
    → servers.Stands (opening_of s) (entry ∷ entries past s) node → IsPlain w past e (step_of s entry) → first ≡ length (sent_in old.sent)
    → t ≡ plainly_told first → Ends w past e new (Ok t)
plain_ends w past s e entry node first t old new stands moved node_is p f tells =
    does w past e (Met (step_of s entry)) t new p.comes (told_plainly w past e (step_of s entry) first t p (f ∙ first_is w past old stands) tells)
    (server_stepped w past s entry node [] old new stands moved (ap (map frame_spelling) (sym p.silent)) node_is)

-- ---- a cut

cut_silent : (w : Setup) (past : List Change) (s : ℕ) → frames_of_step w (steps past) (step_of s hearing.Cut) ≡ []
cut_silent w past s = sym (frames_are w past s hearing.Cut)

pub cut_plain : (w : Setup) (past : List Change) (s : ℕ) → unless_on w (trace w past) (nodes.Server s) ≡ None
    → IsPlain w past (Cut (nodes.Server s)) (step_of s hearing.Cut)
cut_plain w past s h = record { comes = goes w past (Cut (nodes.Server s)) h; answered = refl; silent = cut_silent w past s; asks = refl }

-- ---- a restart

restart_silent : (w : Setup) (past : List Change) (s : ℕ) → frames_of_step w (steps past) (step_of s (hearing.Restart lefts.Saved)) ≡ []
restart_silent w past s = sym (frames_are w past s (hearing.Restart lefts.Saved))

pub boot_is : (w : Setup) (past : List Change) (s : ℕ) → has_boot (opening_of s) (packets_heard (opening_of s) (entries past s))
    ≡ has_boot (opening_of s) (of_server s (trace w past))
boot_is w past s = ap (λ list. nat_lt (words.boot (opening_of s) list + 1) (2 ^ 64)) (heard_is w past s)

on_test : (a b : Bool) (f g : Fault) → a ≡ true → b ≡ false → option_or (unless a f) (unless (not b) g) ≡ None
on_test a b f g h k = rw (h, k) refl

on_fails : (a b : Bool) (f g : Fault) → a ≡ true → b ≡ true → option_or (unless a f) (unless (not b) g) ≡ Some g
on_fails a b f g h k = rw (h, k) refl

pub none_on : (w : Setup) (past : List Change) (s : ℕ) → w.servers ≤ s → unless_off w (trace w past) (nodes.Server s) ≡ Some NoServer
none_on w past s h = first_fails (nat_lt s w.servers) (not (is_on w (trace w past) (nodes.Server s))) NoServer NodeOn (le-ltb s w.servers h)

pub may_restart : (w : Setup) (past : List Change) (s : ℕ) → s < w.servers → is_up (opening_of s) (entries past s) ≡ false
    → unless_off w (trace w past) (nodes.Server s) ≡ None
may_restart w past s l h =
    on_test (nat_lt s w.servers) (is_on w (trace w past) (nodes.Server s)) NoServer NodeOn (lt-ltb s w.servers l) (sym (up_is w past s) ∙ h)

pub runs_on : (w : Setup) (past : List Change) (s : ℕ) → s < w.servers → is_up (opening_of s) (entries past s) ≡ true
    → unless_off w (trace w past) (nodes.Server s) ≡ Some NodeOn
runs_on w past s l h = on_fails (nat_lt s w.servers) (is_on w (trace w past) (nodes.Server s)) NoServer NodeOn (lt-ltb s w.servers l) (sym (up_is w past s) ∙ h)

pub restart_plain : (w : Setup) (past : List Change) (s : ℕ) → unless_off w (trace w past) (nodes.Server s) ≡ None
    → has_boot (opening_of s) (packets_heard (opening_of s) (entries past s)) ≡ true
    → IsPlain w past (Restart (nodes.Server s)) (step_of s (hearing.Restart lefts.Saved))
restart_plain w past s h b = record {
  comes = goes w past (Restart (nodes.Server s)) h ∙ ap (λ x. outcome_of_step (if x then Ok (step_of s (hearing.Restart lefts.Saved)) else Err NumbersSpent))
      (sym (boot_is w past s) ∙ b);
  answered = refl;
  silent = restart_silent w past s;
  asks = refl;
}

pub restart_spent : (w : Setup) (past : List Change) (s : ℕ) → unless_off w (trace w past) (nodes.Server s) ≡ None
    → has_boot (opening_of s) (packets_heard (opening_of s) (entries past s)) ≡ false → outcome w past (Restart (nodes.Server s)) ≡ Refuses NumbersSpent
restart_spent w past s h b =
    goes w past (Restart (nodes.Server s)) h ∙ ap (λ x. outcome_of_step (if x then Ok (step_of s (hearing.Restart lefts.Saved)) else Err NumbersSpent))
    (sym (boot_is w past s) ∙ b)

-- How a restart of the node ends in a world.
pub restart_ends : (w : Setup) (past : List Change) (s : ℕ) (node : ServerNode) (fault : Fault) (old new : World) → StandsFor w past old
    → HasMoved s node [] old new → s < w.servers
    → servers.Restarts (opening_of s) (entries past s) node (Err fault) → Ends w past (Restart (nodes.Server s)) new (Err fault)
restart_ends w past s node NodeOn old new stands moved l h =
    refuses w past (Restart (nodes.Server s)) NodeOn new refl (stops w past (Restart (nodes.Server s)) NodeOn (runs_on w past s l h.0))
    (server_kept w past s node old new stands moved h.1)
restart_ends w past s node NumbersSpent old new stands moved l h =
    refuses w past (Restart (nodes.Server s)) NumbersSpent new refl (restart_spent w past s (may_restart w past s l h.0) h.1)
    (server_kept w past s node old new stands moved h.2)
restart_ends w past s node NoMemory old new stands moved l h = (refl, server_kept w past s node old new stands moved h.1)
restart_ends w past s node _ old new stands moved l h = let wrong = h.3 in absurd cc
