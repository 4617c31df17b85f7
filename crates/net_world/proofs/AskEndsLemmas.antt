-- How a call of the client ends, as an event of a world.
use Rattle.std.proofs.Common.{◌≡◌, refl, sym, ◌∙◌, ap, subst, inl, inr, ◌⊎◌, ℕ, ◌+◌, false, List, length, Option, Some, None, Result, Ok, Err}
use Rattle.std.specs.Option.{option_map}
use Rattle.fc_base.specs.declared.fault.Fault.{Fault}
use Rattle.fc_base.specs.declared.fault.FaultSort.{FaultSort}
use Rattle.fc_base.specs.declared.fault.FaultSort.TheVariants as sorts
use Rattle.fc_base.specs.Fault.{sort_of}
use Rattle.messages.specs.Senses.{is_drop}
use Rattle.disk_model.specs.declared.save_outcome.SaveOutcome.{SaveOutcome}
use Rattle.disk_model.specs.SaveOutcome.{saved_for}
use Rattle.messages.specs.declared.node.Node.TheVariants.{Client}
use Rattle.messages.specs.declared.refusal.Act.{Act}
use Rattle.messages.specs.declared.refusal.Act.TheVariants as acts
use Rattle.messages.specs.Hearing.{Coming, Happens, entry_of, heard}
use Rattle.client_core.specs.Inputs.{PacketInput, FrameInput}
use Rattle.client_core.specs.Inputs as inputs
use Rattle.client_core.specs.History as client
use Rattle.client_core.specs.Words as words
use Rattle.client_core.specs.Hearing.{coming_of, packets_heard}
use Rattle.client_core.specs.FrameAnswers.{sense, refusal, answered_entry}
use Rattle.net_world.specs.declared.told.WorldAnswer.TheVariants as answers
use Rattle.net_world.specs.declared.told.Told.{Told}
use Rattle.net_world.specs.declared.world.World.{World}
use Rattle.net_world.specs.Setup.{Setup}
use Rattle.net_world.specs.Happenings.{Happening}
use Rattle.net_world.specs.Happenings as happenings
use Rattle.net_world.specs.Trace.{Step, AtClient, of_client, client_opening}
use Rattle.net_world.specs.Frames as frames
use Rattle.net_world.specs.Frames.{OfClient, at_client, frames_sent, frames_of_step}
use Rattle.net_world.specs.Changes.{Change, Met, steps, trace}
use Rattle.net_world.specs.Barred.{unless_on, barring_fault}
use Rattle.net_world.specs.Outcomes.{Does, Refuses, outcome_of_step, met_by_client, brings}
use Rattle.net_world.specs.World.{answer, told_by, told_of_happening, act, act_of}
use Rattle.net_world.specs.ClientNodes.{answer_to}
use Rattle.net_world.specs.Stands.{StandsFor}
use Rattle.net_world.specs.Ends as ends
use Rattle.net_world.specs.Ends.{Ends, changes_after}
use Rattle.net_world.specs.Asking as asking
use Rattle.net_world.specs.Asking.{entries, step_by, IsAnswered, IsBarred, Refuses as ClientRefuses, ClientEnds}
use Rattle.net_world.proofs.ClientHeardLemmas.{heard_is}
use Rattle.net_world.proofs.EndsLemmas.{goes, stops, does, refusing}

-- ---- what comes of a call

met_here : (w : Setup) (t : List Step) (c : PacketInput) → words.refusal (client_opening w) (of_client w t) c ≡ None
    → met_by_client w t c ≡ Ok (OfClient (Happens (client.Met c (saved_for (words.due (client_opening w) (of_client w t) c)))))
met_here w t c h = rw h refl

pub met_ok : (w : Setup) (t : List Step) (c : PacketInput) (list : List client.Entry) → list ≡ of_client w t → words.refusal (client_opening w) list c ≡ None
    → met_by_client w t c ≡ Ok (OfClient (Happens (client.Met c (saved_for (words.due (client_opening w) list c)))))
met_ok w t c list is =
    subst (λ l. words.refusal (client_opening w) l c ≡ None
    → met_by_client w t c ≡ Ok (OfClient (Happens (client.Met c (saved_for (words.due (client_opening w) l c)))))) (sym is) (met_here w t c)

err_here : (w : Setup) (t : List Step) (c : PacketInput) (fault : Fault) → words.refusal (client_opening w) (of_client w t) c ≡ Some fault
    → met_by_client w t c ≡ Err fault
err_here w t c fault h = rw h refl

pub met_err : (w : Setup) (t : List Step) (c : PacketInput) (list : List client.Entry) (fault : Fault) → list ≡ of_client w t
    → words.refusal (client_opening w) list c ≡ Some fault → met_by_client w t c ≡ Err fault
met_err w t c list fault is h = err_here w t c fault (ap (λ l. words.refusal (client_opening w) l c) (sym is) ∙ h)

-- ---- an event that the client meets

-- What happens comes to the client as this, and is barred as all that asks for it to be on.
pub record ComesToClient (w : Setup) (past : List Change) (e : Happening) (i : FrameInput) : Type 0 where
  pub bar : barring_fault w (trace w past) (frames_sent w (steps past)) e ≡ unless_on w (trace w past) Client
  pub ok : refusal (client_opening w) (entries w past) i ≡ None → brings w past e ≡ Does (Met (step_by w past i))
  pub err : (fault : Fault) → refusal (client_opening w) (entries w past) i ≡ Some fault → brings w past e ≡ Refuses fault
  pub keeps : is_drop (sense (client_opening w) (entries w past) i) ≡ false
  pub answers : answer_to (client_opening w) (entries w past) i ≡ answer w past e

no_act : (t : List Step) (x : Option client.Entry) → act_of t (option_map AtClient x) ≡ acts.None
no_act t None = refl
no_act t (Some e) = refl

pub client_act : (w : Setup) (past : List Change) (c : Coming client.Entry SaveOutcome) → act w past (Met (OfClient c)) ≡ acts.None
client_act w past c = no_act (trace w past) (entry_of (at_client w) (heard (at_client w) (frames.of_client w (steps past))) c)

pub told_is : (w : Setup) (past : List Change) (e : Happening) (i : FrameInput) (t : Told) (new : World) → IsAnswered w past i new t
    → answer_to (client_opening w) (entries w past) i ≡ answer w past e
    → told_by w past e (Does (Met (step_by w past i))) ≡ Ok t
told_is w past e i t new h is =
    ap (λ t. Ok t)
    (sym (h.told_is
    ∙ ap (λ a. record {
      answer = a;
      first = length (frames_sent w (steps past));
      sent = length (frames_of_step w (steps past) (step_by w past i));
      act = acts.None;
    }) is
    ∙ ap (λ a. record {
      answer = answer w past e;
      first = length (frames_sent w (steps past));
      sent = length (frames_of_step w (steps past) (step_by w past i));
      act = a;
    })
    (sym (client_act w past (coming_of (answered_entry (client_opening w) (entries w past) i))))))

answered_ends : (w : Setup) (past : List Change) (e : Happening) (i : FrameInput) (t : Told) (new : World) → ComesToClient w past e i
    → ClientEnds w past i new (Ok t) → Ends w past e new (Ok t)
answered_ends w past e i t new c h =
    does w past e (Met (step_by w past i)) t new (goes w past e (c.bar ∙ h.on) ∙ c.ok h.free) (told_is w past e i t new h c.answers) h.stands

refused_ends : (w : Setup) (past : List Change) (e : Happening) (i : FrameInput) (fault : Fault) (new : World) → ComesToClient w past e i
    → IsBarred w past fault new ⊎ ClientRefuses w past i fault new
    → (told_of_happening w past e ≡ Err fault) × StandsFor w (changes_after w past e) new
refused_ends w past e i fault new c (inl b) = refusing w past e fault new (stops w past e fault (c.bar ∙ b.why)) b.unchanged
refused_ends w past e i fault new c (inr r) = refusing w past e fault new (goes w past e (c.bar ∙ r.on) ∙ c.err fault r.why) (r.unchanged c.keeps)

by_sort : (w : Setup) (past : List Change) (e : Happening) (i : FrameInput) (fault : Fault) (new : World) → ComesToClient w past e i → (sort : FaultSort)
    → asking.Faults w past i sort fault new → ends.Faults w past e sort fault new
by_sort w past e i fault new c sorts.Memory h = h
by_sort w past e i fault new c sorts.Save h = h
by_sort w past e i fault new c sorts.Refusal h = refused_ends w past e i fault new c h

unanswered_ends : (w : Setup) (past : List Change) (e : Happening) (i : FrameInput) (fault : Fault) (new : World) → ComesToClient w past e i
    → ClientEnds w past i new (Err fault) → Ends w past e new (Err fault)
unanswered_ends w past e i fault new c h = by_sort w past e i fault new c (sort_of fault) h

-- A call of the client ends as the event that it comes from.
pub asked_ends : (w : Setup) (past : List Change) (e : Happening) (i : FrameInput) (result : Result Told Fault) (new : World) → ComesToClient w past e i
    → ClientEnds w past i new result → Ends w past e new result
asked_ends w past e i (Ok t) new c h = answered_ends w past e i t new c h
asked_ends w past e i (Err fault) new c h = unanswered_ends w past e i fault new c h

-- ---- the five calls

module _ (w : Setup) (past : List Change) where
  here : packets_heard (client_opening w) (entries w past) ≡ of_client w (trace w past)
  here = heard_is w past

  ok_by : (e : Happening) (c : PacketInput) → brings w past e ≡ outcome_of_step (met_by_client w (trace w past) c)
      → words.refusal (client_opening w) (packets_heard (client_opening w) (entries w past)) c ≡ None
      → brings w past e ≡ Does (Met (OfClient (Happens (client.Met c
      (saved_for (words.due (client_opening w) (packets_heard (client_opening w) (entries w past)) c))))))
  ok_by e c is free = is ∙ ap outcome_of_step (met_ok w (trace w past) c (packets_heard (client_opening w) (entries w past)) here free)

  err_by : (e : Happening) (c : PacketInput) → brings w past e ≡ outcome_of_step (met_by_client w (trace w past) c) → (fault : Fault)
      → words.refusal (client_opening w) (packets_heard (client_opening w) (entries w past)) c ≡ Some fault → brings w past e ≡ Refuses fault
  err_by e c is fault why = is ∙ ap outcome_of_step (met_err w (trace w past) c (packets_heard (client_opening w) (entries w past)) fault here why)

  pub begins : (text : List ℕ) → ComesToClient w past (happenings.Begin text) (inputs.Begin text)
  begins text = record {
    bar = refl;
    ok = ok_by (happenings.Begin text) (inputs.Begin text) refl;
    err = err_by (happenings.Begin text) (inputs.Begin text) refl;
    keeps = refl;
    answers = ap (λ list. answers.Run ((words.words_noted (client_opening w) list).runs + 1)) here;
  }

  pub verifies : (run : ℕ) (text : List ℕ) → ComesToClient w past (happenings.Verify run text) (inputs.Verify run text)
  verifies run text = record {
    bar = refl;
    ok = ok_by (happenings.Verify run text) (inputs.Verify run text) refl;
    err = err_by (happenings.Verify run text) (inputs.Verify run text) refl;
    keeps = refl;
    answers = ap (λ list. answers.Attempt ((words.words_noted (client_opening w) list).attempts + 1)) here;
  }

  pub triggers : (run : ℕ) (asked : Act) → ComesToClient w past (happenings.Trigger run asked) (inputs.Trigger run asked)
  triggers run asked = record {
    bar = refl;
    ok = ok_by (happenings.Trigger run asked) (inputs.Trigger run asked) refl;
    err = err_by (happenings.Trigger run asked) (inputs.Trigger run asked) refl;
    keeps = refl;
    answers = refl;
  }

  pub stops_run : (run : ℕ) → ComesToClient w past (happenings.StopRun run) (inputs.Stop run)
  stops_run run = record {
    bar = refl;
    ok = ok_by (happenings.StopRun run) (inputs.Stop run) refl;
    err = err_by (happenings.StopRun run) (inputs.Stop run) refl;
    keeps = refl;
    answers = refl;
  }

  pub ticks : ComesToClient w past happenings.Tick inputs.Tick
  ticks = record {
    bar = refl;
    ok = ok_by happenings.Tick inputs.Tick refl;
    err = err_by happenings.Tick inputs.Tick refl;
    keeps = refl;
    answers = refl;
  }
