-- A server takes what comes over a network of frames as its list does.
use Rattle.std.proofs.Common.{◌≡◌, refl, sym, ◌∙◌, ap, subst, ℕ, ◌≤◌, arith, length, List, None, Result, Ok, Err}
use Rattle.std.specs.Prelude.{map}
use Rattle.std.proofs.lemmas.List.Elements.{All-nil}
use Rattle.fc_base.specs.declared.fault.Fault.{Fault}
use Rattle.fc_base.specs.Fault.{sort_of}
use Rattle.messages.specs.declared.limits.TheConstants.{MAX_FRAME}
use Rattle.disk_model.specs.Notes.{Note}
use Rattle.node.specs.Steps.{Ends}
use Rattle.messages.specs.declared.refusal.Act.TheVariants as acts
use Rattle.messages.specs.Senses.{Sense, Hears, Keeps, Drops, Misses, Unframed, heard_or}
use Rattle.node.specs.Hearers as hearers
use Rattle.node.proofs.HearerLemmas.{with_core, unframed_ends}
use Rattle.node.proofs.NodeLemmas.{answers, faults, sent}
use Rattle.server_core.specs.Inputs.{PacketInput, FrameInput}
use Rattle.server_core.specs.declared.outs.Outs.{Outs}
use Rattle.server_core.specs.declared.packet_server.PacketServer.{PacketServer}
use Rattle.server_core.specs.declared.server.Server.{Server}
use Rattle.server_core.specs.History.{Opening}
use Rattle.server_core.specs.Answers as core
use Rattle.server_core.specs.Ends as whole
use Rattle.server_core.specs.Hearing.{FrameEntry, arrival, coming_of, packets_heard}
use Rattle.server_core.specs.FrameAnswers.{sense}
use Rattle.server_core.specs.HearingKind.{hearing_kind, hearing_laws}
use Rattle.server_core.specs.FrameEnds.{StandsFor, Sends, server_node, steps}

-- What is answered and sent is what the list says.
sends : {T : Type 0} (note : T → Note) (o : Opening) (past : List FrameEntry) (e : FrameInput) (outs : Outs) (s : Sense PacketInput) → sense o past e ≡ s
    → hearers.Sends (hearing_kind note o) (packets_heard o past) s outs → Sends o past e outs
sends note o past e outs (Hears x) is a =
    let list = packets_heard o past in
    record {
      frames_are = a.frames_are ∙ sent (hearing_kind note o) (core.packets o) (map coming_of past) (arrival e) (Hears x) is;
      issue_is = a.issue_is ∙ sym (ap (heard_or None (core.issue o list)) is);
      act_is = a.act_is ∙ sym (ap (heard_or acts.None (core.act o list)) is);
      short = a.short;
    }
sends note o past e outs Keeps is a =
    let list = packets_heard o past in
    record {
      frames_are = ap (λ (outs : Outs). outs.frames) a ∙ sent (hearing_kind note o) (core.packets o) (map coming_of past) (arrival e) Keeps is;
      issue_is = ap (λ (outs : Outs). outs.issue) a ∙ sym (ap (heard_or None (core.issue o list)) is);
      act_is = ap (λ (outs : Outs). outs.act) a ∙ sym (ap (heard_or acts.None (core.act o list)) is);
      short = λ i h. rw a (record { few = omega arith; short = All-nil (λ (frame : List ℕ). length frame ≤ MAX_FRAME) });
    }
sends note o past e outs Drops is a = absurd a
sends note o past e outs Misses is a = absurd a

-- A server ends as what hears in it.
pub hearer_ends : {T : Type 0} (note : T → Note) (o : Opening) (past : List FrameEntry) (e : FrameInput) (old new : Server T) (result : Result Outs Fault)
    → Ends (hearers.steps (hearing_kind note o)) (map coming_of past) (arrival e) old.hearer new.hearer result → Ends (steps note o) past e old new result
hearer_ends note o past e old new (Ok outs) h =
    answers (server_node note o) (λ e left. refl) past e old new outs (sends note o past e outs (sense o past e) refl h.sends) h
hearer_ends note o past e old new (Err fault) h = faults (server_node note o) (λ e left. refl) past e old new (sort_of fault) fault h

-- What isn't a frame is heard as it comes.
pub whole_ends : {T : Type 0} (note : T → Note) (o : Opening) (past : List FrameEntry) (e : FrameInput) (x : PacketInput) (old : Server T) (core : PacketServer T)
    (result : Result Outs Fault) → arrival e ≡ Unframed x → StandsFor note old o past
    → Ends (whole.steps note o) (packets_heard o past) x old.hearer.core core result
    → Ends (steps note o) past e old (record old { hearer = with_core old.hearer core }) result
whole_ends note o past e x old core result is w h =
    hearer_ends note o past e old (record old { hearer = with_core old.hearer core }) result
    (subst (λ a. Ends (hearers.steps (hearing_kind note o)) (map coming_of past) a old.hearer (with_core old.hearer core) result) (sym is)
    (unframed_ends (hearing_kind note o) (hearing_laws note o) (map coming_of past) x old.hearer core result w h))
