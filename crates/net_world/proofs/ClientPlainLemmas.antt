-- What happens to the client without a frame or an answer: it is cut, and restarted.
use Rattle.std.proofs.Common.{◌≡◌, refl, sym, ◌∙◌, ap, ℕ, Bool, true, false, ◌&&◌, List, [], ◌∷◌, length, Ok, Err}
use Rattle.std.specs.Prelude.{map, not, if◌then◌else◌}
use Rattle.fc_base.specs.declared.fault.Fault.{Fault}
use Rattle.fc_base.specs.declared.fault.Fault.TheVariants.{BadNote, NodeOff, NodeOn, NoMemory}
use Rattle.messages.specs.FrameBytes.{frame_spelling}
use Rattle.messages.specs.declared.node.Node.TheVariants.{Client}
use Rattle.messages.specs.Hearing.{Happens}
use Rattle.client_core.specs.History as client
use Rattle.client_core.specs.Note.{is_blank}
use Rattle.client_core.specs.Words.{words_noted}
use Rattle.client_core.specs.Hearing as hearing
use Rattle.client_core.specs.Hearing.{FrameEntry, is_up}
use Rattle.net_world.specs.declared.told.Told.{Told}
use Rattle.net_world.specs.declared.world.World.{World}
use Rattle.net_world.specs.Setup.{Setup}
use Rattle.net_world.specs.Happenings.{Happening, Cut, Restart}
use Rattle.net_world.specs.Trace.{client_opening}
use Rattle.net_world.specs.Changes.{Change, Met, trace}
use Rattle.net_world.specs.Frames.{OfClient}
use Rattle.net_world.specs.Barred.{unless}
use Rattle.net_world.specs.Outcomes.{Refuses, outcome_of_step, noted_in, outcome}
use Rattle.net_world.specs.Telling.{plainly_told}
use Rattle.net_world.specs.Sending.{sent_in}
use Rattle.net_world.specs.ClientNodes as nodes
use Rattle.net_world.specs.ClientNodes.{handed_in, lacks_note}
use Rattle.net_world.specs.Stands.{StandsFor}
use Rattle.net_world.specs.Ends.{Ends}
use Rattle.net_world.specs.Asking.{entries, step_of}
use Rattle.net_world.proofs.ServeLemmas.{first_is}
use Rattle.net_world.proofs.EndsLemmas.{does, goes, stops, refuses}
use Rattle.net_world.proofs.PlainLemmas.{IsPlain, told_plainly}
use Rattle.net_world.proofs.ClientHeardLemmas.{heard_is, frames_are}
use Rattle.net_world.proofs.AskLemmas.{up_is, HasMoved, client_stepped, client_kept}

pub plain_ends : (w : Setup) (past : List Change) (e : Happening) (entry : FrameEntry) (first : ℕ) (t : Told) (old new : World) → StandsFor w past old
    → HasMoved [] old new
    → nodes.Stands (client_opening w) (entry ∷ entries w past) new.client → IsPlain w past e (step_of entry)
    → handed_in (entry ∷ entries w past) ≡ handed_in (entries w past) → first ≡ length (sent_in old.sent) → t ≡ plainly_told first
    → Ends w past e new (Ok t)
plain_ends w past e entry first t old new stands moved node_is p none f tells =
    does w past e (Met (step_of entry)) t new p.comes (told_plainly w past e (step_of entry) first t p (f ∙ first_is w past old stands) tells)
    (client_stepped w past entry [] old new stands moved (ap (map frame_spelling) (sym p.silent)) node_is none)

-- ---- a cut

pub cut_off : (w : Setup) (past : List Change) → is_up (client_opening w) (entries w past) ≡ false → outcome w past (Cut Client) ≡ Refuses NodeOff
cut_off w past h = stops w past (Cut Client) NodeOff (ap (λ on. unless on NodeOff) (sym (up_is w past) ∙ h))

pub cut_plain : (w : Setup) (past : List Change) → is_up (client_opening w) (entries w past) ≡ true → IsPlain w past (Cut Client) (step_of hearing.Cut)
cut_plain w past h = record {
  comes = goes w past (Cut Client) (ap (λ on. unless on NodeOff) (sym (up_is w past) ∙ h));
  answered = refl;
  silent = sym (frames_are w past hearing.Cut);
  asks = refl;
}

-- ---- a restart

pub restart_on : (w : Setup) (past : List Change) → is_up (client_opening w) (entries w past) ≡ true → outcome w past (Restart Client) ≡ Refuses NodeOn
restart_on w past h = stops w past (Restart Client) NodeOn (ap (λ on. unless (not on) NodeOn) (sym (up_is w past) ∙ h))

pub lacks_is : (w : Setup) (past : List Change) → lacks_note (client_opening w) (entries w past) w.mirror ≡ (w.mirror && is_blank (noted_in w (trace w past)))
lacks_is w past = ap (λ list. w.mirror && is_blank (words_noted (client_opening w) list)) (heard_is w past)

comes_of : (w : Setup) (past : List Change) → is_up (client_opening w) (entries w past) ≡ false → (b : Bool)
    → lacks_note (client_opening w) (entries w past) w.mirror ≡ b
    → outcome w past (Restart Client) ≡ outcome_of_step (if b then Err BadNote else Ok (OfClient (Happens (client.Restart w.mirror))))
comes_of w past h b lacks =
    goes w past (Restart Client) (ap (λ on. unless (not on) NodeOn) (sym (up_is w past) ∙ h))
    ∙ ap (λ x. outcome_of_step (if x then Err BadNote else Ok (OfClient (Happens (client.Restart w.mirror))))) (sym (lacks_is w past) ∙ lacks)

pub restart_plain : (w : Setup) (past : List Change) → is_up (client_opening w) (entries w past) ≡ false
    → lacks_note (client_opening w) (entries w past) w.mirror ≡ false → IsPlain w past (Restart Client) (step_of (hearing.Restart w.mirror))
restart_plain w past h noted = record {
  comes = comes_of w past h false noted;
  answered = refl;
  silent = sym (frames_are w past (hearing.Restart w.mirror));
  asks = refl;
}

pub restart_bad : (w : Setup) (past : List Change) → is_up (client_opening w) (entries w past) ≡ false
    → lacks_note (client_opening w) (entries w past) w.mirror ≡ true → outcome w past (Restart Client) ≡ Refuses BadNote
restart_bad w past h lacks = comes_of w past h true lacks

-- How a restart that isn't answered ends.
pub restart_ends : (w : Setup) (past : List Change) (fault : Fault) (old new : World) → StandsFor w past old → HasMoved [] old new
    → nodes.Restarts (client_opening w) (entries w past) w.mirror new.client (Err fault)
    → Ends w past (Restart Client) new (Err fault)
restart_ends w past NodeOn old new stands h r =
    refuses w past (Restart Client) NodeOn new refl (restart_on w past r.0) (client_kept w past old new stands h r.1)
restart_ends w past BadNote old new stands h r =
    refuses w past (Restart Client) BadNote new refl (restart_bad w past r.0 r.1) (client_kept w past old new stands h r.2)
restart_ends w past NoMemory old new stands h r = (refl, client_kept w past old new stands h r.1)
restart_ends w past _ old new stands h r = let wrong = r.3 in absurd cc
