-- What may come to the nodes of a fleet.
use Rattle.std.proofs.Common.{◌≡◌, refl, sym, subst, ℕ, ◌<◌, Bool, true, false, List, [], ◌∷◌, ◌++◌, Option, Some, None}
use Rattle.std.specs.Prelude.{Contains, IsTrue, not, ◌&&◌, ◌||◌, nat_lt, if◌then◌else◌}
use Rattle.std.proofs.lemmas.List.Elements.{Contains-append_left}
use Rattle.messages.specs.declared.frame.Frame.{Frame}
use Rattle.messages.specs.declared.node.Node.TheVariants.{Server, Client, Mirror}
use Rattle.server_core.specs.declared.input.Input.TheVariants as server_inputs
use Rattle.server_core.specs.Hearing.{FrameEntry as ServerEntry, Met as ServerMet, Cut as ServerCut, Restart as ServerRestart, coming_of as server_coming}
use Rattle.client_core.specs.History as client
use Rattle.client_core.specs.Inputs as client_inputs
use Rattle.client_core.specs.Hearing.{FrameEntry as ClientEntry, Met as ClientMet, Cut as ClientCut, Restart as ClientRestart, Renew, Lose, coming_of as client_coming, packets_heard}
use Rattle.client_core.specs.Numbering.{generations}
use Rattle.client_core.specs.Words.{words_noted}
use Rattle.mirror_core.specs.History as mirror
use Rattle.fc_base.specs.Counted.{has}
use Rattle.fc_base.specs.Report.{is_report}
use Rattle.messages.specs.Ranges.{is_generation}
use Rattle.net_world.specs.Setup.{Setup}
use Rattle.net_world.specs.Trace.{client_opening}
use Rattle.net_world.specs.Trace as packets
use Rattle.net_world.specs.Frames.{FrameStep, to_of, OfServer, OfClient, OfMirror, trace_heard, MayHappen, is_allowed}
use Rattle.net_world.specs.InRange.{FrameStepFits}
use Rattle.messages.specs.declared.node.Node.{Node}
use Rattle.messages.specs.FrameBytes.{frame_at}
use Rattle.filters.specs.declared.kinds.InRecordKind.{InRecordKind as Kind}
use Rattle.filters.specs.declared.kinds.InRecordKind.TheVariants as kinds
use Rattle.filters.specs.Kinds.{told_numbered}
use Rattle.filter_traces.specs.Members.{Happening, Answers, Ends, EndsWithin}
use Rattle.filter_traces.specs.Members.{may_restart, may_renew}

-- ---- what is read

-- A frame was sent, and goes to this node.
abbrev pub GoesTo : List Frame → Node → Frame → Type 0
GoesTo sent node f = Contains sent f × (to_of f ≡ node)

-- The frame that stands in a record of this kind, if one does.
abbrev pub frame_if : Option Kind → List ℕ → Option Frame
frame_if (Some kinds.Frame) body = frame_at body
frame_if _ body = None

-- The frame that is read.
abbrev pub frame_read : Happening → Option Frame
frame_read (Answers r answer) = frame_if (told_numbered r.kind) r.body
frame_read Ends = None
frame_read (EndsWithin r part) = frame_if (told_numbered r.kind) r.body

-- ---- what may come

-- What may come to the client behind this list, where these frames were sent.
abbrev pub ClientMay : Setup → List Frame → List ClientEntry → ClientEntry → Type 0
ClientMay w sent past (ClientMet (client_inputs.Deliver f) left) = GoesTo sent Client f
ClientMay w sent past (ClientMet (client_inputs.Begin text) left) = Unit {0}
ClientMay w sent past (ClientMet (client_inputs.Trigger run act) left) = Unit {0}
ClientMay w sent past (ClientMet (client_inputs.Stop run) left) = Unit {0}
ClientMay w sent past (ClientMet (client_inputs.Verify run text) left) = Unit {0}
ClientMay w sent past (ClientMet client_inputs.Tick left) = Unit {0}
ClientMay w sent past ClientCut = Unit {0}
ClientMay w sent past (ClientRestart mirrored) = (mirrored ≡ w.mirror) × IsTrue (may_restart w past)
ClientMay w sent past (Renew g left) = IsTrue (may_renew w past g)
ClientMay w sent past Lose = w.mirror ≡ true

-- All this may come, one behind the other, behind an older list.
abbrev pub AllMay : Setup → List Frame → List ClientEntry → List ClientEntry → Type 0
AllMay w sent older [] = Unit {0}
AllMay w sent older (c ∷ more) = ClientMay w sent (more ++ older) c × AllMay w sent older more

-- To a server.
abbrev pub ServerMay : ℕ → List Frame → ServerEntry → Type 0
ServerMay s sent (ServerMet (server_inputs.Deliver f) left) = GoesTo sent (Server s) f
ServerMay s sent (ServerMet (server_inputs.Issue j) left) = Unit {0}
ServerMay s sent (ServerMet (server_inputs.WriteDone ticket end) left) = Unit {0}
ServerMay s sent (ServerMet (server_inputs.CheckDone boot a j report) left) = IsTrue (is_report report)
ServerMay s sent ServerCut = Unit {0}
ServerMay s sent (ServerRestart left) = Unit {0}

-- And to the mirror.
abbrev pub MirrorMay : List Frame → mirror.Entry → Type 0
MirrorMay sent (mirror.Met f left) = GoesTo sent Mirror f
MirrorMay sent mirror.Cut = Unit {0}
MirrorMay sent mirror.Restart = Unit {0}

pub client_happens : (w : Setup) (sent : List Frame) (past : List ClientEntry) (c : ClientEntry) → ClientMay w sent past c → MayHappen sent (OfClient (client_coming c))
client_happens w sent past (ClientMet (client_inputs.Deliver f) left) h = h
client_happens w sent past (ClientMet (client_inputs.Begin text) left) h = refl
client_happens w sent past (ClientMet (client_inputs.Trigger run act) left) h = refl
client_happens w sent past (ClientMet (client_inputs.Stop run) left) h = refl
client_happens w sent past (ClientMet (client_inputs.Verify run text) left) h = refl
client_happens w sent past (ClientMet client_inputs.Tick left) h = refl
client_happens w sent past ClientCut h = refl
client_happens w sent past (ClientRestart mirrored) h = refl
client_happens w sent past (Renew g left) h = refl
client_happens w sent past Lose h = refl

either : (b : Bool) → (if b then true else true) ≡ true
either true = refl
either false = refl

restarts : (b m g : Bool) → m ≡ b → (not b || g) ≡ true → (if b then m && g else not m) ≡ true
restarts true true g same may = may
restarts true false g same may = cc
restarts false false g same may = refl
restarts false true g same may = cc

renews : (b x : Bool) → (b && x) ≡ true → (if b then x else false) ≡ true
renews true x h = h
renews false x h = h

pub client_allowed : (w : Setup) (t : List FrameStep) (sent : List Frame) (past : List ClientEntry) (c : ClientEntry)
    → packets.of_client w (trace_heard w t) ≡ packets_heard (client_opening w) past → ClientMay w sent past c
    → is_allowed w t (OfClient (client_coming c)) ≡ true
client_allowed w t sent past (ClientMet (client_inputs.Deliver f) left) hears h = refl
client_allowed w t sent past (ClientMet (client_inputs.Begin text) left) hears h = either w.mirror
client_allowed w t sent past (ClientMet (client_inputs.Trigger run act) left) hears h = either w.mirror
client_allowed w t sent past (ClientMet (client_inputs.Stop run) left) hears h = either w.mirror
client_allowed w t sent past (ClientMet (client_inputs.Verify run text) left) hears h = either w.mirror
client_allowed w t sent past (ClientMet client_inputs.Tick left) hears h = either w.mirror
client_allowed w t sent past ClientCut hears h = either w.mirror
client_allowed w t sent past (ClientRestart mirrored) hears h =
    subst (λ (list : List client.Entry). (if w.mirror then mirrored && nat_lt 0 (words_noted (client_opening w) list).generation else not mirrored) ≡ true)
    (sym hears)
    (restarts w.mirror mirrored (nat_lt 0 (words_noted (client_opening w) (packets_heard (client_opening w) past)).generation) h.0 h.1)
client_allowed w t sent past (Renew g left) hears h =
    subst (λ (list : List client.Entry). (if w.mirror then is_generation g && not (has (generations list) g) else false) ≡ true) (sym hears)
    (renews w.mirror (is_generation g && not (has (generations (packets_heard (client_opening w) past)) g)) h)
client_allowed w t sent past Lose hears h = rw h refl

pub mirror_happens : (sent : List Frame) (e : mirror.Entry) → MirrorMay sent e → MayHappen sent (OfMirror e)
mirror_happens sent (mirror.Met f left) h = h
mirror_happens sent mirror.Cut h = tt
mirror_happens sent mirror.Restart h = tt

pub server_happens : (s : ℕ) (sent : List Frame) (c : ServerEntry) → ServerMay s sent c → MayHappen sent (OfServer s (server_coming c))
server_happens s sent (ServerMet (server_inputs.Deliver f) left) h = h
server_happens s sent (ServerMet (server_inputs.Issue j) left) h = refl
server_happens s sent (ServerMet (server_inputs.WriteDone ticket end) left) h = refl
server_happens s sent (ServerMet (server_inputs.CheckDone boot a j report) left) h = refl
server_happens s sent ServerCut h = refl
server_happens s sent (ServerRestart left) h = refl

pub server_fits : (s : ℕ) (sent : List Frame) (c : ServerEntry) → s < 8 → ServerMay s sent c → FrameStepFits (OfServer s (server_coming c))
server_fits s sent (ServerMet (server_inputs.Deliver f) left) l h = l
server_fits s sent (ServerMet (server_inputs.Issue j) left) l h = (l, tt)
server_fits s sent (ServerMet (server_inputs.WriteDone ticket end) left) l h = (l, tt)
server_fits s sent (ServerMet (server_inputs.CheckDone boot a j report) left) l h = (l, h)
server_fits s sent ServerCut l h = (l, tt)
server_fits s sent (ServerRestart left) l h = (l, tt)

-- It still may where more was sent.
pub client_may_still : (w : Setup) (sent more : List Frame) (past : List ClientEntry) (c : ClientEntry) → ClientMay w sent past c
    → ClientMay w (sent ++ more) past c
client_may_still w sent more past (ClientMet (client_inputs.Deliver f) left) h = (Contains-append_left sent more f h.0, h.1)
client_may_still w sent more past (ClientMet (client_inputs.Begin text) left) h = tt
client_may_still w sent more past (ClientMet (client_inputs.Trigger run act) left) h = tt
client_may_still w sent more past (ClientMet (client_inputs.Stop run) left) h = tt
client_may_still w sent more past (ClientMet (client_inputs.Verify run text) left) h = tt
client_may_still w sent more past (ClientMet client_inputs.Tick left) h = tt
client_may_still w sent more past ClientCut h = tt
client_may_still w sent more past (ClientRestart mirrored) h = h
client_may_still w sent more past (Renew g left) h = h
client_may_still w sent more past Lose h = h

pub mirror_may_still : (sent more : List Frame) (e : mirror.Entry) → MirrorMay sent e → MirrorMay (sent ++ more) e
mirror_may_still sent more (mirror.Met f left) h = (Contains-append_left sent more f h.0, h.1)
mirror_may_still sent more mirror.Cut h = tt
mirror_may_still sent more mirror.Restart h = tt

pub server_may_still : (s : ℕ) (sent more : List Frame) (c : ServerEntry) → ServerMay s sent c → ServerMay s (sent ++ more) c
server_may_still s sent more (ServerMet (server_inputs.Deliver f) left) h = (Contains-append_left sent more f h.0, h.1)
server_may_still s sent more (ServerMet (server_inputs.Issue j) left) h = tt
server_may_still s sent more (ServerMet (server_inputs.WriteDone ticket end) left) h = tt
server_may_still s sent more (ServerMet (server_inputs.CheckDone boot a j report) left) h = h
server_may_still s sent more ServerCut h = tt
server_may_still s sent more (ServerRestart left) h = tt
