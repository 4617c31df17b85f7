-- What the world, a server and the client refuse, but for what comes to the client: never as another
-- state of a kept key.
use Rattle.std.proofs.Common.{◌≡◌, ap, ℕ, Bool, true, false, ◌&&◌, ◌==◌, List, [], ◌++◌, Option, Some, None, Result, Ok, Err}
use Rattle.std.specs.Prelude.{if◌then◌else◌, slice_get, nat_lt, not, is_some}
use Rattle.std.specs.List.{list_all}
use Rattle.std.specs.Option.{option_or}
use Rattle.fc_base.specs.declared.fault.Fault.{Fault}
use Rattle.fc_base.specs.declared.fault.Fault.TheVariants.{Conflict, NoServer, NoMirror, NodeOff, NodeOn, NoWrite, NumbersSpent}
use Rattle.fc_base.specs.declared.fault.Fault.TheVariants.{BadGeneration, UsedGeneration, JobTooLong, NoSuchRun, Down}
use Rattle.fc_base.specs.declared.limits.TheConstants.{MAX_JOBS}
use Rattle.fc_base.specs.Faults.{when}
use Rattle.messages.specs.declared.frame.Frame.{Frame}
use Rattle.messages.specs.declared.node.Node.{Node}
use Rattle.messages.specs.declared.node.Node.TheVariants.{Server, Client, Mirror}
use Rattle.messages.specs.Ranges.{is_text, is_generation}
use Rattle.server_core.specs.Inputs.{PacketInput as ServerInput}
use Rattle.server_core.specs.History as server
use Rattle.server_core.specs.Request.{Request, ToStage, ToStart, ToTrigger, ToMark, ToStop, ToVerify}
use Rattle.server_core.specs.Request.{ToHold, ToPassFully, ToIssue, ToEnd, ToReport, ToNobody, request_of}
use Rattle.server_core.specs.Words as servers
use Rattle.server_core.specs.Replies.{Now}
use Rattle.server_core.specs.Check.{progress_in}
use Rattle.server_core.specs.Answers as answers
use Rattle.client_core.specs.Inputs.{PacketInput as ClientInput}
use Rattle.client_core.specs.Inputs as inputs
use Rattle.client_core.specs.History as client
use Rattle.client_core.specs.Refusals.{has_next, is_begun}
use Rattle.client_core.specs.Numbering.{generations}
use Rattle.client_core.specs.Words as clients
use Rattle.net_world.specs.Setup.{Setup}
use Rattle.net_world.specs.Happenings.{Happening, Begin, Trigger, StopRun, Verify, Tick, Deliver, Issue}
use Rattle.net_world.specs.Happenings.{Land, Done, Fail, Rot, Cut, Restart, LoseNote, Renew, CutIn}
use Rattle.net_world.specs.Happenings as happenings
use Rattle.net_world.specs.Trace.{Step, of_client, opening_of, client_opening}
use Rattle.net_world.specs.Frames.{FrameStep, to_of}
use Rattle.net_world.specs.Writes.{open_at}
use Rattle.net_world.specs.Barred.{unless, no_mirror, is_on, unless_on, unless_off, unless_sent}
use Rattle.net_world.specs.Barred.{unless_open, no_file, unless_losable, unless_unused, barring_fault}
use Rattle.net_world.specs.Outcomes.{Outcome, Refuses, outcome_of_step, unless_fault, where_saved, unless_barred}

-- ---- no such refusal

unfoldable pub Fine : Option Fault → Type 0
Fine x = x ≡ Some Conflict → ⊥

unfoldable pub FineStep : Result FrameStep Fault → Type 0
FineStep r = r ≡ Err Conflict → ⊥

unfoldable pub FineCome : Outcome → Type 0
FineCome o = o ≡ Refuses Conflict → ⊥

pub fine_step : (r : Result FrameStep Fault) → FineStep r → FineCome (outcome_of_step r)
unfolding FineStep FineCome
fine_step (Ok step) f h = cc
fine_step (Err fault) f h = f (let e : fault ≡ Conflict = cc in ap Err e)

pub fine_unless : (x : Option Fault) (step : FrameStep) → Fine x → FineStep (unless_fault x (Ok step))
unfolding Fine FineStep
fine_unless None step f h = cc
fine_unless (Some fault) step f h = f (let e : fault ≡ Conflict = cc in ap Some e)

pub fine_save : {X : Type 0} (x : Option X) (step : FrameStep) → FineStep (where_saved x step)
unfolding FineStep
fine_save None step h = cc
fine_save (Some x) step h = cc

pub fine_barred : (x : Option Fault) (r : Outcome) → Fine x → FineCome r → FineCome (unless_barred x r)
unfolding Fine FineCome
fine_barred None r f g h = g h
fine_barred (Some fault) r f g h = f (let e : fault ≡ Conflict = cc in ap Some e)

-- ---- what the world refuses

pub fine_two : (a b : Bool) (f g : Fault) → Fine (Some f) → Fine (Some g) → Fine (option_or (unless a f) (unless b g))
unfolding Fine
fine_two true true f g x y h = cc
fine_two true false f g x y h = y h
fine_two false b f g x y h = x h

pub fine_one : (b : Bool) (g : Fault) → Fine (Some g) → Fine (unless b g)
unfolding Fine
fine_one true g y h = cc
fine_one false g y h = y h

pub fine_off : (w : Setup) (t : List Step) (node : Node) → Fine (unless_on w t node)
unfolding Fine
fine_off w t (Server s) = fine_two (nat_lt s w.servers) (is_on w t (Server s)) NoServer NodeOff (λ h. cc) (λ h. cc)
fine_off w t Client = fine_one (is_on w t Client) NodeOff (λ h. cc)
fine_off w t Mirror = fine_two w.mirror (is_on w t Mirror) NoMirror NodeOff (λ h. cc) (λ h. cc)

pub fine_on : (w : Setup) (t : List Step) (node : Node) → Fine (unless_off w t node)
unfolding Fine
fine_on w t (Server s) = fine_two (nat_lt s w.servers) (not (is_on w t (Server s))) NoServer NodeOn (λ h. cc) (λ h. cc)
fine_on w t Client = fine_one (not (is_on w t Client)) NodeOn (λ h. cc)
fine_on w t Mirror = fine_two w.mirror (not (is_on w t Mirror)) NoMirror NodeOn (λ h. cc) (λ h. cc)

pub fine_or : (x : Option Fault) (b : Bool) (g : Fault) → Fine x → Fine (Some g) → Fine (option_or x (unless b g))
unfolding Fine
fine_or None b g f y = fine_one b g y
fine_or (Some fault) b g f y = f

pub fine_unsent : (w : Setup) (t : List Step) (x : Option Frame) → Fine (unless_sent w t x)
unfolding Fine
fine_unsent w t None h = cc
fine_unsent w t (Some f) h = fine_off w t (to_of f) h

pub fine_unopen : (w : Setup) (t : List Step) (s j k : ℕ) → Fine (unless_open w t s j k)
unfolding Fine
fine_unopen w t s j k = fine_or (unless_on w t (Server s)) (is_some (open_at t s j k)) NoWrite (fine_off w t (Server s)) (λ h. cc)

pub fine_file : (w : Setup) (s j : ℕ) → Fine (no_file w s j)
unfolding Fine
fine_file w s j = fine_two (nat_lt s w.servers) (nat_lt j MAX_JOBS) NoServer NoWrite (λ h. cc) (λ h. cc)

pub fine_both : (x y : Option Fault) → Fine x → Fine y → Fine (option_or x y)
unfolding Fine
fine_both None y f g = g
fine_both (Some fault) y f g = f

pub fine_unlosable : (w : Setup) (t : List Step) → Fine (unless_losable w t)
unfolding Fine
fine_unlosable w t = fine_both (no_mirror w) (unless_off w t Client) (fine_one w.mirror NoMirror (λ h. cc)) (fine_on w t Client)

pub fine_unfit : (w : Setup) (t : List Step) (g : ℕ) → Fine (unless_unused w t g)
unfolding Fine
fine_unfit w t g =
    fine_two (is_generation g) (list_all (λ earlier. nat_lt earlier g) (generations (of_client w t))) BadGeneration UsedGeneration (λ h. cc) (λ h. cc)

pub fine_bar : (w : Setup) (t : List Step) (fs : List Frame) (e : Happening) → Fine (barring_fault w t fs e)
unfolding Fine
fine_bar w t fs (Begin text) h = fine_off w t Client h
fine_bar w t fs (Trigger run act) h = fine_off w t Client h
fine_bar w t fs (StopRun run) h = fine_off w t Client h
fine_bar w t fs (Verify run text) h = fine_off w t Client h
fine_bar w t fs Tick h = fine_off w t Client h
fine_bar w t fs (Deliver i) h = fine_unsent w t (slice_get fs i) h
fine_bar w t fs (Issue s j) h = fine_off w t (Server s) h
fine_bar w t fs (Land s j k mask) h = fine_unopen w t s j k h
fine_bar w t fs (Done s j k) h = fine_unopen w t s j k h
fine_bar w t fs (Fail s j k) h = fine_unopen w t s j k h
fine_bar w t fs (Rot s j sector bytes) h = fine_file w s j h
fine_bar w t fs (happenings.Check s j) h = fine_off w t (Server s) h
fine_bar w t fs (Cut node) h = fine_off w t node h
fine_bar w t fs (Restart node) h = fine_on w t node h
fine_bar w t fs LoseNote h = fine_unlosable w t h
fine_bar w t fs (Renew g) h = fine_both (unless_losable w t) (unless_unused w t g) (fine_unlosable w t) (fine_unfit w t g) h
fine_bar w t fs (CutIn landed (CutIn again e)) h = cc
fine_bar w t fs (CutIn landed (Begin text)) h = fine_bar w t fs (Begin text) h
fine_bar w t fs (CutIn landed (Trigger run act)) h = fine_bar w t fs (Trigger run act) h
fine_bar w t fs (CutIn landed (StopRun run)) h = fine_bar w t fs (StopRun run) h
fine_bar w t fs (CutIn landed (Verify run text)) h = fine_bar w t fs (Verify run text) h
fine_bar w t fs (CutIn landed Tick) h = fine_bar w t fs Tick h
fine_bar w t fs (CutIn landed (Deliver i)) h = fine_bar w t fs (Deliver i) h
fine_bar w t fs (CutIn landed (Issue s j)) h = fine_bar w t fs (Issue s j) h
fine_bar w t fs (CutIn landed (Land s j k mask)) h = fine_bar w t fs (Land s j k mask) h
fine_bar w t fs (CutIn landed (Done s j k)) h = fine_bar w t fs (Done s j k) h
fine_bar w t fs (CutIn landed (Fail s j k)) h = fine_bar w t fs (Fail s j k) h
fine_bar w t fs (CutIn landed (Rot s j sector bytes)) h = fine_bar w t fs (Rot s j sector bytes) h
fine_bar w t fs (CutIn landed (happenings.Check s j)) h = fine_bar w t fs (happenings.Check s j) h
fine_bar w t fs (CutIn landed (Cut node)) h = fine_bar w t fs (Cut node) h
fine_bar w t fs (CutIn landed (Restart node)) h = fine_bar w t fs (Restart node) h
fine_bar w t fs (CutIn landed LoseNote) h = fine_bar w t fs LoseNote h
fine_bar w t fs (CutIn landed (Renew g)) h = fine_bar w t fs (Renew g) h

-- ---- what a server refuses

pub fine_by : (a b : Bool) → Fine (answers.refused_by a b)
unfolding Fine
fine_by true true h = cc
fine_by true false h = cc
fine_by false b h = cc

pub fine_asked : (now : Now) (x : Request) → Fine (answers.refusal_of now x)
unfolding Fine
fine_asked now (ToEnd ticket end) h = fine_by (ticket.boot == now.boot) (answers.names_open now.run ticket) h
fine_asked now (ToReport b a j report) h = fine_by (b == now.boot) (answers.is_open_attempt a now.check && answers.is_ready (progress_in now.check j)) h
fine_asked now ToNobody h = cc
fine_asked now (ToStage r text) h = cc
fine_asked now (ToStart r) h = cc
fine_asked now (ToTrigger r act) h = cc
fine_asked now (ToMark r j) h = cc
fine_asked now (ToStop r) h = cc
fine_asked now (ToVerify r a text) h = cc
fine_asked now (ToHold a state) h = cc
fine_asked now (ToPassFully a j) h = cc
fine_asked now (ToIssue j) h = cc

pub fine_if : (b : Bool) (x : Option Fault) → Fine x → Fine (if b then x else Some Down)
unfolding Fine
fine_if true x f h = f h
fine_if false x f h = cc

pub fine_server : (s : ℕ) (list : List server.Entry) (e : ServerInput) → Fine (answers.refusal (opening_of s) list e)
fine_server s list e = fine_if (servers.is_on list) (answers.refusal_of (answers.now (opening_of s) list) (request_of s e))
    (fine_asked (answers.now (opening_of s) list) (request_of s e))

-- ---- what the client refuses, but for what comes

unfoldable pub NoPacket : ClientInput → Type 0
NoPacket (inputs.Deliver p) = ⊥
NoPacket _ = Unit {0}

pub fine_one_when : (a b : Bool) (f : Fault) → Fine (Some f) → Fine (slice_get (when a Down ++ when b f) 0)
unfolding Fine
fine_one_when true b f x h = cc
fine_one_when false true f x h = x h
fine_one_when false false f x h = cc

pub fine_two_when : (a b c : Bool) (f g : Fault) → Fine (Some f) → Fine (Some g) → Fine (slice_get (when a Down ++ (when b f ++ when c g)) 0)
unfolding Fine
fine_two_when true b c f g x y h = cc
fine_two_when false true c f g x y h = x h
fine_two_when false false true f g x y h = y h
fine_two_when false false false f g x y h = cc

pub fine_three_when : (a b c d : Bool) → Fine (slice_get (when a Down ++ (when b NoSuchRun ++ (when c JobTooLong ++ when d NumbersSpent))) 0)
unfolding Fine
fine_three_when true b c d h = cc
fine_three_when false true c d h = cc
fine_three_when false false true d h = cc
fine_three_when false false false true h = cc
fine_three_when false false false false h = cc

pub fine_tick : (a : Bool) → Fine (slice_get (when a Down ++ []) 0)
unfolding Fine
fine_tick true h = cc
fine_tick false h = cc

pub fine_call : (w : Setup) (list : List client.Entry) (c : ClientInput) → NoPacket c → Fine (clients.refusal (client_opening w) list c)
unfolding Fine NoPacket
fine_call w list (inputs.Begin text) k = fine_two_when (not (clients.is_on list)) (not (is_text text))
    (not (has_next (clients.peers (client_opening w) list) (clients.words_noted (client_opening w) list).generation
    (clients.words_noted (client_opening w) list).runs)) JobTooLong NumbersSpent (λ h. cc) (λ h. cc)
fine_call w list (inputs.Trigger run act) k =
    fine_one_when (not (clients.is_on list)) (not (is_begun (clients.words_noted (client_opening w) list) run)) NoSuchRun (λ h. cc)
fine_call w list (inputs.Stop run) k =
    fine_one_when (not (clients.is_on list)) (not (is_begun (clients.words_noted (client_opening w) list) run)) NoSuchRun (λ h. cc)
fine_call w list (inputs.Verify run text) k = fine_three_when (not (clients.is_on list)) (not (is_begun (clients.words_noted (client_opening w) list) run))
    (not (is_text text)) (not (has_next (clients.peers (client_opening w) list) (clients.words_noted (client_opening w) list).generation
    (clients.words_noted (client_opening w) list).attempts))
fine_call w list (inputs.Deliver p) k = absurd k
fine_call w list inputs.Tick k = fine_tick (not (clients.is_on list))
