-- How a call of a node ends that was left out, and why, whichever node it is.
use Rattle.std.proofs.Common.{◌≡◌, refl, sym, ◌∙◌, ap, subst, ℕ, ◌<◌, true, false, List, [], length, Option, Some, None, Result, Ok, Err}
use Rattle.std.specs.Prelude.{if◌then◌else◌, slice_get, IfErr}
use Rattle.std.specs.Option.{ForSome}
use Rattle.std.proofs.lemmas.Option.{slice_get_within}
use Rattle.fc_base.specs.declared.fault.Fault.{Fault}
use Rattle.fc_base.specs.declared.fault.Fault.TheVariants.{NoMemory, NoFrame, NodeOff}
use Rattle.messages.specs.declared.node.Node.{Node}
use Rattle.messages.specs.declared.frame.Frame.{Frame}
use Rattle.messages.specs.FrameBytes.{frame_at}
use Rattle.messages.specs.Network.{Network}
use Rattle.cells.specs.declared.answer.Receipt.{Receipt}
use Rattle.cells.specs.declared.input.NodeInput.{NodeInput}
use Rattle.cells.specs.declared.input.NodeInput.TheVariants as came
use Rattle.cells.specs.declared.entry.HistoryEntry.{HistoryEntry}
use Rattle.cells.specs.AtHub.{is_left_out, Comes, Hears, RefusedBy, Posts}
use Rattle.cells.specs.Calls.{is_off, Delivers, RefusedAfter, RefusedAt, RefusedWhere}
use Rattle.cells.specs.Replay.{Makes}
use Rattle.cells.specs.Failures.{Counts}
use Rattle.cells.specs.Rules.{Ask, Meets, Rules}

-- ---- nothing changes

-- What is refused, and left out, changes nothing.
pub left_out_posts : (node : Node) (came : NodeInput) (taken : Option ℕ) (old new : Network) (before after : List HistoryEntry) (fault : Fault)
    → is_left_out (Err fault) ≡ true → new ≡ old → after ≡ before → Posts node came taken old new before after (Err fault)
left_out_posts node came taken old new before after fault out net same =
    (Err fault, [], refl, subst (λ b. Hears b node came taken (Err fault) [] old new before after) (sym out) (record { net = net; history = same }))

pub not_delivered : (node : Node) (position : ℕ) (found : Option (List ℕ)) (net : Network) (history : List HistoryEntry) (fault : Fault)
    → is_left_out (Err fault) ≡ true → Delivers node position found net net history history (Err fault)
not_delivered node position None net history fault out = record { net = refl; history = refl }
not_delivered node position (Some bytes) net history fault out =
    left_out_posts node (came.Frame bytes) (Some position) net net history history fault out refl refl

-- Where no frame comes, nothing changes.
pub not_there : (node : Node) (net : Network) (position : ℕ) (history : List HistoryEntry) (fault : Fault) → Comes net position (Err fault)
    → Delivers node position (slice_get net.frames position) net net history history (Err fault)
not_there node net position history NoFrame h = not_delivered node position (slice_get net.frames position) net history NoFrame refl
not_there node net position history NoMemory h = not_delivered node position (slice_get net.frames position) net history NoMemory refl
not_there node net position history _ h = absurd h

-- A frame that comes is within the hub's.
pub within : (net : Network) (position : ℕ) (it : NodeInput × Frame) → Comes net position (Ok it) → ForSome (Some position) (λ i. i < length net.frames)
within net position it (bytes, is, came, frame) i e = subst (λ n. n < length net.frames) (same position i e) (slice_get_within net.frames position bytes is)
  where
    same : (m n : ℕ) → Some m ≡ Some n → m ≡ n
    same m n h = cc

-- ---- why

-- A node that is off says so.
pub why_off : {E X : Type 0} (rules : Rules E X) (history : List HistoryEntry) (past : List X) (ask : Ask E) → Makes rules history past → is_off rules past ≡ true
    → RefusedAfter rules history ask NodeOff
why_off rules history past ask made off = record { past = past; made = made; why = subst (λ b. RefusedWhere b rules past ask NodeOff) (sym off) refl }

-- Of one that is on it is by its rules.
pub why_on : {E X : Type 0} (rules : Rules E X) (history : List HistoryEntry) (past : List X) (ask : Ask E) (fault : Fault) → Makes rules history past
    → is_off rules past ≡ false → RefusedBy rules past ask fault → RefusedAfter rules history ask fault
why_on rules history past ask fault made on why = record { past = past; made = made; why = subst (λ b. RefusedWhere b rules past ask fault) (sym on) why }

-- One that is on takes none where there is none, or memory runs out.
pub why_not_there : {E X : Type 0} (rules : Rules E X) (history : List HistoryEntry) (past : List X) (net : Network) (position : ℕ) (fault : Fault)
    → Makes rules history past → is_off rules past ≡ false → Comes net position (Err fault) → RefusedAt rules history (slice_get net.frames position) fault
why_not_there rules history past net position NoFrame made on h =
    rw h (record { past = past; made = made; why = subst (λ b. NoFrame ≡ (if b then NodeOff else NoFrame)) (sym on) refl })
why_not_there rules history past net position NoMemory made on (bytes, is) =
    rw is (why_on rules history past (rules.asked (came.Frame bytes)) NoMemory made on refl)
why_not_there rules history past net position _ made on h = absurd h

-- Why a frame that comes isn't answered is by its bytes.
pub why_there : {E X : Type 0} (rules : Rules E X) (history : List HistoryEntry) (net : Network) (position : ℕ) (it : NodeInput × Frame)
    (result : Result Receipt Fault) (delivers : Frame → Ask E)
    → ((bytes : List ℕ) → frame_at bytes ≡ Some it.1 → rules.asked (came.Frame bytes) ≡ delivers it.1)
    → Comes net position (Ok it) → IfErr result (RefusedAfter rules history (delivers it.1)) → IfErr result (RefusedAt rules history (slice_get net.frames position))
why_there rules history net position it (Ok told) delivers asks there h = tt
why_there rules history net position it (Err fault) delivers asks (bytes, is, came, frame) h =
    rw is (subst (λ ask. RefusedAfter rules history ask fault) (sym (asks bytes frame)) h)

-- A delivery to a node that is off is refused so.
pub refused_off : {E X : Type 0} (rules : Rules E X) (history : List HistoryEntry) (past : List X) (found : Option (List ℕ)) → Makes rules history past
    → is_off rules past ≡ true → RefusedAt rules history found NodeOff
refused_off rules history past None made off =
    record { past = past; made = made; why = subst (λ b. NodeOff ≡ (if b then NodeOff else NoFrame)) (sym off) refl }
refused_off rules history past (Some bytes) made off = why_off rules history past (rules.asked (came.Frame bytes)) made off

-- Where no frame comes, no device has failed.
pub uncounted : (net : Network) (position count : ℕ) (fault : Fault) → Comes net position (Err fault) → Counts {X = Receipt} false count count (Err fault)
uncounted net position count NoFrame h = refl
uncounted net position count NoMemory h = refl
uncounted net position count _ h = absurd h

-- What comes is asked as its frame is delivered.
pub asks_frame : {E I : Type 0} (asked : NodeInput → Ask E) (delivers : Frame → E) (net : Network) (position : ℕ) (it : NodeInput × Frame) (came_in : I → NodeInput)
    (input_in : I → E) (incoming : I) → ((bytes : List ℕ) (f : Frame) → frame_at bytes ≡ Some f → asked (came.Frame bytes) ≡ Meets (delivers f))
    → Comes net position (Ok it) → came_in incoming ≡ it.0 → input_in incoming ≡ delivers it.1 → asked (came_in incoming) ≡ Meets (input_in incoming)
asks_frame asked delivers net position it came_in input_in incoming law (bytes, is, came, frame) kept met =
    ap asked (kept ∙ came) ∙ law bytes it.1 frame ∙ ap (λ e. Meets e) (sym met)

-- What comes is delivered.
pub delivered : {I : Type 0} (node : Node) (position : ℕ) (old new : Network) (before after : List HistoryEntry) (result : Result Receipt Fault)
    (it : NodeInput × Frame) (came_in : I → NodeInput) (incoming : I) → Comes old position (Ok it) → came_in incoming ≡ it.0
    → Posts node (came_in incoming) (Some position) old new before after result
    → Delivers node position (slice_get old.frames position) old new before after result
delivered node position old new before after result it came_in incoming (bytes, is, came, frame) kept posts =
    rw is (subst (λ came. Posts node came (Some position) old new before after result) (kept ∙ came) posts)
