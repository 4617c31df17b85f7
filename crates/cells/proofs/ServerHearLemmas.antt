-- What a server sends at the hub, and what its cell keeps and shows.
use Rattle.std.proofs.Common.{◌≡◌, refl, subst, inl, inr, ℕ, arith, Bool, true, false, List, ◌∷◌, length, Option, Some, None, Result, Ok, Err}
use Rattle.std.specs.Prelude.{◌⊎◌, map, All, IfOk}
use Rattle.std.proofs.lemmas.List.Elements.{All-nil}
use Rattle.std.proofs.lemmas.List.Sums.{sum_by-le}
use Rattle.fc_base.specs.declared.fault.Fault.{Fault}
use Rattle.disk_model.specs.Notes.{Note}
use Rattle.messages.specs.declared.node.Node.{Node}
use Rattle.messages.specs.FrameBytes.{frame_spelling}
use Rattle.messages.specs.Hearing.{frames_by, with_entry}
use Rattle.messages.specs.NetworkLaws.{FramesAreSpelled}
use Rattle.messages.specs.Network.{Network, IsSpelled}
use Rattle.server_core.specs.declared.outs.Outs.{Outs}
use Rattle.server_core.specs.declared.server.Server.{Server}
use Rattle.server_core.specs.Bounds.{AreShort}
use Rattle.server_core.specs.Answers.{packets}
use Rattle.server_core.specs.History as history
use Rattle.server_core.specs.History.{Opening}
use Rattle.server_core.specs.Laws.{PacketsAreInRange}
use Rattle.server_core.specs.NodeKind.{server_kind}
use Rattle.server_core.specs.Ranges.{OpensInRange, CameInRange}
use Rattle.server_core.specs.Hearing.{FrameEntry, packets_heard, is_up}
use Rattle.server_core.specs.FrameAnswers.{entry_heard}
use Rattle.server_core.specs.FrameEnds.{StandsFor}
use Rattle.node.specs.declared.power.Power.{Power}
use Rattle.node.specs.Kinds.{Shows}
use Rattle.cells.specs.declared.answer.Receipt.{Receipt}
use Rattle.cells.specs.declared.input.NodeInput.{NodeInput}
use Rattle.cells.specs.declared.entry.HistoryEntry.{HistoryEntry}
use Rattle.cells.specs.AtHub.{is_left_out, Hears, Posts}
use Rattle.cells.specs.Calls.{Delivers}
use Rattle.cells.specs.CoreLaws.{IsWithin}
use Rattle.cells.specs.Moves.{IsKept}
use Rattle.cells.specs.ServerRules.{core}
use Rattle.cells.specs.ServerCells.{ServerLog, Replays, IsReplay, IsCell}
use Rattle.cells.specs.ServerStands.{reply_and_frames}
use Rattle.cells.proofs.HubLemmas.{packets_spelled}

-- ---- its frames are few and short

pub few : (step : Result Outs Fault) → IfOk step (λ outs. AreShort outs.frames) → IfOk (reply_and_frames step) (λ outs. IsWithin 16 17168 outs.1)
few (Ok outs) h = record {
  few = h.few;
  short = omega (arith, h.few, sum_by-le (λ (frame : List ℕ). length frame) 1073 outs.frames h.short);
}
few (Err fault) h = tt

-- ---- its frames are spelled

by_entry : FramesAreSpelled → PacketsAreInRange → (o : Opening) (past : List history.Entry) → OpensInRange o → (heard : Option history.Entry)
    → (came : (x : history.Entry) → heard ≡ Some x → CameInRange (x ∷ past)) → All IsSpelled (map frame_spelling (frames_by (packets o) past heard))
by_entry law ranges o past i None came = All-nil IsSpelled
by_entry law ranges o past i (Some x) came = packets_spelled law (packets o past x) (ranges o past x i (came x refl))

pub spelled : FramesAreSpelled → PacketsAreInRange → (o : Opening) (past : List FrameEntry) (x : FrameEntry) → (core o).InRange (x ∷ past)
    → All IsSpelled (map frame_spelling ((core o).frames past x))
spelled law ranges o past x came =
    by_entry law ranges o (packets_heard o past) came.0 (entry_heard o past x)
    (λ y is. subst (λ (z : Option history.Entry). CameInRange (with_entry z (packets_heard o past))) is came.1)

-- ---- its cell behind what came at the hub

-- A history is as it was, or has one entry more, which came from no seat.
abbrev pub Grows : List HistoryEntry → List HistoryEntry → Type 0
Grows before after = (after ≡ before) ⊎ ((l : HistoryEntry) × (l.by ≡ None) × (after ≡ l ∷ before))

pub posts_grow : (node : Node) (came : NodeInput) (taken : Option ℕ) (old new : Network) (before after : List HistoryEntry) (result : Result Receipt Fault)
    → Posts node came taken old new before after result → Grows before after
posts_grow node came taken old new before after result (answer, sent, told, h) = by_test (is_left_out answer) h
  where
    by_test : (b : Bool) → Hears b node came taken answer sent old new before after → Grows before after
    by_test true h = inl h.history
    by_test false h = inr (record { by = None; came = came; answer = answer; sent = sent }, refl, h.entry)

pub delivers_grow : (node : Node) (position : ℕ) (found : Option (List ℕ)) (old new : Network) (before after : List HistoryEntry) (result : Result Receipt Fault)
    → Delivers node position found old new before after result → Grows before after
delivers_grow node position None old new before after (Ok told) h = absurd h
delivers_grow node position None old new before after (Err fault) h = inl h.history
delivers_grow node position (Some bytes) old new before after result h = posts_grow node _ (Some position) old new before after result h

pub heard_cell : {T : Type 0} (note : T → Note) (o : Opening) (power new : Power (Server T) T) (before after : List HistoryEntry) (applied : List ℕ)
    → IsCell note o power before applied → IsKept (server_kind note o) (core o) after new → Grows before after → IsCell note o new after applied
heard_cell note o power new before after applied cell kept (inl is) =
    record { kept = kept; numbered = rw is cell.numbered; counted = rw is cell.counted }
heard_cell note o power new before after applied cell kept (inr (l, none, is)) = record {
  kept = kept;
  numbered = rw is (cell.numbered, rw none tt);
  counted = rw is (record { long = cell.counted.long; each = λ seat few. rw none (cell.counted.each seat few) });
}

pub replayed : {T : Type 0} (note : T → Note) (o : Opening) (power : Power (Server T) T) (history : List HistoryEntry) (applied : List ℕ)
    → IsCell note o power history applied → (past : List FrameEntry) × Replays o history past
replayed note o power history applied cell = (cell.kept.past, record { numbered = cell.numbered; made = cell.kept.made })

-- ---- what it shows

-- What a server shows whose cell is kept over this power, with this count of events.
abbrev pub IsShown : {T : Type 0} → (T → Note) → ServerLog → Power (Server T) T → List ℕ → Type 0
IsShown note log power applied = IsCell note log.opening power log.history applied

pub shown_replay : {T : Type 0} (note : T → Note) (log : ServerLog) (power : Power (Server T) T) (applied : List ℕ) (shown : ServerLog)
    → IsShown note log power applied → log ≡ shown → (past : List FrameEntry) × IsReplay shown past
shown_replay note log power applied shown cell view =
    subst (λ (l : ServerLog). (past : List FrameEntry) × IsReplay l past) view (replayed note log.opening power log.history applied cell)

pub shown_on : {T : Type 0} (note : T → Note) (log : ServerLog) (power : Power (Server T) T) (applied : List ℕ) (shown : ServerLog)
    (cell : IsShown note log power applied) (server : Server T) → log ≡ shown
    → Shows (server_kind note log.opening) cell.kept.past power (Some server)
    → (past : List FrameEntry) × IsReplay shown past × StandsFor note server shown.opening past × (is_up shown.opening past ≡ true)
shown_on note log power applied shown cell server view (is, stands, up) =
    subst (λ (l : ServerLog). (past : List FrameEntry) × IsReplay l past × StandsFor note server l.opening past × (is_up l.opening past ≡ true)) view
    (cell.kept.past, record { numbered = cell.numbered; made = cell.kept.made }, stands, up)

pub shown_off : {T : Type 0} (note : T → Note) (log : ServerLog) (power : Power (Server T) T) (applied : List ℕ) (shown : ServerLog)
    (cell : IsShown note log power applied) → log ≡ shown → is_up log.opening cell.kept.past ≡ false
    → (past : List FrameEntry) × IsReplay shown past × (is_up shown.opening past ≡ false)
shown_off note log power applied shown cell view off =
    subst (λ (l : ServerLog). (past : List FrameEntry) × IsReplay l past × (is_up l.opening past ≡ false)) view
    (cell.kept.past, record { numbered = cell.numbered; made = cell.kept.made }, off)
