-- What a client sends at the hub, and what its cell shows.
use Rattle.std.proofs.Common.{◌≡◌, refl, sym, ◌∙◌, ap, subst, ℕ, ◌+◌, arith, true, false, List, [], ◌∷◌, ◌++◌, length, take, Option, Some, None, Result, Ok, Err}
use Rattle.std.specs.Prelude.{map, slice_get, All, IfOk}
use Rattle.std.specs.List.{sum_by}
use Rattle.std.proofs.lemmas.List.{take_more}
use Rattle.std.proofs.lemmas.List.Elements.{All-nil}
use Rattle.std.proofs.lemmas.List.Sums.{sum_by-append, sum_by-cons}
use Rattle.std.proofs.lemmas.Option.{slice_get_within, get_or_from_slice_get}
use Rattle.fc_base.specs.declared.fault.Fault.{Fault}
use Rattle.disk_model.specs.Notes.{Note}
use Rattle.messages.specs.FrameBytes.{frame_spelling}
use Rattle.messages.specs.Hearing.{frames_by, with_entry}
use Rattle.messages.specs.NetworkLaws.{FramesAreSpelled}
use Rattle.messages.specs.Network.{IsSpelled}
use Rattle.client_core.specs.declared.client.Client.{Client}
use Rattle.client_core.specs.declared.outs.Outs.{Outs}
use Rattle.client_core.specs.Bounds.{AreShort}
use Rattle.client_core.specs.Packets.{packets}
use Rattle.client_core.specs.History as history
use Rattle.client_core.specs.History.{Opening}
use Rattle.client_core.specs.Laws.{PacketsAreInRange}
use Rattle.client_core.specs.NodeKind.{client_kind}
use Rattle.client_core.specs.Ranges.{OpensInRange, CameInRange}
use Rattle.client_core.specs.Hearing.{FrameEntry, packets_heard, is_up}
use Rattle.client_core.specs.FrameAnswers.{entry_heard}
use Rattle.client_core.specs.FrameEnds.{StandsFor, most_packets}
use Rattle.node.specs.declared.power.Power.{Power}
use Rattle.node.specs.Kinds.{Shows}
use Rattle.cells.specs.ClientRules.{core}
use Rattle.cells.specs.CoreLaws.{IsWithin}
use Rattle.cells.specs.declared.client_cell.incoming.Incoming.{Incoming}
use Rattle.cells.specs.declared.client_cell.incoming.Incoming.TheVariants as incoming
use Rattle.cells.specs.declared.client_cell.request.ClientRequest.{ClientRequest}
use Rattle.cells.specs.declared.client_cell.request.ClientRequest.TheVariants as requests
use Rattle.cells.specs.ClientStands.{reply_and_frames}
use Rattle.cells.specs.ClientCells.{ClientLog, IsReplay, IsCell}
use Rattle.cells.specs.ClientTasks.{input_in}
use Rattle.cells.proofs.HubLemmas.{packets_spelled}

-- ---- the room for its frames

-- What comes, but for a tick, sends at most 8 packets.
most_eight : (o : Opening) (past : List FrameEntry) (i : Incoming) → most_packets o past (input_in i) ≡ 8
most_eight o past (incoming.Frame came frame) = refl
most_eight o past (incoming.Request (requests.Begin text)) = refl
most_eight o past (incoming.Request (requests.Trigger run act)) = refl
most_eight o past (incoming.Request (requests.Stop run)) = refl
most_eight o past (incoming.Request (requests.Verify run text)) = refl

pub few : (o : Opening) (past : List FrameEntry) (i : Incoming) (step : Result Outs Fault)
    → IfOk step (λ outs. AreShort (most_packets o past (input_in i)) outs.frames) → IfOk (reply_and_frames step) (λ outs. IsWithin 136 137864 outs.1)
few o past i (Ok outs) h =
    let eight = subst (λ most. AreShort most outs.frames) (most_eight o past i) h in
    record { few = omega (arith, eight.few); short = omega (arith, eight.short) }
few o past i (Err fault) h = tt

-- The bytes of the first frames, and of one more.
pub one_more : (sent : List (List ℕ)) (i : ℕ) (f : List ℕ) (bytes more : ℕ) → slice_get sent i ≡ Some f
    → bytes ≡ sum_by (λ (frame : List ℕ). length frame) (take i sent) → more ≡ bytes + length f
    → more ≡ sum_by (λ (frame : List ℕ). length frame) (take (i + 1) sent)
one_more sent i f bytes more is so_far sum =
    sum ∙ ap (λ n. n + length f) so_far ∙ sym (ap (sum_by (λ (frame : List ℕ). length frame)) longer
    ∙ sum_by-append (λ (frame : List ℕ). length frame) (take i sent) (f ∷ []) ∙ ap (λ n. sum_by (λ (frame : List ℕ). length frame) (take i sent) + n) alone)
  where
    longer : take (i + 1) sent ≡ take i sent ++ f ∷ []
    longer = take_more sent i [] (slice_get_within sent i f is) ∙ ap (λ (x : List ℕ). take i sent ++ x ∷ []) (get_or_from_slice_get sent i f [] is)

    alone : sum_by (λ (frame : List ℕ). length frame) (f ∷ []) ≡ length f
    alone = omega (arith, sum_by-cons (λ (frame : List ℕ). length frame) f [])

-- ---- its frames are spelled

by_entry : FramesAreSpelled → PacketsAreInRange → (o : Opening) (past : List history.Entry) → OpensInRange o → (heard : Option history.Entry)
    → (came : (x : history.Entry) → heard ≡ Some x → CameInRange (x ∷ past)) → All IsSpelled (map frame_spelling (frames_by (packets o) past heard))
by_entry law ranges o past i None came = All-nil IsSpelled
by_entry law ranges o past i (Some x) came = packets_spelled law (packets o past x) (ranges o past x i (came x refl))

pub spelled : FramesAreSpelled → PacketsAreInRange → (o : Opening) (past : List FrameEntry) (x : FrameEntry) → (core o).InRange (x ∷ past)
    → All IsSpelled (map frame_spelling ((core o).frames past x))
spelled law ranges o past x came =
    by_entry law ranges o (packets_heard o past) came.0 (entry_heard o past x)
    (λ y is. subst (λ (z : Option history.Entry). CameInRange (with_entry z (packets_heard o past))) is came.1)

-- ---- what it shows

pub shown_replay : {T : Type 0} (note : T → Note) (log : ClientLog) (power : Power (Client T) T) (shown : ClientLog) → IsCell note log power → log ≡ shown
    → (past : List FrameEntry) × IsReplay shown past
shown_replay note log power shown cell view =
    subst (λ (l : ClientLog). (past : List FrameEntry) × IsReplay l past) view (cell.kept.past, cell.kept.made)

pub shown_on : {T : Type 0} (note : T → Note) (log : ClientLog) (power : Power (Client T) T) (shown : ClientLog) (cell : IsCell note log power) (client : Client T)
    → log ≡ shown → Shows (client_kind note log.opening) cell.kept.past power (Some client)
    → (past : List FrameEntry) × IsReplay shown past × StandsFor note client shown.opening past × (is_up shown.opening past ≡ true)
shown_on note log power shown cell client view (is, stands, up) =
    subst (λ (l : ClientLog). (past : List FrameEntry) × IsReplay l past × StandsFor note client l.opening past × (is_up l.opening past ≡ true)) view
    (cell.kept.past, cell.kept.made, stands, up)

pub shown_off : {T : Type 0} (note : T → Note) (log : ClientLog) (power : Power (Client T) T) (shown : ClientLog) (cell : IsCell note log power)
    → log ≡ shown → is_up log.opening cell.kept.past ≡ false
    → (past : List FrameEntry) × IsReplay shown past × (is_up shown.opening past ≡ false)
shown_off note log power shown cell view off =
    subst (λ (l : ClientLog). (past : List FrameEntry) × IsReplay l past × (is_up l.opening past ≡ false)) view (cell.kept.past, cell.kept.made, off)
