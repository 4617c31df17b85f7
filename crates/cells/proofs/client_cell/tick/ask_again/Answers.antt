use Rattle.std.proofs.Common.{Ok}
use Rattle.client_core.specs.Inputs.{Tick}
use Rattle.client_core.specs.Answers.{sent_alone}
use Rattle.cells.proofs.ClientPowerLemmas.{stepped, heard, ticked}
use Rattle.cells.proofs.client_cell.tick.ask_again.Goals as goal

pub returns-in_ok-frames-in-Some-clause-ends : goal.returns-in_ok-frames-in-Some-clause-ends
returns-in_ok-frames-in-Some-clause-ends g c o past s =
    let note = g.N.Notes.note in
    let shown = c.in-Some.ensures o past s in
    let client = c.in-Some.client.now in
    let outs = sent_alone c.in_ok-frames-in-Some.frames in
    rw shown.0 (stepped note o past Tick client client (Ok outs) shown.2 (heard o past (Ok outs))
    (ticked note o past client c.in_ok-frames-in-Some.frames (c.in_ok-frames-in-Some.ensures o past shown.1)))
