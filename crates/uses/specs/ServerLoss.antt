-- A server that is cut with a write in flight, and checks its blocks by the state that was taken:
-- instances of the laws of what a check tells.
use Rattle.std.specs.Prelude.{◌≡◌, ◌<◌, ℕ, ◌%◌, List, [], ◌∷◌, length, Some, IsTrue}
use Rattle.disk_model.specs.declared.save_outcome.SaveOutcome.TheVariants.{NoSave, Saved}
use Rattle.fc_base.specs.declared.report.ReportParts.{ReportParts}
use Rattle.fc_base.specs.declared.report.ReportEnd.TheVariants.{Whole}
use Rattle.fc_base.specs.Counted.{has}
use Rattle.engine.specs.declared.issue.Ticket.{Ticket}
use Rattle.messages.specs.declared.body.Body.TheVariants.{Trigger, Verify, Saved as Brings}
use Rattle.messages.specs.declared.refusal.Act.TheVariants.{Cut as CutOff}
use Rattle.server_core.specs.declared.input.Input.TheVariants.{Issue, WriteDone}
use Rattle.server_core.specs.declared.input.WriteEnd.TheVariants.{Done}
use Rattle.server_core.specs.Hearing.{FrameEntry, Met, Cut, Restart, packets_heard}
use Rattle.server_core.specs.Note.{spelling}
use Rattle.server_core.specs.Taken.{state_taken}
use Rattle.engine.specs.History.{is_done}
use Rattle.write_order.specs.Stamps.{stamped_sector}
use Rattle.filters.specs.ServerAt.{ServerAt, no_checks}
use Rattle.filters.specs.ServerLosses.{Reports, HasLostIn, SurvivesIn, IsTakenOf}
use Rattle.filters.specs.UnderWay.{BlockBytes}
use Rattle.uses.specs.OneJob.{key, state, events, reading_text}
use Rattle.uses.specs.ServerCut.{opening, hears, started}

-- Write k, in the first boot.
abbrev pub ticket : ℕ → Ticket
ticket k = record { boot = 1; key = key; seq = k; block = k % 2 }

-- Behind this list write k is done, and the next one is ordered.
abbrev pub goes_on_behind : ℕ → List FrameEntry → List FrameEntry
goes_on_behind k past = Met (Issue 0) NoSave ∷ (Met (WriteDone (ticket k) Done) NoSave ∷ past)

-- Writes 0, 1 and 2 are done, and write 3 is in flight, when the Trigger comes.
abbrev pub triggered : List FrameEntry
triggered = hears (Trigger 1 CutOff)
    ∷ goes_on_behind 2 (goes_on_behind 1 (goes_on_behind 0 started.list))

-- The server is cut, and restarted. It is to verify, and the state comes back.
abbrev pub at : ServerAt
at = record {
  list = hears (Brings 1 state) ∷ hears (Verify 1 1 reading_text) ∷ Restart Saved ∷ Cut ∷ triggered;
  note = spelling (record { boot = 2; last_run = 1 });
  checks = no_checks;
}

-- Block 0 holds this write, and block 1 the one that was in flight. The block that came last
-- stands first.
abbrev pub came : ℕ → List BlockBytes
came k = record { block = 1; bytes = stamped_sector key 3 1 0 }
    ∷ record { block = 0; bytes = stamped_sector key k 0 0 } ∷ []

-- The report that both blocks were checked, and of these faults.
abbrev pub report : List ℕ → ReportParts
report faulty = record { checked = 2; faults = length faulty; first = faulty; end = Whole }

-- Where block 0 holds its last write, each write that the state counts survives, and there is no
-- fault; no block has lost its writes.
pub record AllSurvive : Type 0 where
  pub taken : state_taken opening (packets_heard opening triggered) 0 ≡ Some state
  pub check : Reports opening at 0 (came 2) (report [])
  pub state_is : check.new.state ≡ Some state
  pub survive : (k : ℕ) → IsTrue (has state.counted k) → SurvivesIn check state k
  pub no_fault : (report []).faults ≡ 0
  pub none_lost : (block : ℕ) → block < check.new.job.rec.blocks → HasLostIn check block → ⊥

-- Where block 0 holds write k, write 2 doesn't survive, which had completed. So there is a fault,
-- and the block that is listed has lost its writes.
pub record OneIsLost (k : ℕ) : Type 0 where
  pub check : Reports opening at 0 (came k) (report (0 ∷ []))
  pub state_is : check.new.state ≡ Some state
  pub taken : IsTakenOf check.new.job.rec state events
  pub done : IsTrue (is_done events 2)
  pub gone : SurvivesIn check state 2 → ⊥
  pub fault : 0 < (report (0 ∷ [])).faults
  pub lost : HasLostIn check 0
