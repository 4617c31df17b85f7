-- Which reports a server sends: each is of a check that was done here.
use Rattle.std.specs.Prelude.{◌≡◌, ℕ, List, ◌∷◌, ◌++◌, Contains, None, Some}
use Rattle.fc_base.specs.declared.report.ReportParts.{ReportParts}
use Rattle.messages.specs.declared.packet.PacketParts.{PacketParts}
use Rattle.messages.specs.declared.body.Body.TheVariants as bodies
use Rattle.disk_model.specs.declared.save_outcome.SaveOutcome.{SaveOutcome}
use Rattle.server_core.specs.declared.input.Input.TheVariants.{CheckDone}
use Rattle.server_core.specs.History.{Opening, Entry, Met}
use Rattle.server_core.specs.Check.{Check, check}
use Rattle.server_core.specs.Answers.{refusal, packets}

-- Among what came, a check of this run was done with this report: it was open then, in this
-- attempt, and its job was ready, for the end of the check wasn't refused.
pub record WasMade (opening : Opening) (list : List Entry) (run attempt j : ℕ)
    (report : ReportParts) : Type 0 where
  pub newer : List Entry
  pub boot : ℕ
  pub left : SaveOutcome
  pub older : List Entry
  pub split : list ≡ newer ++ Met (CheckDone boot attempt j report) left ∷ older
  pub now : Check
  pub is_open : check opening older ≡ Some now
  pub run_is : now.run ≡ run
  pub attempt_is : now.attempt ≡ attempt
  pub accepted : refusal opening older (CheckDone boot attempt j report) ≡ None

-- Each Report that a server sends, for the first time or again, says the run, the attempt, the job
-- and the report of a check that was done here.
abbrev pub ReportsWereMade : Type 0
ReportsWereMade =
    (opening : Opening) (past : List Entry) (e : Entry) (p : PacketParts)
    (run attempt j jobs : ℕ) (report : ReportParts) →
    Contains (packets opening past e) p → p.body ≡ bodies.Report run attempt j jobs report
    → WasMade opening (e ∷ past) run attempt j report
