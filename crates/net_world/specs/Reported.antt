-- What a report that is shown is of: a check that its server was done with.
use Rattle.std.specs.Prelude.{◌≡◌, ℕ, List, Option, Contains}
use Rattle.fc_base.specs.declared.report.ReportParts.{ReportParts}
use Rattle.verify_state.specs.State.{State}
use Rattle.messages.specs.declared.packet.PacketParts.{PacketParts}
use Rattle.messages.specs.declared.body.Body.TheVariants as bodies
use Rattle.messages.specs.declared.node.Node.TheVariants.{Server}
use Rattle.server_core.specs.Made.{WasMade}
use Rattle.net_world.specs.Setup.{Setup}
use Rattle.net_world.specs.Trace.{Step, opening_of, of_server, sent_packets}
use Rattle.net_world.specs.Exact.{IsMadeWith}

-- A check at this server was done with this report: of this run, attempt and job, and made with a
-- state of that run which was taken there, and since which no write was issued there; or it was a
-- full pass.
pub record WasReported (t : List Step) (s run attempt j : ℕ) (report : ReportParts) : Type 0 where
  pub done : WasMade (opening_of s) (of_server s t) run attempt j report
  pub state : Option State
  pub made : IsMadeWith s j done.older state

-- Each Report that was sent came from a server, where a check was done with that report.
abbrev pub SentReportsWereMade : Setup → List Step → Type 0
SentReportsWereMade w t =
    (p : PacketParts) (run attempt j jobs : ℕ) (report : ReportParts) →
    Contains (sent_packets w t) p → p.body ≡ bodies.Report run attempt j jobs report
    → (s : ℕ) × (p.from ≡ Server s) × WasReported t s run attempt j report
