-- A request for a write, and the end of one, are handled as the words say.
use Rattle.std.proofs.Common.{◌≡◌, refl, ap, inr, ℕ, Option, None, Some}
use Rattle.std.specs.Prelude.{OnErr, Result, Ok, Err}
use Rattle.fc_base.specs.declared.fault.Fault.{Fault}
use Rattle.engine.specs.declared.issue.Issue.{Issue}
use Rattle.engine.specs.declared.issue.Ticket.{Ticket}
use Rattle.server_core.specs.declared.input.WriteEnd.{WriteEnd}
use Rattle.server_core.specs.declared.machine.Machine.{Machine}
use Rattle.server_core.specs.Request.{ToIssue, ToEnd}
use Rattle.server_core.specs.Replies.{Now}
use Rattle.server_core.specs.Answers.{issue_of, refusal_of}
use Rattle.server_core.specs.Handles.{Handled, outs_of_issue, outs_of_end}
use Rattle.server_core.specs.InnerCalls.{ok_unless_refused}
use Rattle.server_core.specs.Stands.{MachineIs}
use Rattle.server_core.specs.WordsAfter.{words_after}
use Rattle.server_core.proofs.EndLemmas as ends
use Rattle.server_core.proofs.RunLemmas.{no_marks}
use Rattle.server_core.proofs.UndueLemmas.{asks_nothing, reason_told}

pub issue_handled : (now : Now) (j : ℕ) (old new : Machine) (answer : Issue) → answer ≡ issue_of j now.run → MachineIs new (words_after now (ToIssue j))
    → Handled now (ToIssue j) old new (outs_of_issue (Ok answer))
issue_handled now j old new answer is left = record {
  free = refl;
  frames_are = refl;
  issue_is = ap Some is;
  act_is = asks_nothing now.run (ToIssue j) (λ b run. no_marks b run j);
  left = left;
}

accepted : (reason : Option Fault) (u : Unit {0}) → Ok u ≡ ok_unless_refused reason → reason ≡ None
accepted None u e = refl
accepted (Some f) u e = cc

pub end_handled : (now : Now) (ticket : Ticket) (end : WriteEnd) (old new : Machine) (result : Result (Unit {0}) Fault)
    → result ≡ ok_unless_refused (refusal_of now (ToEnd ticket end)) → MachineIs new (words_after now (ToEnd ticket end)) → OnErr result (new ≡ old)
    → Handled now (ToEnd ticket end) old new (outs_of_end result)
end_handled now ticket end old new (Ok u) is left same = record {
  free = accepted (refusal_of now (ToEnd ticket end)) u is;
  frames_are = refl;
  issue_is = refl;
  act_is = asks_nothing now.run (ToEnd ticket end) (λ b run. ends.no_marks b run ticket end);
  left = left;
}
end_handled now ticket end old new (Err fault) is left same =
    record { why = inr (reason_told (refusal_of now (ToEnd ticket end)) fault is); same = same }
