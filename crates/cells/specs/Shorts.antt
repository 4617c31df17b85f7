-- What the short entries of workers' turns stand for.
use Rattle.std.specs.Prelude.{[], Some, Result, Ok}
use Rattle.fc_base.specs.declared.fault.Fault.{Fault}
use Rattle.engine.specs.declared.issue.Issue.TheVariants as issues
use Rattle.engine.specs.declared.issue.Ticket.{Ticket}
use Rattle.server_core.specs.declared.input.WriteEnd.TheVariants as ends
use Rattle.messages.specs.declared.refusal.Act.TheVariants as acts
use Rattle.cells.specs.declared.answer.Answer.{Answer}
use Rattle.cells.specs.declared.answer.Answer.TheVariants.{Plain, Issued}
use Rattle.cells.specs.declared.answer.Reply.{Reply}
use Rattle.cells.specs.declared.input.NodeInput.{NodeInput}
use Rattle.cells.specs.declared.input.NodeInput.TheVariants as came
use Rattle.cells.specs.declared.entry.HistoryEntry.{HistoryEntry}
use Rattle.cells.specs.declared.entry.Turn.{Turn}
use Rattle.cells.specs.declared.compact.ShortEvent.{ShortEvent}
use Rattle.cells.specs.declared.compact.ShortEvent.TheVariants as deeds
use Rattle.cells.specs.declared.compact.CompactEntry.{CompactEntry}

-- The entry of a seat's turn that sent nothing.
abbrev pub turn_entry : Turn → NodeInput → Result Reply Fault → HistoryEntry
turn_entry by came answer = record { by = Some by; came = came; answer = answer; sent = [] }

-- The reply with this answer, which asks for no act.
abbrev pub reply_of : Answer → Result Reply Fault
reply_of answer = Ok (record { answer = answer; act = acts.None })

-- Whose turn a short entry tells of.
abbrev pub turn_of : CompactEntry → Turn
turn_of s = record { seat = s.seat; number = s.number }

-- The write of a short entry, where it tells of one; else it names the job alone.
abbrev pub ticket_of : CompactEntry → Ticket
ticket_of s = record {
  boot = s.boot;
  key = record { run = s.run; server = s.server; job = s.job };
  seq = s.seq;
  block = s.block;
}

-- What came to the server in a worker's turn, by its deed.
abbrev pub came_by : ShortEvent → Ticket → NodeInput
came_by deeds.Done ticket = came.WriteDone ticket ends.Done
came_by deeds.Failed ticket = came.WriteDone ticket ends.Failed
came_by _ ticket = came.Issue ticket.key.job

-- What was answered in a worker's turn, by its deed.
abbrev pub answer_by : ShortEvent → Ticket → Answer
answer_by deeds.Write ticket = Issued (issues.Write ticket)
answer_by deeds.Full ticket = Issued issues.Full
answer_by deeds.Held ticket = Issued issues.Held
answer_by deeds.Overlap ticket = Issued issues.Overlap
answer_by deeds.Finished ticket = Issued issues.Finished
answer_by deeds.Stopped ticket = Issued issues.Stopped
answer_by deeds.Done ticket = Plain
answer_by deeds.Failed ticket = Plain

-- The entry that a short one stands for.
abbrev pub entry_of : CompactEntry → HistoryEntry
entry_of s = turn_entry (turn_of s) (came_by s.deed (ticket_of s))
    (reply_of (answer_by s.deed (ticket_of s)))
