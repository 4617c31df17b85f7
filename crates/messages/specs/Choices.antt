-- The numbers of acts, of requests and of reasons in frames.
use Rattle.std.specs.Prelude.{ℕ, ◌==◌, [], ◌∷◌, Option, find}
use Rattle.fc_base.specs.declared.fault.Fault.{Fault}
use Rattle.fc_base.specs.declared.fault.Fault.TheVariants as faults
use Rattle.fc_base.specs.Fault.{number_of}
use Rattle.messages.specs.declared.refusal.Act.{Act}
use Rattle.messages.specs.declared.refusal.Act.TheVariants as acts
use Rattle.messages.specs.declared.refusal.RefusedRequest.{RefusedRequest}
use Rattle.messages.specs.declared.refusal.RefusedRequest.TheVariants.{Jobs, Start, Trigger, Stop, Verify}
use Rattle.messages.specs.declared.refusal.Reason.{Reason}
use Rattle.messages.specs.declared.refusal.Reason.TheVariants.{Old, Busy, NoJobs, Gone, Overwritten, Unknown, BadJobs, Misfit}

-- The number of an act.
abbrev pub act_number : Act → ℕ
act_number acts.None = 0
act_number acts.Cut = 1

-- The act with this number.
unfoldable pub act_numbered : ℕ → Option Act
act_numbered n = find (λ act. act_number act == n) (acts.None ∷ acts.Cut ∷ [])

-- The number of a request is that of its packet.
abbrev pub asked_number : RefusedRequest → ℕ
asked_number Jobs = 1
asked_number Start = 3
asked_number Trigger = 5
asked_number Stop = 9
asked_number Verify = 11

-- The request with this number.
unfoldable pub asked_numbered : ℕ → Option RefusedRequest
asked_numbered n =
    find (λ asked. asked_number asked == n) (Jobs ∷ Start ∷ Trigger ∷ Stop ∷ Verify ∷ [])

-- The row of the table of faults.
abbrev pub reason_fault : Reason → Fault
reason_fault Old = faults.Old
reason_fault Busy = faults.Busy
reason_fault NoJobs = faults.NoJobs
reason_fault Gone = faults.Gone
reason_fault Overwritten = faults.Overwritten
reason_fault Unknown = faults.Unknown
reason_fault BadJobs = faults.BadJobs
reason_fault Misfit = faults.Misfit

-- The number of a reason is that of its fault, 60 to 67.
abbrev pub reason_number : Reason → ℕ
reason_number reason = number_of (reason_fault reason)

-- The reason with this number.
unfoldable pub reason_numbered : ℕ → Option Reason
reason_numbered n = find (λ reason. reason_number reason == n)
    (Old ∷ Busy ∷ NoJobs ∷ Gone ∷ Overwritten ∷ Unknown ∷ BadJobs ∷ Misfit ∷ [])
