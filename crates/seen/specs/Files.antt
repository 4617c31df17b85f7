-- What a file holds, as it is seen: zeros at first, then the sectors of writes that have landed,
-- and those that have changed by themselves.
use Rattle.std.specs.Prelude.{ℕ, Bool, true, ◌==◌, ◌&&◌, if◌then◌else◌, List, [], ◌∷◌, length, Option, Some, None, is_ok, Result, Ok}
use Rattle.std.specs.Option.{option_or}
use Rattle.fc_base.specs.declared.fault.Fault.{Fault}
use Rattle.job_file.specs.declared.job.Job.{Job}
use Rattle.write_order.specs.Stamps.{bytes_of}
use Rattle.disk_model.specs.File.{zeros, landed, put, first_sector, has_bit}
use Rattle.engine.specs.declared.issue.Issue.TheVariants.{Write}
use Rattle.engine.specs.declared.issue.Ticket.{Ticket}
use Rattle.net_world.specs.declared.told.Told.{Told}
use Rattle.net_world.specs.declared.told.WorldAnswer.{WorldAnswer}
use Rattle.net_world.specs.declared.told.WorldAnswer.TheVariants.{Issued}
use Rattle.net_world.specs.Happenings.{Happening, Issue, Land, Rot}
use Rattle.seen.specs.Observations.{Observation}
use Rattle.seen.specs.Texts.{job_of}

-- File i of server t is file j of server s.
abbrev pub is_file : ℕ → ℕ → ℕ → ℕ → Bool
is_file t i s j = (t == s) && (i == j)

-- The ticket of write k, where the answer gives that write.
abbrev pub ticket_in : ℕ → WorldAnswer → Option Ticket
ticket_in k (Issued (Write ticket)) = if ticket.seq == k then Some ticket else None
ticket_in k _ = None

-- The ticket of write k, where a worker that asked server s for a write of job j was given it.
abbrev pub ticket_with : ℕ → ℕ → ℕ → Happening → Result Told Fault → Option Ticket
ticket_with s j k (Issue t i) (Ok told) =
    if is_file t i s j then ticket_in k told.answer else None
ticket_with s j k _ _ = None

-- The ticket with which write k of job j at server s was last given.
abbrev pub given_write : ℕ → ℕ → ℕ → List Observation → Option Ticket
given_write s j k [] = None
given_write s j k (o ∷ past) =
    option_or (ticket_with s j k o.event o.told) (given_write s j k past)

-- The content once the masked sectors of a block of these bytes have landed.
abbrev pub with_block : ℕ → ℕ → List ℕ → (ℕ → List ℕ) → ℕ → List ℕ
with_block mask block bytes content =
    landed (has_bit mask) (first_sector block (length bytes)) bytes content

-- The content once the masked sectors of a write of this job have landed.
abbrev pub with_job : Ticket → ℕ → Option Job → (ℕ → List ℕ) → ℕ → List ℕ
with_job ticket mask None content = content
with_job ticket mask (Some job) content =
    with_block mask ticket.block (bytes_of ticket.key job.rec ticket.seq) content

-- The content once the masked sectors of a write have landed, where it was given.
abbrev pub with_ticket : List Observation → Option Ticket → ℕ → (ℕ → List ℕ) → ℕ → List ℕ
with_ticket seen None mask content = content
with_ticket seen (Some ticket) mask content =
    with_job ticket mask (job_of ticket.key seen) content

-- The content of file j at server s behind an event, where that wasn't refused.
abbrev pub content_with : List Observation → ℕ → ℕ → Happening → Bool → (ℕ → List ℕ) → ℕ → List ℕ
content_with past s j (Land t i k mask) true content =
    if is_file t i s j then with_ticket past (given_write t i k past) mask content else content
content_with past s j (Rot t i sector bytes) true content =
    if is_file t i s j then put sector bytes content else content
content_with past s j _ _ content = content

-- The bytes of each sector of file j at server s.
abbrev pub held : List Observation → ℕ → ℕ → ℕ → List ℕ
held [] s j = λ _. zeros
held (o ∷ past) s j = content_with past s j o.event (is_ok o.told) (held past s j)
