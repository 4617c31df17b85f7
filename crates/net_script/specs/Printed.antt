-- The lines that are printed.
use Rattle.std.specs.Prelude.{ℕ, ◌+◌, Bool, false, nat_lt, List, [], ◌∷◌, ◌++◌, length, Option, Some, None, codes, decimal, slice_get}
use Rattle.std.specs.Option.{option_map}
use Rattle.fc_base.specs.declared.fault.Fault.{Fault}
use Rattle.program_io.specs.Words.{with_blanks_between}
use Rattle.program_io.specs.Reports.{report_words}
use Rattle.program_io.specs.Refusals as printed
use Rattle.engine.specs.declared.issue.Issue.{Issue}
use Rattle.engine.specs.declared.issue.Issue.TheVariants.{Write, Full, Held, Overlap, Finished, Stopped}
use Rattle.messages.specs.declared.node.Node.{Node}
use Rattle.messages.specs.declared.node.Node.TheVariants.{Server, Client, Mirror}
use Rattle.messages.specs.declared.frame.Frame.{Frame}
use Rattle.messages.specs.declared.refusal.Act.{Act}
use Rattle.messages.specs.declared.refusal.Act.TheVariants as acts
use Rattle.messages.specs.declared.reading.look.FrameLook.{FrameLook}
use Rattle.messages.specs.FrameBytes.{frame_spelling}
use Rattle.messages.specs.Looks.{look_of, sort_name}
use Rattle.net_world.specs.Setup.{Setup}
use Rattle.net_world.specs.declared.told.WorldAnswer.{WorldAnswer}
use Rattle.net_world.specs.declared.told.WorldAnswer.TheVariants.{Plain, Run, Attempt, Issued, Checked}
use Rattle.net_world.specs.Happenings.{Happening, Deliver}
use Rattle.net_world.specs.Frames.{frames_sent, frames_of_step, to_of}
use Rattle.net_world.specs.Changes.{Change, Met, Landed, Rotted, steps}
use Rattle.net_world.specs.Outcomes.{Outcome, Does, Refuses, Drops, outcome}
use Rattle.net_world.specs.World.{answer, act}
use Rattle.fc_base.specs.declared.fault.Fault.TheVariants.{FrameBadField}

-- What a worker is told that asks for a write.
abbrev pub issue_words : Issue → List (List ℕ)
issue_words (Write ticket) =
    codes "write" ∷ decimal ticket.seq ∷ codes "block" ∷ decimal ticket.block ∷ []
issue_words Full = codes "full" ∷ []
issue_words Held = codes "held" ∷ []
issue_words Overlap = codes "overlap" ∷ []
issue_words Finished = codes "finished" ∷ []
issue_words Stopped = codes "stopped" ∷ []

-- The words of an answer.
abbrev pub answer_words : WorldAnswer → List (List ℕ)
answer_words Plain = []
answer_words (Run run) = codes "run" ∷ decimal run ∷ []
answer_words (Attempt attempt) = codes "attempt" ∷ decimal attempt ∷ []
answer_words (Issued issue) = issue_words issue
answer_words (Checked report) = codes "report" ∷ report_words report

-- The line of an answer.
abbrev pub answer_line : WorldAnswer → List ℕ
answer_line answer = with_blanks_between (codes "ok" ∷ answer_words answer)

-- A report has faults.
abbrev pub has_faults : WorldAnswer → Bool
has_faults (Checked report) = nat_lt 0 report.faults
has_faults Plain = false
has_faults (Run run) = false
has_faults (Attempt attempt) = false
has_faults (Issued issue) = false

-- The line of a refusal.
abbrev pub refusal_line : Fault → List ℕ
refusal_line fault = printed.refusal_line (printed.plain fault)

-- The line of a bad line.
abbrev pub bad_line : ℕ → List ℕ
bad_line number = with_blanks_between (codes "bad" ∷ codes "line" ∷ decimal number ∷ [])

-- The word that is printed for a node.
abbrev pub node_word : Node → List ℕ
node_word (Server s) = decimal s
node_word Client = codes "client"
node_word Mirror = codes "mirror"

-- The line of a frame that was sent: its number, the nodes, its kind and its length.
abbrev pub frame_line : ℕ → FrameLook → ℕ → List ℕ
frame_line i look len =
    with_blanks_between (codes "sent" ∷ decimal i ∷ node_word look.from ∷ node_word look.to
    ∷ sort_name look.kind
    ∷ decimal len ∷ [])

-- The line of a frame at a position, by how it looks and how long it is.
abbrev pub sent_line : ℕ → Frame → List ℕ
sent_line i f = frame_line i (look_of f) (length (frame_spelling f))

-- The lines of frames, numbered on from a number.
abbrev pub sent_lines : ℕ → List Frame → List (List ℕ)
sent_lines i [] = []
sent_lines i (f ∷ fs) = sent_line i f ∷ sent_lines (i + 1) fs

-- The frames that are sent with a change.
abbrev pub frames_of_change : Setup → List Change → Change → List Frame
frames_of_change setup past (Met step) = frames_of_step setup (steps past) step
frames_of_change setup past (Landed s j k mask) = []
frames_of_change setup past (Rotted s j sector bytes) = []

-- The node to which a frame comes.
abbrev pub addressee : Setup → List Change → Happening → Option Node
addressee setup past (Deliver i) = option_map to_of (slice_get (frames_sent setup (steps past)) i)
addressee setup past e = None

-- The line of a cut that a server asks for.
abbrev pub cut_line : Node → List ℕ
cut_line node = with_blanks_between (codes "act" ∷ codes "cut" ∷ node_word node ∷ [])

-- A server asks for the cut where a frame came to it.
abbrev pub act_lines : Option Node → Act → List (List ℕ)
act_lines (Some node) acts.Cut = cut_line node ∷ []
act_lines (Some node) acts.None = []
act_lines None asked = []

-- The lines of what happens, by what comes of it.
abbrev pub lines_by : Setup → List Change → Happening → Outcome → List (List ℕ)
lines_by setup past e (Refuses fault) = refusal_line fault ∷ []
lines_by setup past e (Drops step) = refusal_line FrameBadField ∷ []
lines_by setup past e (Does change) =
    (answer_line (answer setup past e) ∷ sent_lines (length (frames_sent setup (steps past)))
    (frames_of_change setup past change))
    ++ act_lines (addressee setup past e) (act setup past change)

-- The lines of what happens.
abbrev pub lines_at : Setup → List Change → Happening → List (List ℕ)
lines_at setup past e = lines_by setup past e (outcome setup past e)
