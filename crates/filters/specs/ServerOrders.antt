-- Which writes the jobs of a server would be given.
use Rattle.std.specs.Prelude.{◌≡◌, ◌<◌, ℕ, false, List, Option}
use Rattle.fc_base.specs.declared.limits.TheConstants.{MAX_JOBS}
use Rattle.node.specs.Steps.{unless_refused}
use Rattle.engine.specs.declared.issue.Issue.{Issue as Answer}
use Rattle.server_core.specs.declared.input.Input.TheVariants.{Issue}
use Rattle.server_core.specs.History.{Opening}
use Rattle.server_core.specs.Hearing.{FrameEntry}
use Rattle.server_core.specs.FrameAnswers.{refusal, issue}
use Rattle.server_core.specs.Laws.{gives_write}

-- What job j would answer to a request for a write, where that isn't refused.
abbrev pub answer_of : Opening → List FrameEntry → ℕ → Option Answer
answer_of opening past j =
    unless_refused (refusal opening past (Issue j)) (issue opening past (Issue j))

-- Job j would be given no write.
abbrev pub GivesNone : Opening → List FrameEntry → ℕ → Type 0
GivesNone opening past j = gives_write (answer_of opening past j) ≡ false

-- All writes are given that can be: no job would be given one more.
abbrev pub AreAllGiven : Opening → List FrameEntry → Type 0
AreAllGiven opening past = (j : ℕ) → j < MAX_JOBS → GivesNone opening past j
