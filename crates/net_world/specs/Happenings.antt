-- What can happen in a world of a client, its servers and its mirror.
use Rattle.std.specs.Prelude.{ℕ, Bool, List}
use Rattle.messages.specs.declared.node.Node.{Node}
use Rattle.messages.specs.declared.refusal.Act.{Act}

-- A happening is one thing that can come about in a world: its client is asked something, a frame
-- comes, a write or a check goes on, a sector changes, or a node loses its power or its note, or
-- starts again. Any number may be given: those of no server, frame or write are refused.
pub data Happening : Type 0 where
  Begin : List ℕ → Happening  -- the client begins a run with this job file
  Trigger : ℕ → Act → Happening  -- it triggers a run's states, and then this act
  StopRun : ℕ → Happening  -- it stops a run
  Verify : ℕ → List ℕ → Happening  -- it has a run's files checked by this job file
  Tick : Happening  -- it asks again for all that isn't answered
  Deliver : ℕ → Happening  -- a frame comes to its node, for the first time or again
  Issue : ℕ → ℕ → Happening  -- server, job: a worker asks for the next write
  Land : ℕ → ℕ → ℕ → ℕ → Happening  -- server, job, write, mask: these sectors of an open write land
  Done : ℕ → ℕ → ℕ → Happening  -- server, job, write: an open write is done
  Fail : ℕ → ℕ → ℕ → Happening  -- server, job, write: an open write has failed
  Rot : ℕ → ℕ → ℕ → List ℕ → Happening  -- server, job, sector: it holds these bytes from now on
  Check : ℕ → ℕ → Happening  -- server, job: its file is checked
  Cut : Node → Happening  -- a node loses its power
  Restart : Node → Happening  -- a node is started again
  LoseNote : Happening  -- the note of the client, which is off, is lost
  Renew : ℕ → Happening  -- the client is started on no note, with this generation
  CutIn : Bool → Happening → Happening  -- a node loses its power within the save of this, which has landed or not
