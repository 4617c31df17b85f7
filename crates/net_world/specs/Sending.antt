-- The frames that a world keeps.
use Rattle.std.specs.Prelude.{ℕ, List, ◌++◌}
use Rattle.net_world.specs.declared.frame_log.FrameLog.{FrameLog}

-- All of them, the oldest first.
abbrev pub sent_in : FrameLog → List (List ℕ)
sent_in sent = sent.older ++ sent.last
