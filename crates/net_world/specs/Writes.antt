-- The open writes of a server.
use Rattle.std.specs.Prelude.{ℕ, List, Option}
use Rattle.engine.specs.Running.{Origin}
use Rattle.server_core.specs.OpenWrites.{open_origin}
use Rattle.server_core.specs.Words.{work}
use Rattle.net_world.specs.Trace.{Step, of_server, opening_of}

-- Where write k of job j at server s comes from, if it is open.
abbrev pub open_at : List Step → ℕ → ℕ → ℕ → Option Origin
open_at t s j k = open_origin (work (opening_of s) (of_server s t)) j k
