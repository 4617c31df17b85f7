-- What a Start that is due rests on.
use Rattle.std.specs.Prelude.{◌≡◌, ℕ, ◌<◌, Bool, true, false, List, Option, Some}
use Rattle.server_core.specs.Inputs.{PacketInput}
use Rattle.server_core.specs.History.{Opening, Entry}
use Rattle.server_core.specs.Request.{Request, ToStart, request_of}
use Rattle.server_core.specs.Run.{Work, is_open}
use Rattle.server_core.specs.Words.{Staged, is_on, last_run, staged_run, work, due}

-- The server is on, a Start of the staged run is asked, the run is above the last one, and no write
-- is open.
pub record IsDueStart (on : Bool) (last : ℕ) (found : Option Staged) (now : Option Work)
    (x : Request) (s : Staged) : Type 0 where
  pub is_up : on ≡ true
  pub start : x ≡ ToStart s.run
  pub staged_is : found ≡ Some s
  pub above : last < s.run
  pub none_open : is_open now ≡ false

-- Where an input is due to record a run, it is a Start of the staged run, of a number above the
-- last one, at a server that is on and has no open write.
abbrev pub DueIsStart : Type 0
DueIsStart =
    (opening : Opening) (past : List Entry) (e : PacketInput) (s : Staged) →
    due opening past e ≡ Some s
    → IsDueStart (is_on past) (last_run opening past) (staged_run opening past) (work opening past)
    (request_of opening.me e) s
