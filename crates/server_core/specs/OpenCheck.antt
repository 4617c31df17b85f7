-- What the open check is of.
use Rattle.std.specs.Prelude.{◌≡◌, ℕ, List, Some}
use Rattle.server_core.specs.History.{Opening, Entry}
use Rattle.server_core.specs.Words.{boot, last_run}
use Rattle.server_core.specs.Check.{Check, check}

-- A check is of this run, server and boot.
pub record IsCheckOf (me now_boot last : ℕ) (c : Check) : Type 0 where
  pub server : c.server ≡ me
  pub boot_is : c.boot ≡ now_boot
  pub run : c.run ≡ last

-- The open check is of the last run, of this server and boot.
abbrev pub OpenCheckIsLast : Type 0
OpenCheckIsLast =
    (opening : Opening) (past : List Entry) (c : Check) →
    check opening past ≡ Some c → IsCheckOf opening.me (boot opening past) (last_run opening past) c
