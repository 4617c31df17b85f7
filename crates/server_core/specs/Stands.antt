-- What a server keeps of its words.
use Rattle.std.specs.Prelude.{◌≡◌, ℕ, Option, Some, None}
use Rattle.server_core.specs.declared.machine.Machine.{Machine}
use Rattle.server_core.specs.Run.{Work}
use Rattle.server_core.specs.Check.{Check}
use Rattle.server_core.specs.Replies.{Now}
use Rattle.server_core.specs.Kept.{Kept, RunIs}
use Rattle.server_core.specs.KeptCheck.{CheckKept, check_kept}

-- The present run of this server and boot is kept.
pub record IsKeptRun (me now_boot : ℕ) (kept : Kept) (w : Work) : Type 0 where
  pub run : RunIs kept w
  pub server : w.server ≡ me
  pub boot_is : w.boot ≡ now_boot

-- The present run is kept, if there is one.
abbrev pub WorkIs : ℕ → ℕ → Option Kept → Option Work → Type 0
WorkIs me now_boot None None = Unit {0}
WorkIs me now_boot (Some kept) (Some w) = IsKeptRun me now_boot kept w
WorkIs me now_boot None (Some w) = ⊥
WorkIs me now_boot (Some kept) None = ⊥

-- The open check of this server and boot is kept.
pub record IsKeptCheck (me now_boot : ℕ) (kept : CheckKept) (c : Check) : Type 0 where
  pub is : kept ≡ check_kept c
  pub server : c.server ≡ me
  pub boot_is : c.boot ≡ now_boot

-- The open check is kept, if there is one.
abbrev pub OpenIs : ℕ → ℕ → Option CheckKept → Option Check → Type 0
OpenIs me now_boot None None = Unit {0}
OpenIs me now_boot (Some kept) (Some c) = IsKeptCheck me now_boot kept c
OpenIs me now_boot None (Some c) = ⊥
OpenIs me now_boot (Some kept) None = ⊥

-- P holds of each present run that is kept so.
abbrev pub EachWork : Option Kept → (ℕ → ℕ → Option Work → Type 0) → Type 0
EachWork kept P = (me now_boot : ℕ) (w : Option Work) → WorkIs me now_boot kept w → P me now_boot w

-- All that a server keeps of its words.
pub record MachineIs (machine : Machine) (now : Now) : Type 0 where
  pub me : machine.me ≡ now.server
  pub boot_is : machine.boot ≡ now.boot
  pub last_is : machine.last_run ≡ now.last
  pub staged_is : machine.staged ≡ now.staged
  pub run_is : WorkIs now.server now.boot machine.run now.run
  pub check_is : OpenIs now.server now.boot machine.check now.check

-- P holds of the words of which this is kept.
abbrev pub EachNow : Machine → (Now → Type 0) → Type 0
EachNow machine P = (now : Now) → MachineIs machine now → P now

-- P holds of each open check that is kept so.
abbrev pub EachOpen : Option CheckKept → (ℕ → ℕ → Option Check → Type 0) → Type 0
EachOpen kept P = (me now_boot : ℕ) (c : Option Check) → OpenIs me now_boot kept c → P me now_boot c

-- The words of a server that was just restarted.
abbrev pub blank : ℕ → ℕ → ℕ → Now
blank me now_boot last = record {
  server = me;
  boot = now_boot;
  last = last;
  staged = None;
  run = None;
  check = None;
}
