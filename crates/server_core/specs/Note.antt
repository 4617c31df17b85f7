-- The bytes of a server's note: what outlasts a cut.
use Rattle.std.specs.Prelude.{◌≡◌, ◌⊎◌, ℕ, ◌<◌, ◌^◌, List, [], ◌++◌, Option, Some, None, codes}
use Rattle.std.specs.Int.{w64, to_be_bytes}
use Rattle.server_core.specs.declared.note.ServerNote.{ServerNote}

-- The magic, the boot and the last run.
abbrev pub spelling : ServerNote → List ℕ
spelling n = codes "FCN1" ++ (to_be_bytes w64 n.boot ++ to_be_bytes w64 n.last_run)

-- What a blank note says.
abbrev pub blank : ServerNote
blank = record { boot = 0; last_run = 0 }

-- The bytes say this boot and last run, numbers of eight bytes. No bytes at all are a blank note.
pub record Says (bytes : List ℕ) (n : ServerNote) : Type 0 where
  pub boot_range : n.boot < 2 ^ 64
  pub last_range : n.last_run < 2 ^ 64
  pub spelled : (bytes ≡ spelling n) ⊎ ((bytes ≡ []) × (n ≡ blank))

-- A reader gives what the bytes say, and nothing where they say nothing.
abbrev pub Reads : List ℕ → Option ServerNote → Type 0
Reads bytes (Some n) = Says bytes n
Reads bytes None = (n : ServerNote) → Says bytes n → ⊥

-- Bytes say one thing at most.
abbrev pub SaysOneThing : Type 0
SaysOneThing = (bytes : List ℕ) (n m : ServerNote) → Says bytes n → Says bytes m → n ≡ m
