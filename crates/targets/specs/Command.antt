-- What a command line of `drive` may ask for.
use Rattle.std.specs.Prelude.{◌≡◌, ◌<◌, ℕ, IsTrue, List, [], ◌∷◌, take, drop, Option, Some, None, codes, unwrap_or}
use Rattle.fc_base.specs.declared.limits.TheConstants.{MAX_JOBS}
use Rattle.fc_base.specs.declared.numbers.Key.{Key}
use Rattle.fc_base.specs.Keys.{is_key}
use Rattle.targets.specs.declared.command.Request.{Request}
use Rattle.targets.specs.declared.command.Request.TheVariants.{Write, Tour, Check, Map, Ledger, Wanted}
use Rattle.targets.specs.declared.command.Since.{Since}
use Rattle.targets.specs.declared.command.Since.TheVariants as sinces
use Rattle.program_io.specs.Words.{IsNumber}
use Rattle.targets.specs.Jobs.{key_of}

-- The run and the job have a key; the job of a tour has one in each run.
abbrev pub IsRequest : Request → Type 0
IsRequest (Write run job) = IsTrue (is_key (key_of run job))
IsRequest (Tour job) = job < MAX_JOBS
IsRequest (Check run job) = IsTrue (is_key (key_of run job))
IsRequest (Map key unit) = IsTrue (is_key key)
IsRequest (Ledger key since) = IsTrue (is_key key)
IsRequest (Wanted key since) = IsTrue (is_key key)

-- Four words: the program's own, the command, the run and the job.
abbrev pub AreWords : List (List ℕ) → List ℕ → ℕ → ℕ → Type 0
AreWords (program ∷ word ∷ first ∷ second ∷ []) command run job =
    (word ≡ command) × IsNumber first run × IsNumber second job
AreWords _ command run job = ⊥

-- Three words: the program's own, that of a tour, and the job.
abbrev pub AreTourWords : List (List ℕ) → ℕ → Type 0
AreTourWords (program ∷ word ∷ number ∷ []) job = (word ≡ codes "tour") × IsNumber number job
AreTourWords _ job = ⊥

-- An option of this name: its word and its number, or neither.
abbrev pub IsOption : List ℕ → Option ℕ → List (List ℕ) → Type 0
IsOption name None words = words ≡ []
IsOption name (Some n) (option ∷ number ∷ []) = (option ≡ name) × IsNumber number n
IsOption name (Some n) _ = ⊥

-- How many words an option has.
abbrev pub option_words : Option ℕ → ℕ
option_words None = 0
option_words (Some n) = 2

-- The words of a server, and behind them those of a unit.
pub record AreOptions (words : List (List ℕ)) (server unit : Option ℕ) : Type 0 where
  pub server_is : IsOption (codes "--server") server (take (option_words server) words)
  pub unit_is : IsOption (codes "--unit") unit (drop (option_words server) words)

-- The words of a map, and behind them those of its options.
abbrev pub AreMapWords : List (List ℕ) → ℕ → ℕ → Option ℕ → Option ℕ → Type 0
AreMapWords words run job server unit =
    AreWords (take 4 words) (codes "map") run job × AreOptions (drop 4 words) server unit

-- The word of a check by a ledger, by what has happened since that was made.
abbrev pub ledger_word : Since → List ℕ
ledger_word sinces.Run = codes "ledger"
ledger_word sinces.LostRun = codes "ledger-lost"
ledger_word sinces.Rest = codes "ledger-rest"

-- The word by which it is asked which blocks such a check has to read.
abbrev pub wanted_word : Since → List ℕ
wanted_word sinces.Run = codes "wanted"
wanted_word sinces.LostRun = codes "wanted-lost"
wanted_word sinces.Rest = codes "wanted-rest"

-- The words of a command by a ledger, and behind them those of a server.
abbrev pub AreLedgerWords : List (List ℕ) → List ℕ → ℕ → ℕ → Option ℕ → Type 0
AreLedgerWords words command run job server =
    AreWords (take 4 words) command run job
    × IsOption (codes "--server") server (drop 4 words)

-- The words ask for just this.
abbrev pub Asks : List (List ℕ) → Request → Type 0
Asks words (Write run job) = AreWords words (codes "write") run job
Asks words (Tour job) = AreTourWords words job
Asks words (Check run job) = AreWords words (codes "check") run job
Asks words (Map key unit) =
    (server : Option ℕ) × AreMapWords words key.run key.job server unit
    × (key.server ≡ unwrap_or server 0)
Asks words (Ledger key since) =
    (server : Option ℕ) × AreLedgerWords words (ledger_word since) key.run key.job server
    × (key.server ≡ unwrap_or server 0)
Asks words (Wanted key since) =
    (server : Option ℕ) × AreLedgerWords words (wanted_word since) key.run key.job server
    × (key.server ≡ unwrap_or server 0)
