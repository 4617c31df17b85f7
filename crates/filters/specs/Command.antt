-- What a command line of `fiocut_node` may ask for.
use Rattle.std.specs.Prelude.{◌≡◌, ℕ, ◌≤◌, ◌<◌, ⊤, List, [], ◌∷◌, take, drop, codes}
use Rattle.fc_base.specs.declared.limits.TheConstants.{MAX_SERVERS}
use Rattle.std.specs.Str.Parse.{IsNumeral, digits_value}
use Rattle.filters.specs.declared.beginning.Beginning.{Beginning}
use Rattle.filters.specs.declared.beginning.Beginning.TheVariants.{Alone, Mirrored, Renewed}
use Rattle.filters.specs.declared.command.Request.{Request}
use Rattle.filters.specs.declared.command.Request.TheVariants.{Server, Client, Mirror}

-- There can be this server, and so many.
abbrev pub IsRequest : Request → Type 0
IsRequest (Server me) = me < MAX_SERVERS
IsRequest (Client servers beginning) = (1 ≤ servers) × (servers ≤ MAX_SERVERS)
IsRequest Mirror = ⊤

-- The word is this number: decimal digits, and no sign before them.
abbrev pub IsUnsigned : List ℕ → ℕ → Type 0
IsUnsigned word n = IsNumeral 10 word × (digits_value 10 word ≡ n)

-- Three words: the program's own, the command and the number.
abbrev pub AreWords : List (List ℕ) → List ℕ → ℕ → Type 0
AreWords (program ∷ word ∷ number ∷ []) command n = (word ≡ command) × IsUnsigned number n
AreWords _ command n = ⊥

-- One word, which is this.
abbrev pub IsWord : List (List ℕ) → List ℕ → Type 0
IsWord (word ∷ []) wanted = word ≡ wanted
IsWord _ wanted = ⊥

-- Two words: this one, and a number.
abbrev pub IsPair : List (List ℕ) → List ℕ → ℕ → Type 0
IsPair (word ∷ number ∷ []) wanted n = (word ≡ wanted) × IsUnsigned number n
IsPair _ wanted n = ⊥

-- The words behind a client's number: how it begins.
abbrev pub Begins : List (List ℕ) → Beginning → Type 0
Begins words Alone = words ≡ []
Begins words Mirrored = IsWord words (codes "mirror")
Begins words (Renewed g) = IsPair words (codes "renew") g

-- The words of a client of so many servers, and behind them how it begins.
abbrev pub AreClientWords : List (List ℕ) → ℕ → Beginning → Type 0
AreClientWords words servers beginning =
    AreWords (take 3 words) (codes "client") servers × Begins (drop 3 words) beginning

-- The words ask for just this.
abbrev pub Asks : List (List ℕ) → Request → Type 0
Asks words (Server me) = AreWords words (codes "server") me
Asks words (Client servers beginning) = AreClientWords words servers beginning
Asks words Mirror = IsWord (drop 1 words) (codes "mirror")
