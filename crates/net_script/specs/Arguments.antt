-- The words behind a command's own.
use Rattle.std.specs.Prelude.{ℕ, Bool, true, false, ◌-◌, ◌^◌, min, List, [], ◌∷◌, Option, Some}
use Rattle.std.specs.Prelude.{None, option_map, option_and_then, bytes_eq, codes, if◌then◌else◌}
use Rattle.messages.specs.declared.node.Node.{Node}
use Rattle.messages.specs.declared.node.Node.TheVariants.{Server, Client, Mirror}
use Rattle.net_script.specs.declared.line.ScriptLine.{ScriptLine}
use Rattle.net_script.specs.declared.line.ScriptLine.TheVariants.{Unread}
use Rattle.net_script.specs.Words.{number_of}

-- What is read of arguments; where that is nothing the line can't be read.
abbrev pub read_as : {X : Type 0} → (X → ScriptLine) → Option X → ScriptLine
read_as line None = Unread
read_as line (Some x) = line x

-- The numbers that words spell, where all of them do.
abbrev pub numbers_of : List (List ℕ) → Option (List ℕ)
numbers_of [] = Some []
numbers_of (word ∷ words) =
    option_and_then (λ n. option_map (λ ns. n ∷ ns) (numbers_of words)) (number_of word)

-- The number that the first word spells, and the words behind it.
abbrev pub leading : List (List ℕ) → Option (ℕ × List (List ℕ))
leading [] = None
leading (word ∷ words) = option_map (λ n. (n, words)) (number_of word)

-- No words stand behind the command's own.
abbrev pub alone : ScriptLine → List (List ℕ) → ScriptLine
alone line [] = line
alone line _ = Unread

-- Whether this word stands behind the command's own. None where others do.
abbrev pub maybe : List ℕ → List (List ℕ) → Option Bool
maybe name [] = Some false
maybe name (word ∷ []) = if bytes_eq word name then Some true else None
maybe name _ = None

-- One number, two, three, or four.
abbrev pub one : (ℕ → ScriptLine) → List ℕ → ScriptLine
one line (a ∷ []) = line a
one line _ = Unread

-- A line of two numbers, or one that can't be read.
abbrev pub two : (ℕ → ℕ → ScriptLine) → List ℕ → ScriptLine
two line (a ∷ b ∷ []) = line a b
two line _ = Unread

-- A line of three numbers, likewise.
abbrev pub three : (ℕ → ℕ → ℕ → ScriptLine) → List ℕ → ScriptLine
three line (a ∷ b ∷ c ∷ []) = line a b c
three line _ = Unread

-- A line of four numbers, likewise.
abbrev pub four : (ℕ → ℕ → ℕ → ℕ → ScriptLine) → List ℕ → ScriptLine
four line (a ∷ b ∷ c ∷ d ∷ []) = line a b c d
four line _ = Unread

-- The words are all numbers, and are read as such.
abbrev pub numbers : (List ℕ → ScriptLine) → List (List ℕ) → ScriptLine
numbers line words = read_as line (numbers_of words)

-- A number of a server or job. None has one of more than 32 bits: those are as the greatest.
abbrev pub place : ℕ → ℕ
place n = min n (2 ^ 32 - 1)

-- A node: `client`, `mirror`, or the number of a server.
abbrev pub node_of : List ℕ → Option Node
node_of word =
    if bytes_eq word (codes "client") then Some Client
    else if bytes_eq word (codes "mirror") then Some Mirror
    else option_map (λ n. Server (place n)) (number_of word)

-- One word, a node.
abbrev pub node : (Node → ScriptLine) → List (List ℕ) → ScriptLine
node line (word ∷ []) = read_as line (node_of word)
node line _ = Unread

-- A mask of this many sectors from the first on, of all 128 where there are fewer.
abbrev pub first_sectors : ℕ → ℕ
first_sectors n = 2 ^ min n 128 - 1

-- The sectors that land: `all`, or `first` and how many.
abbrev pub sectors_of : List (List ℕ) → Option ℕ
sectors_of (word ∷ []) = if bytes_eq word (codes "all") then Some (first_sectors 128) else None
sectors_of (word ∷ count ∷ []) =
    if bytes_eq word (codes "first") then option_map first_sectors (number_of count) else None
sectors_of _ = None
