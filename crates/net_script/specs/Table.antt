-- The table of commands.
use Rattle.std.specs.Prelude.{◌≤◌, ℕ, Bool, true, false, ◌&&◌, nat_eq, nat_le, List, [], ◌∷◌, ◌++◌}
use Rattle.std.specs.Prelude.{Option, Some, None, option_map, take, drop, bytes_eq, codes, if◌then◌else◌}
use Rattle.std.specs.List.{starts_with}
use Rattle.fc_base.specs.declared.limits.TheConstants.{MAX_SERVERS}
use Rattle.messages.specs.declared.refusal.Act.{Act}
use Rattle.messages.specs.declared.refusal.Act.TheVariants as acts
use Rattle.net_script.specs.declared.command.Saving.{Saving}
use Rattle.net_script.specs.declared.command.Saving.TheVariants.{Begin, Verify, Deliver, Restart, Renew}
use Rattle.net_script.specs.declared.command.Command.{Command}
use Rattle.net_script.specs.declared.command.Command.TheVariants.{Saves, CutShort, Trigger, Stop, Tick, Issue, Land, Done, Fail, Rot, Check, Cut, LoseNote}
use Rattle.net_script.specs.declared.line.ScriptLine.{ScriptLine}
use Rattle.net_script.specs.declared.line.ScriptLine.TheVariants.{Skipped, Servers, Asks, Unread}
use Rattle.net_script.specs.Words.{words_of, number_of}
use Rattle.net_script.specs.Arguments.{read_as, alone, maybe, numbers, one, two, three, four, node, place, sectors_of}

-- A row of the table: the word of a command, and what it asks for by the words behind it.
pub record Row : Type 0 where
  pub word : List ℕ
  pub reads : List (List ℕ) → ScriptLine

-- A row of the table: a command's word, and what it asks for.
abbrev pub row : List ℕ → (List (List ℕ) → ScriptLine) → Row
row name line = record { word = name; reads = line }

-- What the row of a word says of the words behind it, if there is one.
abbrev pub read_by_row : List Row → List ℕ → List (List ℕ) → Option ScriptLine
read_by_row [] word behind = None
read_by_row (r ∷ rows) word behind =
    if bytes_eq word r.word then Some (r.reads behind) else read_by_row rows word behind

-- What a row says, or nothing that can be read where there is none.
abbrev pub or_unread : Option ScriptLine → ScriptLine
or_unread None = Unread
or_unread (Some line) = line

-- What words ask for by a table: the row of the first word says it.
abbrev pub by_table : List Row → List (List ℕ) → ScriptLine
by_table rows [] = Unread
by_table rows (word ∷ behind) = or_unread (read_by_row rows word behind)

-- What is asked behind the states: nothing, or `cut`.
abbrev pub act_of : List (List ℕ) → Option Act
act_of words = option_map (λ cut. if cut then acts.Cut else acts.None) (maybe (codes "cut") words)

-- A run's trigger with what is asked behind it.
abbrev pub trigger_line : ℕ → Option Act → ScriptLine
trigger_line run act = read_as (λ a. Asks (Trigger run a)) act

-- `trigger R`, `trigger R cut`.
abbrev pub trigger : List (List ℕ) → ScriptLine
trigger [] = Unread
trigger (run ∷ behind) = read_as (λ r. trigger_line r (act_of behind)) (number_of run)

-- `land S J K all`, `land S J K first N`.
abbrev pub land : List (List ℕ) → ScriptLine
land words =
    read_as
    (λ mask. numbers (three (λ s j k. Asks (Land (place s) (place j) k mask))) (take 3 words))
    (sectors_of (drop 3 words))

-- `rot S J SECTOR BYTE`: a byte has eight bits.
abbrev pub rot : ℕ → ℕ → ℕ → ℕ → ScriptLine
rot s j sector byte = if nat_le byte 255 then Asks (Rot (place s) (place j) sector byte) else Unread

-- A world of so many servers, 1 to 8, with a mirror or without.
abbrev pub world_of : ℕ → Bool → ScriptLine
world_of n mirror =
    if nat_le 1 n && nat_le n MAX_SERVERS then Servers (record { servers = n; mirror = mirror })
    else Unread

-- `servers N`, `servers N mirror`.
abbrev pub servers : List (List ℕ) → ScriptLine
servers [] = Unread
servers (count ∷ behind) =
    read_as (λ n. read_as (λ mirror. world_of n mirror) (maybe (codes "mirror") behind))
    (number_of count)

-- The commands in which a node may save, each asked for as it is or cut short.
abbrev pub saving_rows : (Saving → Command) → List Row
saving_rows ask =
    row (codes "begin") (alone (Asks (ask Begin)))
    ∷ row (codes "verify") (numbers (one (λ r. Asks (ask (Verify r)))))
    ∷ row (codes "deliver") (numbers (one (λ i. Asks (ask (Deliver i)))))
    ∷ row (codes "restart") (node (λ n. Asks (ask (Restart n))))
    ∷ row (codes "renew") (numbers (one (λ g. Asks (ask (Renew g)))))
    ∷ []

-- The others that the client is asked, and the one that makes the world.
abbrev pub asking_rows : List Row
asking_rows =
    row (codes "servers") servers
    ∷ row (codes "trigger") trigger
    ∷ row (codes "stop") (numbers (one (λ r. Asks (Stop r))))
    ∷ row (codes "tick") (alone (Asks Tick))
    ∷ []

-- What happens to a job and its file.
abbrev pub job_rows : List Row
job_rows =
    row (codes "issue") (numbers (two (λ s j. Asks (Issue (place s) (place j)))))
    ∷ row (codes "land") land
    ∷ row (codes "done") (numbers (three (λ s j k. Asks (Done (place s) (place j) k))))
    ∷ row (codes "fail") (numbers (three (λ s j k. Asks (Fail (place s) (place j) k))))
    ∷ row (codes "rot") (numbers (four rot))
    ∷ row (codes "check") (numbers (two (λ s j. Asks (Check (place s) (place j)))))
    ∷ []

-- The cuts of power, and the loss of the client's note.
abbrev pub cut_rows : List Row
cut_rows =
    row (codes "cut") (node (λ n. Asks (Cut n)))
    ∷ row (codes "cutold") (by_table (saving_rows (CutShort false)))
    ∷ row (codes "cutnew") (by_table (saving_rows (CutShort true)))
    ∷ row (codes "losenote") (alone (Asks LoseNote))
    ∷ []

-- The table of all commands.
unfoldable pub table : List Row
table = saving_rows Saves ++ (asking_rows ++ (job_rows ++ cut_rows))

-- What the words of a line ask for: none, or a first that begins with `#`, for nothing.
abbrev pub asked_by : List (List ℕ) → ScriptLine
asked_by [] = Skipped
asked_by (word ∷ behind) =
    if starts_with nat_eq word (codes "#") then Skipped else by_table table (word ∷ behind)

-- What a line asks for.
abbrev pub line_of : List ℕ → ScriptLine
line_of line = asked_by (words_of line)

-- Where a line asks for a world, that has 1 to 8 servers.
abbrev pub AsksFew : ScriptLine → Type 0
AsksFew (Servers config) = (1 ≤ config.servers) × (config.servers ≤ MAX_SERVERS)
AsksFew Skipped = Unit {0}
AsksFew (Asks command) = Unit {0}
AsksFew Unread = Unit {0}
