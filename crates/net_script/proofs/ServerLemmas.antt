-- A line asks for 1 to 8 servers.
use Rattle.std.proofs.Common.{◌≡◌, ℕ, Bool, true, false, ◌&&◌, cond, nat_le, codes, List, [], ◌∷◌, ◌++◌, Option, Some, None, take, drop, bytes_eq, refl, arith}
use Rattle.std.proofs.lemmas.Bool.Decides.{nat_tests}
use Rattle.fc_base.specs.declared.limits.TheConstants.{MAX_SERVERS}
use Rattle.messages.specs.declared.node.Node.{Node}
use Rattle.net_script.specs.declared.command.Saving.{Saving}
use Rattle.net_script.specs.declared.command.Saving.TheVariants.{Begin, Verify, Deliver, Restart, Renew}
use Rattle.net_script.specs.declared.command.Command.{Command}
use Rattle.net_script.specs.declared.command.Command.TheVariants.{Saves, CutShort, Trigger, Stop, Tick, Issue, Land, Done, Fail, Rot, Check, Cut, LoseNote}
use Rattle.net_script.specs.declared.line.ScriptLine.{ScriptLine}
use Rattle.net_script.specs.declared.line.ScriptLine.TheVariants.{Servers, Asks, Unread}
use Rattle.net_script.specs.Words.{number_of}
use Rattle.net_script.specs.Arguments.{read_as, alone, maybe, numbers, numbers_of, one, two, three, four, node, node_of, place, sectors_of}
use Rattle.net_script.specs.Table.{Row, read_by_row, or_unread, by_table, act_of, trigger_line, trigger, land, rot}
use Rattle.net_script.specs.Table.{world_of, servers, saving_rows, asking_rows, job_rows, cut_rows, table, AsksFew}

-- So it is with each row.
abbrev EachAsksFew : List Row → Type 0
EachAsksFew [] = Unit {0}
EachAsksFew (r ∷ rows) = ((behind : List (List ℕ)) → AsksFew (r.reads behind)) × EachAsksFew rows

read_few : {X : Type 0} (line : X → ScriptLine) → ((x : X) → AsksFew (line x)) → (x : Option X) → AsksFew (read_as line x)
read_few line few None = tt
read_few line few (Some x) = few x

alone_few : (line : ScriptLine) → AsksFew line → (words : List (List ℕ)) → AsksFew (alone line words)
alone_few line few [] = few
alone_few line few (word ∷ words) = tt

one_few : (line : ℕ → ScriptLine) → ((a : ℕ) → AsksFew (line a)) → (ns : List ℕ) → AsksFew (one line ns)
one_few line few [] = tt
one_few line few (a ∷ []) = few a
one_few line few (a ∷ b ∷ ns) = tt

two_few : (line : ℕ → ℕ → ScriptLine) → ((a b : ℕ) → AsksFew (line a b)) → (ns : List ℕ) → AsksFew (two line ns)
two_few line few [] = tt
two_few line few (a ∷ []) = tt
two_few line few (a ∷ b ∷ []) = few a b
two_few line few (a ∷ b ∷ c ∷ ns) = tt

three_few : (line : ℕ → ℕ → ℕ → ScriptLine) → ((a b c : ℕ) → AsksFew (line a b c)) → (ns : List ℕ) → AsksFew (three line ns)
three_few line few [] = tt
three_few line few (a ∷ []) = tt
three_few line few (a ∷ b ∷ []) = tt
three_few line few (a ∷ b ∷ c ∷ []) = few a b c
three_few line few (a ∷ b ∷ c ∷ d ∷ ns) = tt

four_few : (line : ℕ → ℕ → ℕ → ℕ → ScriptLine) → ((a b c d : ℕ) → AsksFew (line a b c d)) → (ns : List ℕ) → AsksFew (four line ns)
four_few line few [] = tt
four_few line few (a ∷ []) = tt
four_few line few (a ∷ b ∷ []) = tt
four_few line few (a ∷ b ∷ c ∷ []) = tt
four_few line few (a ∷ b ∷ c ∷ d ∷ []) = few a b c d
four_few line few (a ∷ b ∷ c ∷ d ∷ e ∷ ns) = tt

node_few : (line : Node → ScriptLine) → ((n : Node) → AsksFew (line n)) → (words : List (List ℕ)) → AsksFew (node line words)
node_few line few [] = tt
node_few line few (word ∷ []) = read_few line few (node_of word)
node_few line few (word ∷ next ∷ words) = tt

world_few : (n : ℕ) (mirror : Bool) → AsksFew (world_of n mirror)
world_few n mirror = by_bounds (nat_le 1 n) (nat_le n MAX_SERVERS) refl refl
  where
    by_bounds : (low high : Bool) → nat_le 1 n ≡ low → nat_le n MAX_SERVERS ≡ high
        → AsksFew (cond (low && high) (Servers (record { servers = n; mirror = mirror })) Unread)
    by_bounds true true some few = (grind (arith, nat_tests), grind (arith, nat_tests))
    by_bounds true false some few = tt
    by_bounds false high some few = tt

servers_few : (words : List (List ℕ)) → AsksFew (servers words)
servers_few [] = tt
servers_few (count ∷ behind) =
    read_few (λ n. read_as (λ mirror. world_of n mirror) (maybe (codes "mirror") behind))
    (λ n. read_few (λ mirror. world_of n mirror) (world_few n) (maybe (codes "mirror") behind)) (number_of count)

trigger_few : (words : List (List ℕ)) → AsksFew (trigger words)
trigger_few [] = tt
trigger_few (run ∷ behind) =
    read_few (λ r. trigger_line r (act_of behind)) (λ r. read_few (λ a. Asks (Trigger r a)) (λ a. tt) (act_of behind)) (number_of run)

rot_few : (s j sector byte : ℕ) → AsksFew (rot s j sector byte)
rot_few s j sector byte = by_bound (nat_le byte 255)
  where
    by_bound : (fits : Bool) → AsksFew (cond fits (Asks (Rot (place s) (place j) sector byte)) Unread)
    by_bound true = tt
    by_bound false = tt

land_few : (words : List (List ℕ)) → AsksFew (land words)
land_few words =
    read_few (λ mask. numbers (three (λ s j k. Asks (Land (place s) (place j) k mask))) (take 3 words))
    (λ mask. read_few (three (λ s j k. Asks (Land (place s) (place j) k mask))) (three_few (λ s j k. Asks (Land (place s) (place j) k mask)) (λ s j k. tt))
    (numbers_of (take 3 words)))
    (sectors_of (drop 3 words))

named_few : (rows : List Row) → EachAsksFew rows → (word : List ℕ) (behind : List (List ℕ)) → AsksFew (or_unread (read_by_row rows word behind))
named_few [] few word behind = tt
named_few (r ∷ rows) few word behind = by_word (bytes_eq word r.word) (named_few rows few.1 word behind)
  where
    by_word : (is : Bool) → AsksFew (or_unread (read_by_row rows word behind))
        → AsksFew (or_unread (cond is (Some (r.reads behind)) (read_by_row rows word behind)))
    by_word true rest = few.0 behind
    by_word false rest = rest

by_table_few : (rows : List Row) → EachAsksFew rows → (words : List (List ℕ)) → AsksFew (by_table rows words)
by_table_few rows few [] = tt
by_table_few rows few (word ∷ behind) = named_few rows few word behind

both_few : (rows more : List Row) → EachAsksFew rows → EachAsksFew more → EachAsksFew (rows ++ more)
both_few [] more few rest = rest
both_few (r ∷ rows) more few rest = (few.0, both_few rows more few.1 rest)

saving_few : (ask : Saving → Command) → EachAsksFew (saving_rows ask)
saving_few ask = (
  alone_few (Asks (ask Begin)) tt,
  (
    (λ ws. read_few (one (λ r. Asks (ask (Verify r)))) (one_few (λ r. Asks (ask (Verify r))) (λ r. tt)) (numbers_of ws)),
    (
      (λ ws. read_few (one (λ r. Asks (ask (Deliver r)))) (one_few (λ r. Asks (ask (Deliver r))) (λ r. tt)) (numbers_of ws)),
      (
        node_few (λ n. Asks (ask (Restart n))) (λ n. tt),
        (
          (λ ws. read_few (one (λ g. Asks (ask (Renew g)))) (one_few (λ g. Asks (ask (Renew g))) (λ g. tt)) (numbers_of ws)),
          tt,
        ),
      ),
    ),
  ),
)

asking_few : EachAsksFew asking_rows
asking_few = (
  servers_few,
  (
    trigger_few,
    (
      (λ ws. read_few (one (λ r. Asks (Stop r))) (one_few (λ r. Asks (Stop r)) (λ r. tt)) (numbers_of ws)),
      (
        alone_few (Asks Tick) tt,
        tt,
      ),
    ),
  ),
)

jobs_few : EachAsksFew job_rows
jobs_few = (
  (λ ws. read_few (two (λ s j. Asks (Issue (place s) (place j)))) (two_few (λ s j. Asks (Issue (place s) (place j))) (λ s j. tt)) (numbers_of ws)),
  (
    land_few,
    (
      (λ ws. read_few (three (λ s j k. Asks (Done (place s) (place j) k))) (three_few (λ s j k. Asks (Done (place s) (place j) k)) (λ s j k. tt))
          (numbers_of ws)),
      (
        (λ ws. read_few (three (λ s j k. Asks (Fail (place s) (place j) k))) (three_few (λ s j k. Asks (Fail (place s) (place j) k)) (λ s j k. tt))
            (numbers_of ws)),
        (
          (λ ws. read_few (four rot) (four_few rot rot_few) (numbers_of ws)),
          (
            (λ ws. read_few (two (λ s j. Asks (Check (place s) (place j)))) (two_few (λ s j. Asks (Check (place s) (place j))) (λ s j. tt)) (numbers_of ws)),
            tt,
          ),
        ),
      ),
    ),
  ),
)

cuts_few : EachAsksFew cut_rows
cuts_few = (
  node_few (λ n. Asks (Cut n)) (λ n. tt),
  (
    by_table_few (saving_rows (CutShort false)) (saving_few (CutShort false)),
    (
      by_table_few (saving_rows (CutShort true)) (saving_few (CutShort true)),
      (
        alone_few (Asks LoseNote) tt,
        tt,
      ),
    ),
  ),
)

table_few : EachAsksFew table
unfolding table
table_few = both_few (saving_rows Saves) (asking_rows ++ (job_rows ++ cut_rows)) (saving_few Saves)
    (both_few asking_rows (job_rows ++ cut_rows) asking_few (both_few job_rows cut_rows jobs_few cuts_few))

-- Each row of the table asks for 1 to 8 servers, where it asks for any.
pub few_by_table : (words : List (List ℕ)) → AsksFew (by_table table words)
few_by_table words = by_table_few table table_few words
