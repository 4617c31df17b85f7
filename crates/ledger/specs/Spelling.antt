-- The bytes of a ledger: numbers of eight bytes, the high byte first, and behind them their digest.
use Rattle.std.specs.Prelude.{ℕ, suc, ◌-◌, Bool, not, ◌&&◌, nat_le, List, [], ◌∷◌, ◌++◌, length, take, drop, bytes_eq, if◌then◌else◌}
use Rattle.std.specs.List.{flat_map, list_any}
use Rattle.sha1.specs.Sha1.{sha1}
use Rattle.verify_state.specs.Spelling.{words}
use Rattle.verify_state.specs.Codes.{kind_code, verify_code}
use Rattle.ledger.specs.declared.entry.RunWrite.{RunWrite}
use Rattle.ledger.specs.declared.spelling.TheConstants.{MAGIC}
use Rattle.ledger.specs.Places.{Place}

-- The run of a write, as numbers: whose it is, and the settings of its job.
abbrev pub run_numbers : RunWrite → List ℕ
run_numbers w =
    w.key.run ∷ w.key.server ∷ w.key.job ∷ kind_code w.job.kind ∷ verify_code w.job.verify
    ∷ w.job.pattern ∷ w.job.bs ∷ w.job.blocks ∷ w.job.total ∷ w.job.seed ∷ w.job.depth
    ∷ w.job.window ∷ []

-- The table with the run of one more write, where it isn't there.
abbrev pub with_run : List (List ℕ) → RunWrite → List (List ℕ)
with_run table w =
    if list_any (bytes_eq (run_numbers w)) table then table else table ++ run_numbers w ∷ []

-- The table with the runs of more writes.
abbrev pub with_runs : List (List ℕ) → List RunWrite → List (List ℕ)
with_runs table [] = table
with_runs table (w ∷ ws) = with_runs (with_run table w) ws

-- The table with the runs of more entries.
abbrev pub with_entries : List (List ℕ) → List (List RunWrite) → List (List ℕ)
with_entries table [] = table
with_entries table (entry ∷ entries) = with_entries (with_runs table entry) entries

-- The runs that entries name, each once, in the order of their first use.
abbrev pub table_of : List (List RunWrite) → List (List ℕ)
table_of entries = with_entries [] entries

-- The place of a run in a table.
abbrev pub index_in : List ℕ → List (List ℕ) → ℕ
index_in run [] = 0
index_in run (row ∷ rows) = if bytes_eq run row then 0 else suc (index_in run rows)

-- A write: the place of its run in the table, and its number.
abbrev pub write_numbers : List (List ℕ) → RunWrite → List ℕ
write_numbers table w = index_in (run_numbers w) table ∷ w.seq ∷ []

-- An entry: how many writes it has, and those.
abbrev pub entry_numbers : List (List ℕ) → List RunWrite → List ℕ
entry_numbers table entry = length entry ∷ flat_map (write_numbers table) entry

-- The magic, the bytes of a block, how many blocks and how many runs there are, the table, and the
-- entries.
abbrev pub numbers_of : Place → List (List ℕ) → List ℕ
numbers_of place table =
    MAGIC ∷ place.bs ∷ length place.entries ∷ length table ∷ flat_map (λ row. row) table
    ++ flat_map (entry_numbers table) place.entries

-- The bytes before the digest.
abbrev pub body_of : Place → List ℕ
body_of place = words (numbers_of place (table_of place.entries))

-- The bytes of a ledger.
abbrev pub spelling : Place → List ℕ
spelling place = body_of place ++ sha1 (body_of place)

-- The bytes have a digest at their end, and it is another than that of those before it.
abbrev pub is_damaged : List ℕ → Bool
is_damaged bytes =
    nat_le 20 (length bytes)
    && not (bytes_eq (sha1 (take (length bytes - 20) bytes)) (drop (length bytes - 20) bytes))
