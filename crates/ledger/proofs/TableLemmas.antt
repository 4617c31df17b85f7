-- The table of runs: what is in it, and where.
use Rattle.std.proofs.Common.{◌≡◌, ℕ, zero, suc, ◌*◌, ◌/◌, ◌<◌, ◌≤◌, Bool, true, false, List, [], ◌∷◌, ◌++◌, length, take, drop, get_or, refl, sym, ap, ◌∙◌, arith}
use Rattle.std.specs.Prelude.{◌^◌, ◌%◌, ◌&&◌, ◌==◌, nat_le, bytes_eq}
use Rattle.std.specs.List.{list_any, flat_map, AllByRecursion}
use Rattle.std.proofs.lemmas.Bool.{or_left, or_right, leb-true, and_parts}
use Rattle.std.proofs.lemmas.List.{length-append, take_at, drop-drop}
use Rattle.std.proofs.Math.Seq.{drop-append_seam}
use Rattle.std.proofs.lemmas.List.Folds.{list_any-append}
use Rattle.std.proofs.lemmas.Slice.Eq.{bytes_eq-Decides}
use Rattle.fc_base.specs.declared.limits.TheConstants.{MAX_BLOCK_SIZE, MAX_BLOCKS, MAX_WRITES, MAX_DEPTH, MAX_WINDOW}
use Rattle.fc_base.specs.declared.record.JobParts.{JobParts}
use Rattle.fc_base.specs.declared.record.Kind.{Kind}
use Rattle.fc_base.specs.declared.record.Kind.TheVariants.{Sequential, RandomMap, RandomFree}
use Rattle.fc_base.specs.declared.record.Verify.{Verify}
use Rattle.fc_base.specs.declared.record.Verify.TheVariants.{Stamp, Pattern}
use Rattle.fc_base.specs.JobParts.{has_block_size, has_region, has_queue, has_pattern, is_within_limits}
use Rattle.verify_state.specs.Codes.{kind_code, verify_code}
use Rattle.ledger.specs.declared.entry.RunWrite.{RunWrite}
use Rattle.ledger.specs.Places.{Place}
use Rattle.ledger.specs.Ranges.{IsRanged, IsRangedEntry, IsRangedPlace}
use Rattle.ledger.specs.Reading.{IsRows, IsReadable, IsReadableEntry}
use Rattle.ledger.specs.Spelling.{run_numbers, with_run, with_runs, with_entries, table_of, index_in, write_numbers, entry_numbers, numbers_of}

pub all_map : {X : Type 0} (P Q : X → Type 0) (xs : List X) → ((x : X) → P x → Q x) → AllByRecursion P xs → AllByRecursion Q xs
all_map P Q [] f h = tt
all_map P Q (x ∷ xs) f h = (f x h.0, all_map P Q xs f h.1)

pub all_both : {X : Type 0} (P Q R : X → Type 0) (xs : List X) → ((x : X) → P x → Q x → R x) → AllByRecursion P xs → AllByRecursion Q xs → AllByRecursion R xs
all_both P Q R [] f h g = tt
all_both P Q R (x ∷ xs) f h g = (f x h.0 g.0, all_both P Q R xs f h.1 g.1)

pub all_append : {X : Type 0} (P : X → Type 0) (xs ys : List X) → AllByRecursion P xs → AllByRecursion P ys → AllByRecursion P (xs ++ ys)
all_append P [] ys h g = g
all_append P (x ∷ xs) ys h g = (h.0, all_append P xs ys h.1 g)

-- ---- the runs of the entries are in the table

abbrev pub Has : List (List ℕ) → RunWrite → Type 0
Has table w = list_any (bytes_eq (run_numbers w)) table ≡ true

same_run : (run : List ℕ) → bytes_eq run run ≡ true
same_run run = (bytes_eq-Decides run run).1 refl

has_own : (table : List (List ℕ)) (w : RunWrite) → Has (with_run table w) w
has_own table w = by (list_any (bytes_eq (run_numbers w)) table) refl
  where
    by : (b : Bool) → list_any (bytes_eq (run_numbers w)) table ≡ b → Has (with_run table w) w
    by true is = rw is is
    by false is = rw is (list_any-append (bytes_eq (run_numbers w)) table (run_numbers w ∷ [])
        ∙ or_right (list_any (bytes_eq (run_numbers w)) table) (list_any (bytes_eq (run_numbers w)) (run_numbers w ∷ []))
        (or_left (bytes_eq (run_numbers w) (run_numbers w)) false (same_run (run_numbers w))))

has_more : (table : List (List ℕ)) (v w : RunWrite) → Has table w → Has (with_run table v) w
has_more table v w has = by (list_any (bytes_eq (run_numbers v)) table) refl
  where
    by : (b : Bool) → list_any (bytes_eq (run_numbers v)) table ≡ b → Has (with_run table v) w
    by true is = rw is has
    by false is = rw is (list_any-append (bytes_eq (run_numbers w)) table (run_numbers v ∷ [])
        ∙ or_left (list_any (bytes_eq (run_numbers w)) table) (list_any (bytes_eq (run_numbers w)) (run_numbers v ∷ [])) has)

has_runs : (table : List (List ℕ)) (vs : List RunWrite) (w : RunWrite) → Has table w → Has (with_runs table vs) w
has_runs table [] w has = has
has_runs table (v ∷ vs) w has = has_runs (with_run table v) vs w (has_more table v w has)

has_entries : (table : List (List ℕ)) (es : List (List RunWrite)) (w : RunWrite) → Has table w → Has (with_entries table es) w
has_entries table [] w has = has
has_entries table (e ∷ es) w has = has_entries (with_runs table e) es w (has_runs table e w has)

own_runs : (table : List (List ℕ)) (ws : List RunWrite) → AllByRecursion (Has (with_runs table ws)) ws
own_runs table [] = tt
own_runs table (w ∷ ws) = (has_runs (with_run table w) ws w (has_own table w), own_runs (with_run table w) ws)

own_entries : (table : List (List ℕ)) (es : List (List RunWrite)) → AllByRecursion (λ e. AllByRecursion (Has (with_entries table es)) e) es
own_entries table [] = tt
own_entries table (e ∷ es) = (all_map (Has (with_runs table e)) (Has (with_entries (with_runs table e) es)) e (λ w. has_entries (with_runs table e) es w) (own_runs table e), own_entries (with_runs table e) es)

index_lt : (run : List ℕ) (table : List (List ℕ)) → list_any (bytes_eq run) table ≡ true → index_in run table < length table
index_lt run [] has = let bad : false ≡ true = has in cc
index_lt run (row ∷ rows) has = by (bytes_eq run row) refl (index_lt run rows)
  where
    by : (b : Bool) → bytes_eq run row ≡ b → (list_any (bytes_eq run) rows ≡ true → index_in run rows < length rows) → index_in run (row ∷ rows) < length (row ∷ rows)
    by true is ih = rw is (omega arith)
    by false is ih = let rest : list_any (bytes_eq run) rows ≡ true = rw is at has in rw is (omega (arith, ih rest))

pub index_le : (run : List ℕ) (table : List (List ℕ)) → index_in run table ≤ length table
index_le run [] = omega arith
index_le run (row ∷ rows) = by (bytes_eq run row) refl (index_le run rows)
  where
    by : (b : Bool) → bytes_eq run row ≡ b → index_in run rows ≤ length rows → index_in run (row ∷ rows) ≤ length (row ∷ rows)
    by true is ih = rw is (omega arith)
    by false is ih = rw is (omega (arith, ih))

-- The row at the place of a run is that run.
pub index_row : (run : List ℕ) (table : List (List ℕ)) → index_in run table < length table → get_or table (index_in run table) [] ≡ run
index_row run [] lt = absurd (omega arith)
index_row run (row ∷ rows) lt = by (bytes_eq run row) refl (index_row run rows)
  where
    by : (b : Bool) → bytes_eq run row ≡ b → (index_in run rows < length rows → get_or rows (index_in run rows) [] ≡ run)
        → get_or (row ∷ rows) (index_in run (row ∷ rows)) [] ≡ run
    by true is ih = rw is (sym ((bytes_eq-Decides run row).0 is))
    by false is ih = let less : suc (index_in run rows) < suc (length rows) = rw is at lt in rw is (ih (omega arith))

pub readable : (entries : List (List RunWrite)) → AllByRecursion IsRangedEntry entries → AllByRecursion (IsReadableEntry (table_of entries)) entries
readable entries ranged =
    all_both IsRangedEntry (λ e. AllByRecursion (Has (table_of entries)) e) (IsReadableEntry (table_of entries)) entries (λ e r has. record {
      len = r.len;
      writes = all_both IsRanged (Has (table_of entries)) (IsReadable (table_of entries)) e (λ w k h.
          record { ranged = k; there = index_lt (run_numbers w) (table_of entries) h }) r.writes has;
    }) ranged (own_entries [] entries)

-- ---- rows of twelve numbers that fit

abbrev pub Fits64 : ℕ → Type 0
Fits64 n = n < 2 ^ 64

pub record IsRow (row : List ℕ) : Type 0 where
  pub len : length row ≡ 12
  pub fits : AllByRecursion Fits64 row

kind_small : (k : Kind) → kind_code k < 2 ^ 64
kind_small Sequential = omega arith
kind_small RandomMap = omega arith
kind_small RandomFree = omega arith

verify_small : (v : Verify) → verify_code v < 2 ^ 64
verify_small Stamp = omega arith
verify_small Pattern = omega arith

-- Numbers within a job's limits are small.
record IsSmall (job : JobParts) : Type 0 where
  bs : job.bs < 2 ^ 64
  blocks : job.blocks < 2 ^ 64
  total : job.total < 2 ^ 64
  depth : job.depth < 2 ^ 64
  window : job.window < 2 ^ 64

small_job : (job : JobParts) → is_within_limits job ≡ true → IsSmall job
small_job job limits =
    let all = and_parts (has_block_size job && has_region job && has_queue job) (has_pattern job) limits in
    let three = and_parts (has_block_size job && has_region job) (has_queue job) all.0 in
    let two = and_parts (has_block_size job) (has_region job) three.0 in
    let size = and_parts (nat_le 512 job.bs && nat_le job.bs MAX_BLOCK_SIZE) (job.bs % 512 == 0) two.0 in
    let bs = leb-true job.bs MAX_BLOCK_SIZE (and_parts (nat_le 512 job.bs) (nat_le job.bs MAX_BLOCK_SIZE) size.0).1 in
    let region = and_parts (nat_le 1 job.blocks && nat_le job.blocks MAX_BLOCKS) (nat_le 1 job.total && nat_le job.total MAX_WRITES) two.1 in
    let blocks = leb-true job.blocks MAX_BLOCKS (and_parts (nat_le 1 job.blocks) (nat_le job.blocks MAX_BLOCKS) region.0).1 in
    let total = leb-true job.total MAX_WRITES (and_parts (nat_le 1 job.total) (nat_le job.total MAX_WRITES) region.1).1 in
    let queue = and_parts (nat_le 1 job.depth && nat_le job.depth MAX_DEPTH) (nat_le job.depth job.window && nat_le job.window MAX_WINDOW) three.1 in
    let depth = leb-true job.depth MAX_DEPTH (and_parts (nat_le 1 job.depth) (nat_le job.depth MAX_DEPTH) queue.0).1 in
    let window = leb-true job.window MAX_WINDOW (and_parts (nat_le job.depth job.window) (nat_le job.window MAX_WINDOW) queue.1).1 in
    record { bs = omega (arith, bs); blocks = omega (arith, blocks); total = omega (arith, total); depth = omega (arith, depth); window = omega (arith, window) }

row_fits : (w : RunWrite) → IsRanged w → IsRow (run_numbers w)
row_fits w r = let small = small_job w.job r.limits in record {
  len = refl;
  fits = (r.run, (omega (arith, r.server), (omega (arith, r.number), (kind_small w.job.kind, (verify_small w.job.verify, (omega (arith, r.pattern), (small.bs, (small.blocks, (small.total, (r.seed, (small.depth, (small.window, tt))))))))))));
}

rows_run : (table : List (List ℕ)) (w : RunWrite) → IsRanged w → AllByRecursion IsRow table → AllByRecursion IsRow (with_run table w)
rows_run table w r rows = by (list_any (bytes_eq (run_numbers w)) table) refl
  where
    by : (b : Bool) → list_any (bytes_eq (run_numbers w)) table ≡ b → AllByRecursion IsRow (with_run table w)
    by true is = rw is rows
    by false is = rw is (all_append IsRow table (run_numbers w ∷ []) rows (row_fits w r, tt))

rows_runs : (table : List (List ℕ)) (ws : List RunWrite) → AllByRecursion IsRanged ws → AllByRecursion IsRow table → AllByRecursion IsRow (with_runs table ws)
rows_runs table [] r rows = rows
rows_runs table (w ∷ ws) r rows = rows_runs (with_run table w) ws r.1 (rows_run table w r.0 rows)

rows_entries : (table : List (List ℕ)) (es : List (List RunWrite)) → AllByRecursion IsRangedEntry es → AllByRecursion IsRow table
    → AllByRecursion IsRow (with_entries table es)
rows_entries table [] r rows = rows
rows_entries table (e ∷ es) r rows = rows_entries (with_runs table e) es r.1 (rows_runs table e r.0.writes rows)

pub rows_of : (entries : List (List RunWrite)) → AllByRecursion IsRangedEntry entries → AllByRecursion IsRow (table_of entries)
rows_of entries r = rows_entries [] entries r tt

table_fits : (table : List (List ℕ)) → AllByRecursion IsRow table → AllByRecursion Fits64 (flat_map (λ (row : List ℕ). row) table)
table_fits [] h = tt
table_fits (row ∷ rows) h = all_append Fits64 row (flat_map (λ (r : List ℕ). r) rows) h.0.fits (table_fits rows h.1)

writes_fit : (table : List (List ℕ)) (ws : List RunWrite) → length table < 2 ^ 64 → AllByRecursion IsRanged ws → AllByRecursion Fits64 (flat_map (write_numbers table) ws)
writes_fit table [] few r = tt
writes_fit table (w ∷ ws) few r = (omega (arith, index_le (run_numbers w) table), (r.0.seq, writes_fit table ws few r.1))

entries_fit : (table : List (List ℕ)) (es : List (List RunWrite)) → length table < 2 ^ 64 → AllByRecursion IsRangedEntry es
    → AllByRecursion Fits64 (flat_map (entry_numbers table) es)
entries_fit table [] few r = tt
entries_fit table (e ∷ es) few r =
    all_append Fits64 (entry_numbers table e) (flat_map (entry_numbers table) es) (r.0.len, writes_fit table e few r.0.writes) (entries_fit table es few r.1)

pub numbers_fit : (place : Place) → IsRangedPlace place → AllByRecursion Fits64 (numbers_of place (table_of place.entries))
numbers_fit place r =
    let table = table_of place.entries in (
      omega arith,
      (
        omega (arith, r.bs),
        (
          omega (arith, r.blocks),
          (
            r.runs,
            all_append Fits64 (flat_map (λ (row : List ℕ). row) table) (flat_map (entry_numbers table) place.entries) (table_fits table (rows_of place.entries r.entries)) (entries_fit table place.entries r.runs r.entries),
          ),
        ),
      ),
    )

-- ---- rows one behind the other

pub rows_length : (table : List (List ℕ)) → AllByRecursion (λ row. length row ≡ 12) table → length (flat_map (λ (row : List ℕ). row) table) ≡ 12 * length table
rows_length [] h = refl
rows_length (row ∷ rows) h = omega (arith, length-append row (flat_map (λ (r : List ℕ). r) rows), h.0, rows_length rows h.1)

-- The row at a place.
pub row_at : (table : List (List ℕ)) (i : ℕ) → AllByRecursion (λ row. length row ≡ 12) table → i < length table
    → take 12 (drop (12 * i) (flat_map (λ (row : List ℕ). row) table)) ≡ get_or table i []
row_at [] i h lt = absurd (omega arith)
row_at (row ∷ rows) zero h lt = take_at row (flat_map (λ (r : List ℕ). r) rows) 12 h.0
row_at (row ∷ rows) (suc i) h lt =
    let more = flat_map (λ (r : List ℕ). r) rows in
    let start : drop 12 (row ++ more) ≡ more = ap (λ n. drop n (row ++ more)) (sym h.0) ∙ drop-append_seam row more in
    let on : drop (12 * suc i) (row ++ more) ≡ drop (12 * i) more =
    ap (λ n. drop n (row ++ more)) (omega arith) ∙ sym (drop-drop (12 * i) 12 (row ++ more)) ∙ ap (drop (12 * i)) start in
    ap (take 12) on ∙ row_at rows i h.1 (omega arith)

-- The row that is read of a write's run.
pub row_read : (rows row : List ℕ) (table : List (List ℕ)) (w : RunWrite) (index : ℕ) → IsRows rows table → IsReadable table w
    → index ≡ index_in (run_numbers w) table → row ≡ take 12 (drop (12 * index) rows) → row ≡ run_numbers w
row_read rows row table w index is readable at here =
    let there : index < length table = omega (arith, readable.there) in
    here ∙ ap (λ rs. take 12 (drop (12 * index) rs)) is.rows_are ∙ row_at table index is.each there
    ∙ ap (λ i. get_or table i []) at ∙ index_row (run_numbers w) table readable.there

pub index_there : (rows : List ℕ) (table : List (List ℕ)) (w : RunWrite) (index : ℕ) → IsRows rows table → IsReadable table w
    → index ≡ index_in (run_numbers w) table → index < length rows / 12
index_there rows table w index is readable at =
    omega (arith, ap length is.rows_are, rows_length table is.each, readable.there)
