-- A check by a ledger over all blocks of a target, and what is written of it.
use Rattle.std.proofs.Common.{◌≡◌, ◌<◌, ◌+◌, ℕ, suc, Bool, true, false, not, ◌&&◌, ◌||◌, List, [], ◌∷◌, ◌++◌, length, Option, Some, None, map, filter}
use Rattle.std.proofs.Common.{IfSome, IfOk, OnOk, Result, Ok, Err, append-nil, refl, sym, ap, ◌∙◌, subst, inl, inr, arith}
use Rattle.std.specs.Prelude.{if◌then◌else◌, is_some, codes}
use Rattle.std.specs.List.{flat_map, list_any, range_with_len}
use Rattle.std.specs.Str.{bytes_eq}
use Rattle.std.specs.Io.KnownBytes.{Appends, Consumes, Keeps}
use Rattle.std.proofs.KnownBytes.{Appends-kept, Appends-nil, Appends-trans, Consumes-nil, Consumes-trans}
use Rattle.std.proofs.lemmas.Grind.{flat_map-append}
use Rattle.std.proofs.lemmas.List.{map-append}
use Rattle.std.proofs.lemmas.List.FromFn.{length-range_with_len}
use Rattle.std.proofs.lemmas.List.Folds.{list_any-append}
use Rattle.fc_base.proofs.ListLemmas.{range_more}
use Rattle.fc_base.specs.declared.fault.Fault.{Fault}
use Rattle.fc_base.specs.declared.fault.Fault.TheVariants as faults
use Rattle.fc_base.specs.declared.report.ReportParts.{ReportParts}
use Rattle.fc_base.specs.declared.report.ReportEnd.TheVariants.{ReadFault}
use Rattle.diagnosis.specs.declared.holds.Holds.TheVariants as holds
use Rattle.ledger.specs.declared.entry.RunWrite.{RunWrite}
use Rattle.ledger.specs.Checks.{Check, report_at, report_of, start}
use Rattle.ledger.specs.Entries.{asks}
use Rattle.ledger.specs.Places.{Place, entry_of}
use Rattle.ledger.specs.Spelling.{spelling}
use Rattle.program_io.specs.Words.{with_line_feed}
use Rattle.program_io.specs.Refusals.{plain, refusal_line}
use Rattle.recheck.specs.Expected.{Expected}
use Rattle.targets.specs.declared.command.Since.{Since}
use Rattle.targets.specs.declared.ledger_found.Found.{Found}
use Rattle.targets.specs.declared.ledger_found.Found.TheVariants as founds
use Rattle.targets.specs.declared.ledger_steps.LedgerMap.{LedgerMap}
use Rattle.targets.specs.declared.ledger_sums.Sums.{Sums}
use Rattle.targets.specs.declared.block_verdict.BlockVerdict.TheVariants as tolds
use Rattle.targets.specs.Jobs.{Refuses}
use Rattle.targets.specs.Reports.{report_status}
use Rattle.targets.specs.MapInput.{block_code, EndsInBlock, IsPart, NoBlock}
use Rattle.targets.specs.MapJobs.{status_with}
use Rattle.targets.specs.MapKinds.{kinds_by}
use Rattle.targets.specs.MapLines.{line_words}
use Rattle.targets.specs.LedgerLines.{bytes_in, found_line, found_word, rest_line}
use Rattle.targets.specs.Ledgers.{AreFound, Cell, ChecksTarget, HasCome, IsFound, is_unread, last_line, ledger_part, ledger_status, line_of, lines_of, lines_with, place_behind, report_of_cells, sums_of, unasked_line}
use Rattle.targets.specs.LedgerSteps.{Ends, EndsCut, GoesOn, IsReady, TakesBlock, line_by, no_sums, with_block, with_found}
use Rattle.targets.proofs.CheckLemmas.{known_rest}
use Rattle.targets.proofs.KindLemmas.{kinds_alike, length_more, one_if}
use Rattle.targets.proofs.LedgerCellLemmas.{next_entry, place_all, place_more, place_none, place_to, report_is, tally_more, tally_none, tally_of}
use Rattle.targets.proofs.MapLemmas.{part_left}

-- ---- what is written at the end

pub cut_written : (place : Place) (sums : Sums) (given wanted : ReportParts) (t₀ t₁ t₂ t₃ : Option (List ℕ)) → Appends t₀ t₁ (unasked_line place)
    → Appends t₁ t₂ (last_line given sums) → given ≡ wanted → Keeps t₂ t₃ → Appends t₀ t₃ (unasked_line place ++ last_line wanted sums)
cut_written place sums given wanted t₀ t₁ t₂ t₃ first second is kept =
    Appends-kept t₀ t₂ t₃ (unasked_line place ++ last_line wanted sums)
    (Appends-trans t₀ t₁ t₂ (unasked_line place) (last_line wanted sums) first (subst (λ r. Appends t₁ t₂ (last_line r sums)) is second)) kept

pub whole_written : (place behind : Place) (sums : Sums) (given wanted : ReportParts) (bytes : List ℕ) (t₀ t₁ t₂ t₃ t₄ : Option (List ℕ))
    → Appends t₀ t₁ (unasked_line place) → Appends t₁ t₂ (last_line given sums) → given ≡ wanted → Appends t₂ t₃ (ledger_part bytes) → bytes ≡ spelling behind
    → Keeps t₃ t₄ → Appends t₀ t₄ (unasked_line place ++ (last_line wanted sums ++ ledger_part (spelling behind)))
whole_written place behind sums given wanted bytes t₀ t₁ t₂ t₃ t₄ first second is third spelled kept =
    let tail = last_line wanted sums ++ ledger_part (spelling behind) in
    Appends-kept t₀ t₃ t₄ (unasked_line place ++ tail)
    (Appends-trans t₀ t₁ t₃ (unasked_line place) tail first
    (Appends-trans t₁ t₂ t₃ (last_line wanted sums) (ledger_part (spelling behind)) (subst (λ r. Appends t₁ t₂ (last_line r sums)) is second)
    (subst (λ l. Appends t₂ t₃ (ledger_part l)) spelled third))) kept

-- ---- block by block

-- So many blocks have come since the input was this, and their lines were written.
pub record HasChecked (since : Since) (e : Expected) (place : Place) (check : Check) (unread : Bool) (sums : Sums) (count : ℕ) (first now first_text text : Option (List ℕ)) : Type 0 where
  pub cells : List Cell
  pub come : HasCome since e place count cells
  pub came : Consumes first now (flat_map (λ c. block_code c.bytes) cells)
  pub written : Appends first_text text (lines_of e place cells)
  pub place_is : check.place ≡ place_to place cells
  pub found : check.found ≡ tally_of place cells
  pub any : unread ≡ list_any (is_unread place) cells
  pub sums_are : sums ≡ sums_of cells

pub none_checked : (map : LedgerMap) (sums : Sums) (input text : Option (List ℕ)) → IsReady map → sums ≡ no_sums
    → HasChecked map.since map.recheck.expected map.asked map.check map.unread sums 0 input input text text
none_checked map sums input text ready zeros = record {
  cells = [];
  come = record { blocks = refl; found = tt };
  came = Consumes-nil input;
  written = Appends-nil text;
  place_is = ap (λ (k : Check). k.place) ready.check ∙ place_none map.asked;
  found = ap (λ (k : Check). k.found) ready.check ∙ tally_none map.asked;
  any = ready.none;
  sums_are = zeros;
}

pub ready_goes : (map : LedgerMap) → IsReady map → GoesOn map.since map.recheck.expected map.asked map 0
ready_goes map ready = record {
  since_is = refl;
  expected = refl;
  asked = refl;
  blocks = ready.blocks;
  entries = ap (λ (k : Check). length k.place.entries) ready.check ∙ ready.blocks;
  next = omega (arith, ap (λ (k : Check). k.next) ready.check);
  room = ready.room;
}

-- A check that goes on by what it was at a block goes on by what it was at first, and so does what comes.
pub goes_by : (since : Since) (e : Expected) (place : Place) (old new : LedgerMap) (n m : ℕ) → GoesOn since e place old n
    → GoesOn old.since old.recheck.expected old.asked new m → GoesOn since e place new m
goes_by since e place old new n m first next = record {
  since_is = next.since_is ∙ first.since_is;
  expected = next.expected ∙ first.expected;
  asked = next.asked ∙ first.asked;
  blocks = first.blocks;
  entries = next.entries ∙ ap (λ (x : Expected). x.job.blocks) first.expected;
  next = next.next;
  room = next.room ∙ ap (λ (x : Expected). x.job.bs) first.expected;
}

pub takes_by : (since : Since) (e : Expected) (place : Place) (old new : LedgerMap) (n block : ℕ) (input left : Option (List ℕ)) (found : Found) → GoesOn since e place old n
    → TakesBlock old.since old.recheck.expected old new block input left found → TakesBlock since e old new block input left found
takes_by since e place old new n block input left found goes takes =
    subst (λ x. TakesBlock since x old new block input left found) goes.expected
    (subst (λ s. TakesBlock s old.recheck.expected old new block input left found) goes.since_is takes)

cells_come : (since : Since) (e : Expected) (place : Place) (count : ℕ) (cells : List Cell) → HasCome since e place count cells → length cells ≡ count
cells_come since e place count cells come =
    sym (length-mapped cells) ∙ ap length come.blocks ∙ length-range_with_len 0 count
  where
    length-mapped : (cs : List Cell) → length (map (λ (c : Cell). c.block) cs) ≡ length cs
    length-mapped [] = refl
    length-mapped (c ∷ cs) = ap suc (length-mapped cs)

found_more : (since : Since) (e : Expected) (place : Place) (cells : List Cell) (cell : Cell) → AreFound since e place cells
    → IsFound since e (entry_of place cell.block) cell.block cell.bytes cell.found → IfSome cell.bytes (λ bytes. length bytes ≡ e.job.bs)
    → AreFound since e place (cells ++ cell ∷ [])
found_more since e place [] cell are finds whole = ((finds, whole), tt)
found_more since e place (c ∷ cs) cell are finds whole = (are.0, found_more since e place cs cell are.1 finds whole)

-- The line of a block by the bytes in the buffer is the block's.
line_same : (since : Since) (e : Expected) (entry : List RunWrite) (block : ℕ) (bytes : Option (List ℕ)) (found : Found) (buffer : List ℕ)
    → IsFound since e entry block bytes found → IfSome bytes (λ l. buffer ≡ l) → line_by e entry block buffer found ≡ found_line e entry block bytes found
line_same since e entry block bytes founds.Unchecked buffer finds here = refl
line_same since e entry block bytes founds.Sound buffer finds here = refl
line_same since e entry block bytes (founds.Written tolds.Unchecked) buffer finds here = absurd finds
line_same since e entry block bytes (founds.Written tolds.Unread) buffer finds here = refl
line_same since e entry block bytes (founds.Written tolds.Sound) buffer finds here = absurd finds
line_same since e entry block bytes (founds.Written (tolds.Fault kind)) buffer (written, (held, is, seen, holds)) here =
    let same : buffer ≡ held = subst (λ (bs : Option (List ℕ)). IfSome bs (λ l. buffer ≡ l)) is here in
    ap (λ l. line_words e block l (tolds.Fault kind)) same ∙ ap (λ (bs : Option (List ℕ)). line_words e block (bytes_in bs) (tolds.Fault kind)) (sym is)
line_same since e entry block bytes founds.RestUnread buffer finds here = refl
line_same since e entry block bytes (founds.Rest content) buffer (written, (held, is, seen, holds)) here =
    let same : buffer ≡ held = subst (λ (bs : Option (List ℕ)). IfSome bs (λ l. buffer ≡ l)) is here in
    ap (λ l. rest_line e entry block l content) same ∙ ap (λ (bs : Option (List ℕ)). rest_line e entry block (bytes_in bs) content) (sym is)

-- One block more adds to the sum of its word.
word_more : (f : List ℕ → ℕ) (found : Found)
    → record { kinds = kinds_by (λ word. one_if (bytes_eq (found_word found) word) (f word)); at_rest = one_if (bytes_eq (found_word found) (codes "at-rest")) (f (codes "at-rest")) }
    ≡ with_found (record { kinds = kinds_by f; at_rest = f (codes "at-rest") }) found
unfolding one_if
word_more f founds.Unchecked = refl
word_more f founds.Sound = refl
word_more f (founds.Written tolds.Unchecked) = refl
word_more f (founds.Written tolds.Unread) = refl
word_more f (founds.Written tolds.Sound) = refl
word_more f (founds.Written (tolds.Fault holds.Sound)) = refl
word_more f (founds.Written (tolds.Fault holds.Unwritten)) = refl
word_more f (founds.Written (tolds.Fault (holds.Filled byte))) = refl
word_more f (founds.Written (tolds.Fault (holds.Lost k))) = refl
word_more f (founds.Written (tolds.Fault (holds.Unissued k))) = refl
word_more f (founds.Written (tolds.Fault (holds.OtherRun write))) = refl
word_more f (founds.Written (tolds.Fault (holds.Misdirected write))) = refl
word_more f (founds.Written (tolds.Fault holds.Torn)) = refl
word_more f (founds.Written (tolds.Fault (holds.Corrupt sectors))) = refl
word_more f founds.RestUnread = refl
word_more f (founds.Rest content) = refl

sums_more : (cells : List Cell) (cell : Cell) → sums_of (cells ++ cell ∷ []) ≡ with_found (sums_of cells) cell.found
sums_more cells cell =
    let f = lines_with cells in
    let one : (word : List ℕ) → lines_with (cells ++ cell ∷ []) word ≡ one_if (bytes_eq (found_word cell.found) word) (f word) =
    λ word. length_more (λ (c : Cell). bytes_eq (found_word c.found) word) cells cell (bytes_eq (found_word cell.found) word) refl in
    ap (λ k. record { kinds = k; at_rest = lines_with (cells ++ cell ∷ []) (codes "at-rest") })
    (kinds_alike (lines_with (cells ++ cell ∷ [])) (λ word. one_if (bytes_eq (found_word cell.found) word) (f word)) one)
    ∙ ap (λ n. record { kinds = kinds_by (λ word. one_if (bytes_eq (found_word cell.found) word) (f word)); at_rest = n }) (one (codes "at-rest"))
    ∙ word_more f cell.found

or_false : (b : Bool) → (b || false) ≡ b
or_false true = refl
or_false false = refl

-- One block more.
pub checked_more : (since : Since) (e : Expected) (place : Place) (old new : LedgerMap) (sums new_sums : Sums) (count : ℕ) (first input left first_text text new_text : Option (List ℕ)) (found : Found)
    → HasChecked since e place old.check old.unread sums count first input first_text text → count < length place.entries
    → TakesBlock since e old new count input left found
    → Appends text new_text (line_by e (entry_of place count) count new.bytes.items found) → new_sums ≡ with_found sums found
    → HasChecked since e place new.check new.unread new_sums (count + 1) first left first_text new_text
checked_more since e place old new sums new_sums count first input left first_text text new_text found so_far within takes wrote summed =
    let cell : Cell = record { block = count; bytes = takes.bytes; found = found } in
    let f : Cell → List ℕ = λ c. block_code c.bytes in
    let cells = so_far.cells in
    let len : count ≡ length cells = sym (cells_come since e place count cells so_far.come) in
    let entry : entry_of old.check.place count ≡ entry_of place count =
    ap (λ p. entry_of p count) so_far.place_is ∙ ap (entry_of (place_to place cells)) len ∙ next_entry place cells ∙ ap (entry_of place) (sym len) in
    let finds : IsFound since e (entry_of place count) count takes.bytes found = subst (λ es. IsFound since e es count takes.bytes found) entry takes.finds in
    let behind : new.check ≡ with_block old.check (length cells) takes.bytes = takes.check ∙ ap (λ n. with_block old.check n takes.bytes) len in
    let inside : length cells < length place.entries = omega (arith, len, within) in
    record {
      cells = cells ++ cell ∷ [];
      come = record {
        blocks = map-append (λ (c : Cell). c.block) cells (cell ∷ []) ∙ ap (λ l. l ++ count ∷ []) so_far.come.blocks ∙ sym (range_more count);
        found = found_more since e place cells cell so_far.come.found finds takes.whole;
      };
      came = subst (Consumes first left)
          (sym (flat_map-append f cells (cell ∷ []) ∙ ap (λ l. flat_map f cells ++ l) (append-nil (block_code takes.bytes))))
          (Consumes-trans first input left (flat_map f cells) (block_code takes.bytes) so_far.came takes.came);
      written = subst (Appends first_text new_text)
          (sym (flat_map-append (line_of e place) cells (cell ∷ []) ∙ ap (λ l. lines_of e place cells ++ l) (append-nil (line_of e place cell))))
          (Appends-trans first_text text new_text (lines_of e place cells) (line_of e place cell) so_far.written
          (subst (Appends text new_text) (line_same since e (entry_of place count) count takes.bytes found new.bytes.items finds takes.here) wrote));
      place_is = ap (λ (k : Check). k.place) behind ∙ place_more place cells cell len inside old.check so_far.place_is;
      found = ap (λ (k : Check). k.found) behind ∙ tally_more place cells cell old.check len so_far.place_is so_far.found;
      any = takes.unread ∙ ap (λ es. old.unread || (asks es && not (is_some takes.bytes))) entry ∙ ap (λ b. b || is_unread place cell) so_far.any
          ∙ sym (list_any-append (is_unread place) cells (cell ∷ []) ∙ ap (λ b. list_any (is_unread place) cells || b) (or_false (is_unread place cell)));
      sums_are = summed ∙ ap (λ s. with_found s found) so_far.sums_are ∙ sym (sums_more cells cell);
    }

-- ---- the end

-- All blocks have come.
pub checked_whole : {E : Type 0} (since : Since) (e : Expected) (place : Place) (map : LedgerMap) (sums : Sums) (target : List ℕ) (input first_text text new_text : Option (List ℕ))
    (status : Result ℕ E) → HasChecked since e place map.check map.unread sums e.job.blocks (Some target) input first_text text → map.asked ≡ place
    → length place.entries ≡ e.job.blocks → IfOk status (Ends map sums text new_text) → IfOk status (ChecksTarget since e place target first_text new_text)
checked_whole since e place map sums target input first_text text new_text (Err x) so_far same blocks ends = tt
checked_whole since e place map sums target input first_text text new_text (Ok s) so_far same blocks (inl (wrote, is_status)) =
    let known = known_rest target (Some target) input _ refl so_far.came in
    let cells = so_far.cells in
    let all : length cells ≡ length place.entries = cells_come since e place e.job.blocks cells so_far.come ∙ sym blocks in
    let report : report_of map.check.found ≡ report_of_cells place cells = ap report_of so_far.found ∙ report_is place cells in
    let behind : map.check.place ≡ place_behind place cells = so_far.place_is ∙ place_all place cells all in
    inl (record {
      cells = cells;
      come = so_far.come;
      rest = known.0;
      input = known.2;
      finishes = (
        Appends-trans first_text text new_text (lines_of e place cells) _ so_far.written
            (subst (λ p. Appends text new_text (unasked_line p ++ (last_line (report_of_cells place cells) (sums_of cells) ++ ledger_part (spelling (place_behind place cells))))) same
            (subst (λ k. Appends text new_text (unasked_line map.asked ++ (last_line (report_of_cells place cells) k ++ ledger_part (spelling (place_behind place cells))))) so_far.sums_are
            (subst (λ r. Appends text new_text (unasked_line map.asked ++ (last_line r sums ++ ledger_part (spelling (place_behind place cells))))) report
            (subst (λ p. Appends text new_text (unasked_line map.asked ++ (last_line (report_of map.check.found) sums ++ ledger_part (spelling p)))) behind wrote)))),
        is_status ∙ ap (λ b. status_with b (report_of map.check.found)) so_far.any
            ∙ ap (λ r. if list_any (is_unread place) cells then 2 else report_status r) report,
      );
    })
checked_whole since e place map sums target input first_text text new_text (Ok s) so_far same blocks (inr refuses) =
    let known = known_rest target (Some target) input _ refl so_far.came in
    inr (inr (record {
      cells = so_far.cells;
      block = e.job.blocks;
      come = so_far.come;
      rest = known.0;
      input = known.2;
      fault = faults.NoMemory;
      stops = inr (refl, refl);
      finishes = (
        Appends-trans first_text text new_text (lines_of e place so_far.cells) (with_line_feed (refusal_line (plain faults.NoMemory))) so_far.written refuses.0,
        refuses.1,
      );
    }))

cut_text : (place : Place) (cells : List Cell) (count : ℕ) (text new_text : Option (List ℕ))
    → Appends text new_text (unasked_line place ++ last_line (report_at (tally_of place cells) count) (sums_of cells))
    → Appends text new_text (unasked_line place ++ last_line (record (report_of_cells place cells) { end = ReadFault count }) (sums_of cells))
unfolding tally_of
cut_text place cells count text new_text wrote = wrote

-- The input ends in the next block.
pub checked_cut : {E : Type 0} (since : Since) (e : Expected) (place : Place) (old map : LedgerMap) (sums : Sums) (count : ℕ) (target : List ℕ) (input left first_text text new_text : Option (List ℕ))
    (status : Result ℕ E) → HasChecked since e place old.check old.unread sums count (Some target) input first_text text → map.asked ≡ place → count < e.job.blocks
    → EndsInBlock e.job.bs input left → map.check ≡ old.check → IfOk status (EndsCut map sums count text new_text)
    → IfOk status (ChecksTarget since e place target first_text new_text)
checked_cut since e place old map sums count target input left first_text text new_text (Err x) so_far same within ends kept says = tt
checked_cut since e place old map sums count target input left first_text text new_text (Ok s) so_far same within ends kept (wrote, is_status) =
    let known = known_rest target (Some target) input _ refl so_far.came in
    let cells = so_far.cells in
    let report : report_at map.check.found count ≡ report_at (tally_of place cells) count =
    ap (λ (k : Check). report_at k.found count) kept ∙ ap (λ t. report_at t count) so_far.found in
    inr (inl (record {
      cells = cells;
      block = count;
      before = within;
      come = so_far.come;
      rest = known.0;
      input = known.2;
      ends = part_left e.job.bs known.0 left (subst (λ i. EndsInBlock e.job.bs i left) known.1 ends);
      finishes = (
        Appends-trans first_text text new_text (lines_of e place cells) _ so_far.written
            (cut_text place cells count text new_text
            (subst (λ p. Appends text new_text (unasked_line p ++ last_line (report_at (tally_of place cells) count) (sums_of cells))) same
            (subst (λ k. Appends text new_text (unasked_line map.asked ++ last_line (report_at (tally_of place cells) count) k)) so_far.sums_are
            (subst (λ r. Appends text new_text (unasked_line map.asked ++ last_line r sums)) report wrote)))),
        is_status,
      );
    }))

-- No block comes.
pub checked_refused : {E : Type 0} (since : Since) (e : Expected) (place : Place) (check : Check) (unread : Bool) (sums : Sums) (count : ℕ) (target : List ℕ)
    (input left first_text text new_text : Option (List ℕ)) (fault : Fault) (status : Result ℕ E)
    → HasChecked since e place check unread sums count (Some target) input first_text text → count < e.job.blocks → NoBlock fault input left
    → IfOk status (Refuses (plain fault) text new_text) → IfOk status (ChecksTarget since e place target first_text new_text)
checked_refused since e place check unread sums count target input left first_text text new_text fault (Err x) so_far within none refuses = tt
checked_refused since e place check unread sums count target input left first_text text new_text fault (Ok s) so_far within none refuses =
    let known = known_rest target (Some target) input _ refl so_far.came in
    inr (inr (record {
      cells = so_far.cells;
      block = count;
      come = so_far.come;
      rest = known.0;
      input = known.2;
      fault = fault;
      stops = inl (left, within, subst (λ i. NoBlock fault i left) known.1 none);
      finishes = (
        Appends-trans first_text text new_text (lines_of e place so_far.cells) (with_line_feed (refusal_line (plain fault))) so_far.written refuses.0,
        refuses.1,
      );
    }))
