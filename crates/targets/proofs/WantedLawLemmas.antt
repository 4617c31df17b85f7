-- Blocks that are passed over.
use Rattle.std.proofs.Common.{◌≡◌, ◌<◌, ◌*◌, ◌/◌, ◌%◌, ℕ, suc, Bool, true, false, not, ◌&&◌, ◌||◌, List, [], ◌∷◌, ◌++◌, length, get_or, map, filter, codes, Option, Some, None, IfSome, refl, sym, ap, ◌∙◌, subst, arith, cond}
use Rattle.std.specs.Prelude.{if◌then◌else◌, is_some}
use Rattle.std.specs.List.{list_any, range_with_len}
use Rattle.std.specs.Str.{bytes_eq}
use Rattle.std.specs.Int.{bit_at}
use Rattle.std.proofs.Math.Nat.{div-add-mod}
use Rattle.std.proofs.lemmas.Simd.{bit_mask_l}
use Rattle.std.proofs.lemmas.List.FromFn.{get_or-map-range_with_len, length-map-range_with_len}
use Rattle.ledger.specs.declared.entry.RunWrite.{RunWrite}
use Rattle.ledger.specs.Entries.{asks, behind_run}
use Rattle.ledger.specs.Laws.{PlacesHaveTheirEntries}
use Rattle.ledger.specs.Places.{Place, entry_of, is_checked}
use Rattle.ledger.specs.Stories.{ran}
use Rattle.recheck.specs.Expected.{Expected}
use Rattle.recheck.specs.Faults as checks
use Rattle.recheck.specs.Faults.{last_write, writes_to}
use Rattle.targets.specs.declared.command.Since.{Since}
use Rattle.targets.specs.declared.ledger_found.Found.{Found}
use Rattle.targets.specs.declared.ledger_found.Found.TheVariants as founds
use Rattle.targets.specs.declared.block_verdict.BlockVerdict.TheVariants as tolds
use Rattle.targets.specs.LedgerLines.{found_word}
use Rattle.targets.specs.Ledgers as ledgers
use Rattle.targets.specs.Ledgers.{AreFound, Cell, HasCome, IsFound, is_asked, is_lost, is_unread, line_of, lines_of, lines_with, place_behind, report_of_cells}
use Rattle.targets.specs.MapKinds.{kinds_by}
use Rattle.targets.specs.Reports.{report_status}
use Rattle.targets.specs.Wanted.{byte_of, bytes_to, wanted_bytes}
use Rattle.targets.specs.WantedLaws.{AskedBlocksSuffice, DigitsSayWhatIsAsked, OneRunAsksForItsBlocks, as_asked}

-- ---- the digits

pub digits_say : DigitsSayWhatIsAsked
digits_say place block within =
    let n = block / 8 in
    let i = block % 8 in
    let count = bytes_to (length place.entries) in
    let wants = is_checked place in
    let lt : n < count = subst (λ l. n < l) (length-map-range_with_len (byte_of wants) 0 count) within in
    let small : i < 8 = omega arith in
    let byte : get_or (wanted_bytes place) n 0 ≡ byte_of wants n = get_or-map-range_with_len (byte_of wants) 0 count n n 0 lt (omega arith) in
    ap (λ x. bit_at x i) byte ∙ bit_mask_l (map wants (range_with_len (8 * n) 8)) i
    ∙ ap (λ b. cond b 1 0) (get_or-map-range_with_len wants (8 * n) 8 i block false small (div-add-mod block 8))

-- ---- one run

run_asks : (e : Expected) (block : ℕ) → asks (behind_run e block []) ≡ checks.is_checked e block
run_asks e block = by (last_write e block) refl
  where
    by : (last : Option ℕ) → last_write e block ≡ last → asks (behind_run e block []) ≡ checks.is_checked e block
    by None is = rw is refl
    by (Some k) is = rw is refl

pub one_run_asks : PlacesHaveTheirEntries → OneRunAsksForItsBlocks
one_run_asks entries e bs blocks block lt =
    ap asks (entries bs blocks (record { what = ran e; content = λ b. [] } ∷ []) block lt) ∙ run_asks e block

-- ---- lists of which each item is changed

kept_as : {X : Type 0} (f : X → X) (p : X → Bool) → ((x : X) → p (f x) ≡ p x) → (xs : List X) → filter p (map f xs) ≡ map f (filter p xs)
kept_as f p same [] = refl
kept_as f p same (x ∷ xs) = by (p x) refl (same x) (kept_as f p same xs)
  where
    by : (b : Bool) → p x ≡ b → p (f x) ≡ p x → filter p (map f xs) ≡ map f (filter p xs) → filter p (map f (x ∷ xs)) ≡ map f (filter p (x ∷ xs))
    by true is both ih = rw (both, is) (ap (λ l. f x ∷ l) ih)
    by false is both ih = rw (both, is) ih

pub seen_as : {X Y : Type 0} (f : X → X) (g : X → Y) → ((x : X) → g (f x) ≡ g x) → (xs : List X) → map g (map f xs) ≡ map g xs
seen_as f g same [] = refl
seen_as f g same (x ∷ xs) = ap (λ y. y ∷ map g (map f xs)) (same x) ∙ ap (λ l. g x ∷ l) (seen_as f g same xs)

counted_map : {X Y : Type 0} (f : X → Y) (xs : List X) → length (map f xs) ≡ length xs
counted_map f [] = refl
counted_map f (x ∷ xs) = ap (λ n. suc n) (counted_map f xs)

pub counted_as : {X : Type 0} (f : X → X) (p : X → Bool) → ((x : X) → p (f x) ≡ p x) → (xs : List X) → length (filter p (map f xs)) ≡ length (filter p xs)
counted_as f p same xs = ap length (kept_as f p same xs) ∙ counted_map f (filter p xs)

pub listed_as : {X Y : Type 0} (f : X → X) (p : X → Bool) (g : X → Y) → ((x : X) → p (f x) ≡ p x) → ((x : X) → g (f x) ≡ g x) → (xs : List X)
    → map g (filter p (map f xs)) ≡ map g (filter p xs)
listed_as f p g same seen xs = ap (map g) (kept_as f p same xs) ∙ seen_as f g seen (filter p xs)

pub any_as : {X : Type 0} (f : X → X) (p : X → Bool) → ((x : X) → p (f x) ≡ p x) → (xs : List X) → list_any p (map f xs) ≡ list_any p xs
any_as f p same [] = refl
any_as f p same (x ∷ xs) = ap (λ b. b || list_any p (map f xs)) (same x) ∙ ap (λ b. p x || b) (any_as f p same xs)

-- ---- a block of which nothing is asked

asked_as : (place : Place) (c : Cell) → is_asked place (as_asked place c) ≡ is_asked place c
asked_as place c = by (is_checked place c.block) c.bytes
  where
    by : (a : Bool) (bytes : Option (List ℕ)) → (is_some (if a then bytes else None) && a) ≡ (is_some bytes && a)
    by true bytes = refl
    by false None = refl
    by false (Some held) = refl

unread_as : (place : Place) (c : Cell) → is_unread place (as_asked place c) ≡ is_unread place c
unread_as place c = by (is_checked place c.block) c.bytes
  where
    by : (a : Bool) (bytes : Option (List ℕ)) → (a && not (is_some (if a then bytes else None))) ≡ (a && not (is_some bytes))
    by true bytes = refl
    by false bytes = refl

lost_as : (place : Place) (c : Cell) → is_lost place (as_asked place c) ≡ is_lost place c
lost_as place c = by (asks (entry_of place c.block)) refl c.bytes refl
  where
    by : (a : Bool) → asks (entry_of place c.block) ≡ a → (bytes : Option (List ℕ)) → c.bytes ≡ bytes
        → is_lost place (as_asked place c) ≡ is_lost place c
    by true is bytes has = rw is refl
    by false is None has = rw (is, has) refl
    by false is (Some held) has = rw (has, is) refl

behind_as : (place : Place) (c : Cell) → ledgers.entry_behind place (as_asked place c) ≡ ledgers.entry_behind place c
behind_as place c = by (entry_of place c.block) refl c.bytes refl
  where
    by : (entry : List RunWrite) → entry_of place c.block ≡ entry → (bytes : Option (List ℕ)) → c.bytes ≡ bytes
        → ledgers.entry_behind place (as_asked place c) ≡ ledgers.entry_behind place c
    by [] is None has = rw (is, has) refl
    by [] is (Some held) has = rw (has, is, is) refl
    by (w ∷ ws) is bytes has = rw is refl

-- At such a block nothing is found.
none_found : (since : Since) (e : Expected) (entry : List RunWrite) (block : ℕ) (bytes : Option (List ℕ)) (found : Found)
    → asks entry ≡ false → IsFound since e entry block bytes found → found ≡ founds.Unchecked
none_found since e (w ∷ ws) block bytes _ is h = absurd cc
none_found since e [] block bytes founds.Unchecked is h = refl
none_found since e [] block bytes founds.Sound is (held, has, v, rest) = absurd cc
none_found since e [] block bytes (founds.Written tolds.Unchecked) is h = absurd h
none_found since e [] block bytes (founds.Written tolds.Sound) is h = absurd h
none_found since e [] block bytes (founds.Written tolds.Unread) is (asked, rest, none) = absurd cc
none_found since e [] block bytes (founds.Written (tolds.Fault kind)) is (written, (held, has, v, rest)) = absurd cc
none_found since e [] block bytes founds.RestUnread is (asked, rest, none) = absurd cc
none_found since e [] block bytes (founds.Rest content) is (written, (held, has, v, rest)) = absurd cc

line_as : (since : Since) (e : Expected) (place : Place) (c : Cell) → IsFound since e (entry_of place c.block) c.block c.bytes c.found
    → line_of e place (as_asked place c) ≡ line_of e place c
line_as since e place c h = by (asks (entry_of place c.block)) refl
  where
    by : (a : Bool) → asks (entry_of place c.block) ≡ a → line_of e place (as_asked place c) ≡ line_of e place c
    by true is = rw is refl
    by false is = rw (none_found since e (entry_of place c.block) c.block c.bytes c.found is h) refl

lines_as : (since : Since) (e : Expected) (place : Place) (cells : List Cell) → AreFound since e place cells
    → lines_of e place (map (as_asked place) cells) ≡ lines_of e place cells
lines_as since e place [] are = refl
lines_as since e place (c ∷ cs) (here, rest) =
    ap (λ l. l ++ lines_of e place (map (as_asked place) cs)) (line_as since e place c here.0)
    ∙ ap (λ l. line_of e place c ++ l) (lines_as since e place cs rest)

found_as : (since : Since) (e : Expected) (place : Place) (cells : List Cell) → AreFound since e place cells
    → AreFound since e place (map (as_asked place) cells)
found_as since e place [] are = tt
found_as since e place (c ∷ cs) (here, rest) = (by (asks (entry_of place c.block)) refl, found_as since e place cs rest)
  where
    entry : List RunWrite
    entry = entry_of place c.block

    Is : Option (List ℕ) → Type 0
    Is bytes = IsFound since e entry c.block bytes c.found × IfSome bytes (λ l. length l ≡ e.job.bs)

    by : (a : Bool) → asks entry ≡ a → Is (if asks entry then c.bytes else None)
    by true is = rw is here
    by false is =
        rw is (subst (λ f. IsFound since e entry c.block None f) (sym (none_found since e entry c.block c.bytes c.found is here.0)) is, tt)

pub kinds_same : (f g : List ℕ → ℕ) → ((word : List ℕ) → f word ≡ g word) → kinds_by f ≡ kinds_by g
kinds_same f g same =
    rw (
      same (codes "unwritten"),
      same (codes "filled"),
      same (codes "lost"),
      same (codes "unissued"),
      same (codes "other-run"),
      same (codes "misdirected"),
      same (codes "torn"),
      same (codes "corrupt"),
      same (codes "unread"),
    ) refl

told_as : (place : Place) (cells : List Cell) (word : List ℕ) → lines_with (map (as_asked place) cells) word ≡ lines_with cells word
told_as place cells word = counted_as (as_asked place) (λ c. bytes_eq (found_word c.found) word) (λ c. refl) cells

pub asked_suffice : AskedBlocksSuffice
asked_suffice since e place n cells come =
    let f = as_asked place in
    let report : report_of_cells place (map f cells) ≡ report_of_cells place cells =
    rw (
      counted_as f (is_asked place) (asked_as place) cells,
      counted_as f (is_lost place) (lost_as place) cells,
      listed_as f (is_lost place) (λ (c : Cell). c.block) (lost_as place) (λ c. refl) cells,
    ) refl in
    record {
      come = record {
        blocks = seen_as f (λ (c : Cell). c.block) (λ c. refl) cells ∙ come.blocks;
        found = found_as since e place cells come.found;
      };
      lines = lines_as since e place cells come.found;
      report = report;
      sums = rw (kinds_same (lines_with (map f cells)) (lines_with cells) (told_as place cells), told_as place cells (codes "at-rest")) refl;
      status = rw (any_as f (is_unread place) (unread_as place) cells)
          (ap (λ r. if list_any (is_unread place) cells then 2 else report_status r) report);
      behind = ap (λ es. record place { entries = es }) (seen_as f (ledgers.entry_behind place) (behind_as place) cells);
    }
