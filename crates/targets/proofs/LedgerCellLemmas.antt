-- A check by a ledger, block by block as it comes.
use Rattle.std.proofs.Common.{◌≡◌, ◌<◌, ◌≤◌, ◌+◌, ℕ, zero, suc, Bool, true, false, not, ◌&&◌, ◌||◌, List, [], ◌∷◌, ◌++◌, length, take, drop, get_or, set, Option, Some, None, map, filter}
use Rattle.std.proofs.Common.{IfSome, IfOk, OnOk, Result, Ok, Err, append-nil, append_assoc, refl, sym, ap, ◌∙◌, subst, inl, inr, arith}
use Rattle.std.specs.Prelude.{if◌then◌else◌, is_some, codes}
use Rattle.std.specs.List.{flat_map, list_any, range_with_len}
use Rattle.std.specs.Str.{bytes_eq}
use Rattle.std.proofs.lemmas.List.{map-append, length_push, length-append, take_all, take-append-le, length-take}
use Rattle.std.proofs.lemmas.List.Elements.{filter-append}
use Rattle.std.proofs.lemmas.Bool.{cases_lt}
use Rattle.recheck.specs.declared.verdict.Verdict.{Verdict}
use Rattle.recheck.specs.declared.verdict.Verdict.TheVariants as verdicts
use Rattle.recheck.specs.Report.{Tally}
use Rattle.recheck.specs.Check.{nothing, with_verdict}
use Rattle.ledger.specs.declared.entry.RunWrite.{RunWrite}
use Rattle.ledger.specs.Checks.{Check, report_of, start, with_block_fed}
use Rattle.ledger.specs.Entries.{asks, is_held, verdict}
use Rattle.ledger.specs.Places.{Place, entry_of, verdict_at, with_block_checked}
use Rattle.targets.specs.declared.ledger_found.Found.{Found}
use Rattle.targets.specs.Ledgers.{Cell, entry_behind, is_asked, is_lost, place_behind, report_of_cells}
use Rattle.targets.specs.LedgerSteps.{with_block}

-- ---- lists that are changed from front to back

at_seam : {X : Type 0} (xs ys : List X) (d : X) → get_or (xs ++ ys) (length xs) d ≡ get_or ys 0 d
at_seam [] ys d = refl
at_seam (x ∷ xs) ys d = at_seam xs ys d

drop_at : {X : Type 0} (es : List X) (n : ℕ) (d : X) → get_or (drop n es) 0 d ≡ get_or es n d
drop_at [] zero d = refl
drop_at [] (suc n) d = refl
drop_at (e ∷ es) zero d = refl
drop_at (e ∷ es) (suc n) d = drop_at es n d

set_seam : {X : Type 0} (xs ys : List X) (y z : X) → set (xs ++ y ∷ ys) (length xs) z ≡ xs ++ z ∷ ys
set_seam [] ys y z = refl
set_seam (x ∷ xs) ys y z = ap (λ l. x ∷ l) (set_seam xs ys y z)

split_at : {X : Type 0} (es : List X) (n : ℕ) (d : X) → n < length es → drop n es ≡ get_or es n d ∷ drop (n + 1) es
split_at [] n d lt = absurd (omega arith)
split_at (e ∷ es) zero d lt = refl
split_at (e ∷ es) (suc n) d lt =
    let shift : suc (n + 1) ≡ suc n + 1 = omega arith in
    split_at es n d (omega arith) ∙ ap (λ k. get_or es n d ∷ drop k (e ∷ es)) shift

-- ---- what is known of the place

-- What is known once these blocks, the first ones, were checked.
unfoldable pub place_to : Place → List Cell → Place
place_to place cells = record place { entries = map (entry_behind place) cells ++ drop (length cells) place.entries }

length-map : {X Y : Type 0} (f : X → Y) (xs : List X) → length (map f xs) ≡ length xs
length-map f [] = refl
length-map f (x ∷ xs) = ap suc (length-map f xs)

-- The block that comes next has the entry that it had.
pub next_entry : (place : Place) (cells : List Cell) → entry_of (place_to place cells) (length cells) ≡ entry_of place (length cells)
unfolding place_to
next_entry place cells =
    let front = map (entry_behind place) cells in
    let rest = drop (length cells) place.entries in
    ap (λ n. get_or (front ++ rest) n []) (sym (length-map (entry_behind place) cells)) ∙ at_seam front rest []
    ∙ drop_at place.entries (length cells) []

-- The entries, where the next block's is changed to this.
change_next : (place : Place) (cells : List Cell) (cell : Cell) → length cells < length place.entries
    → map (entry_behind place) cells ++ entry_behind place cell ∷ drop (length cells + 1) place.entries
    ≡ map (entry_behind place) (cells ++ cell ∷ []) ++ drop (length (cells ++ cell ∷ [])) place.entries
change_next place cells cell lt =
    let f = entry_behind place in
    sym (ap (λ l. l ++ drop (length (cells ++ cell ∷ [])) place.entries) (map-append f cells (cell ∷ []))
    ∙ append_assoc (map f cells) (f cell ∷ []) (drop (length (cells ++ cell ∷ [])) place.entries)
    ∙ ap (λ n. map f cells ++ f cell ∷ drop n place.entries) (length_push cells cell))

pub place_more : (place : Place) (cells : List Cell) (cell : Cell) → cell.block ≡ length cells → length cells < length place.entries
    → (check : Check) → check.place ≡ place_to place cells
    → (with_block check (length cells) cell.bytes).place ≡ place_to place (cells ++ cell ∷ [])
unfolding place_to
place_more place cells cell at lt check is = by cell.bytes refl
  where
    f : Cell → List RunWrite
    f = entry_behind place

    n : ℕ
    n = length cells

    here : map f cells ++ drop n place.entries ≡ map f cells ++ entry_of place n ∷ drop (n + 1) place.entries
    here = ap (λ l. map f cells ++ l) (split_at place.entries n [] lt)

    by : (bytes : Option (List ℕ)) → cell.bytes ≡ bytes → (with_block check n bytes).place ≡ place_to place (cells ++ cell ∷ [])
    by None none =
        let kept : entry_behind place cell ≡ entry_of place n = rw none (ap (entry_of place) at) in
        is ∙ ap (λ es. record place { entries = es })
        (here ∙ ap (λ y. map f cells ++ y ∷ drop (n + 1) place.entries) (sym kept) ∙ change_next place cells cell lt)
    by (Some bytes) some =
        let left : List RunWrite = filter (is_held n bytes) (entry_of (place_to place cells) n) in
        let kept : left ≡ entry_behind place cell =
        ap (filter (is_held n bytes)) (next_entry place cells) ∙ sym (rw (some, at) refl) in
        ap (λ p. with_block_checked p n bytes) is
        ∙ ap (λ es. record place { entries = es })
        (ap (λ l. set l n left) here
        ∙ ap (λ k. set (map f cells ++ entry_of place n ∷ drop (n + 1) place.entries) k left) (sym (length-map f cells))
        ∙ set_seam (map f cells) (drop (n + 1) place.entries) (entry_of place n) left
        ∙ ap (λ y. map f cells ++ y ∷ drop (n + 1) place.entries) kept ∙ change_next place cells cell lt)

-- Once all were checked it is what is known behind the check.
pub place_all : (place : Place) (cells : List Cell) → length cells ≡ length place.entries → place_to place cells ≡ place_behind place cells
unfolding place_to
place_all place cells all =
    ap (λ es. record place { entries = es })
    (ap (λ l. map (entry_behind place) cells ++ l) (none (length cells) place.entries (omega (arith, all))) ∙ append-nil (map (entry_behind place) cells))
  where
    none : (n : ℕ) (es : List (List RunWrite)) → length es ≤ n → drop n es ≡ []
    none zero [] le = refl
    none (suc n) [] le = refl
    none zero (e ∷ es) le = absurd (omega arith)
    none (suc n) (e ∷ es) le = none n es (omega arith)

pub place_none : (place : Place) → place ≡ place_to place []
unfolding place_to
place_none place = refl

-- ---- the tally

-- The tally of these blocks.
unfoldable pub tally_of : Place → List Cell → Tally
tally_of place cells = record {
  checked = length (filter (is_asked place) cells);
  faults = length (filter (is_lost place) cells);
  first = take 32 (map (λ c. c.block) (filter (is_lost place) cells));
}

pub report_is : (place : Place) (cells : List Cell) → report_of (tally_of place cells) ≡ report_of_cells place cells
unfolding tally_of
report_is place cells = refl

pub tally_none : (place : Place) → nothing ≡ tally_of place []
unfolding tally_of
tally_none place = refl

keep_in : (p : Cell → Bool) (cells : List Cell) (cell : Cell) → p cell ≡ true → filter p (cells ++ cell ∷ []) ≡ filter p cells ++ cell ∷ []
keep_in p cells cell e = rw (filter-append p cells (cell ∷ []), e) refl

keep_out : (p : Cell → Bool) (cells : List Cell) (cell : Cell) → p cell ≡ false → filter p (cells ++ cell ∷ []) ≡ filter p cells
keep_out p cells cell e = rw (filter-append p cells (cell ∷ []), e) (append-nil (filter p cells))

-- The first 32 of a list that grows.
first_more : (xs : List ℕ) (x : ℕ) → take 32 (xs ++ x ∷ []) ≡ take 32 (take 32 xs ++ x ∷ [])
first_more xs x = elim (cases_lt (length xs) 32) [
  | inl few ↦ ap (λ ys. take 32 (ys ++ x ∷ [])) (sym (take_all 32 xs (omega arith)))
  | inr many ↦
      let len : length (take 32 xs) ≡ 32 = omega (arith, length-take 32 xs) in
      take-append-le 32 xs (x ∷ []) many ∙ sym (take_all 32 (take 32 xs) (omega arith)) ∙ sym (take-append-le 32 (take 32 xs) (x ∷ []) (omega arith))
]

-- One block more was read.
tally_read : (place : Place) (cells : List Cell) (cell : Cell) (bytes : List ℕ) → cell.bytes ≡ Some bytes
    → with_verdict (tally_of place cells) cell.block (verdict cell.block bytes (entry_of place cell.block)) ≡ tally_of place (cells ++ cell ∷ [])
unfolding tally_of
tally_read place cells cell bytes some =
    by (asks entry) (list_any (is_held cell.block bytes) entry) refl refl asked_is lost_is
  where
    entry : List RunWrite
    entry = entry_of place cell.block

    asked_is : is_asked place cell ≡ asks entry
    asked_is = rw some refl

    lost_is : is_lost place cell ≡ (asks entry && not (list_any (is_held cell.block bytes) entry))
    lost_is = rw some refl

    numbers : Cell → ℕ
    numbers c = c.block

    by : (c g : Bool) → asks entry ≡ c → list_any (is_held cell.block bytes) entry ≡ g → is_asked place cell ≡ asks entry
        → is_lost place cell ≡ (asks entry && not (list_any (is_held cell.block bytes) entry))
        → with_verdict (tally_of place cells) cell.block (if c then (if g then verdicts.Good else verdicts.Fault) else verdicts.Skipped)
        ≡ tally_of place (cells ++ cell ∷ [])
    by false g c_is g_is asked lost =
        let out : is_asked place cell ≡ false = asked ∙ c_is in
        let sound : is_lost place cell ≡ false = lost ∙ ap (λ b. b && not (list_any (is_held cell.block bytes) entry)) c_is in
        rw (keep_out (is_asked place) cells cell out, keep_out (is_lost place) cells cell sound) refl
    by true true c_is g_is asked lost =
        let inside : is_asked place cell ≡ true = asked ∙ c_is in
        let sound : is_lost place cell ≡ false = lost ∙ ap (λ b. b && not (list_any (is_held cell.block bytes) entry)) c_is ∙ ap not g_is in
        rw (keep_in (is_asked place) cells cell inside, keep_out (is_lost place) cells cell sound, length_push (filter (is_asked place) cells) cell) refl
    by true false c_is g_is asked lost =
        let inside : is_asked place cell ≡ true = asked ∙ c_is in
        let faulty : is_lost place cell ≡ true = lost ∙ ap (λ b. b && not (list_any (is_held cell.block bytes) entry)) c_is ∙ ap not g_is in
        rw (
          keep_in (is_asked place) cells cell inside,
          keep_in (is_lost place) cells cell faulty,
          length_push (filter (is_asked place) cells) cell,
          length_push (filter (is_lost place) cells) cell,
          map-append numbers (filter (is_lost place) cells) (cell ∷ []),
          first_more (map numbers (filter (is_lost place) cells)) cell.block,
        ) refl

-- One that could not be read adds nothing.
tally_unread : (place : Place) (cells : List Cell) (cell : Cell) → cell.bytes ≡ None → tally_of place cells ≡ tally_of place (cells ++ cell ∷ [])
unfolding tally_of
tally_unread place cells cell none =
    let out : is_asked place cell ≡ false = rw none refl in
    let sound : is_lost place cell ≡ false = rw none refl in
    rw (keep_out (is_asked place) cells cell out, keep_out (is_lost place) cells cell sound) refl

pub tally_more : (place : Place) (cells : List Cell) (cell : Cell) (check : Check) → cell.block ≡ length cells → check.place ≡ place_to place cells
    → check.found ≡ tally_of place cells → (with_block check (length cells) cell.bytes).found ≡ tally_of place (cells ++ cell ∷ [])
tally_more place cells cell check at is found = by cell.bytes refl
  where
    by : (bytes : Option (List ℕ)) → cell.bytes ≡ bytes → (with_block check (length cells) bytes).found ≡ tally_of place (cells ++ cell ∷ [])
    by None none = found ∙ tally_unread place cells cell none
    by (Some bytes) some =
        let entry : entry_of check.place (length cells) ≡ entry_of place (length cells) =
        ap (λ p. entry_of p (length cells)) is ∙ next_entry place cells in
        ap (λ t. with_verdict t (length cells) (verdict (length cells) bytes (entry_of check.place (length cells)))) found
        ∙ ap (λ es. with_verdict (tally_of place cells) (length cells) (verdict (length cells) bytes es)) entry
        ∙ ap (λ k. with_verdict (tally_of place cells) k (verdict k bytes (entry_of place k))) (sym at)
        ∙ tally_read place cells cell bytes some
