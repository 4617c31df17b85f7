-- Entries block by block, what a filter leaves, and the verdict by it.
use Rattle.std.proofs.Common.{◌≡◌, ℕ, ◌+◌, Bool, true, false, List, [], ◌∷◌, ◌++◌, map, filter, refl, sym, arith}
use Rattle.std.specs.Prelude.{if◌then◌else◌}
use Rattle.std.specs.List.{list_any, range_with_len}
use Rattle.std.proofs.lemmas.List.FromFn.{map-range_with_len_more}
use Rattle.recheck.specs.declared.verdict.Verdict.TheVariants as verdicts
use Rattle.ledger.specs.declared.entry.RunWrite.{RunWrite}
use Rattle.ledger.specs.Entries.{asks, is_held, verdict}
use Rattle.ledger.specs.Places.{Place, entry_of}

-- The changed entries of the first blocks, with one more.
pub entries_more : (change : ℕ → List RunWrite → List RunWrite) (place : Place) (n : ℕ) (old new : List (List RunWrite)) (entry next : List RunWrite)
    → entry ≡ entry_of place n → next ≡ change n entry → new ≡ old ++ next ∷ []
    → old ≡ map (λ b. change b (entry_of place b)) (range_with_len 0 n) → new ≡ map (λ b. change b (entry_of place b)) (range_with_len 0 (n + 1))
entries_more change place n old new entry next here changed put kept =
    rw (put, changed, here, kept) (sym (map-range_with_len_more (λ b. change b (entry_of place b)) 0 n n (omega arith)))

-- A filter leaves something just where one passes.
pub asks-filter : (f : RunWrite → Bool) (ws : List RunWrite) → asks (filter f ws) ≡ list_any f ws
asks-filter f [] = refl
asks-filter f (w ∷ ws) = by (f w) refl (asks-filter f ws)
  where
    by : (b : Bool) → f w ≡ b → asks (filter f ws) ≡ list_any f ws → asks (filter f (w ∷ ws)) ≡ list_any f (w ∷ ws)
    by true is ih = rw is refl
    by false is ih = rw is ih

-- The verdict of an entry that asks for something, by what a filter leaves of it.
pub verdict_by : (block : ℕ) (bytes : List ℕ) (entry : List RunWrite) (b : Bool) → true ≡ asks entry → b ≡ asks (filter (is_held block bytes) entry)
    → (if b then verdicts.Good else verdicts.Fault) ≡ verdict block bytes entry
verdict_by block bytes entry b some left =
    let asked : asks entry ≡ true = sym some in
    rw (left, asks-filter (is_held block bytes) entry, asked) refl
