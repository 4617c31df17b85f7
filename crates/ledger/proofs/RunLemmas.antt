-- The place of a run in a table, as it is found.
use Rattle.std.proofs.Common.{◌≡◌, ℕ, ◌+◌, Bool, true, false, List, ◌∷◌, length, Some, None, refl, arith, cond}
use Rattle.std.specs.Prelude.{bytes_eq, nat_lt, position}
use Rattle.std.specs.List.{position_or_len}
use Rattle.std.proofs.lemmas.List.Recursion.{is_position_or_len}
use Rattle.std.proofs.lemmas.Bool.{ltb-false}
use Rattle.ledger.specs.Spelling.{index_in}
use Rattle.ledger.proofs.TableLemmas.{index_le}

index_is : (run : List ℕ) (rows : List (List ℕ)) → index_in run rows ≡ position_or_len (bytes_eq run) rows
index_is run rows = is_position_or_len (index_in run) (bytes_eq run) refl (λ row more. step (bytes_eq run row) row more refl) rows
  where
    step : (b : Bool) (row : List ℕ) (more : List (List ℕ)) → bytes_eq run row ≡ b
        → index_in run (row ∷ more) ≡ cond (bytes_eq run row) 0 (1 + index_in run more)
    step true row more is = rw is refl
    step false row more is = rw is (omega arith)

pub found_at : (run : List ℕ) (rows : List (List ℕ)) (place : ℕ) → Some place ≡ position (bytes_eq run) rows → place ≡ index_in run rows
found_at run rows place found = by (nat_lt (position_or_len (bytes_eq run) rows) (length rows)) refl
  where
    by : (b : Bool) → nat_lt (position_or_len (bytes_eq run) rows) (length rows) ≡ b → place ≡ index_in run rows
    by true is = let same : Some place ≡ Some (position_or_len (bytes_eq run) rows) = rw is at found in rw (index_is run rows) cc
    by false is = let bad : Some place ≡ None = rw is at found in absurd cc

pub found_nowhere : (run : List ℕ) (rows : List (List ℕ)) → None ≡ position (bytes_eq run) rows → length rows ≡ index_in run rows
found_nowhere run rows found = by (nat_lt (position_or_len (bytes_eq run) rows) (length rows)) refl
  where
    by : (b : Bool) → nat_lt (position_or_len (bytes_eq run) rows) (length rows) ≡ b → length rows ≡ index_in run rows
    by true is = let bad : None ≡ Some (position_or_len (bytes_eq run) rows) = rw is at found in absurd cc
    by false is = omega (arith, ltb-false (position_or_len (bytes_eq run) rows) (length rows) is, index_is run rows, index_le run rows)
