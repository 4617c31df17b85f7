-- Which blocks of a target a check has to read, as they are told.
use Rattle.std.proofs.Common.{◌+◌, ℕ, List, [], ◌∷◌, map, Option, Some, None, IfSome, IfOk, Result, Ok, Err, ap, sym, ◌∙◌, subst, inl, inr}
use Rattle.std.specs.List.{range_with_len}
use Rattle.std.specs.Io.KnownBytes.{Appends}
use Rattle.std.proofs.KnownBytes.{Appends-trans}
use Rattle.std.proofs.lemmas.List.{map-append}
use Rattle.fc_base.proofs.ListLemmas.{range_more}
use Rattle.fc_base.specs.declared.numbers.Key.{Key}
use Rattle.program_io.specs.Words.{Finishes}
use Rattle.targets.specs.declared.command.Since.{Since}
use Rattle.targets.specs.declared.ledger_refusal.LedgerRefusal.{LedgerRefusal}
use Rattle.targets.specs.declared.ledger_input.Basis.{Basis}
use Rattle.targets.specs.LedgerInput.{BeginsNoLedger}
use Rattle.targets.specs.Ledgers.{RefusesBy}
use Rattle.targets.specs.LedgerSteps.{ReadsBasis}
use Rattle.targets.specs.Wanted.{WantsByLedger, wanted_bytes}

-- What is written byte by byte, with one more.
pub bytes_more : (f : ℕ → ℕ) (count : ℕ) (first text new : Option (List ℕ)) → Appends first text (map f (range_with_len 0 count))
    → Appends text new (f count ∷ []) → Appends first new (map f (range_with_len 0 (count + 1)))
bytes_more f count first text new so_far one =
    subst (Appends first new) (sym (ap (map f) (range_more count) ∙ map-append f (range_with_len 0 count) (count ∷ [])))
    (Appends-trans first text new (map f (range_with_len 0 count)) (f count ∷ []) so_far one)

pub wanted_by_ledger : {E : Type 0} (key : Key) (since : Since) (first left : Option (List ℕ)) (made : Basis) (status : Result ℕ E) (old new : Option (List ℕ))
    → IfSome first (λ input. ReadsBasis key since input left made) → IfOk status (Finishes (wanted_bytes made.asked) 0 old new)
    → IfSome first (λ input. IfOk status (WantsByLedger key since input old new))
wanted_by_ledger key since None left made status old new starts tells = tt
wanted_by_ledger key since (Some input) left made (Err e) old new starts tells = tt
wanted_by_ledger key since (Some input) left made (Ok s) old new starts tells =
    inl (record {
      job = starts.job;
      state = starts.state;
      target = starts.target;
      known = starts.known;
      begins = starts.begins;
      tells = subst (λ p. Finishes (wanted_bytes p) 0 old new s) starts.asked tells;
    })

pub none_wanted : {E : Type 0} (key : Key) (since : Since) (first : Option (List ℕ)) (refusal : LedgerRefusal) (status : Result ℕ E) (old new : Option (List ℕ))
    → IfSome first (λ input. BeginsNoLedger key since input refusal) → IfOk status (RefusesBy refusal old new)
    → IfSome first (λ input. IfOk status (WantsByLedger key since input old new))
none_wanted key since None refusal status old new none refuses = tt
none_wanted key since (Some input) refusal (Err e) old new none refuses = tt
none_wanted key since (Some input) refusal (Ok s) old new none refuses = inr (refusal, none, refuses)
