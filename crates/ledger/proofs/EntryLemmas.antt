-- Lists of writes as writes of a run, and what a filter leaves.
use Rattle.std.proofs.Common.{◌≡◌, ℕ, Bool, true, false, ◌||◌, List, [], ◌∷◌, map, refl, ap}
use Rattle.std.specs.Prelude.{Option, Some, None}
use Rattle.std.specs.List.{list_any}
use Rattle.recheck.specs.Expected.{Expected}
use Rattle.recheck.specs.Faults as checks
use Rattle.recheck.specs.Faults.{is_write, last_write, writes_to}
use Rattle.ledger.specs.declared.entry.RunWrite.{RunWrite}
use Rattle.ledger.specs.Entries.{write_of, is_held, behind_run, behind_check, is_fault}

pub any_held : (e : Expected) (block : ℕ) (bytes : List ℕ) (ks : List ℕ) →
    list_any (is_held block bytes) (map (write_of e) ks) ≡ list_any (is_write e block bytes) ks
any_held e block bytes [] = refl
any_held e block bytes (k ∷ ks) = ap (λ (b : Bool). is_write e block bytes k || b) (any_held e block bytes ks)

pub one_run : (e : Expected) (held : ℕ → List ℕ) (block : ℕ) →
    is_fault held block (behind_run e block []) ≡ checks.is_fault e held block
one_run e held block = by (last_write e block) refl
  where
    by : (o : Option ℕ) → last_write e block ≡ o →
        is_fault held block (behind_run e block []) ≡ checks.is_fault e held block
    by None is = rw is
    by (Some k) is = rw (is, any_held e block (held block) (writes_to block e.in_flight))

pub stays : (held : ℕ → List ℕ) (block : ℕ) (entry : List RunWrite) →
    is_fault held block (behind_check held block entry) ≡ false
stays held block [] = refl
stays held block (w ∷ ws) = by (is_held block (held block) w) refl (stays held block ws)
  where
    by : (b : Bool) → is_held block (held block) w ≡ b →
        is_fault held block (behind_check held block ws) ≡ false →
        is_fault held block (behind_check held block (w ∷ ws)) ≡ false
    by true is ih = rw (is, is)
    by false is ih = rw is ih
