-- Bytes of another size than a job's blocks hold none of its writes.
use Rattle.std.proofs.Common.{◌≡◌, ℕ, false, List, length, sym, ap, ◌∙◌}
use Rattle.std.specs.Prelude.{IsTrue}
use Rattle.std.proofs.lemmas.Bool.{false_from_ne_true}
use Rattle.std.proofs.lemmas.Slice.Eq.{bytes_eq-Decides}
use Rattle.fc_base.specs.JobParts.{is_within_limits}
use Rattle.write_order.specs.Laws.{WritesFillTheirBlocks}
use Rattle.write_order.specs.Stamps.{written_bytes}
use Rattle.ledger.specs.declared.entry.RunWrite.{RunWrite}
use Rattle.ledger.specs.Entries.{is_held}

pub other_size : WritesFillTheirBlocks → (block : ℕ) (bytes : List ℕ) (w : RunWrite) → IsTrue (is_within_limits w.job)
    → (length bytes ≡ w.job.bs → ⊥) → false ≡ is_held block bytes w
other_size law block bytes w limits other =
    sym (false_from_ne_true (is_held block bytes w) (λ same.
    other (ap length ((bytes_eq-Decides bytes (written_bytes w.key w.job w.seq block)).0 same) ∙ law w.key w.job limits w.seq block)))
