-- What a report adds to those that are kept.
use Rattle.std.proofs.Common.{◌≡◌, sym, ap, Bool, true, false, List, [], ◌∷◌, ◌++◌}
use Rattle.client_core.specs.declared.received.Received.{Received}
use Rattle.std.specs.Prelude.{if◌then◌else◌}
use Rattle.client_core.specs.Reports.{has_report, with_report}

-- One of an attempt, server and job that is there, and one of another.
pub is_there : (rs : List Received) (r : Received) → has_report r.attempt r.server r.job rs ≡ true → rs ≡ with_report r rs
is_there rs r h = sym (ap (λ (b : Bool). if b then rs else rs ++ r ∷ []) h)

pub is_new : (rs : List Received) (r : Received) → has_report r.attempt r.server r.job rs ≡ false → rs ++ r ∷ [] ≡ with_report r rs
is_new rs r h = sym (ap (λ (b : Bool). if b then rs else rs ++ r ∷ []) h)
