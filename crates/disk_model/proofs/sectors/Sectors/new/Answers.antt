use Rattle.std.proofs.Common.{◌≡◌, ℕ, List, ◌∙◌, ap, ◌/◌, ◌%◌, nat_cmp}
use Rattle.std.specs.BTreeMap.{is_at}
use Rattle.std.specs.Map.{lookup}
use Rattle.disk_model.specs.File.{zeros}
use Rattle.disk_model.specs.Run.{run_sector}
use Rattle.disk_model.specs.Sectors.{content_of}
use Rattle.disk_model.specs.Singles.{single_of}
use Rattle.disk_model.proofs.sectors.Sectors.new.Goals as goal

pub returns : goal.returns
returns c = λ p s. at s p
  where
    at : (s : ℕ) → content_of (record { runs = c.new.result; singles = c.new-2.result }) s ≡ zeros
    at s =
        ap (λ (es : List (ℕ × List ℕ)). run_sector (lookup (is_at (nat_cmp (s / 128))) es) (single_of c.new-2.result s) (s % 128)) c.new.ensures.empty
        ∙ ap (λ (f : ℕ → List ℕ). f s) c.new-2.ensures
