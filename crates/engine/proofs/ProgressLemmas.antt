-- Why a job without open writes goes on.
use Rattle.std.proofs.Common.{◌≡◌, ℕ, ◌<◌, ◌≤◌, Bool, false, not, ltb, List, [], ◌∷◌, length, refl, ap, sym, ◌∙◌, arith}
use Rattle.std.specs.List.{filter}
use Rattle.std.proofs.lemmas.Bool.{ltb-false, lt-leb}
use Rattle.fc_base.specs.Counted.{has}
use Rattle.engine.specs.History.{Event, failures, in_flight, issued, open_writes}
use Rattle.engine.specs.declared.issue.Issue.TheVariants.{Write}
use Rattle.engine.specs.Legal.{has_failed}
use Rattle.engine.specs.Running.{Origin}
use Rattle.engine.specs.Answers.{ticket_of, answer_by}
use Rattle.engine.specs.Laws.{AlwaysGoesOn}

none_in : (ks : List ℕ) → ltb 0 (length ks) ≡ false → ks ≡ []
none_in [] e = refl
none_in (k ∷ ks) e = absurd (omega (arith, ltb-false 0 (length (k ∷ ks)) e))

keeps_all : (ks : List ℕ) → filter (λ k. not (has [] k)) ks ≡ ks
keeps_all [] = refl
keeps_all (k ∷ ks) = ap (λ l. k ∷ l) (keeps_all ks)

-- where nothing has failed, all writes in flight are open
flying_is_open : (h : List Event) → has_failed h ≡ false → in_flight h ≡ open_writes h
flying_is_open h e =
    sym (keeps_all (in_flight h)) ∙ ap (λ (fs : List ℕ). filter (λ k. not (has fs k)) (in_flight h)) (sym (none_in (failures h) e))

alone : (origin : Origin) (next : ℕ) (failed : Bool) (writes : List ℕ) → 1 ≤ origin.job.depth → failed ≡ false → next < origin.job.total → writes ≡ []
    → answer_by origin false failed next writes ≡ Write (ticket_of origin next)
alone origin next failed writes d f n w =
    rw (f, w, lt-leb origin.job.total next n, lt-leb origin.job.depth 0 d) refl

pub always_goes_on : AlwaysGoesOn
always_goes_on origin h legal depth none unfailed fewer =
    alone origin (issued h) (has_failed h) (in_flight h) depth unfailed fewer (flying_is_open h unfailed ∙ none)
