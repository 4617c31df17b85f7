-- The events of the one job are legal, and its state is the one that is taken behind them.
use Rattle.std.proofs.Common.{◌+◌, ◌≤◌, ℕ, zero, suc, refl, arith, []}
use Rattle.std.specs.Prelude.{◌∷◌, IsTrue}
use Rattle.engine.specs.Legal.{IsLegal, KeepsToItsJob}
use Rattle.engine.specs.History.{issue, done, is_done}
use Rattle.engine.specs.WindowRules as window
use Rattle.uses.specs.OneJob.{job, events}

one_done : (j : ℕ) → j + 1 ≤ 1 → IsTrue (is_done (done 0 ∷ issue 0 ∷ []) j)
one_done zero less = refl
one_done (suc j) less = absurd (omega (arith, less))

two_done : (j : ℕ) → j + 1 ≤ 2 → IsTrue (is_done (done 1 ∷ issue 1 ∷ done 0 ∷ issue 0 ∷ []) j)
two_done zero less = refl
two_done (suc zero) less = refl
two_done (suc (suc j)) less = absurd (omega (arith, less))

three_done : (j : ℕ) → j + 1 ≤ 3 → IsTrue (is_done (done 2 ∷ issue 2 ∷ done 1 ∷ issue 1 ∷ done 0 ∷ issue 0 ∷ []) j)
three_done zero less = refl
three_done (suc zero) less = refl
three_done (suc (suc zero)) less = refl
three_done (suc (suc (suc j))) less = absurd (omega (arith, less))

by_window : window.IsLegal 1 1 events
by_window =
    let first : window.IsLegal 1 1 (issue 0 ∷ []) = (tt, refl, omega arith, λ j less. absurd (omega (arith, less))) in
    let second : window.IsLegal 1 1 (issue 1 ∷ done 0 ∷ issue 0 ∷ []) = ((first, refl), refl, omega arith, one_done) in
    let third : window.IsLegal 1 1 (issue 2 ∷ done 1 ∷ issue 1 ∷ done 0 ∷ issue 0 ∷ []) = ((second, refl), refl, omega arith, two_done) in
    ((third, refl), refl, omega arith, three_done)

by_job : KeepsToItsJob job events
by_job =
    let first : KeepsToItsJob job (issue 0 ∷ []) = (tt, omega arith, refl, refl) in
    let second : KeepsToItsJob job (issue 1 ∷ done 0 ∷ issue 0 ∷ []) = (first, omega arith, refl, refl) in
    let third : KeepsToItsJob job (issue 2 ∷ done 1 ∷ issue 1 ∷ done 0 ∷ issue 0 ∷ []) = (second, omega arith, refl, refl) in
    (third, omega arith, refl, refl)

pub is_legal : IsLegal job events
is_legal = record { by_window = by_window; by_job = by_job }
