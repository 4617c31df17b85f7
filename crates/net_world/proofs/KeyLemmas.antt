-- Keys of the same numbers are the same.
use Rattle.std.proofs.Common.{◌≡◌, refl, ◌∙◌, ap, ℕ, Bool, true, false, ◌&&◌, ◌==◌}
use Rattle.std.proofs.lemmas.Bool.{eqb-true}
use Rattle.fc_base.specs.declared.numbers.Key.{Key}
use Rattle.fc_base.specs.Keys.{is_same_key}

make_key : ℕ → ℕ → ℕ → Key
make_key r s j = record { run = r; server = s; job = j }

two : (a b : Bool) → (a && b) ≡ true → (a ≡ true) × (b ≡ true)
two true true h = (refl, refl)
two true false h = absurd cc
two false b h = absurd cc

pub same_key : (a b : Key) → is_same_key a b ≡ true → a ≡ b
unfolding make_key
same_key a b h =
    let p = two (a.run == b.run) _ h in
    let q = two (a.server == b.server) (a.job == b.job) p.1 in
    ap (λ r. make_key r a.server a.job) (eqb-true a.run b.run p.0)
    ∙ ap (λ s. make_key b.run s a.job) (eqb-true a.server b.server q.0)
    ∙ ap (λ j. make_key b.run b.server j) (eqb-true a.job b.job q.1)
