-- Keys of the same run, server and job are equal.
use Rattle.std.proofs.Common.{◌≡◌, ℕ, true, ◌&&◌, ◌==◌}
use Rattle.std.proofs.lemmas.Bool.{and_parts, eqb-true}
use Rattle.fc_base.specs.declared.numbers.Key.{Key}
use Rattle.fc_base.specs.Keys.{is_same_key}

same_parts : (a b c d e f : ℕ) → a ≡ b → c ≡ d → e ≡ f → ◌≡◌ {A = Key} (record { run = a; server = c; job = e }) (record { run = b; server = d; job = f })
same_parts a b c d e f x y z = cc

pub same_key : (a b : Key) → is_same_key a b ≡ true → a ≡ b
same_key a b h =
    let p = and_parts (a.run == b.run) ((a.server == b.server) && (a.job == b.job)) h in
    let q = and_parts (a.server == b.server) (a.job == b.job) p.1 in
    same_parts a.run b.run a.server b.server a.job b.job (eqb-true a.run b.run p.0) (eqb-true a.server b.server q.0) (eqb-true a.job b.job q.1)
