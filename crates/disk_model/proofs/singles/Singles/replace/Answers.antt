use Rattle.std.proofs.Common.{ℕ, ap, Option, List, arith}
use Rattle.std.specs.Option.{unwrap_or}
use Rattle.disk_model.specs.File.{zeros}
use Rattle.disk_model.specs.Singles.{single_of}
use Rattle.disk_model.proofs.ContentLemmas.{landed-one, other_key}
use Rattle.disk_model.proofs.singles.Singles.replace.Goals as goal

pub returns-clause-ok : goal.returns-clause-ok
returns-clause-ok c s =
    let updates = c.in_ok-insert.ensures.updates in
    let old = c.args.self.now in
    landed-one (single_of (record old { sectors = c.insert.new.self })) (single_of old) c.args.bytes c.args.sector s
    (omega arith) (ap (λ (o : Option (List ℕ)). unwrap_or o zeros) updates.1)
    (λ apart. ap (λ (o : Option (List ℕ)). unwrap_or o zeros) (updates.2 s (other_key c.args.sector s apart)))
