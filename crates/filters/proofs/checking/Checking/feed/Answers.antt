use Rattle.std.proofs.Common.{ap, arith, refl, sym, ◌∙◌}
use Rattle.recheck.specs.Check.{Check}
use Rattle.filters.proofs.CheckLemmas.{fed_end, fed_on}
use Rattle.filters.proofs.checking.Checking.feed.Goals as goal

pub returns-then-ended-clause-feeds : goal.returns-then-ended-clause-feeds
returns-then-ended-clause-feeds c = λ j u come.
    fed_end c.faults_end_checks.ensures j c.args.self u c.args.bytes.now c.feed.new.self c.finish.result come c.feed.ensures.seen
    (ap (λ (x : Check). x.expected) c.feed.ensures.left) (ap (λ (x : Check). x.fatal) c.feed.ensures.left) (sym c.ended.ensures ∙ c.if-ended.true)
    (omega arith) c.finish.ensures.value

pub returns-clause-feeds : goal.returns-clause-feeds
returns-clause-feeds c = λ j u come.
    fed_on j c.args.self _ u c.args.bytes.now come c.feed.ensures.seen
    (ap (λ (x : Check). x.expected) c.feed.ensures.left) (ap (λ (x : Check). x.fatal) c.feed.ensures.left) refl refl refl refl
