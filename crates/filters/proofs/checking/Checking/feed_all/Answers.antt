use Rattle.std.proofs.Common.{◌≡◌, ◌+◌, ◌-◌, ◌*◌, take, drop, ap, arith, refl, subst, ◌∙◌}
use Rattle.filters.specs.UnderWay.{with_blocks}
use Rattle.filters.specs.CheckRuns.{HasCome}
use Rattle.filters.proofs.CheckLemmas.{ends_over, first_come, next_come}
use Rattle.filters.proofs.CameLemmas.{next_with}
use Rattle.filters.proofs.checking.Checking.feed_all.Goals as goal

pub loop-fed-init : goal.loop-fed-init
loop-fed-init c = record {
  next = omega arith;
  count = omega arith;
  size = refl;
  come = λ j u kept. first_come j c.args.self u c.args.bytes.now kept;
}

pub returns-in-Ended : goal.returns-in-Ended
returns-in-Ended c = λ j u kept.
    let from = c.loop-fed.fed * c.args.self.size in
    let block = take (from + c.args.self.size - from) (drop from c.args.bytes.now) in
    ends_over j c.args.self c.loop-fed.now u c.loop-fed.fed c.args.given c.args.bytes.now block c.in-Ended.report kept c.args.self.size_is
    (ap (λ k. take k (drop (c.loop-fed.fed * c.args.self.size) c.args.bytes.now)) (omega arith)) c.loop-fed.invariant.next (omega arith)
    (c.in-Ended.ensures.feeds j (with_blocks u c.loop-fed.fed c.args.bytes.now) (c.loop-fed.invariant.come j u kept))

pub loop-fed-preserved : goal.loop-fed-preserved
loop-fed-preserved c = record {
  next = omega (arith, c.in-On.ensures.next.0, c.loop-fed.invariant.next);
  count = omega (arith, c.in-On.ensures.next.1, c.loop-fed.invariant.count);
  size = c.in-On.ensures.next.2 ∙ c.loop-fed.invariant.size;
  come = λ j u kept.
      let from = c.loop-fed.fed * c.args.self.size in
      let block = take (from + c.args.self.size - from) (drop from c.args.bytes.now) in
      next_come j c.args.self c.loop-fed.now c.in-On.next u c.loop-fed.fed c.args.bytes.now block kept c.args.self.size_is
      (ap (λ k. take k (drop (c.loop-fed.fed * c.args.self.size) c.args.bytes.now)) (omega arith)) c.loop-fed.invariant.next
      (c.in-On.ensures.feeds j (with_blocks u c.loop-fed.fed c.args.bytes.now) (c.loop-fed.invariant.come j u kept));
}

pub returns : goal.returns
returns c = λ j u kept.
    let all : c.loop-fed.fed ≡ c.args.given = omega arith in
    c.seek.ensures j (with_blocks u c.args.given c.args.bytes.now)
    (subst (λ k. HasCome j c.loop-fed.now (with_blocks u k c.args.bytes.now)) all (c.loop-fed.invariant.come j u kept))
    (omega (arith, next_with u.first u.expected.job.bs c.args.bytes.now c.args.given u.came c.requires.some, c.loop-fed.invariant.next, kept.first))
