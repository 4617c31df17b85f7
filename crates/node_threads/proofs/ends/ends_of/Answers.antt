use Rattle.std.proofs.Common.{◌≡◌, sym, subst, arith}
use Rattle.node_threads.specs.Ends.{AddsEnds, AreEnds}
use Rattle.node_threads.proofs.EndLemmas.{ends_more, no_ends}
use Rattle.node_threads.proofs.ends.ends_of.Goals as goal

pub loop-number-init : goal.loop-number-init
loop-number-init c =
    subst (AreEnds c.args.left.now.servers.items c.reports-reports.result.now c.attempts_used.result 0) (sym c.new-ends.ensures.items)
    (no_ends _ _ _)

pub loop-number-preserved : goal.loop-number-preserved
loop-number-preserved c =
    ends_more _ _ _ c.loop-number.number c.loop-number.ends.items c.add_ends.new.ends.items
    (subst (λ cells. AddsEnds cells c.reports-reports.result.now c.attempts_used.result c.loop-number.number c.loop-number.ends.items c.add_ends.new.ends.items)
    c.deref.ensures.value c.in_ok-add_ends.ensures)
    c.loop-number.invariant

pub returns : goal.returns
returns c =
    let on = c.in-Some.ensures.on in
    let all : c.loop-number.number ≡ c.args.servers = omega (arith, c.loop-number-test.false, c.loop-number.auto.number-end) in
    record {
      attempt = c.attempts_used.result;
      came = c.reports-reports.result.now;
      heard = record {
        past = on.0;
        replay = on.1;
        attempt_is = c.attempts_used.ensures c.args.left.now.client.opening on.0 on.2;
        reports_are = c.reports-reports.ensures c.args.left.now.client.opening on.0 on.2;
      };
      ends_are = subst (λ n. AreEnds c.args.left.now.servers.items c.reports-reports.result.now c.attempts_used.result n c.loop-number.ends.items)
          all c.loop-number.invariant;
    }
