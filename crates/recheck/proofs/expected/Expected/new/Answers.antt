use Rattle.std.proofs.Common.{◌≡◌, ◌<◌, sym, ap, ◌∙◌, arith}
use Rattle.std.specs.Option.{option_copied}
use Rattle.write_order.specs.Blocks.{block_of}
use Rattle.recheck.proofs.ExpectedLemmas.{step_counted, step_in_flight, gone_all, next_is, advanced}
use Rattle.recheck.proofs.expected.Expected.new.Goals as goal
use Rattle.recheck.proofs.expected.Expected.new.Goals.{then-counts, else-counts+in_ok-push}

pub loop-k-preserved : goal.loop-k-preserved
loop-k-preserved c =
    let job = c.args.rec.now in
    let state = option_copied c.args.state in
    let k = c.loop-k.k in
    let lt : k < job.total = omega (arith, c.loop-k-test.true, c.issued_in-k-end.ensures, c.requires) in
    let block : c.in-Some.block ≡ block_of job k = next_is c.loop-k.order job k c.in-Some.block c.loop-k.invariant.order lt c.in-Some.ensures.value in
    record {
      order = advanced c.loop-k.order c.advance.new.self job k c.loop-k.invariant.order c.advance.ensures;
      gone = elim c.if-counts.branch [
        | then-counts w ↦
            step_counted job state k c.in-Some.block w.of.result c.loop-k.last.items _ c.loop-k.in_flight.items _
            (sym c.counts.ensures ∙ w.if-counts.true) block w.of.ensures (ap (λ v. v.items) w.last-is)
            (ap (λ v. v.items) w.in_flight-is) c.loop-k.invariant.gone
        | else-counts+in_ok-push w ↦
            step_in_flight job state k c.in-Some.block c.loop-k.last.items _ c.loop-k.in_flight.items _
            (sym c.counts.ensures ∙ w.if-counts.false) block (ap (λ v. v.items) w.last-is)
            (ap (λ v. v.items) w.in_flight-is ∙ w.in_ok-push.ensures.items) c.loop-k.invariant.gone
      ];
    }

pub returns : goal.returns
returns c =
    gone_all c.args.key c.args.rec.now (option_copied c.args.state) c.loop-k.k c.loop-k.last.items c.loop-k.in_flight.items
    (omega (arith, c.loop-k-test.false, c.loop-k.auto.k-end, c.issued_in-k-end.ensures)) c.loop-k.invariant.gone
