use Rattle.std.proofs.Common.{◌∙◌, sym, ap, Some}
use Rattle.node_threads.specs.Asked.{errand}
use Rattle.node_threads.proofs.AskedLemmas.{unasked, asked_next}
use Rattle.node_threads.proofs.asked.is_errand.Goals as goal

pub loop-at-preserved-then-is_frame : goal.loop-at-preserved-then-is_frame
loop-at-preserved-then-is_frame c =
    unasked c.args.history.now.items c.loop-at.at c.as_entry.result.now (c.at-entry.ensures ∙ ap Some (sym c.as_entry.ensures))
    (sym c.is_frame.ensures ∙ c.if-is_frame.true) ∙ c.loop-at.invariant

pub loop-at-preserved : goal.loop-at-preserved
loop-at-preserved c =
    asked_next c.args.history.now.items c.loop-at.at c.as_entry.result.now (errand c.args.run c.args.write.now c.args.read.now) c.loop-at.done
    (c.at-entry.ensures ∙ ap Some (sym c.as_entry.ensures)) (sym c.is_frame.ensures ∙ c.if-is_frame.false)
    (c.is_next.ensures c.if-not-is_next.false) c.loop-at.invariant
