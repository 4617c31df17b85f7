use Rattle.std.proofs.Common.{◌∙◌, ap, sym}
use Rattle.node_threads.specs.Asked.{asked_of_client}
use Rattle.node_threads.proofs.asked.look_for_errand.Goals as goal

pub returns-then-is_errand : goal.returns-then-is_errand
returns-then-is_errand c = record {
  run = c.args.run;
  asked_is = ap asked_of_client (sym c.history.ensures.entries) ∙ c.is_errand.ensures c.if-is_errand.true;
}
