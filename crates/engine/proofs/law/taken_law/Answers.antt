use Rattle.engine.proofs.TakenLemmas.{counts_the_done}
use Rattle.engine.proofs.law.taken_law.Goals as goal

pub returns : goal.returns
returns c origin h legal =
    counts_the_done c.counting_law.ensures.counts_the_completed c.counting_law.ensures.comes_to_possible origin.job.depth origin.job.window h legal.by_window
