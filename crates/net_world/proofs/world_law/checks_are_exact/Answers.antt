use Rattle.net_world.proofs.ExactLemmas as lemmas
use Rattle.net_world.proofs.world_law.checks_are_exact.Goals as goal

pub returns : goal.returns
returns c = lemmas.checks_are_exact c.each_world_is_a_trace.ensures.packets c.one_state_of_each_job.ensures.quiet
