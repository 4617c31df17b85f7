use Rattle.net_world.proofs.WorldConflictLemmas as lemmas
use Rattle.net_world.proofs.world_law.none_is_a_conflict.Goals as goal

pub returns : goal.returns
returns c = lemmas.none_is_a_conflict (record {
  traces = c.each_world_is_a_trace.ensures.frames;
  law = c.only_sent_comes_together.ensures.step;
  frames = c.frames_are_of_packets.ensures.frames;
  tags = c.tags_name_one_body.ensures;
  ranges = c.sent_are_in_range.ensures;
  never = c.nothing_differs.ensures.kept;
  copies =
      c.nothing_differs.ensures.copied;
  reports = record { fit = c.reports_fit.ensures; sets = c.legal_histories.ensures.checks };
})
