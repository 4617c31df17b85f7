use Rattle.net_world.proofs.TagLemmas as lemmas
use Rattle.net_world.proofs.frame_law.tags_name_one_body.Goals as goal

pub returns : goal.returns
returns c = lemmas.tags_name_one_body c.lengths_are_bounded.ensures c.one_text_of_each.ensures.runs c.one_text_of_each.ensures.attempts
