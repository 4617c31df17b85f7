use Rattle.uses.proofs.LossLemmas as lemmas
use Rattle.uses.proofs.laws.losses.examples_of_targets.Goals as goal

pub returns-clause-ahead : goal.returns-clause-ahead
returns-clause-ahead c =
    let law = c.front_law.ensures in
    lemmas.one_is_ahead c.examples.ensures.behind law.one law.behind law.history law.orders law.issued law.counted law.open_writes

pub returns-clause-survivors : goal.returns-clause-survivors
returns-clause-survivors c = lemmas.survivors_are_there c.examples.ensures.behind c.loss_law.ensures.survivors

pub returns-clause-losses : goal.returns-clause-losses
returns-clause-losses c = lemmas.loss_is_a_fault c.examples.ensures.behind c.loss_law.ensures.losses

pub returns-clause-sound : goal.returns-clause-sound
returns-clause-sound c = lemmas.sound_block_has_sound_units c.unit_law.ensures.sound

pub returns-clause-whole : goal.returns-clause-whole
returns-clause-whole c = lemmas.block_is_its_unit c.unit_law.ensures.whole

pub returns-clause-tile : goal.returns-clause-tile
returns-clause-tile c = lemmas.tile_is_a_run c.examples.ensures.tour c.tour_law.ensures
