use Rattle.targets.proofs.UnitLemmas.{blocks_are_units, sound_units}
use Rattle.targets.proofs.law.unit_law.Goals as goal

pub returns-clause-sound : goal.returns-clause-sound
returns-clause-sound c = sound_units

pub returns-clause-whole : goal.returns-clause-whole
returns-clause-whole c = blocks_are_units c.writes_fill_their_blocks.ensures
