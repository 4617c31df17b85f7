use Rattle.fc_base.specs.NumberLaws.{length_numbers_below, has_numbers_below}
use Rattle.fc_base.proofs.law.numbers_law.Goals as goal

pub returns-clause-count : goal.returns-clause-count
returns-clause-count c = length_numbers_below

pub returns-clause-members : goal.returns-clause-members
returns-clause-members c = has_numbers_below
