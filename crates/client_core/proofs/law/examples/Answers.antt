use Rattle.client_core.proofs.ExampleLemmas.{begins, waits_for_the_busy, keeps_the_first, triggers_to_the_end, verifies, goes_down}
use Rattle.client_core.proofs.ExampleLemmas.{keeps_what_is_noted, forgets_by_a_cut, asks_again_in_order, spends_numbers}
use Rattle.client_core.proofs.ExampleLemmas.{numbers_once_granted, copies_what_is_kept, fetches_what_was_lost, hears_its_mirror_alone}
use Rattle.client_core.proofs.law.examples.Goals as goal

pub returns-clause-begins : goal.returns-clause-begins
returns-clause-begins c = begins

pub returns-clause-waits : goal.returns-clause-waits
returns-clause-waits c = waits_for_the_busy

pub returns-clause-keeps : goal.returns-clause-keeps
returns-clause-keeps c = keeps_the_first

pub returns-clause-triggers : goal.returns-clause-triggers
returns-clause-triggers c = triggers_to_the_end

pub returns-clause-verifies : goal.returns-clause-verifies
returns-clause-verifies c = verifies

pub returns-clause-goes_down : goal.returns-clause-goes_down
returns-clause-goes_down c = goes_down

pub returns-clause-noted : goal.returns-clause-noted
returns-clause-noted c = keeps_what_is_noted

pub returns-clause-forgets : goal.returns-clause-forgets
returns-clause-forgets c = forgets_by_a_cut

pub returns-clause-order : goal.returns-clause-order
returns-clause-order c = asks_again_in_order

pub returns-clause-spends : goal.returns-clause-spends
returns-clause-spends c = spends_numbers

pub returns-clause-granted : goal.returns-clause-granted
returns-clause-granted c = numbers_once_granted

pub returns-clause-copies : goal.returns-clause-copies
returns-clause-copies c = copies_what_is_kept

pub returns-clause-fetches : goal.returns-clause-fetches
returns-clause-fetches c = fetches_what_was_lost

pub returns-clause-mirror_alone : goal.returns-clause-mirror_alone
returns-clause-mirror_alone c = hears_its_mirror_alone
