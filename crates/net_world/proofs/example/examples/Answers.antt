use Rattle.net_world.proofs.ExampleLemmas as lemmas
use Rattle.net_world.proofs.MirrorExampleLemmas as mirrors
use Rattle.net_world.proofs.example.examples.Goals as goal

pub returns-clause-starts : goal.returns-clause-starts
returns-clause-starts c = lemmas.starts_once_after_a_cut

pub returns-clause-full : goal.returns-clause-full
returns-clause-full c = lemmas.checks_in_a_full_pass

pub returns-clause-refuses : goal.returns-clause-refuses
returns-clause-refuses c = lemmas.refuses_by_number

pub returns-clause-checks : goal.returns-clause-checks
returns-clause-checks c = lemmas.checks_by_its_state

pub returns-clause-honest : goal.returns-clause-honest
returns-clause-honest c = lemmas.is_honestly_made

pub returns-clause-keeps : goal.returns-clause-keeps
returns-clause-keeps c = lemmas.keeps_behind_a_cut

pub returns-clause-pieces : goal.returns-clause-pieces
returns-clause-pieces c = lemmas.comes_together

pub returns-clause-fetches : goal.returns-clause-fetches
returns-clause-fetches c = mirrors.fetches_what_was_lost

pub returns-clause-mirror : goal.returns-clause-mirror
returns-clause-mirror c = mirrors.refuses_of_a_mirror

pub returns-clause-renewal : goal.returns-clause-renewal
returns-clause-renewal c = mirrors.stops_within_a_renewal
