use Rattle.attempt_ends.proofs.ExampleLemmas as rows
use Rattle.attempt_ends.proofs.law.examples.Goals as goal

pub returns : goal.returns
returns c = record { places = rows.ends_at_places; servers = rows.servers; texts = rows.texts }
