-- What the client of a world answers, by what its core does.
use Rattle.client_core.specs.declared.outs.Answer.{Answer}
use Rattle.client_core.specs.declared.outs.Answer.TheVariants as answers
use Rattle.net_world.specs.declared.told.WorldAnswer.{WorldAnswer}
use Rattle.net_world.specs.declared.told.WorldAnswer.TheVariants as told

-- The answer of a client's core, as the world's.
abbrev pub world_answer : Answer → WorldAnswer
world_answer answers.Plain = told.Plain
world_answer (answers.Run run) = told.Run run
world_answer (answers.Attempt attempt) = told.Attempt attempt
