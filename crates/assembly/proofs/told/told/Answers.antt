use Rattle.std.proofs.Common.{refl}
use Rattle.messages.specs.declared.node.Node.TheVariants.{Client}
use Rattle.assembly.specs.Ran.{ran_of}
use Rattle.assembly.proofs.RestLemmas.{no_cell}
use Rattle.assembly.proofs.told.told.Goals as goal

pub follow_journal-requires-clause-few : goal.follow_journal-requires-clause-few
follow_journal-requires-clause-few g c = (c.requires Client).2

pub returns-clause-agree : goal.returns-clause-agree
returns-clause-agree g c = record {
  few = (c.requires Client).2;
  legal = c.follow_journal.ensures.legal;
  ends = record { servers = λ s far. no_cell (ran_of c.args.client.now c.args.servers.now) s far; mirror = refl };
  marked = c.in_ok-follow_rest.ensures.marked;
}
