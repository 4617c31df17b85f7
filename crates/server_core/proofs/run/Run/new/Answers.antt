use Rattle.std.proofs.Math.Logic.{∥∥₁_map}
use Rattle.server_core.proofs.BegunLemmas.{begun}
use Rattle.server_core.proofs.run.Run.new.Goals as goal

pub invariant_of-result : goal.invariant_of-result
invariant_of-result c = ∥∥₁_map c.requires (λ p. (p.0, begun c.args.number c.args.jobs c.args.kept.items p.0 p.1))

pub returns : goal.returns
returns c w b = begun c.args.number c.args.jobs c.args.kept.items w b
