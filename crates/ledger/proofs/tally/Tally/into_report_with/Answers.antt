use Rattle.std.proofs.Common.{sym, refl, ◌∙◌}
use Rattle.ledger.proofs.TallyLemmas.{told_by}
use Rattle.ledger.proofs.tally.Tally.into_report_with.Goals as goal

pub unreachable-requires : goal.unreachable-requires
unreachable-requires c =
    let good = sym c.in-Err.is ∙ told_by c.args.self c.self.inside.next c.self.inside.checked c.self.inside.faults _ c.self.inside.first c.args.end
    c.make.result
    c.self.view_is refl c.self.invariant.next c.self.invariant.checked c.self.invariant.faults
    (record { listed = c.self.invariant.listed; ascending = c.self.invariant.ascending; below = c.self.invariant.below }) c.requires c.make.ensures in
    absurd cc

pub returns : goal.returns
returns c =
    let good = sym c.in-Ok.is ∙ told_by c.args.self c.self.inside.next c.self.inside.checked c.self.inside.faults _ c.self.inside.first c.args.end c.make.result
    c.self.view_is refl c.self.invariant.next c.self.invariant.checked c.self.invariant.faults
    (record { listed = c.self.invariant.listed; ascending = c.self.invariant.ascending; below = c.self.invariant.below }) c.requires c.make.ensures in
    cc
