use Rattle.std.proofs.Common.{sym, ◌∙◌, subst, true, false, ◌<◌, ◌≤◌}
use Rattle.std.proofs.lemmas.Bool.{lt-ltb, le-ltb}
use Rattle.net_world.proofs.RenewalEndsLemmas.{fit_is, in_range}
use Rattle.net_world.proofs.world.World.unrenewable.Goals as goal

pub returns-then-self-generation-clause-why : goal.returns-then-self-generation-clause-why
returns-then-self-generation-clause-why c w past stands =
    let greatest = c.args.self.now.mirror.greatest in
    sym (fit_is w past c.args.generation c.args.self.now true stands (sym (c.unlosable.ensures.why w past stands) ∙ c.in_default.is)
    (in_range c.generation.inside.0 c.args.generation c.generation.view_is c.if-generation-lt1.false c.if-generation-gt-MAX_GENERATION.false)
    (lt-ltb greatest c.args.generation (subst (λ g. greatest < g) c.generation.view_is c.if-self-generation.true)))

pub returns-else-self-generation-clause-why : goal.returns-else-self-generation-clause-why
returns-else-self-generation-clause-why c w past stands =
    let greatest = c.args.self.now.mirror.greatest in
    sym (fit_is w past c.args.generation c.args.self.now false stands (sym (c.unlosable.ensures.why w past stands) ∙ c.in_default.is)
    (in_range c.generation.inside.0 c.args.generation c.generation.view_is c.if-generation-lt1.false c.if-generation-gt-MAX_GENERATION.false)
    (le-ltb greatest c.args.generation (subst (λ g. g ≤ greatest) c.generation.view_is c.if-self-generation.false)))
