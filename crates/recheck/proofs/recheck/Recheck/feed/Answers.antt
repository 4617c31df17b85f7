use Rattle.std.proofs.Common.{◌≡◌, refl, ap, ◌∙◌}
use Rattle.recheck.specs.Faults.{verdict}
use Rattle.recheck.proofs.ReportLemmas.{seen_more}
use Rattle.recheck.proofs.recheck.Recheck.feed.Goals as goal

pub returns-clause-seen : goal.returns-clause-seen
returns-clause-seen c held blocks is seen =
    let old = c.args.self.now in
    let expected : c.self.inside.expected ≡ old.expected = ap (λ k. k.expected) c.self.view_is in
    let found : c.self.inside.tally.found ≡ old.found = ap (λ k. k.found) c.self.view_is in
    let seen_here : c.verdict-verdict.result ≡ verdict old.expected c.args.block (held c.args.block) =
    c.verdict-verdict.ensures.value ∙ (rw (is, expected) refl) in
    seen_more old _ held blocks c.args.block c.requires.unended expected (ap (λ k. k.fatal) c.self.view_is)
    (ap (λ n. n.found) c.note.ensures ∙ (rw (found, seen_here) refl)) seen
