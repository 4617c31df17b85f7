use Rattle.std.proofs.Common.{◌++◌, ◌∙◌, ap, length}
use Rattle.verify_state.specs.Spelling.{spelling}
use Rattle.verify_state.proofs.SpellingLemmas.{length_back}
use Rattle.verify_state.proofs.state.VerifyState.encode.Goals as goal

pub returns-clause-len : goal.returns-clause-len
returns-clause-len c = ap length (c.in_ok-push_to.ensures ∙ ap (λ l. l ++ spelling c.args.self.now) c.in_ok-bytes.ensures.items)
    ∙ length_back c.args.self.now c.keeps_its_ranges.ensures
