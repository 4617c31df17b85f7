use Rattle.std.proofs.Common.{List, ℕ, take, ap, ◌∙◌}
use Rattle.std.proofs.lemmas.List.{take_min}
use Rattle.messages.specs.declared.limits.TheConstants.{CHUNK_LIMIT}
use Rattle.messages.proofs.frames.chunk_at.Goals as goal

pub returns-clause-value : goal.returns-clause-value
returns-clause-value c =
    rw c.min.ensures (take_min CHUNK_LIMIT c.split_at.result.1.now ∙ ap (λ (bs : List ℕ). take CHUNK_LIMIT bs) c.split_at.ensures.back)
