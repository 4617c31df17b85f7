use Rattle.std.proofs.Common.{◌≡◌, ℕ, ◌+◌, ◌*◌, List, ◌++◌, replicate, ◌∙◌, ap, arith}
use Rattle.std.proofs.lemmas.List.{replicate-append-replicate}
use Rattle.disk_model.specs.declared.run.TheConstants.{RUN_BYTES}
use Rattle.disk_model.proofs.run.zero_bytes.Goals as goal

pub loop-preserved : goal.loop-preserved
loop-preserved c =
    let more : 512 * c.loop.counter + 512 ≡ 512 * (c.loop.counter + 1) = omega arith in
    c.in_ok-extend_from_slice.ensures.items
    ∙ ap (λ (l : List ℕ). l ++ replicate 512 0) c.loop.invariant
    ∙ replicate-append-replicate (512 * c.loop.counter) 512 0
    ∙ ap (λ n. replicate n 0) more

pub returns : goal.returns
returns c =
    let all : 512 * c.loop.counter ≡ RUN_BYTES = omega (arith, c.loop-test.false, c.loop.auto.counter-end) in
    c.loop.invariant ∙ ap (λ n. replicate n 0) all
