use Rattle.std.proofs.Common.{◌≡◌, ap, ◌∙◌, arith, rules, length, vec_len}
use Rattle.std.proofs.lemmas.List.{length-map}
use Rattle.engine.specs.Inside.{open_write}
use Rattle.engine.proofs.InsideLemmas.{depth_limit}
use Rattle.engine.proofs.engine.Engine.open_writes.Goals as goal

pub overflow_cast-result : goal.overflow_cast-result
overflow_cast-result c =
    let i = c.self.invariant in
    let items : vec_len c.self.inside.open ≡ length c.self.inside.open.items = search rules in
    let mapped = ap length i.open_writes ∙ length-map c.self.inside.window.open_writes (open_write c.self.inside.rec) in
    omega (arith, items, mapped, i.few, depth_limit c.self.inside.rec i.limits)
