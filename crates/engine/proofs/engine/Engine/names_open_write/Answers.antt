use Rattle.std.proofs.Common.{◌≡◌, ◌&&◌, true, ap, sym, ◌∙◌, eqb}
use Rattle.std.specs.List.{list_any}
use Rattle.fc_base.specs.Keys.{is_same_key}
use Rattle.engine.specs.declared.writes.OpenWrite.{OpenWrite}
use Rattle.engine.specs.Running.{Running}
use Rattle.engine.specs.Answers.{names_one_of}
use Rattle.engine.specs.Inside.{origin_in}
use Rattle.engine.proofs.WriteLemmas.{any_write}
use Rattle.engine.proofs.engine.Engine.names_open_write.Goals as goal

pub returns-then-eq : goal.returns-then-eq
returns-then-eq c =
    let a = c.self.inside in
    let ticket = c.args.ticket.now in
    let same : is_same_key ticket.key a.key ≡ true = sym c.eq.ensures ∙ c.if-eq.true in
    let is_asked = λ (w : OpenWrite). eqb w.seq ticket.seq && eqb w.block ticket.block in
    let seen =
    c.has_write.ensures ∙ ap (list_any is_asked) (c.deref.ensures.value ∙ c.self.invariant.open_writes)
    ∙ any_write a.rec ticket.seq ticket.block a.window.open_writes
    in
    let named : names_one_of (origin_in a) a.window.open_writes ticket ≡ c.has_write.result = rw same (sym seen) in
    sym named ∙ ap (λ (r : Running). names_one_of r.origin r.kept.open_writes ticket) c.self.view_is
