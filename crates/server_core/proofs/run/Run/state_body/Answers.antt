use Rattle.std.proofs.Common.{◌≡◌, refl, ap, sym, subst, ◌∙◌, arith, length}
use Rattle.std.specs.Prelude.{slice_get, Some}
use Rattle.std.proofs.lemmas.Option.{slice_get_read}
use Rattle.messages.specs.Ranges.{is_body}
use Rattle.server_core.specs.Kept.{Kept, RunIs, state_body, state_kept}
use Rattle.server_core.specs.Inside.{kept_in}
use Rattle.server_core.proofs.StateFrameLemmas.{body_is, body_in_range}
use Rattle.server_core.proofs.run.Run.state_body.Goals as goal

at : (c : goal.After-body_of) → slice_get c.self.inside.kept.items c.args.index ≡ Some c.index.result.now
at c = slice_get_read c.self.inside.kept.items (length c.self.inside.kept.items) c.args.index c.index.result.now refl
    (omega (arith, c.requires, ap (λ (k : Kept). length k.kept) c.self.view_is)) c.index.ensures

told : (c : goal.After-body_of) → c.body_of.result ≡ state_body c.self.inside.number (length c.self.inside.jobs) c.args.index (state_kept c.index.result.now)
told c =
    c.body_of.ensures ∙ ap (λ n. state_body c.self.inside.number n c.args.index c.state.result)
    (c.len-jobs.ensures.value ∙ ap (λ (k : Kept). length k.jobs) (sym c.self.view_is))
    ∙ ap (state_body c.self.inside.number (length c.self.inside.jobs) c.args.index) c.state.ensures

pub returns-clause-value : goal.returns-clause-value
returns-clause-value c w h job is =
    told c ∙ body_is (kept_in c.self.inside) w c.args.index c.index.result.now job (subst (λ k. RunIs k w) (sym c.self.view_is) h) (at c) is

pub returns-clause-range : goal.returns-clause-range
returns-clause-range c = ap is_body (told c) ∙ body_in_range (kept_in c.self.inside) c.args.index c.index.result.now c.self.invariant (at c)
