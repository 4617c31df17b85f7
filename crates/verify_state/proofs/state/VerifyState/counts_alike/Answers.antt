use Rattle.std.proofs.Common.{◌≡◌, ◌∙◌, sym, ap}
use Rattle.std.specs.Prelude.{bytes_eq}
use Rattle.fc_base.specs.Marks.{counted_by}
use Rattle.verify_state.specs.Inside.{ends}
use Rattle.verify_state.specs.State.{State}
use Rattle.verify_state.proofs.state.VerifyState.counts_alike.Goals as goal

pub counts_alike-requires-clause-one : goal.counts_alike-requires-clause-one
counts_alike-requires-clause-one c =
    let s = c.self.inside in
    rw c.window.ensures.value (ends s.rec s.issued s.marks c.self.invariant.come)

pub counts_alike-requires-clause-other : goal.counts_alike-requires-clause-other
counts_alike-requires-clause-other c =
    let s = c.self.inside in
    let t = c.other.inside in
    let window : s.rec.window ≡ t.rec.window =
    ap (λ (x : State). x.job.window) c.self.view_is ∙ c.requires.window ∙ sym (ap (λ (x : State). x.job.window) c.other.view_is) in
    let issued : s.issued ≡ t.issued = ap (λ (x : State). x.issued) c.self.view_is ∙ c.requires.issued ∙ sym (ap (λ (x : State). x.issued) c.other.view_is) in
    rw (c.window.ensures.value, window, issued) (ends t.rec t.issued t.marks c.other.invariant.come)

pub returns : goal.returns
returns c =
    let s = c.self.inside in
    let t = c.other.inside in
    let window : s.rec.window ≡ t.rec.window =
    ap (λ (x : State). x.job.window) c.self.view_is ∙ c.requires.window ∙ sym (ap (λ (x : State). x.job.window) c.other.view_is) in
    let issued : s.issued ≡ t.issued = ap (λ (x : State). x.issued) c.self.view_is ∙ c.requires.issued ∙ sym (ap (λ (x : State). x.issued) c.other.view_is) in
    c.counts_alike.ensures
    ∙ ap (λ w. bytes_eq (counted_by w s.issued s.marks) (counted_by w s.issued t.marks)) c.window.ensures.value
    ∙ ap (λ w. bytes_eq (counted_by s.rec.window s.issued s.marks) (counted_by w s.issued t.marks)) window
    ∙ ap (λ n. bytes_eq (counted_by s.rec.window s.issued s.marks) (counted_by t.rec.window n t.marks)) issued
    ∙ ap (λ (x : State). bytes_eq x.counted (counted_by t.rec.window t.issued t.marks)) c.self.view_is
    ∙ ap (λ (x : State). bytes_eq c.args.self.now.counted x.counted) c.other.view_is
