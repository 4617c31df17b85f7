use Rattle.std.proofs.Common.{◌≡◌, ◌∙◌, ◌≤◌, true, ap, sym, subst, List, ℕ}
use Rattle.fc_base.specs.declared.limits.TheConstants.{MAX_WINDOW}
use Rattle.fc_base.specs.Counted.{has, counted}
use Rattle.fc_base.specs.Marks.{floor_of, marks_of}
use Rattle.fc_base.specs.CountLaws.{counted_as_listed}
use Rattle.verify_state.specs.State.{State, state_by, has_come}
use Rattle.verify_state.proofs.PieceLemmas.{listed_come}
use Rattle.verify_state.proofs.state.VerifyState.make.Goals as goal

marks_are : (window w issued : ℕ) (xs ys marks : List ℕ) → window ≡ w → xs ≡ ys → marks ≡ marks_of (has (counted window issued xs)) (floor_of window issued)
    → marks ≡ marks_of (has (counted w issued ys)) (floor_of w issued)
marks_are window w issued xs ys marks e f m =
    m ∙ ap (λ n. marks_of (has (counted n issued xs)) (floor_of n issued)) e ∙ ap (λ l. marks_of (has (counted w issued l)) (floor_of w issued)) f

pub with_marks-requires-clause-come : goal.with_marks-requires-clause-come
with_marks-requires-clause-come c =
    let job = c.args.rec.now in
    let xs = c.args.completions.items in
    let narrow : job.window ≤ MAX_WINDOW = subst (λ n. n ≤ MAX_WINDOW) c.window-window.ensures.value c.window-window.ensures.range.1 in
    let held : true ≡ has_come job c.args.issued c.deref.result.now = c.if-not-has_come.ensures in
    let come : has_come job c.args.issued xs ≡ true = sym (held ∙ ap (has_come job c.args.issued) c.deref.ensures.value) in
    rw (marks_are c.window-window.result job.window c.args.issued c.deref-2.result.now xs c.marks_of-marks.result c.window-window.ensures.value
    c.deref-2.ensures.value c.marks_of-marks.ensures)
    (listed_come job c.args.issued xs narrow come)

pub returns-clause-made : goal.returns-clause-made
returns-clause-made c =
    let job = c.args.rec.now in
    let xs = c.args.completions.items in
    let narrow : job.window ≤ MAX_WINDOW = subst (λ n. n ≤ MAX_WINDOW) c.window-window.ensures.value c.window-window.ensures.range.1 in
    c.with_marks.ensures
    ∙ ap (state_by c.args.key job c.args.issued c.args.place)
    (marks_are c.window-window.result job.window c.args.issued c.deref-2.result.now xs c.marks_of-marks.result c.window-window.ensures.value
    c.deref-2.ensures.value c.marks_of-marks.ensures)
    ∙ ap (λ (l : List ℕ). let s : State = record { key = c.args.key; job = job; issued = c.args.issued; place = c.args.place; counted = l } in s)
    (counted_as_listed job.window c.args.issued xs narrow)
