use Rattle.std.proofs.Common.{◌≡◌, ℕ, ◌<◌, ◌^◌, true, ap, sym, subst}
use Rattle.fc_base.specs.JobParts.{is_within_limits}
use Rattle.fc_base.specs.Marks.{counted_by}
use Rattle.fc_base.specs.CountLaws.{marks_again}
use Rattle.verify_state.specs.Inside.{state_of_fields, ends}
use Rattle.verify_state.specs.State.{IsState, has_come_by, marks_in}
use Rattle.verify_state.proofs.state.VerifyState.keeps_its_ranges.Goals as goal

pub returns : goal.returns
returns c =
    let s = c.self.inside in
    let kept = c.self.invariant in
    let again : marks_in (state_of_fields s) ≡ s.marks =
    marks_again s.rec.window s.issued s.marks kept.four kept.words (ends s.rec s.issued s.marks kept.come) in
    let made : IsState (state_of_fields s) = record {
      key = kept.key;
      run = c.run_in_range.ensures;
      limits = subst (λ job. is_within_limits job ≡ true) c.parts-limits.ensures.value c.parts-limits.ensures.limits;
      seed = subst (λ (n : ℕ). n < 2 ^ 64) (c.seed.ensures) (subst (λ (n : ℕ). n < 2 ^ 64) c.in_range-seed.ensures.value c.in_range-seed.ensures.range);
      pattern = subst (λ (n : ℕ). n < 256) c.pattern-pattern.ensures c.pattern-pattern.type_inv;
      words = c.are_in_range.ensures.len;
      word = c.are_in_range.ensures.range;
      come = subst (λ marks. has_come_by s.rec s.issued marks ≡ true) (sym again) kept.come;
      counted = ap (counted_by s.rec.window s.issued) (sym again);
    } in
    rw (← c.self.view_is) made
