use Rattle.std.proofs.Common.{◌≡◌, ◌∙◌, sym, refl, true, false, subst}
use Rattle.fc_base.specs.JobParts.{is_within_limits}
use Rattle.fc_base.specs.Keys.{is_key}
use Rattle.verify_state.specs.Reading.{has_ranges}
use Rattle.verify_state.proofs.RangeLemmas.{made_none, made_some, ranges_by, has_key}
use Rattle.verify_state.proofs.reading.ranged.Goals as goal

pub returns-in_err-rec-clause-value : goal.returns-in_err-rec-clause-value
returns-in_err-rec-clause-value c =
    rw (c.from_residual.ensures, made_none c.args.bytes.now c.job_in.result c.job_in.ensures (sym c.make.ensures ∙ c.in_err-rec.was)) refl

pub returns-then-not-has_fields-clause-value : goal.returns-then-not-has_fields-clause-value
returns-then-not-has_fields-clause-value c =
    let made = made_some (is_within_limits c.job_in.result) c.job_in.result c.in_ok-rec.rec (sym c.make.ensures ∙ c.in_ok-rec.was) in
    rw (ranges_by c.args.bytes.now c.job_in.result false c.job_in.ensures made.0 (sym c.if-not-has_fields.true ∙ c.has_fields.ensures)) refl

ranges_hold : (c : goal.After-place_in) → has_ranges c.args.bytes.now ≡ true
ranges_hold c =
    let made = made_some (is_within_limits c.job_in.result) c.job_in.result c.in_ok-rec.rec (sym c.make.ensures ∙ c.in_ok-rec.was) in
    ranges_by c.args.bytes.now c.job_in.result true c.job_in.ensures made.0 (sym c.if-not-has_fields.false ∙ c.has_fields.ensures)

pub returns-clause-key : goal.returns-clause-key
returns-clause-key c = subst (λ k. is_key k ≡ true) (sym c.key_in.ensures) (has_key c.args.bytes.now (ranges_hold c))

pub returns-clause-value : goal.returns-clause-value
returns-clause-value c =
    let made = made_some (is_within_limits c.job_in.result) c.job_in.result c.in_ok-rec.rec (sym c.make.ensures ∙ c.in_ok-rec.was) in
    rw (ranges_hold c, c.key_in.ensures, made.1, c.job_in.ensures, c.u64_at.ensures, c.place_in.ensures) refl
