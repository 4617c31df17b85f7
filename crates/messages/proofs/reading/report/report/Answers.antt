use Rattle.std.proofs.Common.{◌∙◌, sym, ap, Some, None}
use Rattle.std.specs.Prelude.{if◌then◌else◌}
use Rattle.fc_base.specs.declared.report.ReportParts.{ReportParts}
use Rattle.messages.specs.declared.body.Body.TheVariants.{Report}
use Rattle.messages.specs.Ranges.{is_body}
use Rattle.messages.proofs.ReportLemmas.{report_short, report_long, report_uneven, report_even, report_none, report_refused, report_kept}
use Rattle.messages.proofs.reading.report.report.Goals as goal

pub returns-then-bytes-lt-FIELDS : goal.returns-then-bytes-lt-FIELDS
returns-then-bytes-lt-FIELDS c = sym (report_short c.args.bytes.now c.if-bytes-lt-FIELDS.true)

pub returns-then-fields-gt-MAX_LISTED : goal.returns-then-fields-gt-MAX_LISTED
returns-then-fields-gt-MAX_LISTED c =
    let r = c.report_fields in
    sym (report_long c.args.bytes.now r.result.1.now r.result.0 c.in_ok-end.end r.ensures.numbers r.ensures.rest c.if-bytes-lt-FIELDS.false
    (sym c.end_numbered.ensures ∙ c.in_ok-end.was) c.if-fields-gt-MAX_LISTED.true)

pub returns-then-blocks-fields : goal.returns-then-blocks-fields
returns-then-blocks-fields c =
    let r = c.report_fields in
    sym (report_uneven c.args.bytes.now r.result.1.now r.result.0 c.in_ok-end.end r.ensures.numbers r.ensures.rest c.if-bytes-lt-FIELDS.false
    (sym c.end_numbered.ensures ∙ c.in_ok-end.was) c.if-blocks-fields.true)

pub returns : goal.returns
returns c =
    let r = c.report_fields in
    let f = r.result.0 in
    let blocks = r.result.1.now in
    let even = report_even c.args.bytes.now blocks f c.in_ok-end.end r.ensures.numbers r.ensures.rest c.if-bytes-lt-FIELDS.false
    (sym c.end_numbered.ensures ∙ c.in_ok-end.was) c.if-blocks-fields.false in
    let made = report_kept f c.in_ok-end.end blocks c.blocks_of.result c.in-Ok.report c.blocks_of.ensures (sym c.make.ensures ∙ c.in-Ok.is) in
    c.in_range.ensures
    ∙ ap (λ (x : ReportParts). if is_body (Report f.run f.attempt f.job f.jobs x) then Some (Report f.run f.attempt f.job f.jobs x) else None) made
    ∙ sym even

pub returns-in-Err : goal.returns-in-Err
returns-in-Err c =
    let r = c.report_fields in
    let f = r.result.0 in
    let blocks = r.result.1.now in
    let even = report_even c.args.bytes.now blocks f c.in_ok-end.end r.ensures.numbers r.ensures.rest c.if-bytes-lt-FIELDS.false
    (sym c.end_numbered.ensures ∙ c.in_ok-end.was) c.if-blocks-fields.false in
    sym (even ∙ report_none f blocks c.in_ok-end.end (report_refused f c.in_ok-end.end blocks c.blocks_of.result c.in-Err.field-0 c.blocks_of.ensures
    (sym c.make.ensures ∙ c.in-Err.is)))
