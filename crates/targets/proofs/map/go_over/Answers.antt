use Rattle.std.proofs.Common.{◌≡◌, ◌+◌, ap, arith, subst, ◌∙◌}
use Rattle.std.specs.Prelude.{IfOk, Ok}
use Rattle.fc_base.specs.declared.record.JobParts.{JobParts}
use Rattle.recheck.specs.Expected.{Expected}
use Rattle.targets.specs.Jobs.{Refuses}
use Rattle.targets.specs.MapInput.{EndsInBlock}
use Rattle.targets.specs.MapKinds.{all_lines}
use Rattle.targets.specs.MapLines.{line_if_any, unchecked_line}
use Rattle.targets.specs.Mapping.{GoesOn, Takes, TakesBlock}
use Rattle.std.specs.Io.KnownBytes.{Appends}
use Rattle.targets.proofs.CheckLemmas.{checks_some}
use Rattle.targets.proofs.MapLemmas.{HasMapped, map_more, mapped_cut, mapped_refused, mapped_whole, none_mapped, ready_goes}
use Rattle.targets.proofs.map.go_over.Goals as goal

pub loop-block-init : goal.loop-block-init
loop-block-init g c = record {
  goes_on = ready_goes c.args.map c.requires.ready;
  few = omega (arith, ap all_lines c.no_lines-kinds.ensures);
  mapped = none_mapped c.args.unit c.args.map.check.expected c.args.map.check c.args.map.unread _ (g.R.Read.remaining c.args.reader.now)
      (g.W.Write.contents c.args.writer.now) c.requires.ready.starts c.requires.ready.none c.no_lines-kinds.ensures;
}

pub returns-in-Ok-None : goal.returns-in-Ok-None
returns-in-Ok-None g c =
    let e = c.args.map.check.expected in
    let kept = c.loop-block.invariant in
    let now = g.R.Read.remaining c.loop-block.reader in
    let later = g.R.Read.remaining c.take_block.new.reader in
    let first_text = g.W.Write.contents c.args.writer.now in
    let text = g.W.Write.contents c.loop-block.writer in
    let blocks : c.blocks-block-end.result ≡ e.job.blocks =
    c.blocks-block-end.ensures.value ∙ ap (λ (j : JobParts). j.blocks) (c.rec.ensures ∙ ap (λ (x : Expected). x.job) c.expected.ensures) in
    let takes = subst (λ o. Takes c.args.unit c.loop-block.map.check.expected c.loop-block.map c.take_block.new.map c.loop-block.block now later (Ok o))
    c.in-Ok-None.field-0-is c.in-Ok-None.ensures.takes in
    let mid_text = g.W.Write.contents c.write_unchecked.new.writer in
    let same : c.expected-in-Ok-None.result.now ≡ e =
    c.expected-in-Ok-None.ensures ∙ c.in-Ok-None.ensures.goes_on.expected ∙ kept.goes_on.expected in
    checks_some (g.R.Read.remaining c.args.reader.now) _ (λ target is.
    mapped_cut c.args.unit e c.loop-block.map.check c.take_block.new.map.check c.loop-block.map.unread c.take_block.new.map.unread c.loop-block.kinds c.loop-block.block target
    now later first_text text mid_text (g.W.Write.contents c.write_report.new.writer) c.finish_at.result c.write_report.result
    (subst (λ f. HasMapped c.args.unit e c.loop-block.map.check c.loop-block.map.unread c.loop-block.kinds c.loop-block.block f now first_text text) is kept.mapped)
    kept.goes_on.expected kept.goes_on.fatal (omega (arith, c.loop-block-test.true, c.loop-block.auto.block-end, blocks))
    (subst (λ (x : Expected). EndsInBlock x.job.bs now later) kept.goes_on.expected takes.0)
    takes.1 takes.2 c.finish_at.ensures
    (subst (λ x. Appends text mid_text (unchecked_line x)) same c.in_ok-write_unchecked-in-Ok-None.ensures) c.write_report.ensures.line c.write_report.ensures.status)

pub returns-in-Err : goal.returns-in-Err
returns-in-Err g c =
    let e = c.args.map.check.expected in
    let kept = c.loop-block.invariant in
    let now = g.R.Read.remaining c.loop-block.reader in
    let later = g.R.Read.remaining c.take_block.new.reader in
    let first_text = g.W.Write.contents c.args.writer.now in
    let text = g.W.Write.contents c.loop-block.writer in
    let new_text = g.W.Write.contents c.refuse.new.writer in
    let blocks : c.blocks-block-end.result ≡ e.job.blocks =
    c.blocks-block-end.ensures.value ∙ ap (λ (j : JobParts). j.blocks) (c.rec.ensures ∙ ap (λ (x : Expected). x.job) c.expected.ensures) in
    checks_some (g.R.Read.remaining c.args.reader.now) _ (λ target is.
    mapped_refused c.args.unit e c.loop-block.map.check c.loop-block.map.unread c.loop-block.kinds c.loop-block.block target now later first_text text new_text c.in-Err.fault
    c.refuse.result (subst (λ f. HasMapped c.args.unit e c.loop-block.map.check c.loop-block.map.unread c.loop-block.kinds c.loop-block.block f now first_text text) is kept.mapped)
    (omega (arith, c.loop-block-test.true, c.loop-block.auto.block-end, blocks)) c.in-Err.ensures.takes
    (subst (λ r. IfOk c.refuse.result (Refuses r text new_text)) c.from.ensures c.refuse.ensures))

pub loop-block-preserved : goal.loop-block-preserved
loop-block-preserved g c =
    let e = c.args.map.check.expected in
    let kept = c.loop-block.invariant in
    let now = g.R.Read.remaining c.loop-block.reader in
    let later = g.R.Read.remaining c.take_block.new.reader in
    let text = g.W.Write.contents c.loop-block.writer in
    let new_text = g.W.Write.contents c.write_told.new.writer in
    let told = c.in-Ok-Some.told in
    let same : c.expected-in-Ok-Some.result.now ≡ e =
    c.expected-in-Ok-Some.ensures ∙ c.in-Ok-Some.ensures.goes_on.expected ∙ kept.goes_on.expected in
    let takes = subst (λ o. Takes c.args.unit c.loop-block.map.check.expected c.loop-block.map c.take_block.new.map c.loop-block.block now later (Ok o))
    c.in-Ok-Some.field-0-is c.in-Ok-Some.ensures.takes in
    record {
      goes_on = subst (λ x. GoesOn x c.take_block.new.map (c.loop-block.block + 1)) kept.goes_on.expected c.in-Ok-Some.ensures.goes_on;
      few = omega (arith, kept.few, c.with_line-kinds.ensures.few);
      mapped = map_more c.args.unit e c.loop-block.map c.take_block.new.map c.loop-block.kinds c.with_line-kinds.result c.loop-block.block (g.R.Read.remaining c.args.reader.now) now later
          (g.W.Write.contents c.args.writer.now) text new_text told kept.mapped kept.goes_on.expected
          (subst (λ x. TakesBlock c.args.unit x c.loop-block.map c.take_block.new.map c.loop-block.block now later told) kept.goes_on.expected takes)
          (subst (λ x. Appends text new_text (line_if_any x c.loop-block.block c.take_block.new.map.bytes.items told)) same
          (subst (λ l. Appends text new_text (line_if_any c.expected-in-Ok-Some.result.now c.loop-block.block l told)) c.deref.ensures.value
          c.in_ok-write_told-in-Ok-Some.ensures)) c.with_line-kinds.ensures.value;
    }

pub returns : goal.returns
returns g c =
    let e = c.args.map.check.expected in
    let kept = c.loop-block.invariant in
    let now = g.R.Read.remaining c.loop-block.reader in
    let first_text = g.W.Write.contents c.args.writer.now in
    let text = g.W.Write.contents c.loop-block.writer in
    let blocks : c.blocks-block-end.result ≡ e.job.blocks =
    c.blocks-block-end.ensures.value ∙ ap (λ (j : JobParts). j.blocks) (c.rec.ensures ∙ ap (λ (x : Expected). x.job) c.expected.ensures) in
    let all : c.loop-block.block ≡ e.job.blocks = omega (arith, c.loop-block-test.false, c.loop-block.auto.block-end, blocks) in
    let mid_text = g.W.Write.contents c.write_unchecked-2.new.writer in
    checks_some (g.R.Read.remaining c.args.reader.now) _ (λ target is.
    mapped_whole c.args.unit e c.loop-block.map.check c.loop-block.map.unread c.loop-block.kinds target now first_text text mid_text (g.W.Write.contents c.write_report-2.new.writer)
    c.finish.result c.write_report-2.result
    (subst (λ f. HasMapped c.args.unit e c.loop-block.map.check c.loop-block.map.unread c.loop-block.kinds e.job.blocks f now first_text text) is
    (subst (λ n. HasMapped c.args.unit e c.loop-block.map.check c.loop-block.map.unread c.loop-block.kinds n (g.R.Read.remaining c.args.reader.now) now first_text text) all
    kept.mapped))
    kept.goes_on.expected kept.goes_on.fatal c.finish.ensures.value
    (subst (λ x. Appends text mid_text (unchecked_line x)) (c.expected-2.ensures ∙ kept.goes_on.expected) c.in_ok-write_unchecked.ensures) c.write_report-2.ensures.line c.write_report-2.ensures.status)
