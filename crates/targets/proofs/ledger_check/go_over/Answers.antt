use Rattle.std.proofs.Common.{◌≡◌, ◌+◌, ap, arith, subst, ◌∙◌}
use Rattle.std.specs.Prelude.{IfOk, Ok}
use Rattle.std.specs.Io.KnownBytes.{Appends}
use Rattle.fc_base.specs.declared.record.JobParts.{JobParts}
use Rattle.recheck.specs.Expected.{Expected}
use Rattle.ledger.specs.Places.{entry_of}
use Rattle.targets.specs.Jobs.{Refuses}
use Rattle.targets.specs.MapInput.{EndsInBlock, NoBlock}
use Rattle.targets.specs.LedgerSteps.{GoesOn, Takes, TakesBlock, all_told, line_by}
use Rattle.targets.proofs.CheckLemmas.{checks_some}
use Rattle.targets.proofs.LedgerLemmas.{HasChecked, checked_cut, checked_more, checked_refused, checked_whole, goes_by, none_checked, ready_goes, takes_by}
use Rattle.targets.proofs.ledger_check.go_over.Goals as goal

pub loop-block-init : goal.loop-block-init
loop-block-init g c = record {
  goes_on = ready_goes c.args.map c.requires;
  few = omega (arith, ap all_told c.no_sums-sums.ensures);
  checked = none_checked c.args.map c.no_sums-sums.result (g.R.Read.remaining c.args.reader.now) (g.W.Write.contents c.args.writer.now) c.requires
      c.no_sums-sums.ensures;
}

pub returns-in-Ok-None : goal.returns-in-Ok-None
returns-in-Ok-None g c =
    let since = c.args.map.since in
    let e = c.args.map.recheck.expected in
    let place = c.args.map.asked in
    let old = c.loop-block.map in
    let kept = c.loop-block.invariant in
    let now = g.R.Read.remaining c.loop-block.reader in
    let later = g.R.Read.remaining c.take_block.new.reader in
    let first_text = g.W.Write.contents c.args.writer.now in
    let text = g.W.Write.contents c.loop-block.writer in
    let blocks : c.blocks-block-end.result ≡ e.job.blocks =
    c.blocks-block-end.ensures.value ∙ ap (λ (j : JobParts). j.blocks) (c.rec.ensures ∙ ap (λ (x : Expected). x.job) c.expected.ensures) in
    let takes = subst (λ o. Takes old.since old.recheck.expected old c.take_block.new.map c.loop-block.block now later (Ok o))
    c.in-Ok-None.field-0-is c.in-Ok-None.ensures.takes in
    checks_some (g.R.Read.remaining c.args.reader.now) _ (λ target is.
    checked_cut since e place old c.take_block.new.map c.loop-block.sums c.loop-block.block target now later first_text text
    (g.W.Write.contents c.end_at.new.writer) c.end_at.result
    (subst (λ f. HasChecked since e place old.check old.unread c.loop-block.sums c.loop-block.block f now first_text text) is kept.checked)
    (c.in-Ok-None.ensures.goes_on.asked ∙ kept.goes_on.asked) (omega (arith, c.loop-block-test.true, c.loop-block.auto.block-end, blocks))
    (subst (λ (x : Expected). EndsInBlock x.job.bs now later) kept.goes_on.expected takes.0) takes.1 c.end_at.ensures)

pub returns-in-Err : goal.returns-in-Err
returns-in-Err g c =
    let since = c.args.map.since in
    let e = c.args.map.recheck.expected in
    let place = c.args.map.asked in
    let old = c.loop-block.map in
    let kept = c.loop-block.invariant in
    let now = g.R.Read.remaining c.loop-block.reader in
    let later = g.R.Read.remaining c.take_block.new.reader in
    let first_text = g.W.Write.contents c.args.writer.now in
    let text = g.W.Write.contents c.loop-block.writer in
    let new_text = g.W.Write.contents c.refuse.new.writer in
    let blocks : c.blocks-block-end.result ≡ e.job.blocks =
    c.blocks-block-end.ensures.value ∙ ap (λ (j : JobParts). j.blocks) (c.rec.ensures ∙ ap (λ (x : Expected). x.job) c.expected.ensures) in
    checks_some (g.R.Read.remaining c.args.reader.now) _ (λ target is.
    checked_refused since e place old.check old.unread c.loop-block.sums c.loop-block.block target now later first_text text new_text c.in-Err.fault
    c.refuse.result (subst (λ f. HasChecked since e place old.check old.unread c.loop-block.sums c.loop-block.block f now first_text text) is kept.checked)
    (omega (arith, c.loop-block-test.true, c.loop-block.auto.block-end, blocks)) c.in-Err.ensures.takes
    (subst (λ r. IfOk c.refuse.result (Refuses r text new_text)) c.from.ensures c.refuse.ensures))

pub loop-block-preserved : goal.loop-block-preserved
loop-block-preserved g c =
    let since = c.args.map.since in
    let e = c.args.map.recheck.expected in
    let place = c.args.map.asked in
    let old = c.loop-block.map in
    let new = c.take_block.new.map in
    let block = c.loop-block.block in
    let found = c.in-Ok-Some.found in
    let kept = c.loop-block.invariant in
    let now = g.R.Read.remaining c.loop-block.reader in
    let later = g.R.Read.remaining c.take_block.new.reader in
    let text = g.W.Write.contents c.loop-block.writer in
    let new_text = g.W.Write.contents c.write_found.new.writer in
    let blocks : c.blocks-block-end.result ≡ e.job.blocks =
    c.blocks-block-end.ensures.value ∙ ap (λ (j : JobParts). j.blocks) (c.rec.ensures ∙ ap (λ (x : Expected). x.job) c.expected.ensures) in
    let goes = goes_by since e place old new block (block + 1) kept.goes_on c.in-Ok-Some.ensures.goes_on in
    let takes = subst (λ o. Takes old.since old.recheck.expected old new block now later (Ok o)) c.in-Ok-Some.field-0-is c.in-Ok-Some.ensures.takes in
    let entry = c.entry-entry.ensures ∙ ap (λ p. entry_of p block) goes.asked in
    let same = c.expected-in-Ok-Some.ensures ∙ goes.expected in
    record {
      goes_on = goes;
      few = omega (arith, kept.few, c.with_found-sums.ensures.few);
      checked = checked_more since e place old new c.loop-block.sums c.with_found-sums.result block (g.R.Read.remaining c.args.reader.now) now later
          (g.W.Write.contents c.args.writer.now) text new_text found kept.checked
          (omega (arith, c.loop-block-test.true, c.loop-block.auto.block-end, blocks, kept.goes_on.blocks))
          (takes_by since e place old new block block now later found kept.goes_on takes)
          (subst (λ x. Appends text new_text (line_by x (entry_of place block) block new.bytes.items found)) same
          (subst (λ es. Appends text new_text (line_by c.expected-in-Ok-Some.result.now es block new.bytes.items found)) entry
          (subst (λ l. Appends text new_text (line_by c.expected-in-Ok-Some.result.now c.entry-entry.result.now block l found)) c.deref.ensures.value
          c.in_ok-write_found-in-Ok-Some.ensures))) c.with_found-sums.ensures.value;
    }

pub returns : goal.returns
returns g c =
    let since = c.args.map.since in
    let e = c.args.map.recheck.expected in
    let place = c.args.map.asked in
    let old = c.loop-block.map in
    let kept = c.loop-block.invariant in
    let now = g.R.Read.remaining c.loop-block.reader in
    let first_text = g.W.Write.contents c.args.writer.now in
    let text = g.W.Write.contents c.loop-block.writer in
    let blocks : c.blocks-block-end.result ≡ e.job.blocks =
    c.blocks-block-end.ensures.value ∙ ap (λ (j : JobParts). j.blocks) (c.rec.ensures ∙ ap (λ (x : Expected). x.job) c.expected.ensures) in
    let all : c.loop-block.block ≡ e.job.blocks = omega (arith, c.loop-block-test.false, c.loop-block.auto.block-end, blocks) in
    checks_some (g.R.Read.remaining c.args.reader.now) _ (λ target is.
    checked_whole since e place old c.loop-block.sums target now first_text text (g.W.Write.contents c.end_whole.new.writer) c.end_whole.result
    (subst (λ f. HasChecked since e place old.check old.unread c.loop-block.sums e.job.blocks f now first_text text) is
    (subst (λ n. HasChecked since e place old.check old.unread c.loop-block.sums n (g.R.Read.remaining c.args.reader.now) now first_text text) all kept.checked))
    kept.goes_on.asked kept.goes_on.blocks c.end_whole.ensures)
