use Rattle.std.proofs.Common.{◌≡◌, ◌∙◌, ℕ, sym, ap, subst, arith, length, length-append, length-take, length-drop}
use Rattle.std.specs.Prelude.{nat_lt}
use Rattle.disk_model.specs.File.{with_block}
use Rattle.verify_state.specs.State.{State}
use Rattle.write_order.specs.Blocks.{block_of}
use Rattle.write_order.specs.Stamps.{bytes_of, written_bytes}
use Rattle.engine.specs.declared.issue.Ticket.{Ticket}
use Rattle.engine.specs.Running.{Origin, Running, StandsFor}
use Rattle.engine.specs.Answers.{after_answer}
use Rattle.uses.proofs.OneByOne.{all_done, all_issued, is_deep, one_by_one, one_more, write_is, written, written_next}
use Rattle.uses.proofs.writes.write_job.Goals as goal

pub loop-ticket-preserved : goal.loop-ticket-preserved
loop-ticket-preserved g c =
    let key = c.args.key in
    let job = c.args.rec.now in
    let origin : Origin = record { boot = c.args.epoch; key = key; job = job } in
    let kept = c.loop-ticket.invariant in
    let ticket = c.in-Write.ticket in
    let n = c.loop-ticket.engine.kept.issued in
    let deep = is_deep c.parts-limits.result job c.parts-limits.ensures.value c.parts-limits.ensures.limits in
    let next = write_is origin c.loop-ticket.engine ticket kept.engine deep c.in-Write.ensures.answer in
    let more = one_more origin c.loop-ticket.engine c.issue.new.self c.done.new.self ticket kept.engine deep
    c.in-Write.ensures.answer c.in-Write.ensures.left c.in-Write.ensures.added c.in_ok-done.ensures.left c.in_ok-done.ensures.added in
    let start = g.D.Disk.file c.args.disk.now in
    record {
      engine = more.0;
      file = c.in_ok-carry_out.ensures
          ∙ ap (λ (t : Ticket). with_block t.block (written_bytes t.key job t.seq t.block) (g.D.Disk.file c.loop-ticket.disk)) next.0
          ∙ ap (with_block (block_of job n) (bytes_of key job n)) kept.file ∙ sym (written_next key job start n) ∙ ap (written key job start) (sym more.1);
      bytes = omega (
        arith,
        length-take {A = ℕ},
        length-append {A = ℕ},
        length-drop {A = ℕ},
        c.carry_out.auto.bytes,
        c.deref_mut.ensures.len,
        ap length c.deref_mut.ensures.value,
        kept.bytes,
      );
    }

pub returns : goal.returns
returns g c =
    let origin : Origin = record { boot = c.args.epoch; key = c.args.key; job = c.args.rec.now } in
    let old = c.loop-ticket.engine in
    let kept = c.loop-ticket.invariant in
    let deep = is_deep c.parts-limits.result c.args.rec.now c.parts-limits.ensures.value c.parts-limits.ensures.limits in
    let last = all_issued origin old c.issue.result kept.engine deep c.issue.ensures.answer c.in_default-issue.not-Write in
    let same : c.issue.new.self ≡ old = c.issue.ensures.left ∙ ap (after_answer old) last.0 in
    let stands : StandsFor c.issue.new.self (one_by_one old.kept.issued) =
    subst (λ (r : Running). StandsFor r (one_by_one old.kept.issued)) (sym same) kept.engine.stands in
    let from : c.issue.new.self.origin ≡ origin = ap (λ (r : Running). r.origin) same ∙ kept.engine.origin_is in
    record {
      file = kept.file ∙ ap (written c.args.key c.args.rec.now (g.D.Disk.file c.args.disk.now)) last.1;
      key = ap (λ (s : State). s.key) c.take.ensures.value ∙ ap (λ (o : Origin). o.key) from;
      job = ap (λ (s : State). s.job) c.take.ensures.value ∙ ap (λ (o : Origin). o.job) from;
      issued = ap (λ (s : State). s.issued) c.take.ensures.value ∙ ap (λ (r : Running). r.kept.issued) same ∙ last.1;
      counts = λ k. c.take.ensures.counted _ stands k ∙ all_done old.kept.issued k ∙ ap (λ n. nat_lt k n) last.1;
    }
