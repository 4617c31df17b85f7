use Rattle.std.proofs.Common.{ℕ, ◌+◌, length, inl, sym, ap, ◌∙◌, arith, length-append, length-take, length-drop}
use Rattle.std.specs.Option.{option_copied}
use Rattle.recheck.specs.Expected.{expected_by}
use Rattle.recheck.proofs.DiskLemmas.{seen_on, power_on, ended_whole}
use Rattle.recheck.proofs.whole_disk.check_disk.Goals as goal

pub returns-then-ended : goal.returns-then-ended
returns-then-ended g c =
    let e = expected_by c.args.key c.args.rec.now (option_copied c.args.state) in
    let kept = c.loop-block.invariant in
    let step = c.in-Ok-check_block.ensures in
    let start = g.D.Disk.file c.args.disk.now in
    let seen = seen_on e c.loop-block.check c.check_block.new.check c.loop-block.block start _ _ step kept.file kept.expected kept.seen in (
      c.in_ok-check.ensures.0,
      inl (ended_whole e c.args.fatal c.check_block.new.check (c.loop-block.block + 1) start _ c.finish.result
          (sym c.ended.ensures ∙ c.if-ended.true) (step.fatal ∙ kept.fatal) (step.expected ∙ kept.expected)
          (omega (arith, c.loop-block-test.true, c.blocks-block-end.ensures.value)) seen
          c.finish.ensures.value (c.finish.ensures.seen _ _ seen)
          (power_on c.loop-block.check c.check_block.new.check c.loop-block.block start _ _ step kept.file kept.power)
          (step.file ∙ kept.file)),
    )

pub loop-block-preserved : goal.loop-block-preserved
loop-block-preserved g c =
    let e = expected_by c.args.key c.args.rec.now (option_copied c.args.state) in
    let kept = c.loop-block.invariant in
    let step = c.in-Ok-check_block.ensures in
    let start = g.D.Disk.file c.args.disk.now in
    record {
      expected = step.expected ∙ kept.expected;
      fatal = step.fatal ∙ kept.fatal;
      next = step.next;
      unended = sym c.ended.ensures ∙ c.if-ended.false;
      seen = seen_on e c.loop-block.check c.check_block.new.check c.loop-block.block start _ _ step kept.file kept.expected kept.seen;
      power = power_on c.loop-block.check c.check_block.new.check c.loop-block.block start _ _ step kept.file kept.power;
      file = step.file ∙ kept.file;
      bytes = omega (
        arith,
        length-take {A = ℕ},
        length-append {A = ℕ},
        length-drop {A = ℕ},
        c.check_block.auto.bytes,
        c.deref_mut.ensures.len,
        ap length c.deref_mut.ensures.value,
        kept.bytes,
      );
    }
