use Rattle.std.proofs.Common.{◌≡◌, ap, arith, inl, inr, length, length-append, length-drop, length-take, sym, subst, ℕ, ◌∙◌, ◌+◌}
use Rattle.std.specs.Option.{option_copied}
use Rattle.std.proofs.lemmas.List.{take_at}
use Rattle.recheck.specs.Check.{Check}
use Rattle.recheck.specs.Expected.{expected_by}
use Rattle.targets.proofs.CheckLemmas.{HasRead, checks_some, ended_at, is_cut, read_more, whole_region}
use Rattle.targets.proofs.TextLemmas.{filled, not_filled}
use Rattle.targets.proofs.checking.check_blocks.Goals as goal

pub returns-in-Ok-fill : goal.returns-in-Ok-fill
returns-in-Ok-fill g c =
    let e = expected_by c.args.key c.args.rec.now (option_copied c.args.state) in
    let kept = c.loop-block.invariant in
    let now = g.R.Read.remaining c.loop-block.reader in
    let part = not_filled now (g.R.Read.remaining c.fill.new.reader) c.fill.new.buffer c.in-Ok-fill.filled
    (omega (arith, c.fill.auto.buffer, c.deref_mut.ensures.len, kept.bytes, c.bs-size.ensures.value, c.if-filled-size.true)) c.in-Ok-fill.ensures.ok in
    checks_some (g.R.Read.remaining c.args.reader.now) _ (λ whole is. (
      c.in_ok-check.ensures.0,
      inr (
        c.loop-block.block,
        is_cut e c.args.fatal c.loop-block.check c.loop-block.block whole part.0 now (g.R.Read.remaining c.fill.new.reader) c.finish_at.result
            (subst (λ f. HasRead e c.loop-block.check c.loop-block.block f now) is kept.read) kept.expected kept.fatal kept.unended
            (omega (arith, c.loop-block-test.true, c.blocks-block-end.ensures.value)) part.1
            (omega (arith, part.2, c.fill.auto.buffer, c.deref_mut.ensures.len, kept.bytes)) part.3 c.finish_at.ensures,
      ),
    ))

pub returns-then-ended : goal.returns-then-ended
returns-then-ended g c =
    let e = expected_by c.args.key c.args.rec.now (option_copied c.args.state) in
    let kept = c.loop-block.invariant in
    let now = g.R.Read.remaining c.loop-block.reader in
    let later = g.R.Read.remaining c.fill.new.reader in
    let buffer = c.fill.new.buffer in
    let read = filled now later buffer c.in-Ok-fill.filled
    (omega (arith, c.fill.auto.buffer, c.deref_mut.ensures.len, kept.bytes, c.bs-size.ensures.value, c.if-filled-size.false, c.in-Ok-fill.ensures.bound))
    c.in-Ok-fill.ensures.ok in
    let same : c.deref.result.now ≡ buffer =
    c.deref.ensures.value ∙ take_at buffer _ c.loop-block.bytes.len (omega (arith, c.fill.auto.buffer, c.deref_mut.ensures.len)) in
    let more = read_more e c.loop-block.check c.feed.new.self c.loop-block.block (g.R.Read.remaining c.args.reader.now) now later buffer kept.read read
    (omega (arith, c.fill.auto.buffer, c.deref_mut.ensures.len, kept.bytes))
    (λ held blocks holds seen. c.feed.ensures.seen held blocks (holds ∙ sym same) seen) in
    checks_some (g.R.Read.remaining c.args.reader.now) _ (λ whole is. (
      c.in_ok-check.ensures.0,
      inl (ended_at c.faults_end_checks.ensures e c.args.fatal c.feed.new.self (c.loop-block.block + 1) whole later c.finish.result
          (subst (λ f. HasRead e c.feed.new.self (c.loop-block.block + 1) f later) is more)
          (ap (λ (x : Check). x.expected) c.feed.ensures.left ∙ kept.expected) (ap (λ (x : Check). x.fatal) c.feed.ensures.left ∙ kept.fatal)
          (sym c.ended.ensures ∙ c.if-ended.true) (omega (arith, c.loop-block-test.true, c.blocks-block-end.ensures.value)) c.finish.ensures.value),
    ))

pub loop-block-preserved : goal.loop-block-preserved
loop-block-preserved g c =
    let e = expected_by c.args.key c.args.rec.now (option_copied c.args.state) in
    let kept = c.loop-block.invariant in
    let now = g.R.Read.remaining c.loop-block.reader in
    let later = g.R.Read.remaining c.fill.new.reader in
    let buffer = c.fill.new.buffer in
    let read = filled now later buffer c.in-Ok-fill.filled
    (omega (arith, c.fill.auto.buffer, c.deref_mut.ensures.len, kept.bytes, c.bs-size.ensures.value, c.if-filled-size.false, c.in-Ok-fill.ensures.bound))
    c.in-Ok-fill.ensures.ok in
    let same : c.deref.result.now ≡ buffer =
    c.deref.ensures.value ∙ take_at buffer _ c.loop-block.bytes.len (omega (arith, c.fill.auto.buffer, c.deref_mut.ensures.len)) in
    record {
      expected = ap (λ (x : Check). x.expected) c.feed.ensures.left ∙ kept.expected;
      fatal = ap (λ (x : Check). x.fatal) c.feed.ensures.left ∙ kept.fatal;
      next = omega (arith, ap (λ (x : Check). x.next) c.feed.ensures.left);
      unended = sym c.ended.ensures ∙ c.if-ended.false;
      read = read_more e c.loop-block.check c.feed.new.self c.loop-block.block (g.R.Read.remaining c.args.reader.now) now later buffer kept.read read
          (omega (arith, c.fill.auto.buffer, c.deref_mut.ensures.len, kept.bytes))
          (λ held blocks holds seen. c.feed.ensures.seen held blocks (holds ∙ sym same) seen);
      bytes = omega (
        arith,
        length-take {A = ℕ},
        length-append {A = ℕ},
        length-drop {A = ℕ},
        c.fill.auto.buffer,
        c.deref_mut.ensures.len,
        ap length c.deref_mut.ensures.value,
        kept.bytes,
      );
    }

pub returns : goal.returns
returns g c =
    let e = expected_by c.args.key c.args.rec.now (option_copied c.args.state) in
    let kept = c.loop-block.invariant in
    let now = g.R.Read.remaining c.loop-block.reader in
    let all : c.loop-block.block ≡ e.job.blocks = omega (arith, c.loop-block-test.false, c.loop-block.auto.block-end, c.blocks-block-end.ensures.value) in
    checks_some (g.R.Read.remaining c.args.reader.now) _ (λ whole is. (
      c.in_ok-check.ensures.0,
      inl (whole_region e c.args.fatal c.loop-block.check whole now c.finish-2.result
          (subst (λ f. HasRead e c.loop-block.check e.job.blocks f now) is
          (subst (λ n. HasRead e c.loop-block.check n (g.R.Read.remaining c.args.reader.now) now) all kept.read))
          kept.expected kept.fatal c.finish-2.ensures.value),
    ))
