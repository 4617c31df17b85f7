use Rattle.std.proofs.Common.{◌∙◌, sym, arith}
use Rattle.std.proofs.lemmas.Nat.Bits.{shr_and_one}
use Rattle.disk_model.proofs.SectorLemmas.{copied_one, skipped_one}
use Rattle.disk_model.proofs.picks.copy_masked.Goals as goal
use Rattle.disk_model.proofs.picks.copy_masked.Goals.{then-mask-i-eq1, else-mask-i-eq1}

pub loop-i-preserved : goal.loop-i-preserved
loop-i-preserved c j lt = elim c.if-mask-i-eq1.branch [
  | then-mask-i-eq1 w ↦
      let bit = sym (shr_and_one c.args.mask c.loop-i.i) ∙ w.if-mask-i-eq1.true in
      rw w.to-is
      (copied_one c.args.from.now c.loop-i.to c.args.to.now w.copy_from_slice.new.self c.args.mask c.loop-i.i j bit
      (omega arith) (omega arith) w.copy_from_slice.ensures.after (c.loop-i.invariant j lt))
  | else-mask-i-eq1 w ↦
      rw w.to-is
      (skipped_one c.args.from.now c.loop-i.to c.args.to.now c.args.mask c.loop-i.i j
      (λ bit. w.if-mask-i-eq1.false (shr_and_one c.args.mask c.loop-i.i ∙ bit)) (c.loop-i.invariant j lt))
]
