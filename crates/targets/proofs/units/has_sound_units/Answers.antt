use Rattle.std.proofs.Common.{◌≡◌, ◌<◌, ◌/◌, ℕ, Bool, sym, ap, ◌∙◌, arith}
use Rattle.std.specs.List.{list_all, range_with_len}
use Rattle.fc_base.specs.declared.record.JobParts.{JobParts}
use Rattle.targets.specs.Units.{is_sound_unit}
use Rattle.targets.proofs.UnitLemmas.{sound_more, unsound_one}
use Rattle.targets.proofs.units.has_sound_units.Goals as goal

pub returns-then-not-is_sound_unit-clause-value : goal.returns-then-not-is_sound_unit-clause-value
returns-then-not-is_sound_unit-clause-value c =
    let p : ℕ → Bool = is_sound_unit c.args.expected.now c.args.unit c.args.block c.args.bytes.now in
    let size : c.bs.result ≡ c.args.expected.now.job.bs = c.bs.ensures.value ∙ ap (λ (j : JobParts). j.bs) c.rec.ensures in
    let lt : c.loop-number.number < c.bs.result / c.args.unit = omega (arith, c.loop-number-test.true, c.loop-number.auto.number-end) in
    sym (ap (λ n. list_all p (range_with_len 0 (n / c.args.unit))) (sym size)
    ∙ unsound_one p c.loop-number.number (c.bs.result / c.args.unit) lt (sym c.is_sound_unit.ensures.value ∙ c.if-not-is_sound_unit.true))

pub loop-number-preserved : goal.loop-number-preserved
loop-number-preserved c = record {
  sound = sound_more (is_sound_unit c.args.expected.now c.args.unit c.args.block c.args.bytes.now) c.loop-number.number c.loop-number.invariant.sound
      (sym c.is_sound_unit.ensures.value ∙ c.if-not-is_sound_unit.false);
  wanted = c.is_sound_unit.ensures.wanted ∙ c.loop-number.invariant.wanted;
}
