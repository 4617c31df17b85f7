use Rattle.std.proofs.Common.{sym, ap, ◌∙◌}
use Rattle.recheck.specs.Expected.{Expected}
use Rattle.recheck.specs.Faults.{last_write}
use Rattle.targets.specs.Units.{has_sound_units}
use Rattle.targets.proofs.UnitLemmas.{told_unsound}
use Rattle.targets.proofs.map_bytes.tell_units.Goals as goal

pub returns-else-has_sound_units-clause-tells : goal.returns-else-has_sound_units-clause-tells
returns-else-has_sound_units-clause-tells c =
    told_unsound c.args.check.now c.tell_whole-else-has_sound_units.new.check c.args.unit c.args.block c.in-Some.seq c.args.bytes.now
    c.tell_whole-else-has_sound_units.result
    (sym (c.in-Some.ensures.value ∙ ap (λ (x : Expected). last_write x c.args.block) c.expected.ensures))
    (ap (λ (x : Expected). has_sound_units x c.args.unit c.args.block c.args.bytes.now) (sym c.expected-2.ensures)
    ∙ sym c.has_sound_units.ensures.value ∙ c.if-has_sound_units.false)
    c.tell_whole-else-has_sound_units.ensures
