use Rattle.std.proofs.Common.{◌≡◌, ◌∙◌, ◌++◌, true, ap, sym, subst}
use Rattle.verify_state.specs.declared.reading.Front.{Front}
use Rattle.verify_state.specs.State.{has_come_by, state_by}
use Rattle.verify_state.specs.Layouts.{faults_behind}
use Rattle.verify_state.proofs.FaultLemmas.{sound_front}
use Rattle.verify_state.proofs.state.VerifyState.decode.Goals as goal

pub marks_in-requires-clause-ranges : goal.marks_in-requires-clause-ranges
marks_in-requires-clause-ranges c = (sound_front c.args.bytes.now c.in_ok-front.ensures.value.0).ranges

pub with_marks-requires-clause-come : goal.with_marks-requires-clause-come
with_marks-requires-clause-come c =
    subst (λ (f : Front). has_come_by f.rec f.issued c.in_ok-marks.marks ≡ true) (sym c.in_ok-front.ensures.value.1) c.in_ok-marks.ensures.2

pub returns : goal.returns
returns c = (
  ap (λ fs. fs ++ faults_behind c.args.bytes.now) c.in_ok-front.ensures.value.0 ∙ c.in_ok-marks.ensures.0,
  c.with_marks.ensures
      ∙ ap (λ (f : Front). state_by f.key f.rec f.issued f.place c.in_ok-marks.marks) c.in_ok-front.ensures.value.1
      ∙ sym c.in_ok-marks.ensures.1,
)
