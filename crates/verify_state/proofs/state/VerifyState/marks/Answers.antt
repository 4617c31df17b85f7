use Rattle.std.proofs.Common.{◌∙◌, sym}
use Rattle.fc_base.specs.CountLaws.{marks_again}
use Rattle.verify_state.specs.Inside.{ends}
use Rattle.verify_state.proofs.state.VerifyState.marks.Goals as goal

pub returns : goal.returns
returns c =
    let s = c.self.inside in
    let kept = c.self.invariant in
    rw (← c.self.view_is) (c.words.ensures.value ∙ sym (marks_again s.rec.window s.issued s.marks kept.four kept.words (ends s.rec s.issued s.marks kept.come)))
