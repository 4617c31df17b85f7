use Rattle.verify_state.specs.Inside.{ends}
use Rattle.verify_state.proofs.state.VerifyState.completed.Goals as goal

pub completed-requires-clause-ends : goal.completed-requires-clause-ends
completed-requires-clause-ends c =
    let s = c.self.inside in
    rw c.window.ensures.value (ends s.rec s.issued s.marks c.self.invariant.come)
