use Rattle.std.proofs.Common.{◌≡◌, ◌∙◌, refl, ap, sym}
use Rattle.std.specs.Int.{w64}
use Rattle.fc_base.specs.Layouts.{bytes_of}
use Rattle.fc_base.specs.CountLaws.{marks_again}
use Rattle.verify_state.specs.Inside.{state_of_fields, ends}
use Rattle.verify_state.specs.Spelling.{words}
use Rattle.verify_state.specs.State.{State, floor_in, marks_in}
use Rattle.verify_state.proofs.WritingLemmas.{spelled_on}
use Rattle.verify_state.proofs.state.VerifyState.push_to.Goals as goal

pub returns : goal.returns
returns c =
    let s = c.self.inside in
    let kept = c.self.invariant in
    let state : State = state_of_fields s in
    let bytes = c.args.bytes.now.items in
    let marks : words s.marks ≡ words (marks_in state) =
    ap words (sym (marks_again s.rec.window s.issued s.marks kept.four kept.words (ends s.rec s.issued s.marks kept.come))) in
    let floor : c.floor.result ≡ floor_in state = c.floor.ensures ∙ ap floor_in (sym c.self.view_is) in
    rw (← c.self.view_is)
    (spelled_on state bytes _ _ _ _ _ _ _ _ _ _
    c.in_ok-extend_from_slice.ensures.items
    c.in_ok-put_key.ensures
    c.in_ok-put_job.ensures
    c.in_ok-put_u64.ensures
    c.in_ok-put_words.ensures
    c.in_ok-put_u64-2.ensures
    c.in_ok-put_words-2.ensures
    refl
    (ap (bytes_of w64) floor)
    (ap words c.words.ensures.value ∙ marks))
