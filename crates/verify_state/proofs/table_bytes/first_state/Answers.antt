use Rattle.std.proofs.Common.{◌≡◌, ◌∙◌, ap, subst, Some, take, List, ℕ}
use Rattle.std.specs.Prelude.{slice_get}
use Rattle.std.specs.Int.{w32}
use Rattle.fc_base.specs.Layouts.{number_in}
use Rattle.verify_state.specs.Reading.{faults_of}
use Rattle.verify_state.proofs.ReadingLemmas.{no_state}
use Rattle.verify_state.proofs.table_bytes.first_state.Goals as goal

pub returns-in-Err : goal.returns-in-Err
returns-in-Err c =
    let part = c.split_at.ensures.front ∙ ap (λ n. take n c.split_u32-length.result.1.now) c.split_u32-length.ensures.number
    ∙ ap (take (number_in w32 c.args.bytes.now)) c.split_u32-length.ensures.rest in
    no_state c.args.bytes.now c.in-Err.field-0 (subst (λ (l : List ℕ). slice_get (faults_of l) 0 ≡ Some c.in-Err.field-0) part c.in-Err.ensures)
