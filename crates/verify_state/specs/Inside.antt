-- How a state is kept: what it shows, what holds of its fields, and that it shows all of them. No
-- public contract cites this.
use Rattle.std.specs.Prelude.{◌≡◌, ℕ, ◌-◌, ◌^◌, ◌<◌, IsTrue, List, length}
use Rattle.std.specs.List.{AllByRecursion}
use Rattle.std.proofs.Common.{ap}
use Rattle.std.proofs.lemmas.Bool.{and_parts}
use Rattle.fc_base.specs.declared.record.JobParts.{JobParts}
use Rattle.fc_base.specs.Keys.{is_key}
use Rattle.fc_base.specs.Marks.{floor_of, ends_by, is_possible_by}
use Rattle.fc_base.specs.CountLaws.{marks_again}
use Rattle.verify_state.specs.declared.state.VerifyState.TheInside.{Inside}
use Rattle.verify_state.specs.State.{State, state_by, marks_in, has_come_by}

-- The state that the fields show.
abbrev pub state_of_fields : Inside → State
state_of_fields s = state_by s.key s.rec s.issued s.place s.marks

-- The key is in its ranges, some job can have come to the marks, and these are four words.
pub record IsKept (s : Inside) : Type 0 where
  pub key : IsTrue (is_key s.key)
  pub come : IsTrue (has_come_by s.rec s.issued s.marks)
  pub four : length s.marks ≡ 4
  pub words : AllByRecursion (λ word. word < 2 ^ 64) s.marks

-- The fields that a state was shown by.
abbrev pub fields_of : State → Inside
fields_of s =
    record { key = s.key; rec = s.job; issued = s.issued; place = s.place; marks = marks_in s }

-- No bit is set for a number that was not issued.
pub ends : (job : JobParts) (issued : ℕ) (marks : List ℕ) → IsTrue (has_come_by job issued marks)
    → IsTrue (ends_by (issued - floor_of job.window issued) marks)
unfolding has_come_by
ends job issued marks come =
    (and_parts _ _ (and_parts _ (is_possible_by job.depth job.window issued marks) come).1).0

-- The fields of a state are given back by the state that they show.
pub fields_again : (s : Inside) → IsKept s → fields_of (state_of_fields s) ≡ s
fields_again s kept =
    let same = marks_again s.rec.window s.issued s.marks kept.four kept.words
    (ends s.rec s.issued s.marks kept.come) in
    ap (λ (m : List ℕ). let t : Inside =
    record { key = s.key; rec = s.rec; issued = s.issued; place = s.place; marks = m } in t)
    same
