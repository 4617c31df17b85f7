-- What is read behind the place of a state.
use Rattle.std.proofs.Common.{◌≡◌, ℕ, Bool, true, false, ◌&&◌, List, [], Some, length, refl, ap, sym, ◌∙◌, arith, subst}
use Rattle.std.specs.Prelude.{slice_get, nat_lt, if◌then◌else◌}
use Rattle.std.proofs.lemmas.Bool.{ne_eqb, eq-eqb, le-ltb, and_from}
use Rattle.fc_base.specs.declared.fault.Fault.TheVariants.{Impossible}
use Rattle.fc_base.specs.Marks.{floor_of}
use Rattle.fc_base.specs.declared.fault.Fault.{Fault}
use Rattle.std.specs.Prelude.{Result, Ok, Err}
use Rattle.verify_state.specs.State.{has_come_by}
use Rattle.verify_state.specs.Layouts.{GivesListed, GivesMarked, GivesMarks, faults_behind, marks_listed}
use Rattle.verify_state.proofs.FaultLemmas.{sound_list, sound_marks}
use Rattle.verify_state.proofs.PieceLemmas.{are_marks, said_by_list, listed_as_marked, come_as_listed}
use Rattle.verify_state.specs.Reading.{is_layout_1, job_in, issued_in, marks_at, floor_at, has_ranges}
use Rattle.verify_state.specs.Reading.{has_marks, mark_faults, list_faults, state_listed, state_marked}

-- bytes of layout 2 as many as it has, whose marks are wrong
pub marks_fault : (bytes : List ℕ) → length bytes ≡ 136 → has_marks bytes ≡ false → slice_get (mark_faults bytes) 0 ≡ Some Impossible
marks_fault bytes exact wrong =
    let short : nat_lt (length bytes) 136 ≡ false = le-ltb (length bytes) 136 (omega arith) in
    let more : nat_lt 136 (length bytes) ≡ false = le-ltb 136 (length bytes) (omega arith) in
    rw (short, more, wrong) refl

pub marks_no_fault : (bytes : List ℕ) → length bytes ≡ 136 → has_marks bytes ≡ true → mark_faults bytes ≡ []
marks_no_fault bytes exact right =
    let short : nat_lt (length bytes) 136 ≡ false = le-ltb (length bytes) 136 (omega arith) in
    let more : nat_lt 136 (length bytes) ≡ false = le-ltb 136 (length bytes) (omega arith) in
    rw (short, more, right) refl

first_false : (a b : Bool) → a ≡ false → (a && b) ≡ false
first_false a b e = rw e refl

second_false : (a b : Bool) → b ≡ false → (a && b) ≡ false
second_false true b e = e
second_false false b e = refl

pub floor_differs : (bytes : List ℕ) → (floor_at bytes ≡ floor_of (job_in bytes).window (issued_in bytes) → ⊥) → has_marks bytes ≡ false
unfolding has_marks
floor_differs bytes other = first_false _ _ (ne_eqb (floor_at bytes) _ other)

pub marks_differ : (bytes : List ℕ) → has_come_by (job_in bytes) (issued_in bytes) (marks_at bytes) ≡ false → has_marks bytes ≡ false
unfolding has_marks
marks_differ bytes wrong = second_false _ _ wrong

pub marks_hold : (bytes : List ℕ) → floor_at bytes ≡ floor_of (job_in bytes).window (issued_in bytes)
    → has_come_by (job_in bytes) (issued_in bytes) (marks_at bytes) ≡ true → has_marks bytes ≡ true
unfolding has_marks
marks_hold bytes floor come = and_from _ _ (eq-eqb (floor_at bytes) _ floor) come

-- ---- both layouts

behind_listed : (bytes : List ℕ) → is_layout_1 bytes ≡ true → faults_behind bytes ≡ list_faults bytes
behind_listed bytes one = ap (λ b. if b then list_faults bytes else mark_faults bytes) one

behind_marked : (bytes : List ℕ) → is_layout_1 bytes ≡ false → faults_behind bytes ≡ mark_faults bytes
behind_marked bytes two = ap (λ b. if b then list_faults bytes else mark_faults bytes) two

pub listed_gives : (bytes : List ℕ) (r : Result (List ℕ) Fault) → is_layout_1 bytes ≡ true → has_ranges bytes ≡ true → GivesListed r bytes → GivesMarks r bytes
listed_gives bytes (Ok marks) one ranges g =
    let from : GivesMarks (Ok (marks_listed bytes)) bytes = (
      behind_listed bytes one ∙ g.0,
      said_by_list bytes one ∙ listed_as_marked bytes ranges,
      come_as_listed bytes ranges (sound_list bytes g.0).come,
    ) in
    subst (λ (ms : List ℕ). GivesMarks (Ok ms) bytes) (sym g.1) from
listed_gives bytes (Err fault) one ranges g = ap (λ fs. slice_get fs 0) (behind_listed bytes one) ∙ g

pub marked_gives : (bytes : List ℕ) (r : Result (List ℕ) Fault) → is_layout_1 bytes ≡ false → GivesMarked r bytes → GivesMarks r bytes
marked_gives bytes (Ok marks) two g =
    let from : GivesMarks (Ok (marks_at bytes)) bytes = (
      behind_marked bytes two ∙ g.0,
      ap (λ b. if b then state_listed bytes else state_marked bytes) two,
      (are_marks bytes (sound_marks bytes g.0).marks).come,
    ) in
    subst (λ (ms : List ℕ). GivesMarks (Ok ms) bytes) (sym g.1) from
marked_gives bytes (Err fault) two g = ap (λ fs. slice_get fs 0) (behind_marked bytes two) ∙ g
