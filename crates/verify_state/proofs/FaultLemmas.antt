-- Bytes without a fault.
use Rattle.std.proofs.Common.{◌≡◌, ℕ, ◌*◌, ◌≤◌, Bool, true, false, not, ltb, leb, ◌||◌, List, [], ◌∷◌, ◌++◌, length, refl, sym, ap, ◌∙◌, arith}
use Rattle.std.specs.Prelude.{nat_lt, nat_le, if◌then◌else◌}
use Rattle.std.specs.Int.{w32}
use Rattle.std.proofs.lemmas.Bool.{and_from, le-ltb, ltb-false, le-leb, leb-true, eq-eqb}
use Rattle.fc_base.specs.declared.limits.TheConstants.{MAX_WRITES}
use Rattle.fc_base.specs.declared.record.Kind.{Kind}
use Rattle.fc_base.specs.declared.record.Kind.TheVariants.{Sequential, RandomMap, RandomFree}
use Rattle.fc_base.specs.declared.record.Verify.{Verify}
use Rattle.fc_base.specs.declared.record.Verify.TheVariants.{Stamp, Pattern}
use Rattle.fc_base.specs.declared.fault.Fault.{Fault}
use Rattle.fc_base.specs.Faults.{when}
use Rattle.fc_base.specs.Keys.{is_key}
use Rattle.fc_base.specs.Marks.{floor_of}
use Rattle.fc_base.specs.Layouts.{bytes_of, number_in}
use Rattle.verify_state.specs.Codes.{kind_code, verify_code}
use Rattle.verify_state.specs.State.{State, IsState, has_come}
use Rattle.verify_state.specs.Spelling.{key_bytes, job_bytes, spelling}
use Rattle.verify_state.specs.Reading.{field, is_layout_1, is_layout_2, key_in, job_in, issued_in, count_in, completions_in, length_in, floor_at}
use Rattle.verify_state.specs.Reading.{has_codes, has_fields, has_ranges, has_marks, front_faults, list_faults, mark_faults, faults_of}
use Rattle.verify_state.proofs.RangeLemmas.{ranges_by}
use Rattle.verify_state.proofs.SpellingLemmas.{one_byte, key_back, job_back, issued_again, issued_limit}
use Rattle.verify_state.proofs.SpellingLemmas.{floor_back, marks_back, length_back, layout_back, other_layout}

-- ---- what holds of bytes that have no fault

-- up to the place
pub record IsSound (bytes : List ℕ) : Type 0 where
  pub long : 100 ≤ length bytes
  pub layout : (is_layout_1 bytes || is_layout_2 bytes) ≡ true
  pub ranges : has_ranges bytes ≡ true

-- behind it, in layout 1
pub record IsListSound (bytes : List ℕ) : Type 0 where
  pub few : count_in bytes ≤ 2 * field w32 52 bytes
  pub exact : length bytes ≡ length_in bytes
  pub come : has_come (job_in bytes) (issued_in bytes) (completions_in bytes) ≡ true

-- and in layout 2
pub record IsMarkSound (bytes : List ℕ) : Type 0 where
  pub exact : length bytes ≡ 136
  pub marks : has_marks bytes ≡ true

no_fault : (test : Bool) (fault : Fault) (rest : List Fault) → when test fault ++ rest ≡ [] → (test ≡ false) × (rest ≡ [])
no_fault true fault rest e = absurd cc
no_fault false fault rest e = (refl, e)

none_of_both : (xs ys : List Fault) → xs ++ ys ≡ [] → (xs ≡ []) × (ys ≡ [])
none_of_both [] ys e = (refl, e)
none_of_both (x ∷ xs) ys e = absurd cc

holds : (b : Bool) → not b ≡ false → b ≡ true
holds true e = refl
holds false e = absurd cc

last_fault : (test : Bool) (fault : Fault) → when test fault ≡ [] → test ≡ false
last_fault true fault e = absurd cc
last_fault false fault e = refl

is_between : (m n : ℕ) → n ≤ m → m ≤ n → m ≡ n
is_between m n ge le = omega (arith, ge, le)

pub sound_front : (bytes : List ℕ) → front_faults bytes ≡ [] → IsSound bytes
sound_front bytes e =
    let a = no_fault _ _ _ e in
    let b = no_fault _ _ _ a.1 in
    record {
      long = ltb-false (length bytes) 100 a.0;
      layout = holds (is_layout_1 bytes || is_layout_2 bytes) b.0;
      ranges = holds (has_ranges bytes) (last_fault _ _ b.1);
    }

pub sound_list : (bytes : List ℕ) → list_faults bytes ≡ [] → IsListSound bytes
sound_list bytes e =
    let a = no_fault _ _ _ e in
    let b = no_fault _ _ _ a.1 in
    let c = no_fault _ _ _ b.1 in
    record {
      few = leb-true (count_in bytes) (2 * field w32 52 bytes) (holds _ a.0);
      exact = is_between (length bytes) (length_in bytes) (ltb-false (length bytes) (length_in bytes) b.0) (ltb-false (length_in bytes) (length bytes) c.0);
      come = holds (has_come (job_in bytes) (issued_in bytes) (completions_in bytes)) (last_fault _ _ c.1);
    }

pub sound_marks : (bytes : List ℕ) → mark_faults bytes ≡ [] → IsMarkSound bytes
sound_marks bytes e =
    let a = no_fault _ _ _ e in
    let b = no_fault _ _ _ a.1 in
    record {
      exact = is_between (length bytes) 136 (ltb-false (length bytes) 136 a.0) (ltb-false 136 (length bytes) b.0);
      marks = holds (has_marks bytes) (last_fault _ _ b.1);
    }

-- no fault in the whole is none in the front, and none behind it in its layout
behind : (b : Bool) (xs ys : List Fault) → (if b then xs else ys) ≡ [] → (b ≡ true → xs ≡ []) × (b ≡ false → ys ≡ [])
behind true xs ys e = (λ t. e, λ f. absurd cc)
behind false xs ys e = (λ t. absurd cc, λ f. e)

pub record IsWhole (bytes : List ℕ) : Type 0 where
  pub front : IsSound bytes
  pub list : is_layout_1 bytes ≡ true → IsListSound bytes
  pub marks : is_layout_1 bytes ≡ false → IsMarkSound bytes

pub is_whole : (bytes : List ℕ) → faults_of bytes ≡ [] → IsWhole bytes
is_whole bytes e =
    let parts = none_of_both (front_faults bytes) _ e in
    let rest = behind (is_layout_1 bytes) (list_faults bytes) (mark_faults bytes) parts.1 in
    record {
      front = sound_front bytes parts.0;
      list = λ t. sound_list bytes (rest.0 t);
      marks = λ f. sound_marks bytes (rest.1 f);
    }

-- ---- and bytes of which that holds have none

pub no_front_faults : (bytes : List ℕ) → IsSound bytes → front_faults bytes ≡ []
no_front_faults bytes s =
    let long : nat_lt (length bytes) 100 ≡ false = le-ltb (length bytes) 100 s.long in
    rw (long, s.layout, s.ranges) refl

pub no_mark_faults : (bytes : List ℕ) → IsMarkSound bytes → mark_faults bytes ≡ []
no_mark_faults bytes s =
    let short : nat_lt (length bytes) 136 ≡ false = le-ltb (length bytes) 136 (omega (arith, s.exact)) in
    let more : nat_lt 136 (length bytes) ≡ false = le-ltb 136 (length bytes) (omega (arith, s.exact)) in
    rw (short, more, s.marks) refl

-- ---- a spelling has no fault

kind_below : (kind : Kind) → ltb (kind_code kind) 3 ≡ true
kind_below Sequential = refl
kind_below RandomMap = refl
kind_below RandomFree = refl

verify_below : (verify : Verify) → ltb (verify_code verify) 2 ≡ true
verify_below Stamp = refl
verify_below Pattern = refl

codes_hold : (s : State) → has_codes (spelling s) ≡ true
unfolding field spelling key_bytes job_bytes number_in bytes_of
codes_hold s =
    let kind = ap (λ n. ltb n 3) (one_byte (kind_code s.job.kind)) ∙ kind_below s.job.kind in
    let verify = ap (λ n. ltb n 2) (one_byte (verify_code s.job.verify)) ∙ verify_below s.job.verify in
    and_from _ _ (and_from _ _ kind verify) refl

fields_hold : (s : State) → IsState s → has_fields (spelling s) ≡ true
fields_hold s is =
    let key : is_key (key_in (spelling s)) ≡ true = ap is_key (key_back s is) ∙ is.key in
    let few : nat_le (issued_in (spelling s)) MAX_WRITES ≡ true =
    ap (λ n. leb n MAX_WRITES) (issued_again s is) ∙ le-leb s.issued MAX_WRITES (issued_limit s is) in
    and_from _ _ (and_from _ _ (codes_hold s) key) few

marks_hold : (s : State) → IsState s → has_marks (spelling s) ≡ true
unfolding has_marks
marks_hold s is =
    let window : field w32 52 (spelling s) ≡ s.job.window = ap (λ job. job.window) (job_back s is) in
    and_from _ _
    (eq-eqb (floor_at (spelling s)) _ (floor_back s is ∙ sym
    (ap (λ n. floor_of n (issued_in (spelling s))) window ∙ ap (floor_of s.job.window) (issued_again s is))))
    (rw (job_back s is, issued_again s is, marks_back s is) is.come)

or_second : (a b : Bool) → b ≡ true → (a || b) ≡ true
or_second true b e = refl
or_second false b e = e

pub sound_spelling : (s : State) → IsState s → faults_of (spelling s) ≡ []
sound_spelling s is =
    let front = no_front_faults (spelling s) (record {
      long = omega (arith, length_back s is);
      layout = or_second (is_layout_1 (spelling s)) (is_layout_2 (spelling s)) (layout_back s);
      ranges = ranges_by (spelling s) s.job true (sym (job_back s is)) is.limits (sym (fields_hold s is));
    }) in
    let marks = no_mark_faults (spelling s) (record { exact = length_back s is; marks = marks_hold s is }) in
    ap (λ xs. xs ++ (if is_layout_1 (spelling s) then list_faults (spelling s) else mark_faults (spelling s))) front
    ∙ ap (λ b. if b then list_faults (spelling s) else mark_faults (spelling s)) (other_layout s)
    ∙ marks
