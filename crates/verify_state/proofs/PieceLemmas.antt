-- Bytes without a fault, piece by piece, are the spelling of what they say.
use Rattle.std.proofs.Common.{Bool, ◌||◌, ◌≡◌, ℕ, ◌+◌, ◌^◌, ◌<◌, ◌≤◌, zero, suc, true, ◌&&◌, ◌-◌, false, eqb, ltb, leb}
use Rattle.std.proofs.Common.{List, [], ◌∷◌, ◌++◌, length, take, drop, sym, refl, ap, ◌∙◌, subst, inl, inr, arith}
use Rattle.std.specs.Prelude.{codes, if◌then◌else◌}
use Rattle.std.specs.List.{AllByRecursion}
use Rattle.std.specs.Cmp.Lexicographic.{pointwise}
use Rattle.std.specs.Int.{w8, w32, w64, from_be_bytes}
use Rattle.fc_base.specs.Layouts.{bytes_of, number_in}
use Rattle.std.proofs.lemmas.Bool.{and_parts, and_from, cases_Bool, ltb-true, eqb-true, false≢true}
use Rattle.std.proofs.lemmas.List.{take-append-drop, drop_all, length-drop, append-nil, drop-append-le, take-append-le, length-append}
use Rattle.fc_base.specs.declared.limits.TheConstants.{MAX_WINDOW}
use Rattle.fc_base.specs.declared.record.JobParts.{JobParts}
use Rattle.fc_base.specs.JobParts.{is_within_limits}
use Rattle.fc_base.specs.Counted.{has, counted, is_possible}
use Rattle.fc_base.specs.Marks.{floor_of, marks_of, ends_by, counted_by, is_possible_by}
use Rattle.fc_base.specs.CountLaws.{marks_again, counted_as_listed, possible_as_listed}
use Rattle.verify_state.specs.Codes.{kind_code, verify_code, kind_of, verify_of}
use Rattle.verify_state.specs.State.{State, IsState, state_by, floor_in, marks_in, has_come, has_come_by}
use Rattle.verify_state.specs.Spelling.{key_bytes, job_bytes, words, spelling}
use Rattle.verify_state.specs.Reading.{field, words_at, is_layout_1, is_layout_2, key_in, job_in, issued_in, place_in, count_in, completions_in}
use Rattle.verify_state.specs.Reading.{floor_at, marks_at, has_codes, has_fields, has_ranges, has_marks, faults_of, state_in, state_listed, state_marked}
use Rattle.verify_state.proofs.RangeLemmas.{has_key, narrow}
use Rattle.verify_state.proofs.FaultLemmas.{IsSound, IsListSound, IsMarkSound, is_whole}
use Rattle.verify_state.proofs.FieldLemmas.{IsBytes, bytes_drop, bytes_take, piece64, piece32, piece8, words_by, words_are, pieces, length_words_at}

-- ---- the magic and the codes

same_bytes : (xs ys : List ℕ) → pointwise eqb xs ys ≡ true → xs ≡ ys
same_bytes [] [] e = refl
same_bytes [] (y ∷ ys) e = absurd (false≢true e)
same_bytes (x ∷ xs) [] e = absurd (false≢true e)
same_bytes (x ∷ xs) (y ∷ ys) e =
    let parts = and_parts (eqb x y) (pointwise eqb xs ys) e in
    rw (eqb-true x y parts.0, same_bytes xs ys parts.1) refl

pub magic_is : (bytes : List ℕ) → is_layout_2 bytes ≡ true → codes "FCV2" ++ drop 4 bytes ≡ bytes
unfolding is_layout_2
magic_is bytes e = ap (λ l. l ++ drop 4 bytes) (same_bytes (codes "FCV2") (take 4 bytes) e) ∙ take-append-drop 4 bytes

pub kind_again : (n : ℕ) → ltb n 3 ≡ true → kind_code (kind_of n) ≡ n
kind_again zero e = refl
kind_again (suc zero) e = refl
kind_again (suc (suc zero)) e = refl
kind_again (suc (suc (suc n))) e = let lt = ltb-true _ 3 e in absurd (omega arith)

pub verify_again : (n : ℕ) → ltb n 2 ≡ true → verify_code (verify_of n) ≡ n
verify_again zero e = refl
verify_again (suc zero) e = refl
verify_again (suc (suc n)) e = let lt = ltb-true _ 2 e in absurd (omega arith)

-- ---- the whole

codes_known : (bytes : List ℕ) → has_ranges bytes ≡ true → has_codes bytes ≡ true
unfolding has_ranges
codes_known bytes e =
    let fields = and_parts (is_within_limits (job_in bytes)) (has_fields bytes) e in
    (and_parts (has_codes bytes) _ (and_parts (has_codes bytes && _) _ fields.1).0).0

behind_floor : (bytes : List ℕ) → IsBytes bytes → length bytes ≡ 136 → bytes_of w64 (floor_at bytes) ++ words (marks_at bytes) ≡ drop 96 bytes
behind_floor bytes fits exact =
    let rest = pieces 4 104 bytes fits (omega (arith, exact)) in
    let all : words (marks_at bytes) ≡ drop 104 bytes =
    sym (append-nil (words (marks_at bytes)))
    ∙ ap (λ l. words (marks_at bytes) ++ l) (sym (drop_all 136 bytes (omega (arith, exact))))
    ∙ rest in
    ap (λ l. bytes_of w64 (floor_at bytes) ++ l) all
    ∙ piece64 96 bytes fits (omega (arith, exact))

behind_number : (bytes : List ℕ) → IsBytes bytes → length bytes ≡ 136
    → words (place_in bytes) ++ (bytes_of w64 (floor_at bytes) ++ words (marks_at bytes)) ≡ drop 64 bytes
behind_number bytes fits exact =
    ap (λ l. words (place_in bytes) ++ l) (behind_floor bytes fits exact)
    ∙ pieces 4 64 bytes fits (omega (arith, exact))

key_pieces : (bytes : List ℕ) → IsBytes bytes → 100 ≤ length bytes → key_bytes (key_in bytes) ++ drop 20 bytes ≡ drop 4 bytes
unfolding key_bytes bytes_of
key_pieces bytes fits long =
    let job = piece32 16 bytes fits (omega (arith, long)) in
    let server = ap (λ l. bytes_of w32 (field w32 12 bytes) ++ l) job ∙ piece32 12 bytes fits (omega (arith, long)) in
    ap (λ l. bytes_of w64 (field w64 4 bytes) ++ l) server ∙ piece64 4 bytes fits (omega (arith, long))

job_pieces : (bytes : List ℕ) → IsBytes bytes → 100 ≤ length bytes → has_codes bytes ≡ true → job_bytes (job_in bytes) ++ drop 56 bytes ≡ drop 20 bytes
unfolding job_bytes bytes_of
job_pieces bytes fits long known =
    let codes_two = and_parts (ltb (field w8 20 bytes) 3 && ltb (field w8 21 bytes) 2) (eqb (field w8 23 bytes) 0) known in
    let code = and_parts (ltb (field w8 20 bytes) 3) (ltb (field w8 21 bytes) 2) codes_two.0 in
    let window = piece32 52 bytes fits (omega (arith, long)) in
    let depth = ap (λ l. bytes_of w32 (field w32 48 bytes) ++ l) window ∙ piece32 48 bytes fits (omega (arith, long)) in
    let seed = ap (λ l. bytes_of w64 (field w64 40 bytes) ++ l) depth ∙ piece64 40 bytes fits (omega (arith, long)) in
    let total = ap (λ l. bytes_of w64 (field w64 32 bytes) ++ l) seed ∙ piece64 32 bytes fits (omega (arith, long)) in
    let blocks = ap (λ l. bytes_of w32 (field w32 28 bytes) ++ l) total ∙ piece32 28 bytes fits (omega (arith, long)) in
    let bs = ap (λ l. bytes_of w32 (field w32 24 bytes) ++ l) blocks ∙ piece32 24 bytes fits (omega (arith, long)) in
    let zeros = ap (λ l. 0 ∷ l) bs ∙ ap (λ n. n ∷ drop 24 bytes) (sym (eqb-true (field w8 23 bytes) 0 codes_two.1)) ∙ piece8 23 bytes (omega (arith, long)) in
    let pattern = ap (λ l. field w8 22 bytes ∷ l) zeros ∙ piece8 22 bytes (omega (arith, long)) in
    let verify = ap (λ l. verify_code (verify_of (field w8 21 bytes)) ∷ l) pattern ∙ ap (λ n. n ∷ drop 22 bytes) (verify_again (field w8 21 bytes) code.1)
    ∙ piece8 21 bytes (omega (arith, long)) in
    ap (λ l. kind_code (kind_of (field w8 20 bytes)) ∷ l) verify ∙ ap (λ n. n ∷ drop 21 bytes) (kind_again (field w8 20 bytes) code.0)
    ∙ piece8 20 bytes (omega (arith, long))

spelled_out : (s : State) → spelling s ≡ codes "FCV2" ++
    (key_bytes s.key ++ (job_bytes s.job ++ (bytes_of w64 s.issued ++ (words s.place ++ (bytes_of w64 (floor_in s) ++ words (marks_in s))))))
unfolding spelling bytes_of
spelled_out s = refl

-- ---- the ranges of what is read

field64_below : (at : ℕ) (bytes : List ℕ) → IsBytes bytes → field w64 at bytes < 2 ^ 64
unfolding field number_in bytes_of
field64_below at bytes fits =
    let f = bytes_take 8 (drop at bytes) (bytes_drop at bytes fits) in
    omega (arith, f 0, f 1, f 2, f 3, f 4, f 5, f 6, f 7)

field8_below : (at : ℕ) (bytes : List ℕ) → IsBytes bytes → field w8 at bytes < 256
unfolding field number_in bytes_of
field8_below at bytes fits =
    let f = bytes_take 1 (drop at bytes) (bytes_drop at bytes fits) in
    omega (arith, f 0)

words_below : (n at : ℕ) (bytes : List ℕ) → IsBytes bytes → AllByRecursion (λ word. word < 2 ^ 64) (words_by n at bytes)
words_below zero at bytes fits = tt
words_below (suc n) at bytes fits = (field64_below at bytes fits, words_below n (at + 8) bytes fits)

words_in_range : (n at : ℕ) (bytes : List ℕ) → IsBytes bytes → AllByRecursion (λ word. word < 2 ^ 64) (words_at n at bytes)
words_in_range n at bytes fits = subst (AllByRecursion (λ word. word < 2 ^ 64)) (sym (words_are n at bytes)) (words_below n at bytes fits)

within : (bytes : List ℕ) → has_ranges bytes ≡ true → is_within_limits (job_in bytes) ≡ true
unfolding has_ranges
within bytes e = (and_parts (is_within_limits (job_in bytes)) (has_fields bytes) e).0

-- ---- what marks that some job can have come to say

pub record AreMarks (bytes : List ℕ) : Type 0 where
  pub floor : floor_at bytes ≡ floor_of (job_in bytes).window (issued_in bytes)
  pub come : has_come_by (job_in bytes) (issued_in bytes) (marks_at bytes) ≡ true

pub are_marks : (bytes : List ℕ) → has_marks bytes ≡ true → AreMarks bytes
unfolding has_marks
are_marks bytes e =
    let parts = and_parts (eqb (floor_at bytes) (floor_of (field w32 52 bytes) (issued_in bytes))) _ e in
    record { floor = eqb-true (floor_at bytes) _ parts.0; come = parts.1 }

pub bits_end : (job : JobParts) (issued : ℕ) (marks : List ℕ) → has_come_by job issued marks ≡ true → ends_by (issued - floor_of job.window issued) marks ≡ true
unfolding has_come_by
bits_end job issued marks e = (and_parts _ _ (and_parts _ (is_possible_by job.depth job.window issued marks) e).1).0

marks_same : (bytes : List ℕ) → IsBytes bytes → IsMarkSound bytes → marks_in (state_marked bytes) ≡ marks_at bytes
marks_same bytes fits s =
    marks_again (job_in bytes).window (issued_in bytes) (marks_at bytes) (length_words_at 4 104 bytes) (words_in_range 4 104 bytes fits)
    (bits_end (job_in bytes) (issued_in bytes) (marks_at bytes) (are_marks bytes s.marks).come)

spelled_marks : (bytes : List ℕ) → IsBytes bytes → IsSound bytes → is_layout_2 bytes ≡ true → IsMarkSound bytes → spelling (state_marked bytes) ≡ bytes
spelled_marks bytes fits s two m =
    let floor = (are_marks bytes m.marks).floor in
    let number = ap (λ l. bytes_of w64 (issued_in bytes) ++ l) (behind_number bytes fits m.exact) ∙ piece64 56 bytes fits (omega (arith, s.long)) in
    let job = ap (λ l. job_bytes (job_in bytes) ++ l) number ∙ job_pieces bytes fits s.long (codes_known bytes s.ranges) in
    let key = ap (λ l. key_bytes (key_in bytes) ++ l) job ∙ key_pieces bytes fits s.long in
    spelled_out (state_marked bytes)
    ∙ ap (λ ms. codes "FCV2" ++ (key_bytes (key_in bytes)
    ++ (job_bytes (job_in bytes) ++ (bytes_of w64 (issued_in bytes)
    ++ (words (place_in bytes) ++ (bytes_of w64 (floor_of (job_in bytes).window (issued_in bytes)) ++ words ms)))))) (marks_same bytes fits m)
    ∙ ap (λ n. codes "FCV2" ++ (key_bytes (key_in bytes)
    ++ (job_bytes (job_in bytes) ++ (bytes_of w64 (issued_in bytes) ++ (words (place_in bytes) ++ (bytes_of w64 n ++ words (marks_at bytes)))))))
    (sym floor)
    ∙ ap (λ l. codes "FCV2" ++ l) key
    ∙ magic_is bytes two

or_else : (a b : Bool) → (a || b) ≡ true → a ≡ false → b ≡ true
or_else true b e f = absurd cc
or_else false b e f = e

pub spelled : (bytes : List ℕ) → IsBytes bytes → faults_of bytes ≡ [] → is_layout_1 bytes ≡ false → spelling (state_in bytes) ≡ bytes
spelled bytes fits e one =
    let whole = is_whole bytes e in
    let two = or_else (is_layout_1 bytes) (is_layout_2 bytes) whole.front.layout one in
    ap (λ b. spelling (if b then state_listed bytes else state_marked bytes)) one
    ∙ spelled_marks bytes fits whole.front two (whole.marks one)

pub said_by_list : (bytes : List ℕ) → is_layout_1 bytes ≡ true → state_in bytes ≡ state_listed bytes
said_by_list bytes one = ap (λ b. if b then state_listed bytes else state_marked bytes) one

-- what both layouts say of a state keeps its ranges, where its marks are those of a job
kept_by : (bytes marks : List ℕ) → IsBytes bytes → IsSound bytes → (s : State)
    → s ≡ state_by (key_in bytes) (job_in bytes) (issued_in bytes) (place_in bytes) marks → marks_in s ≡ marks
    → has_come_by (job_in bytes) (issued_in bytes) marks ≡ true → IsState s
kept_by bytes marks fits sound s is same come =
    let said : State = state_by (key_in bytes) (job_in bytes) (issued_in bytes) (place_in bytes) marks in
    let again : marks_in said ≡ marks = ap marks_in (sym is) ∙ same in
    let made : IsState said = record {
      key = has_key bytes sound.ranges;
      run = field64_below 4 bytes fits;
      limits = within bytes sound.ranges;
      seed = field64_below 40 bytes fits;
      pattern = field8_below 22 bytes fits;
      words = length_words_at 4 64 bytes;
      word = words_in_range 4 64 bytes fits;
      come = rw again come;
      counted = ap (counted_by (job_in bytes).window (issued_in bytes)) (sym again);
    } in
    subst IsState (sym is) made

keeps_marked : (bytes : List ℕ) → IsBytes bytes → IsSound bytes → IsMarkSound bytes → IsState (state_marked bytes)
keeps_marked bytes fits sound m =
    kept_by bytes (marks_at bytes) fits sound (state_marked bytes) refl (marks_same bytes fits m) (are_marks bytes m.marks).come

-- the list of layout 1 counts what its marks count
pub listed_come : (job : JobParts) (issued : ℕ) (xs : List ℕ) → job.window ≤ MAX_WINDOW → has_come job issued xs ≡ true
    → has_come_by job issued (marks_of (has (counted job.window issued xs)) (floor_of job.window issued)) ≡ true
unfolding has_come has_come_by
listed_come job issued xs small e =
    let parts = and_parts (leb issued job.total) (is_possible job.depth job.window issued xs) e in
    and_from _ _ parts.0 (possible_as_listed job.depth job.window issued xs small parts.1)

abbrev marks_listed : List ℕ → List ℕ
marks_listed bytes = marks_of (has (counted (job_in bytes).window (issued_in bytes) (completions_in bytes))) (floor_of (job_in bytes).window (issued_in bytes))

pub listed_as_marked : (bytes : List ℕ) → has_ranges bytes ≡ true
    → state_listed bytes ≡ state_by (key_in bytes) (job_in bytes) (issued_in bytes) (place_in bytes) (marks_listed bytes)
listed_as_marked bytes ranges =
    ap (λ (c : List ℕ). let s : State = record { key = key_in bytes; job = job_in bytes; issued = issued_in bytes; place = place_in bytes; counted = c } in s)
    (sym (counted_as_listed (job_in bytes).window (issued_in bytes) (completions_in bytes) (narrow bytes ranges)))

pub come_as_listed : (bytes : List ℕ) → has_ranges bytes ≡ true → has_come (job_in bytes) (issued_in bytes) (completions_in bytes) ≡ true
    → has_come_by (job_in bytes) (issued_in bytes) (marks_listed bytes) ≡ true
come_as_listed bytes ranges come = listed_come (job_in bytes) (issued_in bytes) (completions_in bytes) (narrow bytes ranges) come

keeps_listed : (bytes : List ℕ) → IsBytes bytes → IsSound bytes → IsListSound bytes → IsState (state_listed bytes)
keeps_listed bytes fits sound l =
    kept_by bytes (marks_listed bytes) fits sound (state_listed bytes) (listed_as_marked bytes sound.ranges) refl
    (come_as_listed bytes sound.ranges l.come)

pub keeps : (bytes : List ℕ) → IsBytes bytes → faults_of bytes ≡ [] → IsState (state_in bytes)
keeps bytes fits e =
    let whole = is_whole bytes e in
    elim (cases_Bool (is_layout_1 bytes)) [
      | inl one ↦ subst IsState (sym (said_by_list bytes one)) (keeps_listed bytes fits whole.front (whole.list one))
      | inr two ↦ subst IsState (sym (ap (λ b. if b then state_listed bytes else state_marked bytes) two))
          (keeps_marked bytes fits whole.front (whole.marks two))
    ]

-- ---- what follows bytes without a fault

count_before : (bytes rest : List ℕ) → 100 ≤ length bytes → count_in (bytes ++ rest) ≡ count_in bytes
unfolding field number_in bytes_of
count_before bytes rest long =
    ap (λ l. from_be_bytes w32 (take 4 l)) (drop-append-le 96 bytes rest (omega (arith, long)))
    ∙ ap (from_be_bytes w32) (take-append-le 4 (drop 96 bytes) rest (omega (arith, length-drop 96 bytes, long)))

layout_before : (bytes rest : List ℕ) → 100 ≤ length bytes → is_layout_1 (bytes ++ rest) ≡ is_layout_1 bytes
unfolding is_layout_1
layout_before bytes rest long = ap (λ l. pointwise eqb (codes "FCV1") l) (take-append-le 4 bytes rest (omega (arith, long)))

nothing : (xs : List ℕ) → length xs ≡ 0 → xs ≡ []
nothing [] e = refl
nothing (x ∷ xs) e = absurd (omega (arith, e))

pub no_prefix : (bytes rest : List ℕ) → faults_of bytes ≡ [] → faults_of (bytes ++ rest) ≡ [] → rest ≡ []
no_prefix bytes rest e f =
    let a = is_whole bytes e in
    let b = is_whole (bytes ++ rest) f in
    let same = layout_before bytes rest a.front.long in
    let long = length-append bytes rest in
    elim (cases_Bool (is_layout_1 bytes)) [
      | inl one ↦ nothing rest (omega (arith, (a.list one).exact, (b.list (same ∙ one)).exact, count_before bytes rest a.front.long, long))
      | inr two ↦ nothing rest (omega (arith, (a.marks two).exact, (b.marks (same ∙ two)).exact, long))
    ]
