-- What is read of a spelling.
use Rattle.std.proofs.Common.{◌≡◌, ℕ, ◌+◌, ◌*◌, ◌^◌, ◌<◌, ◌≤◌, zero, suc, true, List, [], ◌∷◌}
use Rattle.std.proofs.Common.{◌++◌, length, take, drop, get_or, sym, refl, ap, ◌∙◌, arith, false}
use Rattle.std.specs.List.{AllByRecursion}
use Rattle.std.specs.Int.{w8, w64, from_be_bytes}
use Rattle.fc_base.specs.Layouts.{bytes_of, number_in}
use Rattle.std.specs.Prelude.{nat_le, nat_lt, ◌&&◌, if◌then◌else◌}
use Rattle.std.proofs.lemmas.Bool.{and_parts, leb-true, ltb-true}
use Rattle.std.proofs.lemmas.Nat.{from_be_bytes-to_be_bytes_4, from_be_bytes-to_be_bytes_8}
use Rattle.std.proofs.lemmas.List.{drop-drop, drop_at, append-nil, length-append}
use Rattle.std.proofs.lemmas.List.FromFn.{fill_by_all}
use Rattle.fc_base.specs.declared.limits.TheConstants.{MAX_JOBS, MAX_SERVERS, MAX_WRITES}
use Rattle.fc_base.specs.declared.numbers.Key.{Key}
use Rattle.fc_base.specs.declared.record.JobParts.{JobParts}
use Rattle.fc_base.specs.declared.record.Kind.{Kind}
use Rattle.fc_base.specs.declared.record.Kind.TheVariants.{Sequential, RandomMap, RandomFree}
use Rattle.fc_base.specs.declared.record.Verify.{Verify}
use Rattle.fc_base.specs.declared.record.Verify.TheVariants.{Stamp, Pattern}
use Rattle.fc_base.specs.Marks.{counted_by, is_possible_by}
use Rattle.fc_base.specs.Counted.{has}
use Rattle.fc_base.specs.MarkLaws.{marks_are_words}
use Rattle.verify_state.specs.Codes.{kind_code, verify_code, kind_of, verify_of}
use Rattle.verify_state.specs.State.{State, IsState, state_by, floor_in, marks_in, has_come_by}
use Rattle.verify_state.specs.Spelling.{key_bytes, job_bytes, words, spelling}
use Rattle.verify_state.specs.Reading.{field, words_at, key_in, job_in, issued_in, place_in, floor_at, marks_at}
use Rattle.verify_state.specs.Reading.{is_layout_1, is_layout_2, state_in, state_listed, state_marked}
use Rattle.verify_state.proofs.LimitLemmas.{limits}

-- ---- words

pub length_words : (xs : List ℕ) → length (words xs) ≡ 8 * length xs
unfolding bytes_of
length_words [] = refl
length_words (x ∷ xs) = omega (arith, length_words xs)

word_at : (xs rest : List ℕ) (k : ℕ) → AllByRecursion (λ x. x < 2 ^ 64) xs → k < length xs
    → from_be_bytes w64 (take 8 (drop (8 * k) (words xs ++ rest))) ≡ get_or xs k 0
unfolding bytes_of
word_at [] rest k all lt = absurd (omega arith)
word_at (x ∷ xs) rest zero all lt = from_be_bytes-to_be_bytes_8 x all.0
word_at (x ∷ xs) rest (suc k) all lt =
    let next : 8 * suc k ≡ 8 + 8 * k = omega arith in
    ap (λ n. from_be_bytes w64 (take 8 (drop n (words (x ∷ xs) ++ rest)))) next
    ∙ ap (λ l. from_be_bytes w64 (take 8 l)) (sym (drop-drop (8 * k) 8 (words (x ∷ xs) ++ rest)))
    ∙ word_at xs rest k all.1 (omega arith)

-- words that stand at an offset are read from there
pub words_back : (xs rest bytes : List ℕ) (at : ℕ) → drop at bytes ≡ words xs ++ rest → AllByRecursion (λ x. x < 2 ^ 64) xs → words_at (length xs) at bytes ≡ xs
unfolding field number_in bytes_of
words_back xs rest bytes at stands all = sym (fill_by_all (λ k. field w64 (at + 8 * k) bytes) xs (length xs) 0 refl each)
  where
    each : (k : ℕ) → k < length xs → get_or xs k 0 ≡ field w64 (at + 8 * k) bytes
    each k lt = sym (ap (λ l. from_be_bytes w64 (take 8 l)) (sym (drop-drop (8 * k) at bytes) ∙ ap (drop (8 * k)) stands) ∙ word_at xs rest k all lt)

-- ---- the fields of a spelling

abbrev key_from : ℕ → ℕ → ℕ → Key
key_from run server job = record { run = run; server = server; job = job }

pub key_of : (key : Key) (run server job : ℕ) → run ≡ key.run → server ≡ key.server → job ≡ key.job → key_from run server job ≡ key
key_of key run server job a b c = rw (a, b, c) refl

pub key_back : (s : State) → IsState s → key_in (spelling s) ≡ s.key
unfolding field spelling key_bytes job_bytes number_in bytes_of
key_back s is =
    let front = and_parts (nat_le 1 s.key.run && nat_lt s.key.server MAX_SERVERS) (nat_lt s.key.job MAX_JOBS) is.key in
    let server = ltb-true s.key.server MAX_SERVERS (and_parts (nat_le 1 s.key.run) (nat_lt s.key.server MAX_SERVERS) front.0).1 in
    let job = ltb-true s.key.job MAX_JOBS front.1 in
    key_of s.key _ _ _ (from_be_bytes-to_be_bytes_8 s.key.run is.run) (from_be_bytes-to_be_bytes_4 s.key.server (omega arith))
    (from_be_bytes-to_be_bytes_4 s.key.job (omega arith))

pub kind_back : (kind : Kind) → kind_of (kind_code kind) ≡ kind
kind_back Sequential = refl
kind_back RandomMap = refl
kind_back RandomFree = refl

pub verify_back : (verify : Verify) → verify_of (verify_code verify) ≡ verify
verify_back Stamp = refl
verify_back Pattern = refl

pub one_byte : (b : ℕ) → from_be_bytes w8 (b ∷ []) ≡ b
one_byte b = omega arith

abbrev job_from : Kind → Verify → ℕ → ℕ → ℕ → ℕ → ℕ → ℕ → ℕ → JobParts
job_from kind verify pattern bs blocks total seed depth window =
    record { kind = kind; verify = verify; pattern = pattern; bs = bs; blocks = blocks; total = total; seed = seed; depth = depth; window = window }

job_of : (job : JobParts) (kind : Kind) (verify : Verify) (pattern bs blocks total seed depth window : ℕ) →
    kind ≡ job.kind → verify ≡ job.verify → pattern ≡ job.pattern → bs ≡ job.bs → blocks ≡ job.blocks → total ≡ job.total → seed ≡ job.seed →
    depth ≡ job.depth → window ≡ job.window →
    job_from kind verify pattern bs blocks total seed depth window ≡ job
job_of job kind verify pattern bs blocks total seed depth window a b c d e f g h i = rw (a, b, c, d, e, f, g, h, i) refl

pub job_back : (s : State) → IsState s → job_in (spelling s) ≡ s.job
unfolding field spelling key_bytes job_bytes number_in bytes_of
job_back s is =
    let l = limits s.job is.limits in
    job_of s.job _ _ _ _ _ _ _ _ _
    (ap kind_of (one_byte (kind_code s.job.kind)) ∙ kind_back s.job.kind)
    (ap verify_of (one_byte (verify_code s.job.verify)) ∙ verify_back s.job.verify)
    (one_byte s.job.pattern)
    (from_be_bytes-to_be_bytes_4 s.job.bs (omega (arith, l.bs)))
    (from_be_bytes-to_be_bytes_4 s.job.blocks (omega (arith, l.blocks)))
    (from_be_bytes-to_be_bytes_8 s.job.total (omega (arith, l.total)))
    (from_be_bytes-to_be_bytes_8 s.job.seed is.seed)
    (from_be_bytes-to_be_bytes_4 s.job.depth (omega (arith, l.depth)))
    (from_be_bytes-to_be_bytes_4 s.job.window (omega (arith, l.window)))

pub issued_back : (s : State) → s.issued < 2 ^ 64 → issued_in (spelling s) ≡ s.issued
unfolding field spelling key_bytes job_bytes number_in bytes_of
issued_back s lt = from_be_bytes-to_be_bytes_8 s.issued lt

-- no more writes were issued than the job has
pub issued_few : (s : State) → IsState s → s.issued ≤ s.job.total
unfolding has_come_by
issued_few s is =
    leb-true s.issued s.job.total (and_parts (nat_le s.issued s.job.total) (is_possible_by s.job.depth s.job.window s.issued (marks_in s)) is.come).0

pub issued_limit : (s : State) → IsState s → s.issued ≤ MAX_WRITES
issued_limit s is = omega (arith, issued_few s is, (limits s.job is.limits).total)

-- what stands behind the number issued
behind_issued : (s : State) → drop 64 (spelling s) ≡ words s.place ++ (bytes_of w64 (floor_in s) ++ words (marks_in s))
unfolding spelling key_bytes job_bytes bytes_of
behind_issued s = refl

length_front : (s : State) → length (spelling s) ≡ 64 + length (words s.place ++ (bytes_of w64 (floor_in s) ++ words (marks_in s)))
unfolding spelling key_bytes job_bytes bytes_of
length_front s = omega arith

pub place_back : (s : State) → IsState s → place_in (spelling s) ≡ s.place
place_back s is =
    ap (λ n. words_at n 64 (spelling s)) (sym is.words)
    ∙ words_back s.place (bytes_of w64 (floor_in s) ++ words (marks_in s)) (spelling s) 64 (behind_issued s) is.word

behind_place : (s : State) → IsState s → drop 96 (spelling s) ≡ bytes_of w64 (floor_in s) ++ words (marks_in s)
behind_place s is =
    sym (drop-drop 32 64 (spelling s))
    ∙ ap (drop 32) (behind_issued s)
    ∙ drop_at (words s.place) (bytes_of w64 (floor_in s) ++ words (marks_in s)) 32 (omega (arith, length_words s.place, is.words))

pub floor_back : (s : State) → IsState s → floor_at (spelling s) ≡ floor_in s
unfolding field number_in bytes_of
floor_back s is =
    ap (λ l. from_be_bytes w64 (take 8 l)) (behind_place s is)
    ∙ from_be_bytes-to_be_bytes_8 (floor_in s) (omega (arith, issued_limit s is))

pub marks_back : (s : State) → IsState s → marks_at (spelling s) ≡ marks_in s
unfolding bytes_of
marks_back s is =
    words_back (marks_in s) [] (spelling s) 104
    (sym (drop-drop 8 96 (spelling s)) ∙ ap (drop 8) (behind_place s is) ∙ sym (append-nil (words (marks_in s)))) (marks_are_words (has s.counted) (floor_in s))

pub layout_back : (s : State) → is_layout_2 (spelling s) ≡ true
unfolding is_layout_2 spelling bytes_of
layout_back s = refl

pub other_layout : (s : State) → is_layout_1 (spelling s) ≡ false
unfolding is_layout_1 spelling bytes_of
other_layout s = refl

state_from : (s : State) (key : Key) (job : JobParts) (issued : ℕ) (place marks : List ℕ) →
    key ≡ s.key → job ≡ s.job → issued ≡ s.issued → place ≡ s.place → marks ≡ marks_in s → s.counted ≡ counted_by s.job.window s.issued (marks_in s) →
    state_by key job issued place marks ≡ s
state_from s key job issued place marks a b c d e f = rw (a, b, c, d, e, ← f) refl

pub issued_again : (s : State) → IsState s → issued_in (spelling s) ≡ s.issued
issued_again s is = issued_back s (omega (arith, issued_limit s is))

pub state_back : (s : State) → IsState s → state_in (spelling s) ≡ s
state_back s is =
    ap (λ b. if b then state_listed (spelling s) else state_marked (spelling s)) (other_layout s)
    ∙ state_from s _ _ _ _ _ (key_back s is) (job_back s is) (issued_again s is) (place_back s is) (marks_back s is) is.counted

pub length_back : (s : State) → IsState s → length (spelling s) ≡ 136
unfolding bytes_of
length_back s is =
    omega (
      arith,
      length_front s,
      length-append (words s.place) (bytes_of w64 (floor_in s) ++ words (marks_in s)),
      length-append (bytes_of w64 (floor_in s)) (words (marks_in s)),
      length_words s.place,
      length_words (marks_in s),
      is.words,
    )
