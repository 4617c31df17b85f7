-- Where bytes of notices are a front of others, so are the notices.
use Rattle.std.proofs.Common.{◌≡◌, ℕ, ◌+◌, ◌*◌, ◌-◌, ◌^◌, ◌<◌, ◌≤◌, List, [], ◌∷◌, ◌++◌, length, length-append, take, drop, map}
use Rattle.std.proofs.Common.{append-nil, refl, sym, ap, ◌∙◌, subst, inl, inr, arith}
use Rattle.std.specs.Prelude.{not, nat_lt, nat_le, ◌&&◌, IsTrue}
use Rattle.std.specs.Int.{w64}
use Rattle.std.proofs.lemmas.Bool.{and_parts, cases_lt, ltb-true, leb-true}
use Rattle.std.proofs.lemmas.List.{take_at, drop_at, length_push}
use Rattle.std.proofs.Math.Seq.{take-append-add}
use Rattle.fc_base.specs.declared.limits.TheConstants.{MAX_BLOCKS, MAX_WRITES}
use Rattle.fc_base.specs.declared.record.JobParts.{JobParts}
use Rattle.fc_base.specs.JobParts.{is_within_limits, has_block_size, has_region, has_queue, has_pattern}
use Rattle.fc_base.specs.Counted.{has}
use Rattle.fc_base.specs.Layouts.{bytes_of}
use Rattle.engine.specs.History.{Event, issue, done, fail, issues, failures, issued, is_done, in_flight, open_writes}
use Rattle.engine.specs.Sets.{InFlightIsNotDone, OpenIsNotFailed}
use Rattle.engine.specs.Legal.{IsLegal}
use Rattle.engine.specs.Running.{Origin}
use Rattle.targets.specs.declared.notice.Notice.{Notice}
use Rattle.targets.specs.declared.notice.Notice.TheVariants.{Done, Failed, Take}
use Rattle.targets.specs.Notices.{notice_bytes, told_bytes}
use Rattle.targets.specs.Runs.{Follows, IsHistory}
use Rattle.targets.specs.Fronts.{FrontsAreBehind}
use Rattle.targets.proofs.NoticeLemmas.{first_number, behind_it}
use Rattle.targets.proofs.FrontLemmas.{older_is_legal}

-- ---- two notices

-- The two numbers of a notice.
abbrev kind : Notice → ℕ
kind (Done k) = 1
kind (Failed k) = 2
kind Take = 3

abbrev write : Notice → ℕ
write (Done k) = k
write (Failed k) = k
write Take = 0

two_numbers : (n : Notice) → (notice_bytes n ≡ bytes_of w64 (kind n) ++ bytes_of w64 (write n)) × (kind n < 2 ^ 64)
two_numbers (Done k) = (refl, omega arith)
two_numbers (Failed k) = (refl, omega arith)
two_numbers Take = (refl, omega arith)

by_numbers : (n m : Notice) → kind n ≡ kind m → write n ≡ write m → n ≡ m
by_numbers (Done k) (Done j) kinds writes = ap Done writes
by_numbers (Failed k) (Failed j) kinds writes = ap Failed writes
by_numbers Take Take kinds writes = refl
by_numbers (Done k) (Failed j) kinds writes = absurd cc
by_numbers (Done k) Take kinds writes = absurd cc
by_numbers (Failed k) (Done j) kinds writes = absurd cc
by_numbers (Failed k) Take kinds writes = absurd cc
by_numbers Take (Done j) kinds writes = absurd cc
by_numbers Take (Failed j) kinds writes = absurd cc

-- Bytes are of one notice.
one_notice : (n m : Notice) → write n < 2 ^ 64 → write m < 2 ^ 64 → notice_bytes n ≡ notice_bytes m → n ≡ m
one_notice n m n_small m_small same =
    let own = two_numbers n in
    let other = two_numbers m in
    let bytes = notice_bytes n in
    let rest = bytes_of w64 (write n) in
    let kinds : kind n ≡ kind m =
    sym (first_number bytes rest (kind n) own.1 own.0) ∙ first_number bytes (bytes_of w64 (write m)) (kind m) other.1 (same ∙ other.0) in
    let rests : rest ≡ bytes_of w64 (write m) =
    sym (behind_it bytes rest (kind n) own.0) ∙ behind_it bytes (bytes_of w64 (write m)) (kind m) (same ∙ other.0) in
    let writes : write n ≡ write m =
    sym (first_number rest [] (write n) n_small (sym (append-nil rest)))
    ∙ first_number rest [] (write m) m_small (rests ∙ sym (append-nil (bytes_of w64 (write m)))) in
    by_numbers n m kinds writes

-- ---- lists of them

notice_long : (n : Notice) → length (notice_bytes n) ≡ 16
unfolding bytes_of
notice_long (Done k) = refl
notice_long (Failed k) = refl
notice_long Take = refl

told_long : (ns : List Notice) → length (told_bytes ns) ≡ 16 * length ns
told_long [] = refl
told_long (n ∷ ns) = omega (arith, length-append (told_bytes ns) (notice_bytes n), notice_long n, told_long ns)

abbrev AllSmall : List Notice → Type 0
AllSmall [] = Unit {0}
AllSmall (n ∷ ns) = (write n < 2 ^ 64) × AllSmall ns

none_long : {X : Type 0} (xs : List X) → length xs ≡ 0 → xs ≡ []
none_long [] none = refl
none_long (x ∷ xs) none = absurd (omega (arith, none))

-- Two lists of which neither is longer have the same last notice, and the same before it.
record AreEven (m n : Notice) (ms ns : List Notice) : Type 0 where
  pub even : length ns ≡ length ms
  pub older : told_bytes ns ≡ told_bytes ms
  pub newest : notice_bytes n ≡ notice_bytes m

are_even : (m n : Notice) (ms ns : List Notice) (rest : List ℕ) → length ns ≤ length ms → told_bytes (n ∷ ns) ≡ told_bytes (m ∷ ms) ++ rest
    → AreEven m n ms ns
are_even m n ms ns rest no_longer is =
    let long = length (told_bytes ns) in
    let lengths : length (told_bytes (n ∷ ns)) ≡ length (told_bytes (m ∷ ms)) + length rest =
    ap length is ∙ length-append (told_bytes (m ∷ ms)) rest in
    let even : length ns ≡ length ms = omega (arith, no_longer, lengths, told_long (n ∷ ns), told_long (m ∷ ms)) in
    let none : rest ≡ [] = none_long rest (omega (arith, lengths, even, told_long (n ∷ ns), told_long (m ∷ ms))) in
    let same_long : length (told_bytes ms) ≡ long = omega (arith, even, told_long ns, told_long ms) in
    let parts : told_bytes ns ++ notice_bytes n ≡ told_bytes ms ++ notice_bytes m =
    is ∙ ap (λ l. told_bytes (m ∷ ms) ++ l) none ∙ append-nil (told_bytes (m ∷ ms)) in
    record {
      even = even;
      older = sym (take_at (told_bytes ns) (notice_bytes n) long refl) ∙ ap (take long) parts ∙ take_at (told_bytes ms) (notice_bytes m) long same_long;
      newest = sym (drop_at (told_bytes ns) (notice_bytes n) long refl) ∙ ap (drop long) parts ∙ drop_at (told_bytes ms) (notice_bytes m) long same_long;
    }

-- Without its last notice a longer list still begins with the other.
still_front : (n : Notice) (first ns : List Notice) (rest : List ℕ) → length first ≤ length ns → told_bytes (n ∷ ns) ≡ told_bytes first ++ rest
    → (left : ℕ) × (told_bytes ns ≡ told_bytes first ++ take left rest)
still_front n first ns rest longer is =
    let long = length (told_bytes ns) in
    let left = long - length (told_bytes first) in
    let split : long ≡ length (told_bytes first) + left = omega (arith, longer, told_long ns, told_long first) in (
      left,
      sym (take_at (told_bytes ns) (notice_bytes n) long refl)
          ∙ ap (take long) is
          ∙ ap (λ i. take i (told_bytes first ++ rest)) split
          ∙ take-append-add (told_bytes first) rest left,
    )

front_by : (first notices : List Notice) (rest : List ℕ) → AllSmall first → AllSmall notices → told_bytes notices ≡ told_bytes first ++ rest
    → (more : List Notice) × (notices ≡ more ++ first)
front_by [] notices rest f_small n_small is = (notices, sym (append-nil notices))
front_by (m ∷ ms) [] rest f_small n_small is =
    absurd (omega (arith, ap length is, length-append (told_bytes (m ∷ ms)) rest, told_long (m ∷ ms)))
front_by (m ∷ ms) (n ∷ ns) rest f_small n_small is = elim (cases_lt (length ms) (length ns)) [
  | inl less ↦
      let still = still_front n (m ∷ ms) ns rest (omega (arith, less)) is in
      let front = front_by (m ∷ ms) ns (take still.0 rest) f_small n_small.1 still.1 in
      (n ∷ front.0, ap (λ l. n ∷ l) front.1)
  | inr ge ↦
      let both = are_even m n ms ns rest ge is in
      let front = front_by ms ns [] f_small.1 n_small.1 (both.older ∙ sym (append-nil (told_bytes ms))) in
      let none : front.0 ≡ [] = none_long front.0 (omega (arith, both.even, ap length front.1, length-append front.0 ms)) in
      let same : ns ≡ ms = front.1 ∙ ap (λ l. l ++ ms) none in
      ([], ap (λ l. n ∷ l) same ∙ ap (λ i. i ∷ ms) (one_notice n m n_small.0 f_small.0 both.newest))
]

-- ---- and their numbers are small

few_writes : (job : JobParts) → IsTrue (is_within_limits job) → job.total ≤ MAX_WRITES
few_writes job limits =
    let three = and_parts (has_block_size job && has_region job && has_queue job) (has_pattern job) limits in
    let two = and_parts (has_block_size job && has_region job) (has_queue job) three.0 in
    let region = and_parts (has_block_size job) (has_region job) two.0 in
    let total = and_parts (nat_le 1 job.blocks && nat_le job.blocks MAX_BLOCKS) (nat_le 1 job.total && nat_le job.total MAX_WRITES) region.1 in
    leb-true job.total MAX_WRITES (and_parts (nat_le 1 job.total) (nat_le job.total MAX_WRITES) total.1).1

issued_few : (job : JobParts) (h : List Event) → IsLegal job h → issued h ≤ job.total
issued_few job [] legal = omega arith
issued_few job (issue k ∷ h) legal = omega (arith, length_push (issues h) k, legal.by_window.1, legal.by_job.1)
issued_few job (done k ∷ h) legal = issued_few job h (older_is_legal job (done k) h legal)
issued_few job (fail k ∷ h) legal = issued_few job h (older_is_legal job (fail k) h legal)

open_is_small : InFlightIsNotDone → OpenIsNotFailed → (job : JobParts) (h : List Event) (k : ℕ) → IsTrue (is_within_limits job) → IsLegal job h
    → IsTrue (has (open_writes h) k) → k < 2 ^ 64
open_is_small flying opened job h k limits legal is =
    let flies = and_parts (has (in_flight h) k) (not (has (failures h) k)) (sym (opened h k) ∙ is) in
    let parts = and_parts (nat_lt k (issued h)) (not (is_done h k)) (sym (flying job.depth job.window h legal.by_window k) ∙ flies.0) in
    omega (arith, ltb-true k (issued h) parts.0, issued_few job h legal, few_writes job limits)

legal_behind : (job : JobParts) (writes : List ℕ) (h : List Event) → IsLegal job (map issue writes ++ h) → IsLegal job h
legal_behind job [] h legal = legal
legal_behind job (k ∷ writes) h legal = legal_behind job writes h (older_is_legal job (issue k) (map issue writes ++ h) legal)

small_by : InFlightIsNotDone → OpenIsNotFailed → (origin : Origin) (n : Notice) (before h : List Event) → IsTrue (is_within_limits origin.job)
    → Follows origin n before h → write n < 2 ^ 64
small_by flying opened origin (Done k) before h limits x =
    let legal = legal_behind origin.job x.writes (done k ∷ before) (subst (IsLegal origin.job) x.events x.legal) in
    open_is_small flying opened origin.job before k limits (older_is_legal origin.job (done k) before legal) legal.by_window.1
small_by flying opened origin (Failed k) before h limits x =
    let legal = legal_behind origin.job x.writes (fail k ∷ before) (subst (IsLegal origin.job) x.events x.legal) in
    open_is_small flying opened origin.job before k limits (older_is_legal origin.job (fail k) before legal) legal.by_window.1
small_by flying opened origin Take before h limits x = absurd x

all_small : InFlightIsNotDone → OpenIsNotFailed → (origin : Origin) (notices : List Notice) (h : List Event) → IsTrue (is_within_limits origin.job)
    → IsHistory origin notices h → AllSmall notices
all_small flying opened origin [] h limits is = tt
all_small flying opened origin (n ∷ ns) h limits is =
    (small_by flying opened origin n is.0 h limits is.2, all_small flying opened origin ns is.0 limits is.1)

pub fronts_are_behind : InFlightIsNotDone → OpenIsNotFailed → FrontsAreBehind
fronts_are_behind flying opened origin first notices behind ahead rest limits first_is is told =
    let front =
    front_by first notices rest (all_small flying opened origin first behind limits first_is) (all_small flying opened origin notices ahead limits is) told in
    record { more = front.0; front = front.1; first_history = first_is; history = is }
