-- Writes that are issued and done one after the other.
use Rattle.std.proofs.Common.{◌≡◌, ◌<◌, ◌≤◌, ℕ, zero, suc, ◌==◌, Bool, true, false, ◌||◌, ◌&&◌, not, List}
use Rattle.std.proofs.Common.{[], ◌∷◌, ◌++◌, filter, refl, sym, ap, subst, ◌∙◌, inl, inr, arith, add-one}
use Rattle.std.specs.Prelude.{nat_lt, nat_le, IsTrue}
use Rattle.std.specs.List.{fold}
use Rattle.std.proofs.lemmas.Bool.{and_parts, cases_lt, leb-true}
use Rattle.std.proofs.lemmas.Bool.Decides.{nat_tests}
use Rattle.std.proofs.lemmas.List.Folds.{list_any-append}
use Rattle.std.proofs.lemmas.List.Sums.{fold-append}
use Rattle.fc_base.specs.declared.limits.TheConstants.{MAX_DEPTH, MAX_WINDOW}
use Rattle.fc_base.specs.declared.record.JobParts.{JobParts}
use Rattle.fc_base.specs.declared.numbers.Key.{Key}
use Rattle.fc_base.specs.Counted.{numbers_below}
use Rattle.fc_base.specs.JobParts.{has_block_size, has_pattern, has_queue, has_region, is_within_limits}
use Rattle.disk_model.specs.File.{File, with_block}
use Rattle.write_order.specs.Blocks.{block_of}
use Rattle.write_order.specs.Stamps.{bytes_of}
use Rattle.engine.specs.History.{Event, issue, done, completions, is_done}
use Rattle.engine.specs.Kept.{after_issue}
use Rattle.engine.specs.declared.issue.Issue.{Issue}
use Rattle.engine.specs.declared.issue.Issue.TheVariants.{Write, Finished}
use Rattle.engine.specs.declared.issue.Ticket.{Ticket}
use Rattle.engine.specs.Running.{Origin, Running, StandsFor, Adds, after_done}
use Rattle.engine.specs.Answers.{answer_by, answer_of, ticket_of, after_answer}

-- The history of the first n writes.
abbrev pub one_by_one : ℕ → List Event
one_by_one zero = []
one_by_one (suc n) = done n ∷ issue n ∷ one_by_one n

-- The file once the first n writes were carried out, and with one more.
abbrev pub written : Key → JobParts → File → ℕ → File
written key job file n = fold (λ now k. with_block (block_of job k) (bytes_of key job k) now) file (numbers_below n)

pub written_next : (key : Key) (job : JobParts) (file : File) (n : ℕ)
    → written key job file (suc n) ≡ with_block (block_of job n) (bytes_of key job n) (written key job file n)
written_next key job file n = fold-append (λ now k. with_block (block_of job k) (bytes_of key job k) now) file (numbers_below n) (n ∷ [])

-- One more number is below the next.
below_next : (k n : ℕ) → (nat_lt k n || n == k) ≡ nat_lt k (suc n)
below_next k n = grind (arith, nat_tests)

or_false : (a b : Bool) → (a || (b || false)) ≡ (a || b)
or_false true b = refl
or_false false true = refl
or_false false false = refl

-- All of them are done, and no other write is.
pub all_done : (n k : ℕ) → is_done (one_by_one n) k ≡ nat_lt k n
all_done zero k = grind (arith, nat_tests)
all_done (suc n) k =
    list_any-append (λ j. j == k) (completions (one_by_one n)) (n ∷ []) ∙ or_false (is_done (one_by_one n) k) (n == k)
    ∙ ap (λ b. b || (n == k)) (all_done n k) ∙ below_next k n

-- Some write of a job may be in flight.
pub is_deep : (parts job : JobParts) → parts ≡ job → IsTrue (is_within_limits parts) → 1 ≤ job.depth
is_deep parts job same limits =
    let within = rw same at limits in
    let all = and_parts (has_block_size job && has_region job && has_queue job) (has_pattern job) within in
    let queue = (and_parts (has_block_size job && has_region job) (has_queue job) all.0).1 in
    let depth = (and_parts (nat_le 1 job.depth && nat_le job.depth MAX_DEPTH) (nat_le job.depth job.window && nat_le job.window MAX_WINDOW) queue).0 in
    leb-true 1 job.depth (and_parts (nat_le 1 job.depth) (nat_le job.depth MAX_DEPTH) depth).0

-- An engine whose writes were all issued and done, one after the other.
pub record IsSerial (origin : Origin) (r : Running) : Type 0 where
  pub stands : StandsFor r (one_by_one r.kept.issued)
  pub origin_is : r.origin ≡ origin
  pub stopped : r.stopped ≡ false
  pub failed : r.failed ≡ false
  pub in_flight : r.kept.in_flight ≡ []
  pub most : r.kept.issued ≤ origin.job.total

-- The next write is issued where no write is in flight and one is left, and else the job has ended.
is_next : (origin : Origin) (next : ℕ) → 1 ≤ origin.job.depth → next < origin.job.total → answer_by origin false false next [] ≡ Write (ticket_of origin next)
is_next origin next deep lt = grind (arith, nat_tests)

is_last : (origin : Origin) (next : ℕ) → origin.job.total ≤ next → answer_by origin false false next [] ≡ Finished
is_last origin next le = grind (arith, nat_tests)

-- What such an engine answers.
answers : (origin : Origin) (r : Running) → IsSerial origin r → answer_of r ≡ answer_by origin false false r.kept.issued []
answers origin r s = cc (s.origin_is, s.stopped, s.failed, s.in_flight)

-- A write that it issues is the next one.
pub write_is : (origin : Origin) (r : Running) (ticket : Ticket) → IsSerial origin r → 1 ≤ origin.job.depth → Write ticket ≡ answer_of r
    → (ticket ≡ ticket_of origin r.kept.issued) × (r.kept.issued < origin.job.total)
write_is origin r ticket s deep is = elim (cases_lt r.kept.issued origin.job.total) [
  | inl lt ↦ let next = is ∙ answers origin r s ∙ is_next origin r.kept.issued deep lt in let same : ticket ≡ ticket_of origin r.kept.issued = cc in (same, lt)
  | inr le ↦ let last = is ∙ answers origin r s ∙ is_last origin r.kept.issued le in absurd cc
]

-- Where it issues none, all were issued.
pub all_issued : (origin : Origin) (r : Running) (answer : Issue) → IsSerial origin r → 1 ≤ origin.job.depth → answer ≡ answer_of r → ((t : Ticket)
    → answer ≡ Write t → ⊥)
    → (answer ≡ Finished) × (r.kept.issued ≡ origin.job.total)
all_issued origin r answer s deep is none = elim (cases_lt r.kept.issued origin.job.total) [
  | inl lt ↦ absurd (none _ (is ∙ answers origin r s ∙ is_next origin r.kept.issued deep lt))
  | inr le ↦ (is ∙ answers origin r s ∙ is_last origin r.kept.issued le, omega (arith, s.most))
]

without_it : (n : ℕ) → filter (λ j. not (j == n)) (n ∷ []) ≡ []
without_it n = grind (arith, nat_tests)

-- What one more write leaves.
pub one_more : (origin : Origin) (old mid new : Running) (ticket : Ticket) → IsSerial origin old → 1 ≤ origin.job.depth
    → Write ticket ≡ answer_of old → mid ≡ after_answer old (Write ticket) → Adds old mid (issue ticket.seq)
    → new ≡ after_done mid ticket.seq → Adds mid new (done ticket.seq)
    → IsSerial origin new × (new.kept.issued ≡ suc old.kept.issued)
one_more origin old mid new ticket s deep is mid_is issued new_is ended =
    let next = write_is origin old ticket s deep is in
    let n = old.kept.issued in
    let seq_is : ticket.seq ≡ n = ap (λ (t : Ticket). t.seq) next.0 in
    let whole : new ≡ after_done (record old { kept = after_issue old.kept }) n = cc in
    let count : new.kept.issued ≡ suc n = ap (λ (r : Running). r.kept.issued) whole ∙ add-one n in
    let stands : StandsFor new (done ticket.seq ∷ issue ticket.seq ∷ one_by_one n) = ended _ (issued _ s.stands) in (
      record {
        stands = subst (λ m. StandsFor new (one_by_one m)) (sym count) (subst (λ k. StandsFor new (done k ∷ issue k ∷ one_by_one n)) seq_is stands);
        origin_is = ap (λ (r : Running). r.origin) whole ∙ s.origin_is;
        stopped = ap (λ (r : Running). r.stopped) whole ∙ s.stopped;
        failed = ap (λ (r : Running). r.failed) whole ∙ s.failed;
        in_flight = ap (λ (r : Running). r.kept.in_flight) whole ∙ ap (λ writes. filter (λ j. not (j == n)) (writes ++ n ∷ [])) s.in_flight ∙ without_it n;
        most = omega (arith, count, next.1);
      },
      count,
    )
