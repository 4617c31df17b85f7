-- The state of a job that is within its limits is a state.
use Rattle.std.proofs.Common.{◌≡◌, refl, sym, ℕ, ◌+◌, ◌^◌, ◌<◌, ◌≤◌, arith, mod-lt, true, ◌&&◌, List, [], ◌∷◌}
use Rattle.std.specs.Prelude.{nat_le}
use Rattle.std.proofs.lemmas.Bool.{and_parts, and_from, ltb-true, le-leb, lt-ltb, leb-true}
use Rattle.std.proofs.lemmas.List.{length-append}
use Rattle.fc_base.specs.declared.limits.TheConstants.{MAX_DEPTH, MAX_JOBS, MAX_SERVERS, MAX_WINDOW}
use Rattle.fc_base.specs.declared.record.JobParts.{JobParts}
use Rattle.fc_base.specs.JobParts.{is_within_limits, has_block_size, has_region, has_queue, has_pattern}
use Rattle.fc_base.specs.Counted.{is_possible}
use Rattle.fc_base.specs.CountLaws.{counted_as_listed, possible_as_listed}
use Rattle.job_file.specs.declared.job.Job.{Job}
use Rattle.job_file.specs.Laws.{FitsItsWidths}
use Rattle.write_order.specs.Words.{word}
use Rattle.engine.specs.Counting.{ComesToPossible}
use Rattle.engine.specs.History as window
use Rattle.engine.specs.WindowRules as rules
use Rattle.messages.specs.Ranges.{is_run, is_word}
use Rattle.verify_state.specs.State.{IsState, has_come_by}
use Rattle.engine.specs.Legal.{KeepsToItsJob}
use Rattle.server_core.specs.Request.{Request}
use Rattle.server_core.specs.Run.{Work, origin_of, history}
use Rattle.server_core.specs.Taken.{job_state}
use Rattle.server_core.specs.Laws.{HistoriesAreLegal}

word_below : (seed n : ℕ) → word seed n < 2 ^ 64
unfolding word
word_below seed n = mod-lt _ (omega arith)

narrow : (job : JobParts) → is_within_limits job ≡ true → job.window ≤ MAX_WINDOW
narrow job h =
    let most = and_parts (has_block_size job && has_region job && has_queue job) (has_pattern job) h in
    let queue = and_parts (has_block_size job && has_region job) (has_queue job) most.0 in
    let parts = and_parts (nat_le 1 job.depth && nat_le job.depth MAX_DEPTH) (nat_le job.depth job.window && nat_le job.window MAX_WINDOW) queue.1 in
    leb-true job.window MAX_WINDOW (and_parts (nat_le job.depth job.window) (nat_le job.window MAX_WINDOW) parts.1).1

one_more : (k : ℕ) (h : List window.Event) → window.issued (window.issue k ∷ h) ≡ window.issued h + 1
one_more k h = length-append (window.issues h) (k ∷ [])

issued_within : (job : JobParts) (depth win : ℕ) (h : List window.Event) → rules.IsLegal depth win h → KeepsToItsJob job h → window.issued h ≤ job.total
issued_within job depth win [] l k = omega arith
issued_within job depth win (window.issue i ∷ h) l k =
    let more = one_more i h in
    let next : i ≡ window.issued h = l.1 in
    let below : i < job.total = k.1 in
    omega arith
issued_within job depth win (window.done i ∷ h) l k = issued_within job depth win h l.0 k
issued_within job depth win (window.fail i ∷ h) l k = issued_within job depth win h l.0 k

run_parts : (r : ℕ) → is_run r ≡ true → (nat_le 1 r ≡ true) × (is_word r ≡ true)
run_parts r h = and_parts (nat_le 1 r) (is_word r) h

pub run_below : (r : ℕ) → is_run r ≡ true → r < 2 ^ 64
run_below r h = ltb-true r (2 ^ 64) (run_parts r h).1

pub state_fits : HistoriesAreLegal → ComesToPossible → (w : Work) (j : ℕ) (job : Job) (before : List Request) → is_run w.run ≡ true → w.server < MAX_SERVERS
    → j < MAX_JOBS → is_within_limits job.rec ≡ true → FitsItsWidths job → IsState (job_state (origin_of w j job) before)
unfolding job_state has_come_by
state_fits legal_law possible_law w j job before r s i limits widths =
    let h = history (origin_of w j job) before in
    let legal = legal_law (origin_of w j job) before limits in
    let fewer = issued_within job.rec job.rec.depth job.rec.window h legal.by_window legal.by_job in
    let possible : is_possible job.rec.depth job.rec.window (window.issued h) (window.recent job.rec.window h) ≡ true =
    possible_law job.rec.depth job.rec.window h legal.by_window in
    let one = (run_parts w.run r).0 in
    let n = narrow job.rec limits in
    record {
      key = and_from _ _ (and_from _ _ one (lt-ltb w.server MAX_SERVERS s)) (lt-ltb j MAX_JOBS i);
      run = run_below w.run r;
      limits = limits;
      seed = widths.seed;
      pattern = widths.pattern;
      words = refl;
      word = (word_below _ _, (word_below _ _, (word_below _ _, (word_below _ _, tt))));
      come = and_from _ _ (le-leb (window.issued h) job.rec.total fewer)
          (possible_as_listed job.rec.depth job.rec.window (window.issued h) (window.recent job.rec.window h) n possible);
      counted = sym (counted_as_listed job.rec.window (window.issued h) (window.recent job.rec.window h) n);
    }
