-- What a server's check tells, by computation and by the laws.
use Rattle.std.proofs.Common.{◌≡◌, ◌<◌, ◌≤◌, ℕ, zero, suc, true, false, inl, refl, ap, arith, [], ◌∷◌, None, Some}
use Rattle.std.specs.Prelude.{IsTrue, codes, slice_index}
use Rattle.rand_core.specs.Steps.{u32_at, stream_of, word_bytes}
use Rattle.rand_core.specs.Stream.{fill_bytes}
use Rattle.fc_base.specs.declared.report.ReportParts.{ReportParts}
use Rattle.fc_base.specs.Counted.{has}
use Rattle.job_file.specs.declared.job.Job.{Job}
use Rattle.verify_state.specs.Misfit.{misfit}
use Rattle.write_order.specs.Blocks.{block_of}
use Rattle.write_order.specs.Stamps.{counting_bytes, stamped_sector, written_bytes}
use Rattle.write_order.specs.Words.{word, state_after}
use Rattle.recheck.specs.Expected.{expected_by}
use Rattle.server_core.specs.declared.status.Status.{Status}
use Rattle.server_core.specs.declared.status.Stage.TheVariants.{Idle}
use Rattle.server_core.specs.Answers.{shown_entries, check_job, status}
use Rattle.server_core.specs.Check.{progress}
use Rattle.server_core.specs.Run.{has_open, have_ended}
use Rattle.server_core.specs.Taken.{job_state, state_taken}
use Rattle.server_core.specs.Texts.{jobs_for}
use Rattle.server_core.specs.Hearing.{packets_heard}
use Rattle.filters.specs.ServerLosses.{Reports, SurvivesIn, IsTakenOf, FaultsAreLosses, ListedHaveLost, SurvivorsAreNoFaults, LossesAreFaults}
use Rattle.filters.specs.ServerTurns.{IsNew, ready_by}
use Rattle.filters.specs.UnderWay.{UnderWay, IsOver, report_on}
use Rattle.uses.specs.OneJob.{key, job, state, events}
use Rattle.uses.specs.ServerCut.{opening}
use Rattle.uses.specs.ServerLoss.{triggered, at, came, report, AllSurvive, OneIsLost}
use Rattle.uses.proofs.LegalLemmas.{is_legal}
use Rattle.uses.proofs.ListLemmas.{of_those}

-- ---- the check that begins

abbrev the_job : Job
the_job = record { name = codes "a"; filename = None; rec = job; save = true; load = true; fatal = false }

abbrev the_status : Status
the_status = record { boot = 2; last_run = 1; staged = 0; run = 0; stage = Idle; attempt = 1 }

abbrev begins : UnderWay
begins = record { boot = 2; attempt = 1; expected = expected_by key job (Some state); fatal = false; came = []; first = 0; count = 0 }

is_shown : the_status ≡ status opening (shown_entries (packets_heard opening at.list))
unfolding jobs_for has_open have_ended
is_shown = refl

is_job : check_job opening (shown_entries (packets_heard opening at.list)) 0 ≡ Some the_job
unfolding jobs_for has_open have_ended
is_job = refl

is_ready : ready_by (progress opening (shown_entries (packets_heard opening at.list)) 0) ≡ Some (Some state)
unfolding jobs_for has_open have_ended misfit word state_after u32_at stream_of word_bytes fill_bytes
is_ready = refl

abbrev is_new : IsNew opening at 0 begins
is_new = record {
  shown = the_status;
  job = the_job;
  state = Some state;
  shown_is = is_shown;
  is_job = is_job;
  ready = is_ready;
  other = refl;
  boot_is = refl;
  attempt_is = refl;
  expected_is = refl;
  fatal_is = refl;
  none_came = refl;
}

over_2 : IsOver (record begins { came = came 2 }) (report [])
unfolding stamped_sector counting_bytes
over_2 = record { report = refl; over = inl (λ b from below. absurd (omega (arith, from, below))) }

abbrev check_2 : Reports opening at 0 (came 2) (report [])
check_2 = record { first = begins; new = is_new; over = over_2 }

is_taken : state_taken opening (packets_heard opening triggered) 0 ≡ Some state
unfolding jobs_for has_open have_ended job_state word state_after u32_at stream_of word_bytes fill_bytes
is_taken = refl

-- ---- where each write survives

survives_0 : SurvivesIn check_2 state 0
unfolding stamped_sector counting_bytes
survives_0 = record { write = 2; later = omega arith; issued = omega arith; goes = refl; holds = refl }

survives_1 : SurvivesIn check_2 state 1
unfolding stamped_sector counting_bytes
survives_1 = record { write = 3; later = omega arith; issued = omega arith; goes = refl; holds = refl }

survives_2 : SurvivesIn check_2 state 2
unfolding stamped_sector counting_bytes
survives_2 = record { write = 2; later = omega arith; issued = omega arith; goes = refl; holds = refl }

survives : (k : ℕ) → IsTrue (has state.counted k) → SurvivesIn check_2 state k
survives = of_those (SurvivesIn check_2 state) (0 ∷ 1 ∷ 2 ∷ []) (survives_0, (survives_1, (survives_2, tt)))

pub all_survive : FaultsAreLosses → SurvivorsAreNoFaults → AllSurvive
all_survive faults law = record {
  taken = is_taken;
  check = check_2;
  state_is = refl;
  survive = survives;
  no_fault = law opening at 0 (came 2) (report []) check_2 state refl survives;
  none_lost = (faults opening at 0 (came 2) (report []) check_2).0 refl;
}

-- ---- where one doesn't

taken : IsTakenOf job state events
taken = record { origin = record { boot = 1; key = key; job = job }; job_is = refl; limits = refl; legal = is_legal; taken = refl }

-- What the check of these blocks reports.
abbrev pub report_behind : ℕ → ReportParts
report_behind k = report_on (record begins { came = came k }) 2

-- Where block 0 holds write k, the check of it reports one fault.
abbrev check_of : (k : ℕ) → report (0 ∷ []) ≡ report_behind k → Reports opening at 0 (came k) (report (0 ∷ []))
check_of k told = record {
  first = begins;
  new = is_new;
  over = record { report = told; over = inl (λ b from below. absurd (omega (arith, from, below))) };
}

-- Write k has another last byte of its number than write 2, and write 3 goes to the other block.
other : (k : ℕ) → slice_index (stamped_sector key k 0 0) 23 < 2 → (l : ℕ) → 2 ≤ l → l < 4 → block_of job l ≡ 0
    → stamped_sector key k 0 0 ≡ written_bytes key job l 0 → ⊥
unfolding stamped_sector counting_bytes
other k byte zero some few goes e = absurd (omega (arith, some))
other k byte (suc zero) some few goes e = absurd (omega (arith, some))
other k byte (suc (suc zero)) some few goes e =
    let same : slice_index (stamped_sector key k 0 0) 23 ≡ 2 = ap (λ l. slice_index l 23) e in absurd (omega (arith, byte, same))
other k byte (suc (suc (suc zero))) some few goes e = let block : 1 ≡ 0 = goes in absurd (omega (arith, block))
other k byte (suc (suc (suc (suc l)))) some few goes e = absurd (omega (arith, few))

pub one_is_lost : (k : ℕ) → report (0 ∷ []) ≡ report_behind k → slice_index (stamped_sector key k 0 0) 23 < 2 → ListedHaveLost → LossesAreFaults → OneIsLost k
one_is_lost k told byte listed law =
    let gone : SurvivesIn (check_of k told) state 2 → ⊥ = λ s. other k byte s.write s.later s.issued s.goes s.holds in
    record {
      check = check_of k told;
      state_is = refl;
      taken = taken;
      done = refl;
      gone = gone;
      fault = law opening at 0 (came k) (report (0 ∷ [])) (check_of k told) state events refl taken 2 refl gone;
      lost = listed opening at 0 (came k) (report (0 ∷ [])) (check_of k told) 0 refl;
    }
