-- What each call leaves of an engine that stands for a history.
use Rattle.std.proofs.Common.{◌≡◌, ℕ, Bool, true, false, List, [], ◌∷◌, ◌++◌, length, ap, sym, ◌∙◌, arith}
use Rattle.std.proofs.lemmas.Bool.{lt-ltb, leb-false, or_parts}
use Rattle.std.proofs.lemmas.List.{length_push}
use Rattle.write_order.specs.Blocks.{block_of}
use Rattle.engine.specs.History.{Event, issue, done, fail, failures, in_flight}
use Rattle.engine.specs.Kept as window
use Rattle.engine.specs.Kept.{Kept, kept_of}
use Rattle.engine.specs.declared.issue.Ticket.{Ticket}
use Rattle.engine.specs.Legal.{has_failed, any_goes_to}
use Rattle.engine.specs.Running.{Origin, Running, running_of, StandsFor, Adds}
use Rattle.engine.proofs.AnswerLemmas.{IsNextOf}

pub failed_is : (r : Running) (h : List Event) → StandsFor r h → r.failed ≡ has_failed h
failed_is r h s = ap (λ (x : Running). x.failed) s.running_is

pub kept_is : (r : Running) (h : List Event) → StandsFor r h → r.kept ≡ kept_of r.origin.job.depth r.origin.job.window h
kept_is r h s = ap (λ (x : Running). x.kept) s.running_is

pub in_window : (r : Running) (h : List Event) → StandsFor r h → window.StandsFor r.origin.job.depth r.origin.job.window r.kept h
in_window r h s = record { legal = s.legal.by_window; kept_is = kept_is r h s }

running_from : (origin : Origin) (stopped failed : Bool) (kept : Kept) (h : List Event) → failed ≡ has_failed h
    → kept ≡ kept_of origin.job.depth origin.job.window h
    → record { origin = origin; stopped = stopped; failed = failed; kept = kept } ≡ running_of origin stopped h
running_from origin stopped failed kept h f k = cc

pub stop_step : (r : Running) (h : List Event) → StandsFor r h → StandsFor (record r { stopped = true }) h
stop_step r h s = record {
  legal = s.legal;
  running_is = running_from r.origin true r.failed r.kept h (failed_is r h s) (kept_is r h s);
}

pub issue_step : (r : Running) (kept : Kept) (ticket : Ticket) → IsNextOf r ticket → window.Adds r.kept kept (issue ticket.seq)
    → Adds r (record r { kept = kept }) (issue ticket.seq)
issue_step r kept ticket n adds h s =
    let w = adds _ _ h (in_window r h s) in
    let seq_is : ticket.seq ≡ r.kept.issued = ap (λ (t : Ticket). t.seq) n.ticket_is in
    let fewer = leb-false _ _ n.fewer in
    let flying : r.kept.in_flight ≡ in_flight h = ap (λ (k : Kept). k.in_flight) (kept_is r h s) in
    let alone : any_goes_to r.origin.job (block_of r.origin.job ticket.seq) (in_flight h) ≡ false = rw (seq_is, ← flying) n.alone in
    let unfailed : has_failed h ≡ false = sym (failed_is r h s) ∙ (or_parts r.stopped r.failed n.runs).1 in
    record {
      legal = record { by_window = w.legal; by_job = (s.legal.by_job, rw seq_is fewer, alone, unfailed) };
      running_is = running_from r.origin r.stopped r.failed kept (issue ticket.seq ∷ h) (failed_is r h s) w.kept_is;
    }

pub done_step : (r : Running) (kept : Kept) (k : ℕ) → window.Adds r.kept kept (done k) → Adds r (record r { kept = kept }) (done k)
done_step r kept k adds h s =
    let w = adds _ _ h (in_window r h s) in
    record {
      legal = record { by_window = w.legal; by_job = s.legal.by_job };
      running_is = running_from r.origin r.stopped r.failed kept (done k ∷ h) (failed_is r h s) w.kept_is;
    }

pub failed_now : (k : ℕ) (h : List Event) → true ≡ has_failed (fail k ∷ h)
failed_now k h = sym (lt-ltb 0 (length (failures h ++ k ∷ [])) (omega (arith, length_push (failures h) k)))

pub fail_step : (r : Running) (kept : Kept) (k : ℕ) → window.Adds r.kept kept (fail k) → Adds r (record r { failed = true; kept = kept }) (fail k)
fail_step r kept k adds h s =
    let w = adds _ _ h (in_window r h s) in
    record {
      legal = record { by_window = w.legal; by_job = s.legal.by_job };
      running_is = running_from r.origin r.stopped true kept (fail k ∷ h) (failed_now k h) w.kept_is;
    }
