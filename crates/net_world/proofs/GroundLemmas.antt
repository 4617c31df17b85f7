-- The laws of the layers below on which honest disks rest, and what they say of the jobs of a run.
use Rattle.std.proofs.Common.{◌≡◌, ℕ, List, Some}
use Rattle.std.specs.Prelude.{slice_get, IsTrue}
use Rattle.std.proofs.lemmas.Option.{slice_get_within, get_or_from_slice_get}
use Rattle.fc_base.specs.JobParts.{is_within_limits}
use Rattle.job_file.specs.declared.job.Job.{Job}
use Rattle.write_order.specs.Laws.{WritesFillTheirBlocks, WritesStayInTheRegion}
use Rattle.disk_model.specs.Laws.{LandsWhole, KeepsOtherBlocks}
use Rattle.fc_base.proofs.ListLemmas.{each_of}
use Rattle.engine.specs.Sets.{InFlightIsNotDone, OpenIsNotFailed, DoneWasIssued}
use Rattle.engine.specs.Legal.{IsLegal}
use Rattle.engine.specs.Laws.{StatesCountTheDone, LaterWaits}
use Rattle.server_core.specs.History.{Opening, Entry}
use Rattle.server_core.specs.Run.{Work, origin_of, history}
use Rattle.server_core.specs.Words.{work}
use Rattle.server_core.specs.Laws.{CountsTheDone, StartsOnce, PresentIsLast, RunsHaveSets, HistoriesAreLegal}

pub record Ground : Type 0 where
  pub takings : CountsTheDone
  pub starts : StartsOnce
  pub present : PresentIsLast
  pub sets : RunsHaveSets
  pub legal : HistoriesAreLegal
  pub counts : StatesCountTheDone
  pub waits : LaterWaits
  pub flying : InFlightIsNotDone
  pub opened : OpenIsNotFailed
  pub issued : DoneWasIssued
  pub whole : LandsWhole
  pub others : KeepsOtherBlocks
  pub fill : WritesFillTheirBlocks
  pub region : WritesStayInTheRegion

-- A job of the present run is within its limits, and its history is legal.
pub job_within : Ground → (o : Opening) (past : List Entry) (w : Work) → work o past ≡ Some w → (j : ℕ) (job : Job) → slice_get w.jobs j ≡ Some job
    → IsTrue (is_within_limits job.rec)
job_within laws o past w is j job h =
    each_of (λ (x : Job). IsTrue (is_within_limits x.rec)) w.jobs job (laws.sets o past w is).within.within
    (j, slice_get_within w.jobs j job h, get_or_from_slice_get w.jobs j job job h)

pub job_legal : Ground → (o : Opening) (past : List Entry) (w : Work) → work o past ≡ Some w → (j : ℕ) (job : Job) → slice_get w.jobs j ≡ Some job
    → IsLegal job.rec (history (origin_of w j job) w.since)
job_legal laws o past w is j job h = laws.legal (origin_of w j job) w.since (job_within laws o past w is j job h)
