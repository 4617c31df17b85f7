use Rattle.std.proofs.Common.{◌≡◌, refl, ap, ◌∙◌, sym, subst, arith, ◌++◌, map, All}
use Rattle.std.specs.Prelude.{slice_get}
use Rattle.std.proofs.lemmas.Option.{slice_get_read}
use Rattle.node_threads.specs.Ends.{IsEnd, place_of, jobs_of}
use Rattle.node_threads.proofs.EndLemmas.{end_more, places_more}
use Rattle.node_threads.proofs.ends.add_ends.Goals as goal

pub loop-job-preserved : goal.loop-job-preserved
loop-job-preserved c = (
  places_more c.args.number c.loop-job.job _ _ _ c.in_ok-end.end c.in_ok-add.ensures c.in_ok-end.ensures.place c.loop-job.invariant.0,
  λ all. subst (All (IsEnd c.args.servers.now c.args.reports.now c.args.attempt)) (sym c.in_ok-add.ensures)
      (end_more _ _ _ c.in-Some.server.now _ c.in_ok-end.end
      (ap (λ p. slice_get c.args.servers.now p.0) c.in_ok-end.ensures.place
      ∙ slice_get_read c.args.servers.now _ c.args.number c.in-Some.server.now refl c.in-Some.ensures.lookup.3.0 c.in-Some.ensures.lookup.1)
      c.in_ok-end.ensures.end (c.loop-job.invariant.1 all)),
)

pub returns : goal.returns
returns c =
    let all : c.loop-job.job ≡ c.in_ok-jobs.jobs = omega (arith, c.loop-job.auto.job-end, c.loop-job-test.false) in record {
      count = c.in_ok-jobs.jobs;
      jobs_are = (
        c.in-Some.server.now,
        slice_get_read c.args.servers.now _ c.args.number c.in-Some.server.now refl c.in-Some.ensures.lookup.3.0 c.in-Some.ensures.lookup.1,
        c.in_ok-jobs.ensures,
      );
      places = subst (λ n. map place_of c.loop-job.ends.items ≡ map place_of c.args.ends.now.items ++ jobs_of c.args.number n) all c.loop-job.invariant.0;
      ends_are = c.loop-job.invariant.1;
    }
