use Rattle.std.proofs.Common.{◌≡◌, inl, inr, sym, arith}
use Rattle.std.proofs.lemmas.Grind.{common_steps}
use Rattle.std.proofs.lemmas.Result.{IfOk-weaker, IfErr-weaker}
use Rattle.fleet_threads.specs.Slots.{AreAnswered}
use Rattle.fleet_threads.proofs.SlotLemmas.{all_reported, first_refusal}
use Rattle.fleet_threads.proofs.parallel.check_jobs.Goals as goal

answered : (g : _) (c : goal.After-drop-slots g) → AreAnswered g.D.Disk.file c.args.tasks.items c.deref.result.now
answered g c =
    let same : c.deref.result.now ≡ c.check_slots.new.slots = grind (arith, common_steps) in
    rw (same, sym c.in-Ok.ensures, sym c.deref_mut.ensures.value) c.check_slots.ensures.answers

pub returns-clause-reports : goal.returns-clause-reports
returns-clause-reports g c =
    IfOk-weaker c.reports_of.result _ _ (λ reports held. all_reported g.D.Disk.file c.args.tasks.items c.deref.result.now reports.items (answered g c) held)
    c.reports_of.ensures.reports

pub returns-clause-refused : goal.returns-clause-refused
returns-clause-refused g c =
    IfErr-weaker c.reports_of.result _ _ (λ fault. elim [
      | inl memory ↦ inl memory
      | inr first ↦ inr (first_refusal g.D.Disk.file c.args.tasks.items c.deref.result.now fault (answered g c) first)
    ]) c.reports_of.ensures.refused
