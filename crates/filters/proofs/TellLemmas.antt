-- The report of a check that is told.
use Rattle.std.proofs.Common.{◌≡◌, ◌<◌, ℕ, List, length, set, Option, None, Result, sym, ap, ◌∙◌, subst}
use Rattle.std.specs.Prelude.{Vec, IsTrue}
use Rattle.std.specs.declared.alloc.Global.{Global}
use Rattle.fc_base.specs.declared.fault.Fault.{Fault}
use Rattle.fc_base.specs.declared.report.ReportParts.{ReportParts}
use Rattle.fc_base.specs.Report.{is_report}
use Rattle.server_core.specs.declared.input.Input.TheVariants.{CheckDone}
use Rattle.server_core.specs.History.{Opening}
use Rattle.server_core.specs.Hearing.{FrameEntry}
use Rattle.server_core.specs.FrameEnds.{StandsFor, note_in, steps}
use Rattle.filters.specs.Written.{Written, Puts}
use Rattle.filters.specs.declared.checking.Checking.{Checking}
use Rattle.filters.specs.declared.server_filter.ServerFilter.{ServerFilter}
use Rattle.filters.specs.declared.node_step.NodeStep.{NodeStep}
use Rattle.filters.specs.Kept.{note_kept}
use Rattle.filters.specs.NodeSteps.{InputEnds}
use Rattle.filters.specs.UnderWay.{UnderWay}
use Rattle.filters.specs.ServerAt.{answer_to, with_check}
use Rattle.filters.specs.CheckRuns.{AreChecks, TellsSo}
use Rattle.filters.proofs.KeptLemmas.{at_same, put_checks}
use Rattle.filters.proofs.ServerTakeLemmas.{answer_if, end_of, told_it}

pub told_so : (old mid new : ServerFilter) (boot a j : ℕ) (r : ReportParts) (result : Result NodeStep Fault) (text new_text : Written)
    → Puts text new_text (answer_if result (note_in note_kept new.server).bytes)
    → mid.server ≡ old.server → mid.checks.items ≡ set old.checks.items j None → j < length old.checks.items
    → ((o : Opening) (past : List FrameEntry) → StandsFor note_kept mid.server o past
    → InputEnds (steps note_kept o) (answer_to o past) past (CheckDone boot a j r) mid.server new.server result)
    → new.checks ≡ mid.checks → IsTrue (is_report r) → TellsSo old boot a j r (end_of result) new text new_text
told_so old mid new boot a j r result text new_text wrote server left lt ends kept fits = record {
  fits = fits;
  answer = answer_if result (note_in note_kept new.server).bytes;
  written = wrote;
  takes = λ o at but.
      let here = at_same old.server mid.server o (with_check j None at) server but.0 in
      let t = told_it o (with_check j None at) boot a j r mid.server new.server result here (ends o at.list here.0) in
      let items : new.checks.items ≡ set old.checks.items j None =
      ap (λ (cs : Vec (Option Checking) Global). cs.items) kept ∙ left in (
        t.0,
        (
          t.1,
          subst (λ (under : ℕ → Option UnderWay). AreChecks new.checks.items under) (sym t.3)
              (subst (λ (l : List (Option Checking)). AreChecks l (with_check j None at).checks) (sym items)
              (put_checks j old.checks.items at.checks None None lt but.1 tt)),
        ),
        t.2,
      );
}
