-- The checks that a filter keeps, and those under way.
use Rattle.std.proofs.Common.{◌≡◌, ◌<◌, ◌==◌, ◌&&◌, ℕ, Bool, true, false, List, [], ◌∷◌, ◌++◌, zero, suc, length, set, Option, Some, None, Result, Ok, refl, sym, ap, ◌∙◌, subst, inl, inr}
use Rattle.std.specs.Prelude.{if◌then◌else◌, slice_index_or}
use Rattle.std.proofs.lemmas.Bool.{and_parts, cases_eq, eq-eqb, eqb-true, ne_eqb}
use Rattle.std.proofs.lemmas.List.{get_or-set_other, get_or-set_same}
use Rattle.fc_base.specs.declared.fault.Fault.{Fault}
use Rattle.fc_base.specs.declared.report.ReportParts.{ReportParts}
use Rattle.recheck.specs.Expected.{Expected, expected_by}
use Rattle.job_file.specs.declared.job.Job.{Job}
use Rattle.verify_state.specs.State.{State}
use Rattle.server_core.specs.declared.status.Status.{Status}
use Rattle.server_core.specs.declared.server.Server.{Server}
use Rattle.server_core.specs.declared.input.Input.TheVariants.{CheckDone}
use Rattle.server_core.specs.History.{Opening}
use Rattle.server_core.specs.Hearing.{FrameEntry, packets_heard}
use Rattle.server_core.specs.Answers.{check_job, shown_entries, status}
use Rattle.server_core.specs.Check.{progress}
use Rattle.server_core.specs.FrameEnds.{StandsFor}
use Rattle.filters.specs.Written.{Written, Puts}
use Rattle.filters.specs.declared.checking.Checking.{Checking}
use Rattle.filters.specs.declared.checking.CheckTurn.{CheckTurn}
use Rattle.filters.specs.declared.checking.CheckTurn.TheVariants.{On, Ended}
use Rattle.filters.specs.declared.note_buffer.NoteBuffer.{NoteBuffer}
use Rattle.filters.specs.declared.names.BlockName.{BlockName}
use Rattle.filters.specs.declared.server_filter.ServerFilter.{ServerFilter}
use Rattle.filters.specs.Kept.{note_kept}
use Rattle.filters.specs.UnderWay.{UnderWay, next_block}
use Rattle.filters.specs.ServerAt.{ServerAt, IsAt, no_checks, with_check}
use Rattle.filters.specs.ServerTurns.{Begins, TellsIt, Turns, is_under_way, ready_by, want_bytes}
use Rattle.filters.specs.ServerChecks.{if_named}
use Rattle.filters.specs.CheckRuns.{AreChecks, AreChecksBut, Goes, GoesSo, HasCome, IsBegun, IsCheck, IsHere, IsKept, IsNewCheck, TakesOut, TellsSo}
use Rattle.filters.specs.CheckRuns.{is_same_check, kept_in, kept_named}
use Rattle.filters.specs.Steps.{AnswersBy}
use Rattle.filters.proofs.CheckLemmas.{begun}
use Rattle.filters.proofs.TurnLemmas.{takes_one}

-- ---- one kept

put_one : (j : ℕ) (checks : List (Option Checking)) (under : ℕ → Option UnderWay) (x : Option Checking) (u : Option UnderWay) → j < length checks
    → IsCheck j x u → IsCheck j (kept_in (set checks j x) j) (if j == j then u else under j)
put_one j checks under x u lt is =
    subst (λ (k : Option Checking). IsCheck j k (if j == j then u else under j)) (sym (get_or-set_same checks j x None lt))
    (subst (λ (t : Bool). IsCheck j x (if t then u else under j)) (sym (eq-eqb j j refl)) is)

-- The check of a job is put in its place.
pub put_checks : (j : ℕ) (checks : List (Option Checking)) (under : ℕ → Option UnderWay) (x : Option Checking) (u : Option UnderWay) → j < length checks
    → AreChecksBut j checks under → IsCheck j x u → AreChecks (set checks j x) (λ i. if i == j then u else under i)
put_checks j checks under x u lt but is = λ i. elim (cases_eq i j) [
  | inl same ↦
      subst (λ k. IsCheck k (kept_in (set checks j x) k) (if k == j then u else under k)) (sym same) (put_one j checks under x u lt is)
  | inr other ↦
      subst (λ (k : Option Checking). IsCheck i k (if i == j then u else under i)) (sym (get_or-set_other checks j i x None other))
      (subst (λ (t : Bool). IsCheck i (kept_in checks i) (if t then u else under i)) (sym (ne_eqb i j other)) (but i other))
]

-- It is put back as it was.
pub put_back : (j : ℕ) (checks : List (Option Checking)) (under : ℕ → Option UnderWay) (x : Option Checking) → j < length checks
    → AreChecksBut j checks under → IsCheck j x (under j) → AreChecks (set checks j x) under
put_back j checks under x lt but is = λ i. elim (cases_eq i j) [
  | inl same ↦
      subst (λ k. IsCheck k (kept_in (set checks j x) k) (under k)) (sym same)
      (subst (λ (k : Option Checking). IsCheck j k (under j)) (sym (get_or-set_same checks j x None lt)) is)
  | inr other ↦ subst (λ (k : Option Checking). IsCheck i k (under i)) (sym (get_or-set_other checks j i x None other)) (but i other)
]

-- The others stay where one is set.
pub set_but : (j : ℕ) (checks : List (Option Checking)) (under : ℕ → Option UnderWay) (x : Option Checking) → AreChecks checks under
    → AreChecksBut j (set checks j x) under
set_but j checks under x all = λ i other.
    subst (λ (k : Option Checking). IsCheck i k (under i)) (sym (get_or-set_other checks j i x None other)) (all i)

some_check : (j : ℕ) (c : Checking) (u : Option UnderWay) → IsCheck j (Some c) u → (v : UnderWay) × (u ≡ Some v) × IsKept j c v
some_check j c None is = absurd is
some_check j c (Some u) is = (u, refl, is)

no_check : (j : ℕ) (u : Option UnderWay) → IsCheck j None u → u ≡ None
no_check j None is = refl
no_check j (Some u) is = absurd is

-- ---- one that is named

both_or_none : (j : ℕ) (c : Checking) (u : UnderWay) (t : Bool) → IsKept j c u → IsCheck j (if t then Some c else None) (if t then Some u else None)
both_or_none j c u true kept = kept
both_or_none j c u false kept = tt

named_is : (j : ℕ) (name : BlockName) (c : Option Checking) (u : Option UnderWay) → IsCheck j c u → IsCheck j (kept_named name c) (if_named name u)
named_is j name None None is = tt
named_is j name None (Some u) is = absurd is
named_is j name (Some c) None is = absurd is
named_is j name (Some c) (Some u) is =
    let same : ((c.attempt == name.attempt) && (c.next == name.block)) ≡ ((u.attempt == name.attempt) && (u.first == name.block)) =
    ap (λ a. (a == name.attempt) && (c.next == name.block)) is.come.attempt ∙ ap (λ b. (u.attempt == name.attempt) && (b == name.block)) is.first in
    subst (λ (t : Bool). IsCheck j (if t then Some c else None) (if (u.attempt == name.attempt) && (u.first == name.block) then Some u else None)) (sym same)
    (both_or_none j c u ((u.attempt == name.attempt) && (u.first == name.block)) is)

fits_at : (t : Bool) (v u : UnderWay) → (if t then Some v else None) ≡ Some u → (t ≡ true) × (v ≡ u)
fits_at true v u is = (refl, cc)
fits_at false v u is = absurd cc

named_fits : (name : BlockName) (w : Option UnderWay) (u : UnderWay) → if_named name w ≡ Some u
    → (w ≡ Some u) × (u.attempt ≡ name.attempt) × (u.first ≡ name.block)
named_fits name None u is = absurd cc
named_fits name (Some v) u is =
    let f = fits_at ((v.attempt == name.attempt) && (v.first == name.block)) v u is in
    let p = and_parts (v.attempt == name.attempt) (v.first == name.block) f.0 in (
      ap (λ (x : UnderWay). Some x) f.1,
      ap (λ (x : UnderWay). x.attempt) (sym f.1) ∙ eqb-true v.attempt name.attempt p.0,
      ap (λ (x : UnderWay). x.first) (sym f.1) ∙ eqb-true v.first name.block p.1,
    )

-- The check under way that was taken out.
pub record IsTaken (at : ServerAt) (name : BlockName) (c : Checking) : Type 0 where
  pub check : UnderWay
  pub is_named : if_named name (at.checks name.job) ≡ Some check
  pub under_way : at.checks name.job ≡ Some check
  pub attempt : check.attempt ≡ name.attempt
  pub first : check.first ≡ name.block
  pub kept : IsKept name.job c check

pub taken_is : (old new : List (Option Checking)) (name : BlockName) (c : Checking) (at : ServerAt) → TakesOut old name new (Some c) → AreChecks old at.checks
    → IsTaken at name c
taken_is old new name c at (is, left, lt) all =
    let s = some_check name.job c (if_named name (at.checks name.job))
    (subst (λ (k : Option Checking). IsCheck name.job k (if_named name (at.checks name.job))) is
    (named_is name.job name (kept_in old name.job) (at.checks name.job) (all name.job))) in
    let f = named_fits name (at.checks name.job) s.0 s.1 in
    record { check = s.0; is_named = s.1; under_way = f.0; attempt = f.1; first = f.2; kept = s.2 }

pub none_is : (old new : List (Option Checking)) (name : BlockName) (at : ServerAt) → TakesOut old name new None → AreChecks old at.checks
    → if_named name (at.checks name.job) ≡ None
none_is old new name at (is, left) all =
    no_check name.job (if_named name (at.checks name.job))
    (subst (λ (k : Option Checking). IsCheck name.job k (if_named name (at.checks name.job))) is
    (named_is name.job name (kept_in old name.job) (at.checks name.job) (all name.job)))

-- ---- a check goes on

-- Where a filter is stays so with the same server.
pub at_same : (old new : Server NoteBuffer) (o : Opening) (at : ServerAt) → new ≡ old → IsAt note_kept old o at → IsAt note_kept new o at
at_same old new o at same is = subst (λ (s : Server NoteBuffer). IsAt note_kept s o at) (sym same) is

pub went_on : (old new : ServerFilter) (boot a j : ℕ) (c : Checking) (text new_text : Written) → new.server ≡ old.server
    → new.checks.items ≡ set old.checks.items j (Some c) → j < length old.checks.items → c.check.expected.job.bs ≡ c.size
    → Puts text new_text (want_bytes c.attempt c.job c.next c.count c.size) → GoesSo old boot a j (On c) (Ok tt) new text new_text
went_on old new boot a j c text new_text server checks lt size wrote = record {
  answer = want_bytes c.attempt c.job c.next c.count c.size;
  written = wrote;
  takes = λ o at u but goes boot_is attempt_is.
      let v : UnderWay = record u { first = c.next; count = c.count } in
      let kept : IsKept j c v = record {
        come = record {
          boot = goes.0.boot;
          attempt = goes.0.attempt;
          job = goes.0.job;
          expected = goes.0.expected;
          fatal = goes.0.fatal;
          below = goes.0.below;
          seen = goes.0.seen;
        };
        first = refl;
        count = refl;
      } in (
        with_check j (Some v) at,
        (
          at_same old.server new.server o (with_check j (Some v) at) server but.0,
          subst (λ (l : List (Option Checking)). AreChecks l (with_check j (Some v) at).checks) (sym checks)
              (put_checks j old.checks.items at.checks (Some c) (Some v) lt but.1 kept),
        ),
        inl (
          c.next,
          c.count,
          goes.1,
          refl,
          (refl, wanted_same j c u goes.0 size),
        ),
      );
}
  where
    wanted_same : (j : ℕ) (c : Checking) (u : UnderWay) → HasCome j c u → c.check.expected.job.bs ≡ c.size
        → want_bytes c.attempt c.job c.next c.count c.size ≡ want_bytes u.attempt j c.next c.count u.expected.job.bs
    wanted_same j c u come size =
        ap (λ k. want_bytes k c.job c.next c.count c.size) come.attempt
        ∙ (ap (λ k. want_bytes u.attempt k c.next c.count c.size) come.job
        ∙ ap (want_bytes u.attempt j c.next c.count) (sym size ∙ ap (λ (e : Expected). e.job.bs) come.expected))

pub went_over : (old new : ServerFilter) (boot a j : ℕ) (r : ReportParts) (end : Result (Unit {0}) Fault) (text new_text : Written)
    → TellsSo old boot a j r end new text new_text → GoesSo old boot a j (Ended r) end new text new_text
went_over old new boot a j r end text new_text tells = record {
  answer = tells.answer;
  written = tells.written;
  takes = λ o at u but over boot_is attempt_is.
      let t = tells.takes o at but in (
        t.0,
        t.1,
        inr (
          r,
          over,
          (
            tells.fits,
            subst (λ b. TellsIt o (with_check j None at) (CheckDone b u.attempt j r) end t.0 tells.answer) (sym boot_is)
                (subst (λ k. TellsIt o (with_check j None at) (CheckDone boot k j r) end t.0 tells.answer) (sym attempt_is) t.2),
          ),
        ),
      );
}

-- ---- a check begins

same_check : (j boot a : ℕ) (c : Option Checking) (u : Option UnderWay) → IsCheck j c u → is_same_check boot a c ≡ is_under_way boot a u
same_check j boot a None None is = refl
same_check j boot a None (Some u) is = absurd is
same_check j boot a (Some c) None is = absurd is
same_check j boot a (Some c) (Some u) is =
    ap (λ k. (k == a) && (c.boot == boot)) is.come.attempt ∙ ap (λ k. (u.attempt == a) && (k == boot)) is.come.boot

pub new_so : (filter : ServerFilter) (j : ℕ) (c : Checking) (shown : Status) (me : ℕ) (job : Job) (state : Option State)
    → ((o : Opening) (past : List FrameEntry) → StandsFor note_kept filter.server o past → shown ≡ status o (shown_entries (packets_heard o past)))
    → ((o : Opening) (past : List FrameEntry) → StandsFor note_kept filter.server o past
    → Some state ≡ ready_by (progress o (shown_entries (packets_heard o past)) j))
    → ((o : Opening) (past : List FrameEntry) → StandsFor note_kept filter.server o past → Some job ≡ check_job o (shown_entries (packets_heard o past)) j)
    → ((o : Opening) (past : List FrameEntry) → StandsFor note_kept filter.server o past → me ≡ o.me)
    → is_same_check shown.boot shown.attempt (kept_in filter.checks.items j) ≡ false
    → IsBegun shown.boot shown.attempt (record { run = shown.last_run; server = me; job = j }) job.rec state job.fatal c → IsNewCheck filter j c
new_so filter j c shown me job state shows ready found me_is other is = record {
  begins = λ o at here.
      let u : UnderWay = record {
        boot = shown.boot;
        attempt = shown.attempt;
        expected = expected_by (record { run = shown.last_run; server = me; job = j }) job.rec state;
        fatal = job.fatal;
        came = [];
        first = 0;
        count = 0;
      } in (
        u,
        record {
          shown = shown;
          job = job;
          state = state;
          shown_is = shows o at.list here.0.0;
          is_job = sym (found o at.list here.0.0);
          ready = sym (ready o at.list here.0.0);
          other = sym (same_check j shown.boot shown.attempt (kept_in filter.checks.items j) (at.checks j) (here.1 j)) ∙ other;
          boot_is = refl;
          attempt_is = refl;
          expected_is = ap (λ m. expected_by (record { run = shown.last_run; server = m; job = j }) job.rec state) (me_is o at.list here.0.0);
          fatal_is = refl;
          none_came = refl;
        },
        begun j c u (expected_by (record { run = shown.last_run; server = me; job = j }) job.rec state) job.fatal is.boot_is is.attempt_is is.job_is is.next_is
            is.check_is refl refl refl,
      );
  next = is.next_is;
}

pub begins_so : (old new : ServerFilter) (j : ℕ) (c : Checking) (went : CheckTurn) (end : Result (Unit {0}) Fault) (text new_text : Written)
    → IsNewCheck old j c → ((i : ℕ) (u : UnderWay) → HasCome i c u → c.next ≡ next_block u.came → Goes i u went)
    → GoesSo old c.boot c.attempt j went end new text new_text → AnswersBy Turns (IsHere old) (IsHere new) text new_text
begins_so old new j c went end text new_text is_new seeks goes =
    takes_one (IsHere old) (IsHere new) (Begins j) text new_text goes.answer goes.written
    (λ o at here.
    let n = is_new.begins o at here in
    let next : c.next ≡ next_block n.0.came = is_new.next ∙ sym (ap next_block n.1.none_came) in
    let g = goes.takes o at n.0 (here.0, λ i other. here.1 i) (seeks j n.0 n.2 next) (sym n.2.boot) (sym n.2.attempt) in
    (g.0, g.1, record { check = n.0; end = end; new = n.1; goes = g.2 }))

-- ---- no check

push_same : (xs : List (Option Checking)) (j : ℕ) → slice_index_or (xs ++ None ∷ []) j None ≡ slice_index_or xs j None
push_same [] zero = refl
push_same [] (suc j) = refl
push_same (x ∷ xs) zero = refl
push_same (x ∷ xs) (suc j) = push_same xs j

-- One job more without a check.
pub push_none : (xs : List (Option Checking)) → AreChecks xs no_checks → AreChecks (xs ++ None ∷ []) no_checks
push_none xs none = λ j. subst (λ (k : Option Checking). IsCheck j k None) (sym (push_same xs j)) (none j)
