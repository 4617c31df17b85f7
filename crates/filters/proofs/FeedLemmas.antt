-- What is made of the blocks that come.
use Rattle.std.proofs.Common.{◌≡◌, ◌⊎◌, ◌<◌, ◌≤◌, ◌*◌, ℕ, Bool, true, false, List, [], length, take, drop, set, Option, Some, None, Result, Err, refl, sym, ap, ◌∙◌, subst, inl, inr, arith}
use Rattle.std.specs.Prelude.{nat_lt, if◌then◌else◌, IsTrue}
use Rattle.std.proofs.lemmas.Bool.{eq-eqb, le-ltb, lt-ltb, ne_eqb}
use Rattle.fc_base.specs.declared.fault.Fault.{Fault}
use Rattle.fc_base.specs.declared.fault.Fault.TheVariants.{BadNotice, NotInFlight}
use Rattle.fc_base.specs.declared.limits.TheConstants.{MAX_BLOCKS}
use Rattle.fc_base.specs.Report.{is_report}
use Rattle.fc_base.specs.declared.report.ReportParts.{ReportParts}
use Rattle.fc_base.specs.declared.report.ReportEnd.TheVariants.{ReadFault}
use Rattle.recheck.specs.Expected.{Expected}
use Rattle.recheck.specs.Report.{report_with}
use Rattle.server_core.specs.declared.input.Input.TheVariants.{CheckDone}
use Rattle.server_core.specs.History.{Opening}
use Rattle.server_core.specs.Hearing.{FrameEntry}
use Rattle.server_core.specs.FrameEnds.{StandsFor}
use Rattle.filters.specs.Written.{Written}
use Rattle.filters.proofs.OutputLemmas.{puts_none}
use Rattle.filters.specs.Kept.{note_kept}
use Rattle.filters.specs.declared.checking.Checking.{Checking}
use Rattle.filters.specs.declared.checking.CheckTurn.{CheckTurn}
use Rattle.filters.specs.declared.names.BlockName.{BlockName}
use Rattle.filters.specs.declared.names.TheConstants.{BLOCK_NAME}
use Rattle.filters.specs.declared.server_filter.ServerFilter.{ServerFilter}
use Rattle.filters.specs.UnderWay.{UnderWay, report_before, with_blocks}
use Rattle.filters.specs.ServerAt.{ServerAt, with_check}
use Rattle.filters.specs.ServerTurns.{TellsIt}
use Rattle.filters.specs.ServerChecks.{AreWanted, Feeds, FeedsBy, FeedsIf, GivesUp, GivesUpBy, GivesUpIf, block_in, if_named, is_open_attempt, named, named_with_block}
use Rattle.filters.specs.CheckRuns.{AreChecks, Goes, GoesSo, AreChecksBut, IsCheck, IsHere, IsKept, IsSome, TakesOut, TellsSo}
use Rattle.filters.specs.Steps.{AnswersBy}
use Rattle.filters.proofs.CheckLemmas.{before}
use Rattle.filters.proofs.KeptLemmas.{at_same, none_is, put_back, set_but, taken_is}

-- ---- which check is named

-- An attempt is the open one, or isn't, by the list that a server stands for.
abbrev IsOpen : ServerFilter → ℕ → Bool → Type 0
IsOpen filter a t = (o : Opening) (past : List FrameEntry) → StandsFor note_kept filter.server o past → t ≡ is_open_attempt o past a

named_open : (o : Opening) (at : ServerAt) (name : BlockName) (u : Option UnderWay) → true ≡ is_open_attempt o at.list name.attempt
    → if_named name (at.checks name.job) ≡ u → named o at name ≡ u
named_open o at name u open_attempt is =
    subst (λ (t : Bool). (if t then if_named name (at.checks name.job) else None) ≡ u) open_attempt is

named_past : (o : Opening) (at : ServerAt) (name : BlockName) → false ≡ is_open_attempt o at.list name.attempt → named o at name ≡ None
named_past o at name past = subst (λ (t : Bool). (if t then if_named name (at.checks name.job) else None) ≡ None) past refl

with_block : (o : Opening) (at : ServerAt) (name : BlockName) (u : Option UnderWay) → name.block < MAX_BLOCKS → named o at name ≡ u
    → named_with_block o at name ≡ u
with_block o at name u lt is =
    subst (λ (t : Bool). (if t then named o at name else None) ≡ u) (sym (lt-ltb name.block MAX_BLOCKS lt)) is

no_block : (o : Opening) (at : ServerAt) (name : BlockName) → MAX_BLOCKS ≤ name.block → named_with_block o at name ≡ None
no_block o at name past = subst (λ (t : Bool). (if t then named o at name else None) ≡ None) (sym (le-ltb name.block MAX_BLOCKS past)) refl

none_named : (t : Bool) (u : Option UnderWay) → u ≡ None → (if t then u else None) ≡ None
none_named true u is = is
none_named false u is = refl

-- ---- blocks

-- A body that has no room for a name.
pub feeds_short : (filter : ServerFilter) (body : List ℕ) (text : Written) → length body < BLOCK_NAME
    → AnswersBy (λ o at now answer. Feeds o at body (Err BadNotice) now answer) (IsHere filter) (IsHere filter) text text
feeds_short filter body text short = record {
  answer = [];
  written = puts_none text;
  takes = λ o at here. (
    at,
    here,
    subst (λ t. FeedsIf t o at body (Err BadNotice) at []) (sym (lt-ltb (length body) BLOCK_NAME short)) (refl, (refl, refl)),
  );
}

-- One that has.
long : (o : Opening) (at : ServerAt) (body bytes : List ℕ) (name : BlockName) (end : Result (Unit {0}) Fault) (now : ServerAt) (answer : List ℕ)
    → BLOCK_NAME ≤ length body → name ≡ block_in (take BLOCK_NAME body) → bytes ≡ drop BLOCK_NAME body → (u : Option UnderWay) → named o at name ≡ u
    → FeedsBy u o at name bytes end now answer → Feeds o at body end now answer
long o at body bytes name end now answer enough name_is bytes_are u is feeds =
    subst (λ t. FeedsIf t o at body end now answer) (sym (le-ltb (length body) BLOCK_NAME enough))
    (subst (λ (n : BlockName). FeedsBy (named o at n) o at n (drop BLOCK_NAME body) end now answer) name_is
    (subst (λ (l : List ℕ). FeedsBy (named o at name) o at name l end now answer) bytes_are
    (subst (λ (v : Option UnderWay). FeedsBy v o at name bytes end now answer) (sym is) feeds)))

-- The attempt that is named isn't the open one.
pub feeds_past : (filter : ServerFilter) (body bytes : List ℕ) (name : BlockName) (text : Written) → BLOCK_NAME ≤ length body
    → name ≡ block_in (take BLOCK_NAME body) → bytes ≡ drop BLOCK_NAME body → IsOpen filter name.attempt false
    → AnswersBy (λ o at now answer. Feeds o at body (Err NotInFlight) now answer) (IsHere filter) (IsHere filter) text text
feeds_past filter body bytes name text enough name_is bytes_are past = record {
  answer = [];
  written = puts_none text;
  takes = λ o at here. (
    at,
    here,
    long o at body bytes name (Err NotInFlight) at [] enough name_is bytes_are None (named_past o at name (past o at.list here.0.0)) (refl, (refl, refl)),
  );
}

-- No check is named.
pub feeds_none : (old new : ServerFilter) (body bytes : List ℕ) (name : BlockName) (text : Written) → BLOCK_NAME ≤ length body
    → name ≡ block_in (take BLOCK_NAME body) → bytes ≡ drop BLOCK_NAME body → IsOpen old name.attempt true → new.server ≡ old.server
    → TakesOut old.checks.items name new.checks.items None
    → AnswersBy (λ o at now answer. Feeds o at body (Err NotInFlight) now answer) (IsHere old) (IsHere new) text text
feeds_none old new body bytes name text enough name_is bytes_are open_attempt server out = record {
  answer = [];
  written = puts_none text;
  takes = λ o at here. (
    at,
    (
      at_same old.server new.server o at server here.0,
      subst (λ (l : List (Option Checking)). AreChecks l at.checks) (sym out.1) here.1,
    ),
    long o at body bytes name (Err NotInFlight) at [] enough name_is bytes_are None
        (named_open o at name None (open_attempt o at.list here.0.0) (none_is old.checks.items new.checks.items name at out here.1)) (refl, (refl, refl)),
  );
}

-- The blocks aren't some of those that are wanted, and the check is put back.
pub feeds_other : (old mid new : ServerFilter) (body bytes : List ℕ) (name : BlockName) (c : Checking) (text : Written) → BLOCK_NAME ≤ length body
    → name ≡ block_in (take BLOCK_NAME body) → bytes ≡ drop BLOCK_NAME body → IsOpen old name.attempt true → mid.server ≡ old.server → new.server ≡ mid.server
    → TakesOut old.checks.items name mid.checks.items (Some c) → new.checks.items ≡ set mid.checks.items name.job (Some c)
    → name.job < length mid.checks.items → c.check.expected.job.bs ≡ c.size → IsSome c (length bytes) None
    → AnswersBy (λ o at now answer. Feeds o at body (Err BadNotice) now answer) (IsHere old) (IsHere new) text text
feeds_other old mid new body bytes name c text enough name_is bytes_are open_attempt first second out put lt size none = record {
  answer = [];
  written = puts_none text;
  takes = λ o at here.
      let taken = taken_is old.checks.items mid.checks.items name c at out here.1 in
      let bs : c.size ≡ taken.check.expected.job.bs = sym size ∙ ap (λ (e : Expected). e.job.bs) taken.kept.come.expected in
      let but = subst (λ (l : List (Option Checking)). AreChecks (set l name.job (Some c)) at.checks) (sym out.1)
      (put_back name.job (set old.checks.items name.job None) at.checks (Some c) (subst (λ (l : List (Option Checking)). name.job < length l) out.1 lt)
      (set_but name.job old.checks.items at.checks None here.1)
      (kept_under name.job c taken.check (at.checks name.job) taken.under_way taken.kept)) in (
        at,
        (
          at_same old.server new.server o at (second ∙ first) here.0,
          subst (λ (l : List (Option Checking)). AreChecks l at.checks) (sym put) but,
        ),
        long o at body bytes name (Err BadNotice) at [] enough name_is bytes_are (Some taken.check)
            (named_open o at name (Some taken.check) (open_attempt o at.list here.0.0) taken.is_named)
            (inr (
              λ given wanted.
                  none given wanted.some (omega (arith, wanted.wanted, taken.kept.count))
                  (wanted.whole ∙ ap (λ k. given * k) (sym bs)),
              (refl, (refl, refl)),
            )),
      );
}
  where
    kept_under : (j : ℕ) (c : Checking) (u : UnderWay) (w : Option UnderWay) → w ≡ Some u → IsKept j c u → IsCheck j (Some c) w
    kept_under j c u w is kept = subst (IsCheck j (Some c)) (sym is) kept

-- They are, and the check goes on.
pub feeds_so : (old mid new : ServerFilter) (body bytes : List ℕ) (name : BlockName) (c : Checking) (given : ℕ) (went : CheckTurn) (end : Result (Unit {0}) Fault)
    (text new_text : Written) → BLOCK_NAME ≤ length body
    → name ≡ block_in (take BLOCK_NAME body) → bytes ≡ drop BLOCK_NAME body → IsOpen old name.attempt true → mid.server ≡ old.server
    → TakesOut old.checks.items name mid.checks.items (Some c) → c.check.expected.job.bs ≡ c.size → IsSome c (length bytes) (Some given)
    → ((j : ℕ) (u : UnderWay) → IsKept j c u → Goes j (with_blocks u given bytes) went)
    → GoesSo mid c.boot name.attempt name.job went end new text new_text
    → AnswersBy (λ o at now answer. Feeds o at body end now answer) (IsHere old) (IsHere new) text new_text
feeds_so old mid new body bytes name c given went end text new_text enough name_is bytes_are open_attempt server out size some feeds goes = record {
  answer = goes.answer;
  written = goes.written;
  takes = λ o at here.
      let taken = taken_is old.checks.items mid.checks.items name c at out here.1 in
      let bs : c.size ≡ taken.check.expected.job.bs = sym size ∙ ap (λ (e : Expected). e.job.bs) taken.kept.come.expected in
      let wanted : AreWanted taken.check (length bytes) given = record {
        some = some.0;
        wanted = omega (arith, some.1, taken.kept.count);
        whole = some.2 ∙ ap (λ k. given * k) bs;
      } in
      let but = subst (λ (l : List (Option Checking)). AreChecksBut name.job l at.checks) (sym out.1)
      (set_but name.job old.checks.items at.checks None here.1) in
      let g = goes.takes o at (with_blocks taken.check given bytes) (at_same old.server mid.server o at server here.0, but)
      (feeds name.job taken.check taken.kept) (sym taken.kept.come.boot) taken.attempt in (
        g.0,
        g.1,
        long o at body bytes name end g.0 goes.answer enough name_is bytes_are (Some taken.check)
            (named_open o at name (Some taken.check) (open_attempt o at.list here.0.0) taken.is_named) (inl (given, wanted, g.2)),
      );
}

-- ---- a block that couldn't be read

pub gives_up_bad : (filter : ServerFilter) (body : List ℕ) (text : Written) → (length body ≡ BLOCK_NAME → ⊥)
    → AnswersBy (λ o at now answer. GivesUp o at body (Err BadNotice) now answer) (IsHere filter) (IsHere filter) text text
gives_up_bad filter body text other = record {
  answer = [];
  written = puts_none text;
  takes = λ o at here. (
    at,
    here,
    subst (λ t. GivesUpIf t o at body (Err BadNotice) at []) (sym (ne_eqb (length body) BLOCK_NAME other)) (refl, (refl, refl)),
  );
}

-- A body that names a block.
good : (o : Opening) (at : ServerAt) (body : List ℕ) (name : BlockName) (end : Result (Unit {0}) Fault) (now : ServerAt) (answer : List ℕ)
    → length body ≡ BLOCK_NAME → name ≡ block_in body → (u : Option UnderWay) → named_with_block o at name ≡ u
    → GivesUpBy u o at name end now answer → GivesUp o at body end now answer
good o at body name end now answer len name_is u is gives =
    subst (λ t. GivesUpIf t o at body end now answer) (sym (eq-eqb (length body) BLOCK_NAME len))
    (subst (λ (n : BlockName). GivesUpBy (named_with_block o at n) o at n end now answer) name_is
    (subst (λ (v : Option UnderWay). GivesUpBy v o at name end now answer) (sym is) gives))

-- There is no such block, or the attempt that is named isn't the open one.
pub gives_up_past : (filter : ServerFilter) (body : List ℕ) (name : BlockName) (text : Written) → length body ≡ BLOCK_NAME → name ≡ block_in body
    → (MAX_BLOCKS ≤ name.block) ⊎ IsOpen filter name.attempt false
    → AnswersBy (λ o at now answer. GivesUp o at body (Err NotInFlight) now answer) (IsHere filter) (IsHere filter) text text
gives_up_past filter body name text len name_is why = record {
  answer = [];
  written = puts_none text;
  takes = λ o at here. (at, here, good o at body name (Err NotInFlight) at [] len name_is None (none_at o at here.0.0 why) (refl, (refl, refl)));
}
  where
    none_at : (o : Opening) (at : ServerAt) → StandsFor note_kept filter.server o at.list → (MAX_BLOCKS ≤ name.block) ⊎ IsOpen filter name.attempt false
        → named_with_block o at name ≡ None
    none_at o at stands (inl past) = no_block o at name past
    none_at o at stands (inr past) = none_named (nat_lt name.block MAX_BLOCKS) (named o at name) (named_past o at name (past o at.list stands))

pub gives_up_none : (old new : ServerFilter) (body : List ℕ) (name : BlockName) (text : Written) → length body ≡ BLOCK_NAME → name ≡ block_in body
    → name.block < MAX_BLOCKS → IsOpen old name.attempt true → new.server ≡ old.server → TakesOut old.checks.items name new.checks.items None
    → AnswersBy (λ o at now answer. GivesUp o at body (Err NotInFlight) now answer) (IsHere old) (IsHere new) text text
gives_up_none old new body name text len name_is lt open_attempt server out = record {
  answer = [];
  written = puts_none text;
  takes = λ o at here. (
    at,
    (
      at_same old.server new.server o at server here.0,
      subst (λ (l : List (Option Checking)). AreChecks l at.checks) (sym out.1) here.1,
    ),
    good o at body name (Err NotInFlight) at [] len name_is None
        (with_block o at name None lt
        (named_open o at name None (open_attempt o at.list here.0.0) (none_is old.checks.items new.checks.items name at out here.1)))
        (refl, (refl, refl)),
  );
}

pub gives_up_so : (old mid new : ServerFilter) (body : List ℕ) (name : BlockName) (c : Checking) (r : ReportParts) (end : Result (Unit {0}) Fault)
    (text new_text : Written) → length body ≡ BLOCK_NAME → name ≡ block_in body → name.block < MAX_BLOCKS → IsOpen old name.attempt true → mid.server ≡ old.server
    → TakesOut old.checks.items name mid.checks.items (Some c) → r ≡ report_with c.check.found (ReadFault c.next)
    → TellsSo mid c.boot name.attempt name.job r end new text new_text
    → AnswersBy (λ o at now answer. GivesUp o at body end now answer) (IsHere old) (IsHere new) text new_text
gives_up_so old mid new body name c r end text new_text len name_is lt open_attempt server out told tells = record {
  answer = tells.answer;
  written = tells.written;
  takes = λ o at here.
      let taken = taken_is old.checks.items mid.checks.items name c at out here.1 in
      let but = subst (λ (l : List (Option Checking)). AreChecksBut name.job l at.checks) (sym out.1)
      (set_but name.job old.checks.items at.checks None here.1) in
      let t = tells.takes o at (at_same old.server mid.server o at server here.0, but) in
      let report : r ≡ report_before taken.check name.block =
      before name.job c taken.check name.block r taken.kept.come (taken.kept.first ∙ taken.first) told in (
        t.0,
        t.1,
        good o at body name end t.0 tells.answer len name_is (Some taken.check)
            (with_block o at name (Some taken.check) lt (named_open o at name (Some taken.check) (open_attempt o at.list here.0.0) taken.is_named)) (
              subst (λ (p : ReportParts). IsTrue (is_report p)) report tells.fits,
              subst (λ (p : ReportParts). TellsIt o (with_check name.job None at) (CheckDone taken.check.boot taken.check.attempt name.job p) end t.0 tells.answer) report
                  (subst (λ b. TellsIt o (with_check name.job None at) (CheckDone b taken.check.attempt name.job r) end t.0 tells.answer) taken.kept.come.boot
                  (subst (λ k. TellsIt o (with_check name.job None at) (CheckDone c.boot k name.job r) end t.0 tells.answer) (sym taken.attempt) t.2)),
            ),
      );
}
