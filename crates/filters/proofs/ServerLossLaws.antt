-- What the report of a server's check tells of the writes of a job.
use Rattle.std.proofs.Common.{◌≡◌, ◌<◌, ◌≤◌, ℕ, zero, suc, Bool, true, false, ◌&&◌, eqb, List, refl, sym, ap, ◌∙◌, subst, inl, inr, arith, Some}
use Rattle.std.specs.Prelude.{IsTrue}
use Rattle.std.specs.List.{range_with_len}
use Rattle.std.proofs.lemmas.Bool.{cases_Bool, cases_eq, cases_lt, false≢true, and_parts, and_from, eq-eqb, eqb-true}
use Rattle.fc_base.specs.Counted.{has}
use Rattle.fc_base.specs.declared.numbers.Key.{Key}
use Rattle.fc_base.specs.declared.record.JobParts.{JobParts}
use Rattle.fc_base.specs.declared.report.ReportParts.{ReportParts}
use Rattle.write_order.specs.Blocks.{block_of}
use Rattle.write_order.specs.Laws.{WritesStayInTheRegion}
use Rattle.engine.specs.History.{Event, issued, is_done}
use Rattle.engine.specs.Sets.{DoneWasIssued}
use Rattle.engine.specs.Laws.{StatesCountTheDone, LaterWaits}
use Rattle.engine.specs.Legal.{IsLegal}
use Rattle.engine.specs.Running.{Origin}
use Rattle.engine.specs.Taken.{state_after}
use Rattle.verify_state.specs.State.{State}
use Rattle.recheck.specs.Expected.{Expected, expected_by}
use Rattle.recheck.specs.Faults.{is_fault}
use Rattle.recheck.specs.Laws.{HasLost, Holds}
use Rattle.recheck.specs.Laws as recheck
use Rattle.recheck.specs.Report.{report}
use Rattle.server_core.specs.History.{Opening}
use Rattle.filters.specs.UnderWay.{BlockBytes, held_by}
use Rattle.filters.specs.ServerAt.{ServerAt}
use Rattle.filters.specs.ServerLosses.{Reports, FaultsAreLosses, ListedHaveLost, LossesAreFaults, Survives, SurvivorsAreNoFaults, key_of}
use Rattle.filters.proofs.ServerLossLemmas.{none_at_fault, none_told, listed_is}

-- The report is the exact one, by what the check began with.
exact : (o : Opening) (at : ServerAt) (j : ℕ) (came : List BlockBytes) (r : ReportParts) (c : Reports o at j came r)
    → r ≡ report c.first.fatal (expected_by (key_of c) c.new.job.rec c.new.state) (held_by came) (range_with_len 0 c.new.job.rec.blocks)
exact o at j came r c =
    c.over.report
    ∙ ap (λ (e : Expected). report c.first.fatal e (held_by came) (range_with_len 0 e.job.blocks)) c.new.expected_is

pub faults_are_losses : recheck.FaultsAreLosses → FaultsAreLosses
faults_are_losses losses o at j came r c =
    let e = expected_by (key_of c) c.new.job.rec c.new.state in
    let held = held_by came in
    let n = c.new.job.rec.blocks in
    let told = exact o at j came r c in (
      λ none block lt lost.
          let sound = none_at_fault c.first.fatal e held n (ap (λ (x : ReportParts). x.faults) (sym told) ∙ none) block lt in
          false≢true (sym sound ∙ (losses (key_of c) c.new.job.rec c.new.state held block lt).1 lost),
      λ none. ap (λ (x : ReportParts). x.faults) told ∙ none_told c.first.fatal e held n
          (λ block lt. elim (cases_Bool (is_fault e held block)) [
            | inl is ↦ absurd (none block lt ((losses (key_of c) c.new.job.rec c.new.state held block lt).0 is))
            | inr fails ↦ fails
          ]),
    )

pub listed_have_lost : recheck.FaultsAreLosses → ListedHaveLost
listed_have_lost losses o at j came r c block is =
    let held = held_by came in
    let l = listed_is c.first.fatal (expected_by (key_of c) c.new.job.rec c.new.state) held c.new.job.rec.blocks block
    (subst (λ (x : ReportParts). has x.first block ≡ true) (exact o at j came r c) is) in
    (losses (key_of c) c.new.job.rec c.new.state held block l.0).0 l.1

-- No block has lost its writes where all survive that the state counts.
not_lost : (key : Key) (job : JobParts) (state : State) (held : ℕ → List ℕ) (block : ℕ)
    → ((k : ℕ) → IsTrue (has state.counted k) → Survives key job state.issued held k) → HasLost key job (Some state) held block → ⊥
not_lost key job state held block survive lost =
    let done = lost.last.completed in
    let k = survive lost.write done.counted in
    let goes : block_of job k.write ≡ block = k.goes ∙ done.goes in
    let holds : Holds key job held block k.write = subst (λ b. Holds key job held b k.write) done.goes k.holds in
    elim (cases_Bool (has state.counted k.write)) [
      | inl is ↦
          let most : k.write ≤ lost.write = lost.last.last k.write (record { issued = k.issued; counted = is; goes = goes }) in
          let same : k.write ≡ lost.write = omega (arith, most, k.later) in
          lost.gone (subst (λ i. Holds key job held block i) same holds)
      | inr fails ↦ lost.in_flight k.write (record { issued = k.issued; uncounted = fails; goes = goes }) holds
    ]

pub survivors_are_no_faults : recheck.FaultsAreLosses → SurvivorsAreNoFaults
survivors_are_no_faults losses o at j came r c state is survive =
    (faults_are_losses losses o at j came r c).1
    (λ block lt lost. not_lost (key_of c) c.new.job.rec state (held_by came) block survive
    (subst (λ s. HasLost (key_of c) c.new.job.rec s (held_by came) block) is lost))

-- ---- the last write of a block

-- The greatest number below n that passes.
record Greatest (test : ℕ → Bool) (n : ℕ) : Type 0 where
  pub number : ℕ
  pub below : number < n
  pub passes : test number ≡ true
  pub most : (i : ℕ) → i < n → test i ≡ true → i ≤ number

greatest : (test : ℕ → Bool) (n j : ℕ) → j < n → test j ≡ true → Greatest test n
greatest test zero j less passes = absurd (omega arith)
greatest test (suc n) j less passes = elim (cases_Bool (test n)) [
  | inl is ↦ record { number = n; below = omega arith; passes = is; most = λ i lt p. omega arith }
  | inr fails ↦
      let below_n : (i : ℕ) → i < suc n → test i ≡ true → i < n = λ i lt p. elim (cases_eq i n) [
        | inl same ↦ absurd (false≢true (sym fails ∙ ap test (sym same) ∙ p))
        | inr other ↦ omega arith
      ] in
      let rest = greatest test n j (below_n j less passes) passes in
      record { number = rest.number; below = omega (arith, rest.below); passes = rest.passes; most = λ i lt p. rest.most i (below_n i lt p) p }
]

-- The block has lost its writes of a write that had completed and doesn't survive.
lost_block : StatesCountTheDone → DoneWasIssued → LaterWaits → (key : Key) (origin : Origin) (h : List Event) (held : ℕ → List ℕ) (k : ℕ)
    → IsLegal origin.job h → is_done h k ≡ true → (Survives key origin.job (issued h) held k → ⊥)
    → HasLost key origin.job (Some (state_after origin h)) held (block_of origin.job k)
lost_block taken was_issued waits key origin h held k legal done gone =
    let job = origin.job in
    let state = state_after origin h in
    let block = block_of job k in
    let counted : has state.counted k ≡ true = taken origin h legal k ∙ done in
    let issued_k : k < issued h = was_issued job.depth job.window h legal.by_window k done in
    let test = λ (i : ℕ). has state.counted i && eqb (block_of job i) block in
    let last = greatest test (issued h) k issued_k (and_from (has state.counted k) (eqb (block_of job k) block) counted (eq-eqb block block refl)) in
    let parts = and_parts (has state.counted last.number) (eqb (block_of job last.number) block) last.passes in
    let goes : block_of job last.number ≡ block = eqb-true (block_of job last.number) block parts.1 in
    let not_older : (i : ℕ) → has state.counted i ≡ false → block_of job i ≡ block → k ≤ i = λ i un same. elim (cases_lt i k) [
      | inl lt ↦ absurd (false≢true (sym un ∙ taken origin h legal i ∙ waits job h i k legal lt issued_k same))
      | inr ge ↦ ge
    ] in
    record {
      write = last.number;
      last = record {
        completed = record { issued = last.below; counted = parts.0; goes = goes };
        last = λ i c. last.most i c.issued (and_from (has state.counted i) (eqb (block_of job i) block) c.counted (eq-eqb (block_of job i) block c.goes));
      };
      gone = λ holds. gone (record {
        write = last.number;
        later = last.most k issued_k (and_from (has state.counted k) (eqb block block) counted (eq-eqb block block refl));
        issued = last.below;
        goes = goes;
        holds = holds;
      });
      in_flight = λ i flies holds. gone (record {
        write = i;
        later = not_older i flies.uncounted flies.goes;
        issued = flies.issued;
        goes = flies.goes;
        holds = holds;
      });
    }

pub losses_are_faults : StatesCountTheDone → DoneWasIssued → LaterWaits → WritesStayInTheRegion → recheck.FaultsAreLosses → LossesAreFaults
losses_are_faults taken was_issued waits stays losses o at j came r c state h is by k done gone = elim (cases_lt 0 r.faults) [
  | inl some ↦ some
  | inr none ↦
      let key = key_of c in
      let held = held_by came in
      let job = by.origin.job in
      let lost = lost_block taken was_issued waits key by.origin h held k by.legal done
      (λ survives. gone
      (subst (λ (jb : JobParts). Survives key jb state.issued held k) by.job_is
      (subst (λ (s : State). Survives key job s.issued held k) (sym by.taken) survives))) in
      let here : HasLost key c.new.job.rec c.new.state held (block_of c.new.job.rec k) =
      subst (λ s. HasLost key c.new.job.rec s held (block_of c.new.job.rec k)) (sym is)
      (subst (λ (jb : JobParts). HasLost key jb (Some state) held (block_of jb k)) by.job_is
      (subst (λ (s : State). HasLost key job (Some s) held (block_of job k)) (sym by.taken) lost)) in
      let within = subst (λ (jb : JobParts). block_of jb k < jb.blocks) by.job_is (stays job by.limits k) in
      absurd ((faults_are_losses losses o at j came r c).0 (omega (arith, none)) (block_of c.new.job.rec k) within here)
]
