-- What was told as done and survives is no fault, and what doesn't survive is one.
use Rattle.std.proofs.Common.{◌≡◌, ℕ, zero, suc, ◌<◌, ◌≤◌, Bool, true, false, ◌&&◌, eqb, List, refl, sym, ap, ◌∙◌, subst, inl, inr, arith}
use Rattle.std.specs.Prelude.{Some}
use Rattle.std.proofs.lemmas.Bool.{cases_Bool, cases_lt, cases_eq, false≢true, and_parts, and_from, eq-eqb, eqb-true}
use Rattle.fc_base.specs.Counted.{has}
use Rattle.write_order.specs.Blocks.{block_of}
use Rattle.write_order.specs.Laws.{WritesStayInTheRegion}
use Rattle.engine.specs.History.{Event, issued, is_done}
use Rattle.engine.specs.Sets.{DoneWasIssued}
use Rattle.engine.specs.Laws.{StatesCountTheDone, LaterWaits}
use Rattle.engine.specs.Running.{Origin}
use Rattle.engine.specs.Taken.{state_after}
use Rattle.recheck.specs.Expected.{expected_by}
use Rattle.recheck.specs.Faults.{is_fault}
use Rattle.recheck.specs.Laws.{FaultsAreLosses, HasLost, Holds}
use Rattle.targets.specs.declared.notice.Notice.{Notice}
use Rattle.targets.specs.Notices.{told_done}
use Rattle.targets.specs.Fronts.{IsBehind}
use Rattle.targets.specs.Losses.{AllSurvive, SurvivorsAreNoFaults, LossesAreFaults}
use Rattle.targets.proofs.FrontLemmas.{ordered_are_issued, told_are_counted, told_are_ended, history_is_legal}

-- No block has lost its writes where all survive that were told as done.
not_lost : StatesCountTheDone → (origin : Origin) (first notices : List Notice) (behind ahead : List Event) (held : ℕ → List ℕ) (block : ℕ)
    → IsBehind origin first notices behind ahead → AllSurvive origin notices behind held
    → HasLost origin.key origin.job (Some (state_after origin ahead)) held block → ⊥
not_lost taken origin first notices behind ahead held block b survive lost =
    let state = state_after origin ahead in
    let done = lost.last.completed in
    let told : has (told_done notices) lost.write ≡ true = sym (told_are_counted taken origin notices ahead b.history lost.write) ∙ done.counted in
    let k = survive lost.write told in
    let issued_k : k.write < issued ahead = ordered_are_issued origin first notices behind ahead b k.write k.ordered in
    let goes : block_of origin.job k.write ≡ block = k.goes ∙ done.goes in
    let holds : Holds origin.key origin.job held block k.write = subst (λ at. Holds origin.key origin.job held at k.write) done.goes k.holds in
    elim (cases_Bool (has state.counted k.write)) [
      | inl t ↦
          let most : k.write ≤ lost.write = lost.last.last k.write (record { issued = issued_k; counted = t; goes = goes }) in
          let same : k.write ≡ lost.write = omega (arith, most, k.later) in
          lost.gone (subst (λ i. Holds origin.key origin.job held block i) same holds)
      | inr f ↦ lost.in_flight k.write (record { issued = issued_k; uncounted = f; goes = goes }) holds
    ]

pub survivors_are_no_faults : StatesCountTheDone → FaultsAreLosses → SurvivorsAreNoFaults
survivors_are_no_faults taken losses origin first notices behind ahead held b survive block below =
    let state = Some (state_after origin ahead) in
    elim (cases_Bool (is_fault (expected_by origin.key origin.job state) held block)) [
      | inl t ↦ absurd (not_lost taken origin first notices behind ahead held block b survive ((losses origin.key origin.job state held block below).0 t))
      | inr f ↦ f
    ]

-- ---- the last write of a block

-- The greatest number below n that passes.
record Greatest (test : ℕ → Bool) (n : ℕ) : Type 0 where
  pub number : ℕ
  pub below : number < n
  pub passes : test number ≡ true
  pub most : (i : ℕ) → i < n → test i ≡ true → i ≤ number

greatest : (test : ℕ → Bool) (n j : ℕ) → j < n → test j ≡ true → Greatest test n
greatest test zero j less passes = absurd (omega arith)
greatest test (suc n) j less passes = elim (cases_Bool (test n)) [
  | inl t ↦ record { number = n; below = omega arith; passes = t; most = λ i lt p. omega arith }
  | inr f ↦
      let below_n : (i : ℕ) → i < suc n → test i ≡ true → i < n = λ i lt p. elim (cases_eq i n) [
        | inl same ↦ absurd (false≢true (sym f ∙ ap test (sym same) ∙ p))
        | inr other ↦ omega arith
      ] in
      let rest = greatest test n j (below_n j less passes) passes in
      record { number = rest.number; below = omega (arith, rest.below); passes = rest.passes; most = λ i lt p. rest.most i (below_n i lt p) p }
]

pub losses_are_faults : StatesCountTheDone → DoneWasIssued → LaterWaits → WritesStayInTheRegion → FaultsAreLosses → LossesAreFaults
losses_are_faults taken was_issued waits stays losses origin notices h held j limits is told gone =
    let job = origin.job in
    let state = state_after origin h in
    let block = block_of job j in
    let legal = history_is_legal origin notices h is in
    let counted : has state.counted j ≡ true = told_are_counted taken origin notices h is j ∙ told in
    let is_done_j : is_done h j ≡ true = ap (λ l. has l j) (told_are_ended origin notices h is).0 ∙ told in
    let issued_j : j < issued h = was_issued job.depth job.window h legal.by_window j is_done_j in
    let test = λ (k : ℕ). has state.counted k && eqb (block_of job k) block in
    let last = greatest test (issued h) j issued_j (and_from (has state.counted j) (eqb (block_of job j) block) counted (eq-eqb block block refl)) in
    let parts = and_parts (has state.counted last.number) (eqb (block_of job last.number) block) last.passes in
    let goes : block_of job last.number ≡ block = eqb-true (block_of job last.number) block parts.1 in
    let not_older : (k : ℕ) → has state.counted k ≡ false → block_of job k ≡ block → j ≤ k = λ k un same. elim (cases_lt k j) [
      | inl lt ↦ absurd (false≢true (sym un ∙ taken origin h legal k ∙ waits job h k j legal lt issued_j same))
      | inr ge ↦ ge
    ] in
    let lost : HasLost origin.key job (Some state) held block = record {
      write = last.number;
      last = record {
        completed = record { issued = last.below; counted = parts.0; goes = goes };
        last = λ i c. last.most i c.issued (and_from (has state.counted i) (eqb (block_of job i) block) c.counted (eq-eqb (block_of job i) block c.goes));
      };
      gone = λ holds. gone (record {
        write = last.number;
        later = last.most j issued_j (and_from (has state.counted j) (eqb block block) counted (eq-eqb block block refl));
        ordered = last.below;
        goes = goes;
        holds = holds;
      });
      in_flight = λ k flies holds. gone (record {
        write = k;
        later = not_older k flies.uncounted flies.goes;
        ordered = flies.issued;
        goes = flies.goes;
        holds = holds;
      });
    } in
    (losses origin.key job (Some state) held block (stays job limits j)).1 lost
