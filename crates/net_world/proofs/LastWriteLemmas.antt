-- On an honest disk the last write issued to a block, once it is done, is in the file.
use Rattle.std.proofs.Common.{◌≡◌, sym, ◌∙◌, subst, inl, inr, ℕ, ◌<◌, ◌≤◌, arith, Bool, true, ◌==◌, List, ◌∷◌}
use Rattle.std.proofs.lemmas.Bool.{eqb-true, or_cases}
use Rattle.std.proofs.lemmas.List.{length_push}
use Rattle.fc_base.specs.NumberLaws.{has_push}
use Rattle.fc_base.specs.declared.numbers.Key.{Key}
use Rattle.fc_base.specs.declared.record.JobParts.{JobParts}
use Rattle.write_order.specs.Blocks.{block_of}
use Rattle.engine.specs.History as window
use Rattle.net_world.specs.Honest.{HoldsWrite}
use Rattle.net_world.proofs.GroundLemmas.{Ground}
use Rattle.net_world.proofs.FileLemmas.{opened, goes_elsewhere, holds_on}
use Rattle.net_world.proofs.NotionLemmas.{Survives, Always}

-- A write that is done, and to whose block no later one was issued, is in the file.
abbrev pub LastAreThere : (ℕ → List ℕ) → Key → JobParts → ℕ → (ℕ → Bool) → Type 0
LastAreThere held key job n d =
    (k : ℕ) → d k ≡ true → ((i : ℕ) → i < n → block_of job i ≡ block_of job k → i ≤ k) → HoldsWrite held key job k

-- It may land by any mask.
abbrev pub Any : ℕ → JobParts → Type 0
Any mask job = Unit {0}

pub issue_more : (h : List window.Event) (k i : ℕ) → i < window.issued h → i < window.issued (window.issue k ∷ h)
issue_more h k i lt = omega (arith, lt, length_push (window.issues h) k)

pub last_survives : Ground → Survives Always Any LastAreThere
last_survives laws = record {
  begins = λ held key job k d last. absurd cc;
  issues = λ held key job h m p k d last. p k d (λ i lt same. last i (issue_more h m i lt) same);
  ends = λ held key job h m legal is_open now p k d last. elim (or_cases (window.is_done h k) (m == k) (sym (has_push (window.completions h) m k) ∙ d)) [
    | inl before ↦ p k before last
    | inr e ↦ subst (λ i. HoldsWrite held key job i) (eqb-true m k e) (now tt)
  ];
  lands = λ held key job h m mask n d legal limits is_open may same stays p k is_done last.
      let below = (opened laws job h m legal is_open).0 in
      holds_on laws held key job k m mask limits
      (λ e. goes_elsewhere laws job h m k legal is_open (stays k is_done) (last m (subst (λ x. m < x) (sym same) below) (sym e)) (sym e))
      (p k is_done last);
  alike = λ held key job n d e agree p k is_done last. p k (agree k ∙ is_done) last;
}
