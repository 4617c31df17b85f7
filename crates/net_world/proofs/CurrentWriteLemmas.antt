-- On an honest disk with whole writes each block holds the last write to it that is done, or one in
-- flight.
use Rattle.std.proofs.Common.{◌≡◌, refl, sym, ◌∙◌, ap, subst, ◌⊎◌, inl, inr, ℕ, ◌<◌, ◌≤◌, arith, Bool, true, false, ◌||◌, ◌==◌, List, ◌∷◌}
use Rattle.std.proofs.lemmas.Bool.{cases_eq, eqb-true, or_cases, false≢true}
use Rattle.std.proofs.lemmas.Bool.Decides.{nat_tests}
use Rattle.fc_base.specs.Counted.{has}
use Rattle.fc_base.specs.NumberLaws.{has_push}
use Rattle.fc_base.specs.declared.numbers.Key.{Key}
use Rattle.fc_base.specs.declared.record.JobParts.{JobParts}
use Rattle.write_order.specs.Blocks.{block_of}
use Rattle.engine.specs.History as window
use Rattle.engine.specs.Legal.{IsLegal}
use Rattle.net_world.specs.Honest.{HoldsWrite, HasAllSectors}
use Rattle.net_world.proofs.GroundLemmas.{Ground}
use Rattle.net_world.proofs.FileLemmas.{opened, goes_elsewhere, holds_on, holds_whole}
use Rattle.net_world.proofs.LastWriteLemmas.{issue_more}
use Rattle.net_world.proofs.NotionLemmas.{Survives, Always}

-- The block of write k holds that write, or one in flight to the same block.
pub record Holding (held : ℕ → List ℕ) (key : Key) (job : JobParts) (n : ℕ) (d : ℕ → Bool) (k : ℕ) : Type 0 where
  pub write : ℕ
  pub there : block_of job write ≡ block_of job k
  pub which : (write ≡ k) ⊎ ((write < n) × (d write ≡ false))
  pub holds : HoldsWrite held key job write

-- So it is for the last write to each block that is done.
abbrev pub CurrentAreThere : (ℕ → List ℕ) → Key → JobParts → ℕ → (ℕ → Bool) → Type 0
CurrentAreThere held key job n d =
    (k : ℕ) → d k ≡ true → ((i : ℕ) → i < n → d i ≡ true → block_of job i ≡ block_of job k → i ≤ k) → Holding held key job n d k

still_flies : (k n m write : ℕ) (d e : ℕ → Bool) → (write < n → write < m) → (d write ≡ false → e write ≡ false)
    → (write ≡ k) ⊎ ((write < n) × (d write ≡ false)) → (write ≡ k) ⊎ ((write < m) × (e write ≡ false))
still_flies k n m write d e le same (inl is) = inl is
still_flies k n m write d e le same (inr p) = inr (le p.0, same p.1)

holding_on : (held : ℕ → List ℕ) (key : Key) (job : JobParts) (n m : ℕ) (d e : ℕ → Bool) (k : ℕ) → (x : Holding held key job n d k)
    → (x.write < n → x.write < m) → (d x.write ≡ false → e x.write ≡ false) → Holding held key job m e k
holding_on held key job n m d e k x le same =
    record { write = x.write; there = x.there; which = still_flies k n m x.write d e le same x.which; holds = x.holds }

done_more : (h : List window.Event) (m k : ℕ) → window.is_done h k ≡ true → window.is_done (window.done m ∷ h) k ≡ true
done_more h m k e = has_push (window.completions h) m k ∙ ap (λ b. b || (m == k)) e

done_self : (h : List window.Event) (m : ℕ) → window.is_done (window.done m ∷ h) m ≡ true
done_self h m = has_push (window.completions h) m m ∙ or_self (window.is_done h m) (m == m) (grind (arith, nat_tests))
  where
    or_self : (a b : Bool) → b ≡ true → (a || b) ≡ true
    or_self true b e = refl
    or_self false b e = e

undone_on : (h : List window.Event) (m write : ℕ) → (m ≡ write → ⊥) → window.is_done h write ≡ false → window.is_done (window.done m ∷ h) write ≡ false
undone_on h m write ne e = has_push (window.completions h) m write ∙ ap (λ b. b || (m == write)) e ∙ other m write ne
  where
    other : (a b : ℕ) → (a ≡ b → ⊥) → (a == b) ≡ false
    other a b n = grind (arith, nat_tests, n)

-- The write that is done now isn't one in flight to a block whose last write is done.
ends_apart : Ground → (job : JobParts) (h : List window.Event) (m k write : ℕ) → IsLegal job h → has (window.open_writes h) m ≡ true → window.is_done h k ≡ true
    → (block_of job m ≡ block_of job k → m ≤ k) → block_of job write ≡ block_of job k → m ≡ write → ⊥
ends_apart laws job h m k write legal is_open finished last there same =
    let goes : block_of job m ≡ block_of job k = ap (block_of job) same ∙ there in
    goes_elsewhere laws job h m k legal is_open finished (last goes) goes

now_done : (held : ℕ → List ℕ) (key : Key) (job : JobParts) (n : ℕ) (d : ℕ → Bool) (m k : ℕ) → HoldsWrite held key job m → m ≡ k → Holding held key job n d k
now_done held key job n d m k now e = record { write = k; there = refl; which = inl refl; holds = subst (λ i. HoldsWrite held key job i) e now }

not_done : (a b : Bool) → (a ≡ true → b ≡ true) → b ≡ false → a ≡ false
not_done true b f e = absurd (false≢true (sym e ∙ f refl))
not_done false b f e = refl

pub current_survives : Ground → Survives Always HasAllSectors CurrentAreThere
current_survives laws = record {
  begins = λ held key job k d last. absurd cc;
  issues = λ held key job h m p k d last.
      let x = p k d (λ i lt done same. last i (issue_more h m i lt) done same) in
      holding_on held key job (window.issued h) (window.issued (window.issue m ∷ h)) (window.is_done h) (window.is_done (window.issue m ∷ h)) k x
      (issue_more h m x.write) (λ e. e);
  ends = λ held key job h m legal is_open now p k d last. elim (or_cases (window.is_done h k) (m == k) (sym (has_push (window.completions h) m k) ∙ d)) [
    | inl before ↦ (
        let x = p k before (λ i lt done same. last i lt (done_more h m i done) same) in
        let apart = ends_apart laws job h m k x.write legal is_open before (last m (opened laws job h m legal is_open).0 (done_self h m)) x.there in
        holding_on held key job (window.issued h) (window.issued h) (window.is_done h) (window.is_done (window.done m ∷ h)) k x (λ lt. lt)
        (undone_on h m x.write apart))
    | inr e ↦ now_done held key job (window.issued h) (window.is_done (window.done m ∷ h)) m k (now tt) (eqb-true m k e)
  ];
  lands = λ held key job h m mask n d legal limits is_open may same stays p k is_done last.
      let o = opened laws job h m legal is_open in
      elim (cases_eq (block_of job m) (block_of job k)) [
        | inl here ↦ record {
          write = m;
          there = here;
          which = inr (subst (λ x. m < x) (sym same) o.0, not_done (d m) (window.is_done h m) (stays m) o.1);
          holds = holds_whole laws held key job m mask limits may;
        }
        | inr apart ↦ (
            let x = p k is_done last in
            record {
              write = x.write;
              there = x.there;
              which = x.which;
              holds = holds_on laws held key job x.write m mask limits (λ e. apart (sym e ∙ x.there)) x.holds;
            })
      ];
  alike = λ held key job n d e agree p k is_done last.
      let x = p k (agree k ∙ is_done) (λ i lt done same. last i lt (sym (agree i) ∙ done) same) in
      holding_on held key job n n d e k x (λ lt. lt) (λ f. sym (agree x.write) ∙ f);
}
