-- The blocks that the first writes of a job go to.
use Rattle.std.proofs.Common.{◌≡◌, ℕ, ◌+◌, ◌<◌, Bool, true, false, ◌||◌, eqb, List, [], ◌∷◌, length, map, get_or, set, replicate, refl, sym, ap, inl, inr, ◌∙◌, arith, add-one, get_or-set_same, get_or-set_other}
use Rattle.std.specs.Prelude.{Some, if◌then◌else◌}
use Rattle.std.specs.List.{list_any, range_with_len}
use Rattle.std.proofs.Math.ListN.{length-set}
use Rattle.std.proofs.lemmas.Bool.{eq-eqb, ne_eqb, lt-ltb, cases_eq, or_right}
use Rattle.std.proofs.lemmas.List.{get_or-replicate, length-replicate}
use Rattle.std.proofs.lemmas.List.Folds.{list_any-append}
use Rattle.std.proofs.lemmas.List.FromFn.{fill_by_all, length-map-range_with_len, get_or-map-range_with_len}
use Rattle.fc_base.specs.declared.record.JobParts.{JobParts}
use Rattle.fc_base.specs.Counted.{numbers_below}
use Rattle.write_order.specs.Blocks.{block_of}
use Rattle.write_order.specs.Progress.{Progress, next_block}
use Rattle.ledger.specs.declared.entry.RunWrite.{RunWrite}
use Rattle.ledger.specs.Entries.{may_write, behind_lost_run}

-- One of the first n writes goes to the block.
abbrev pub touched_by : JobParts → ℕ → ℕ → Bool
touched_by job n block = list_any (λ k. eqb (block_of job k) block) (numbers_below n)

or_false : (b : Bool) → (b || false) ≡ b
or_false true = refl
or_false false = refl

touched_next : (job : JobParts) (n block : ℕ) → touched_by job (n + 1) block ≡ (touched_by job n block || eqb (block_of job n) block)
touched_next job n block = rw add-one (list_any-append (λ k. eqb (block_of job k) block) (numbers_below n) (n ∷ [])
    ∙ ap (λ b. touched_by job n block || b) (or_false (eqb (block_of job n) block)))

pub touched_none : (job : JobParts) (blocks : ℕ) (touched : List Bool) → touched ≡ replicate blocks false
    → touched ≡ map (touched_by job 0) (range_with_len 0 blocks)
touched_none job blocks touched is = rw is (fill_by_all (touched_by job 0) (replicate blocks false) blocks false (length-replicate blocks false)
    (λ b lt. get_or-replicate blocks b false false lt))

-- The next write's block.
pub next_is : (at : Progress) (job : JobParts) (k block : ℕ) → at ≡ record { job = job; issued = k } → k < job.total → Some block ≡ next_block at
    → block ≡ block_of job k
next_is at job k block is lt told =
    let here : next_block at ≡ Some (block_of job k) = rw (is, lt-ltb k job.total lt) refl in
    let both : Some block ≡ Some (block_of job k) = told ∙ here in
    cc

pub advanced : (at new : Progress) (job : JobParts) (k : ℕ) → at ≡ record { job = job; issued = k } → new ≡ record { job = at.job; issued = at.issued + 1 }
    → new ≡ record { job = job; issued = k + 1 }
advanced at new job k is told =
    let on : Progress → Progress = λ p. record { job = p.job; issued = p.issued + 1 } in
    told ∙ ap on is

-- One write more.
pub touched_more : (job : JobParts) (n blocks block : ℕ) (old new : List Bool) → block ≡ block_of job n → new ≡ set old block true
    → old ≡ map (touched_by job n) (range_with_len 0 blocks) → new ≡ map (touched_by job (n + 1)) (range_with_len 0 blocks)
touched_more job n blocks block old new at put kept =
    let f = touched_by job n in
    let len : length old ≡ blocks = ap length kept ∙ length-map-range_with_len f 0 blocks in
    rw put (fill_by_all (touched_by job (n + 1)) (set old block true) blocks false (length-set old block true ∙ len) (λ b lt.
    elim (cases_eq block b) [
      | inl here ↦
          let inside : b < length old = omega arith in
          rw (here) (get_or-set_same old b true false inside
          ∙ sym (touched_next job n b ∙ ap (λ t. touched_by job n b || t) (eq-eqb (block_of job n) b (sym at ∙ here)) ∙ or_right (touched_by job n b) true refl))
      | inr other ↦
          get_or-set_other old block b true false (λ e. other (sym e))
          ∙ ap (λ xs. get_or xs b false) kept ∙ get_or-map-range_with_len f 0 blocks b b false lt (omega arith)
          ∙ sym (touched_next job n b ∙ ap (λ t. touched_by job n b || t) (ne_eqb (block_of job n) b (λ e. other (at ∙ e))) ∙ or_false (touched_by job n b))
    ]))

-- An entry behind a lost run, by the mark of its block.
pub lost_by : (job : JobParts) (blocks block : ℕ) (touched : List Bool) (entry next : List RunWrite) → touched ≡ map (may_write job) (range_with_len 0 blocks)
    → block < blocks → next ≡ (if get_or touched block false then [] else entry) → next ≡ behind_lost_run job block entry
lost_by job blocks block touched entry next is lt told =
    let mark : get_or touched block false ≡ may_write job block =
    ap (λ ts. get_or ts block false) is ∙ get_or-map-range_with_len (may_write job) 0 blocks block block false lt (omega arith) in
    told ∙ ap (λ (t : Bool). if t then [] else entry) mark
