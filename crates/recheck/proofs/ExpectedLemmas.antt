-- What the blocks are checked against, write by write.
use Rattle.std.proofs.Common.{◌≡◌, ℕ, zero, suc, ◌+◌, ◌<◌, ◌≤◌, Bool, true, false, ◌&&◌, ◌||◌, eqb, List, [], ◌∷◌, ◌++◌, length, get_or, take}
use Rattle.std.proofs.Common.{not, map, filter, set, refl, sym, ap, subst, inl, inr, ◌∙◌, arith, add-one, get_or-set_same, get_or-set_other}
use Rattle.std.specs.Prelude.{Option, Some, None}
use Rattle.std.specs.List.{range_with_len}
use Rattle.std.proofs.Math.ListN.{length-set}
use Rattle.std.proofs.lemmas.List.{map-append}
use Rattle.std.proofs.lemmas.List.FromFn.{fill_by_all}
use Rattle.std.proofs.lemmas.Bool.{eq-eqb, ne_eqb, lt-ltb, cases_eq, or_right}
use Rattle.std.proofs.lemmas.List.{take_all}
use Rattle.std.specs.List.{list_any}
use Rattle.fc_base.specs.declared.numbers.Key.{Key}
use Rattle.fc_base.specs.declared.record.JobParts.{JobParts}
use Rattle.fc_base.specs.Counted.{numbers_below}
use Rattle.fc_base.specs.NumberLaws.{filter_next, filter_not_next}
use Rattle.write_order.specs.Blocks.{block_of}
use Rattle.write_order.specs.Progress.{Progress, next_block}
use Rattle.verify_state.specs.State.{State}
use Rattle.recheck.specs.Expected.{issued_in, counts, greatest_below, last_completed, in_flight, placed_write, expected_by}
use Rattle.recheck.specs.declared.expected.BlockWrites.{BlockWrites}
use Rattle.recheck.specs.Faults.{writes_to}

-- Of the writes that go to a block one passes.
pub any_to : (test : ℕ → Bool) (block : ℕ) (writes : List BlockWrites)
    → list_any test (writes_to block writes) ≡ list_any (λ w. eqb w.block block && test w.seq) writes
any_to test block [] = refl
any_to test block (w ∷ ws) = by (eqb w.block block) refl (any_to test block ws)
  where
    by : (b : Bool) → eqb w.block block ≡ b → list_any test (writes_to block ws) ≡ list_any (λ v. eqb v.block block && test v.seq) ws
        → list_any test (writes_to block (w ∷ ws)) ≡ (eqb w.block block && test w.seq || list_any (λ v. eqb v.block block && test v.seq) ws)
    by true e rest = rw (e, rest) refl
    by false e rest = rw (e, rest) refl

-- A passing element is one that passes.
pub any_at : {X : Type 0} (q : X → Bool) (xs : List X) (i : ℕ) (d : X) → i < length xs → q (get_or xs i d) ≡ true → list_any q xs ≡ true
any_at q [] i d lt e = absurd (omega arith)
any_at q (x ∷ xs) zero d lt e = rw e refl
any_at q (x ∷ xs) (suc i) d lt e = or_right (q x) (list_any q xs) (any_at q xs i d (omega arith) e)

-- A write of a list that goes to the block and passes.
pub found_at : (test : ℕ → Bool) (block : ℕ) (writes : List BlockWrites) (i : ℕ) (w : BlockWrites) → i < length writes → w ≡ get_or writes i w → w.block ≡ block
    → test w.seq ≡ true → list_any test (writes_to block writes) ≡ true
found_at test block writes i w lt is here passes =
    any_to test block writes
    ∙ any_at (λ v. eqb v.block block && test v.seq) writes i w lt
    (subst (λ v. (eqb v.block block && test v.seq) ≡ true) is (rw (eq-eqb w.block block here, passes) refl))

-- None of a list goes to the block and passes.
pub none_found : (test : ℕ → Bool) (block : ℕ) (writes : List BlockWrites) (n : ℕ) → length writes ≤ n
    → list_any (λ v. eqb v.block block && test v.seq) (take n writes) ≡ false → list_any test (writes_to block writes) ≡ false
none_found test block writes n all none =
    any_to test block writes ∙ ap (list_any (λ v. eqb v.block block && test v.seq)) (sym (take_all n writes all)) ∙ none

-- ---- the pass over the writes

-- What is kept once the first n writes are gone through.
pub record Gone (job : JobParts) (state : Option State) (n : ℕ) (last : List (Option ℕ)) (open_writes : List BlockWrites) : Type 0 where
  pub all : length last ≡ job.blocks
  pub each : (b : ℕ) → b < job.blocks → get_or last b None ≡ greatest_below (λ k. counts state k && eqb (block_of job k) b) n
  pub in_flight : open_writes ≡ map (placed_write job) (filter (λ k. not (counts state k)) (numbers_below n))

-- A completed write is the last one to its block.
pub gone_counted : (job : JobParts) (state : Option State) (n : ℕ) (last : List (Option ℕ)) (open_writes : List BlockWrites) → counts state n ≡ true
    → Gone job state n last open_writes → Gone job state (n + 1) (set last (block_of job n) (Some n)) open_writes
gone_counted job state n last open_writes counted gone = rw add-one (record {
  all = length-set last (block_of job n) (Some n) ∙ gone.all;
  each = λ b lt. elim (cases_eq (block_of job n) b) [
    | inl here ↦
        let inside : b < length last = omega (arith, gone.all) in
        rw (counted, here, eq-eqb b b refl) (get_or-set_same last b (Some n) None inside)
    | inr other ↦
        rw (counted, ne_eqb (block_of job n) b other)
        (get_or-set_other last (block_of job n) b (Some n) None (λ e. other (sym e)) ∙ gone.each b lt)
  ];
  in_flight = gone.in_flight ∙ ap (map (placed_write job)) (sym (filter_not_next (λ k. not (counts state k)) n (ap not counted)));
})

-- A write that isn't completed is in flight.
pub gone_in_flight : (job : JobParts) (state : Option State) (n : ℕ) (last : List (Option ℕ)) (open_writes : List BlockWrites) → counts state n ≡ false
    → Gone job state n last open_writes → Gone job state (n + 1) last (open_writes ++ placed_write job n ∷ [])
gone_in_flight job state n last open_writes not_counted gone = rw add-one (record {
  all = gone.all;
  each = λ b lt. rw not_counted (gone.each b lt);
  in_flight =
      ap (λ xs. xs ++ placed_write job n ∷ []) gone.in_flight
      ∙ sym (map-append (placed_write job) (filter (λ k. not (counts state k)) (numbers_below n)) (n ∷ []))
      ∙ ap (map (placed_write job)) (sym (filter_next (λ k. not (counts state k)) n (ap not not_counted)));
})

-- All writes are gone through.
pub gone_all : (key : Key) (job : JobParts) (state : Option State) (n : ℕ) (last : List (Option ℕ)) (open_writes : List BlockWrites) → n ≡ issued_in job state
    → Gone job state n last open_writes → record { key = key; job = job; last = last; in_flight = open_writes } ≡ expected_by key job state
gone_all key job state n last open_writes is gone =
    let table : last ≡ map (last_completed job state) (range_with_len 0 job.blocks) =
    fill_by_all (last_completed job state) last job.blocks None gone.all
    (λ b lt. gone.each b lt ∙ ap (greatest_below (λ k. counts state k && eqb (block_of job k) b)) is) in
    let list : open_writes ≡ map (placed_write job) (in_flight job state) =
    gone.in_flight ∙ ap (λ m. map (placed_write job) (filter (λ k. not (counts state k)) (numbers_below m))) is in
    rw (table, list) refl

-- The next write's block.
pub next_is : (at : Progress) (job : JobParts) (k block : ℕ) → at ≡ record { job = job; issued = k } → k < job.total → Some block ≡ next_block at
    → block ≡ block_of job k
next_is at job k block is lt told =
    let here : next_block at ≡ Some (block_of job k) = rw (is, lt-ltb k job.total lt) refl in
    let both : Some block ≡ Some (block_of job k) = told ∙ here in
    cc

-- One write further.
pub advanced : (at new : Progress) (job : JobParts) (k : ℕ) → at ≡ record { job = job; issued = k } → new ≡ record { job = at.job; issued = at.issued + 1 }
    → new ≡ record { job = job; issued = k + 1 }
advanced at new job k is told =
    let on : Progress → Progress = λ p. record { job = p.job; issued = p.issued + 1 } in
    told ∙ ap on is

-- What the loop leaves of a completed write.
pub step_counted : (job : JobParts) (state : Option State) (n block : ℕ) (write : Option ℕ) (last new_last : List (Option ℕ))
    (open_writes new_open : List BlockWrites) → counts state n ≡ true → block ≡ block_of job n → write ≡ Some n → new_last ≡ set last block write
    → new_open ≡ open_writes → Gone job state n last open_writes → Gone job state (n + 1) new_last new_open
step_counted job state n block write last new_last open_writes new_open counted at is put same gone =
    rw (put, at, is, same) (gone_counted job state n last open_writes counted gone)

-- What it leaves of one that isn't.
pub step_in_flight : (job : JobParts) (state : Option State) (n block : ℕ) (last new_last : List (Option ℕ)) (open_writes new_open : List BlockWrites)
    → counts state n ≡ false → block ≡ block_of job n → new_last ≡ last → new_open ≡ open_writes ++ record { seq = n; block = block } ∷ []
    → Gone job state n last open_writes → Gone job state (n + 1) new_last new_open
step_in_flight job state n block last new_last open_writes new_open not_counted at same put gone =
    rw (put, at, same) (gone_in_flight job state n last open_writes not_counted gone)
