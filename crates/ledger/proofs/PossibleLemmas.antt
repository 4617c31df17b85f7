-- Ledgers stay possible.
use Rattle.std.proofs.Common.{◌≡◌, ℕ, zero, suc, ◌+◌, ◌<◌, ◌≤◌, Bool, true, false, ◌&&◌, eqb, List, [], ◌∷◌, length, map, filter, replicate, get_or, refl, sym, ◌∙◌, inl, inr, arith}
use Rattle.std.specs.Prelude.{Option, Some, None, nat_lt, if◌then◌else◌}
use Rattle.std.specs.List.{list_all, range_with_len}
use Rattle.std.proofs.lemmas.Bool.{and_parts, lt-ltb, ltb-true, eq-eqb, cases_lt}
use Rattle.std.proofs.lemmas.List.{get_or_past}
use Rattle.std.proofs.lemmas.List.Folds.{list_all-append}
use Rattle.std.proofs.lemmas.List.FromFn.{get_or-map-range_with_len, length-map-range_with_len}
use Rattle.fc_base.specs.declared.numbers.Key.{Key}
use Rattle.fc_base.specs.declared.record.JobParts.{JobParts}
use Rattle.fc_base.specs.Counted.{numbers_below}
use Rattle.write_order.specs.Blocks.{block_of}
use Rattle.verify_state.specs.State.{State}
use Rattle.recheck.specs.Expected.{Expected, issued_in, greatest_below, last_completed, placed_write, expected_by}
use Rattle.recheck.specs.Faults.{last_write, writes_to}
use Rattle.ledger.specs.declared.entry.RunWrite.{RunWrite}
use Rattle.ledger.specs.Entries.{write_of, last_of, entry_behind, behind_run, behind_lost_run, behind_check}
use Rattle.ledger.specs.Places.{Place, entry_of, with_each}
use Rattle.ledger.specs.Possible.{is_block_size, is_within_job, is_possible, StaysPossible}

both : (a b : Bool) → a ≡ true → b ≡ true → (a && b) ≡ true
both a b s t = rw (s, t) refl

-- ---- lists of which all pass

all_at : (p : List RunWrite → Bool) (xs : List (List RunWrite)) (b : ℕ) → p [] ≡ true → list_all p xs ≡ true → p (get_or xs b []) ≡ true
all_at p [] b none all = none
all_at p (x ∷ xs) zero none all = (and_parts (p x) (list_all p xs) all).0
all_at p (x ∷ xs) (suc b) none all = all_at p xs b none (and_parts (p x) (list_all p xs) all).1

all_each : (p : List RunWrite → Bool) (f : ℕ → List RunWrite) (a n : ℕ) → ((b : ℕ) → p (f b) ≡ true) → list_all p (map f (range_with_len a n)) ≡ true
all_each p f a zero good = refl
all_each p f a (suc n) good = both (p (f a)) (list_all p (map f (range_with_len (a + 1) n))) (good a) (all_each p f (a + 1) n good)

all_filter : {X : Type 0} (p q : X → Bool) (xs : List X) → list_all p xs ≡ true → list_all p (filter q xs) ≡ true
all_filter p q [] all = refl
all_filter p q (x ∷ xs) all = by (q x) refl (all_filter p q xs (and_parts (p x) (list_all p xs) all).1)
  where
    by : (b : Bool) → q x ≡ b → list_all p (filter q xs) ≡ true → list_all p (filter q (x ∷ xs)) ≡ true
    by true is ih = rw is (both (p x) (list_all p (filter q xs)) (and_parts (p x) (list_all p xs) all).0 ih)
    by false is ih = rw is ih

all_none : (p : List RunWrite → Bool) (n : ℕ) → p [] ≡ true → list_all p (replicate n []) ≡ true
all_none p zero none = refl
all_none p (suc n) none = both (p []) (list_all p (replicate n [])) none (all_none p n none)

-- A place with each entry changed.
each_possible : (change : ℕ → List RunWrite → List RunWrite) (place : Place)
    → ((b : ℕ) (entry : List RunWrite) → list_all (is_within_job place.bs) entry ≡ true → list_all (is_within_job place.bs) (change b entry) ≡ true)
    → is_possible place ≡ true → is_possible (with_each change place) ≡ true
each_possible change place keeps possible =
    let parts = and_parts (is_block_size place.bs) (list_all (list_all (is_within_job place.bs)) place.entries) possible in
    both (is_block_size place.bs) (list_all (list_all (is_within_job place.bs)) (map (λ b. change b (entry_of place b)) (range_with_len 0 (length place.entries)))) parts.0
    (all_each (list_all (is_within_job place.bs)) (λ b. change b (entry_of place b)) 0 (length place.entries)
    (λ b. keeps b (entry_of place b) (all_at (list_all (is_within_job place.bs)) place.entries b refl parts.1)))

-- ---- the writes of a run

greatest_lt : (test : ℕ → Bool) (n k : ℕ) → greatest_below test n ≡ Some k → k < n
greatest_lt test zero k is = cc
greatest_lt test (suc n) k is = by (test n) refl (greatest_lt test n k)
  where
    by : (b : Bool) → test n ≡ b → (greatest_below test n ≡ Some k → k < n) → k < suc n
    by true found ih = let here : Some n ≡ Some k = rw found at is in let same : n ≡ k = cc in omega arith
    by false found ih = let rest : greatest_below test n ≡ Some k = rw found at is in omega (arith, ih rest)

last_lt : (key : Key) (job : JobParts) (state : Option State) (block k : ℕ) → last_write (expected_by key job state) block ≡ Some k → k < issued_in job state
last_lt key job state block k is = elim (cases_lt block job.blocks) [
  | inl lt ↦
      greatest_lt _ (issued_in job state) k (sym (get_or-map-range_with_len (last_completed job state) 0 job.blocks block block None lt (omega arith)) ∙ is)
  | inr past ↦
      let none : last_write (expected_by key job state) block ≡ None =
      get_or_past (map (last_completed job state) (range_with_len 0 job.blocks)) block None
      (omega (arith, length-map-range_with_len (last_completed job state) 0 job.blocks)) in
      let bad : None ≡ Some k = sym none ∙ is in
      absurd cc
]

below : (n total : ℕ) → n ≤ total → list_all (λ k. nat_lt k total) (numbers_below n) ≡ true
below zero total le = refl
below (suc n) total le =
    list_all-append (λ k. nat_lt k total) (numbers_below n) (n ∷ [])
    ∙ both (list_all (λ k. nat_lt k total) (numbers_below n)) (list_all (λ k. nat_lt k total) (n ∷ [])) (below n total (omega arith))
    (both (nat_lt n total) true (lt-ltb n total (omega arith)) refl)

one_is_within_job : (e : Expected) (bs k : ℕ) → k < e.job.total → e.job.bs ≡ bs → is_within_job bs (write_of e k) ≡ true
one_is_within_job e bs k lt size = both (nat_lt k e.job.total) (eqb e.job.bs bs) (lt-ltb k e.job.total lt) (eq-eqb e.job.bs bs size)

flying_is_within_job : (e : Expected) (bs block : ℕ) (ks : List ℕ) → e.job.bs ≡ bs → list_all (λ k. nat_lt k e.job.total) ks ≡ true
    → list_all (is_within_job bs) (map (write_of e) (writes_to block (map (placed_write e.job) ks))) ≡ true
flying_is_within_job e bs block [] size all = refl
flying_is_within_job e bs block (k ∷ ks) size all =
    let parts = and_parts (nat_lt k e.job.total) (list_all (λ j. nat_lt j e.job.total) ks) all in
    by (eqb (block_of e.job k) block) refl (ltb-true k e.job.total parts.0) (flying_is_within_job e bs block ks size parts.1)
  where
    by : (b : Bool) → eqb (block_of e.job k) block ≡ b → k < e.job.total
        → list_all (is_within_job bs) (map (write_of e) (writes_to block (map (placed_write e.job) ks))) ≡ true
        → list_all (is_within_job bs) (map (write_of e) (writes_to block (map (placed_write e.job) (k ∷ ks)))) ≡ true
    by true is lt ih = rw is (both (is_within_job bs (write_of e k)) (list_all (is_within_job bs) (map (write_of e) (writes_to block (map (placed_write e.job) ks))))
        (one_is_within_job e bs k lt size) ih)
    by false is lt ih = rw is ih

entry_is_within_job : (e : Expected) (bs : ℕ) (o : Option ℕ) (flying entry : List RunWrite) → ((k : ℕ) → o ≡ Some k → is_within_job bs (write_of e k) ≡ true)
    → list_all (is_within_job bs) flying ≡ true → list_all (is_within_job bs) entry ≡ true → list_all (is_within_job bs) (entry_behind (last_of e o) flying entry) ≡ true
entry_is_within_job e bs (Some k) flying entry last fly all = both (is_within_job bs (write_of e k)) (list_all (is_within_job bs) flying) (last k refl) fly
entry_is_within_job e bs None flying [] last fly all = refl
entry_is_within_job e bs None flying (w ∷ ws) last fly all =
    list_all-append (is_within_job bs) (w ∷ ws) flying ∙ both (list_all (is_within_job bs) (w ∷ ws)) (list_all (is_within_job bs) flying) all fly

lost_is_within_job : (bs : ℕ) (b : Bool) (entry : List RunWrite) → list_all (is_within_job bs) entry ≡ true → list_all (is_within_job bs) (if b then [] else entry) ≡ true
lost_is_within_job bs true entry all = refl
lost_is_within_job bs false entry all = all

pub stays_possible : StaysPossible
stays_possible = record {
  first = λ bs blocks sized. both (is_block_size bs) (list_all (list_all (is_within_job bs)) (replicate blocks [])) sized (all_none (list_all (is_within_job bs)) blocks refl);
  run = λ key job state place few size possible.
      let e = expected_by key job state in
      each_possible (behind_run e) place (λ b entry all.
      entry_is_within_job e place.bs (last_write e b) (map (write_of e) (writes_to b e.in_flight)) entry
      (λ k is. one_is_within_job e place.bs k (omega (arith, last_lt key job state b k is)) size)
      (flying_is_within_job e place.bs b _ size (all_filter (λ k. nat_lt k job.total) _ (numbers_below (issued_in job state)) (below (issued_in job state) job.total few))) all) possible;
  lost_run = λ job place possible. each_possible (behind_lost_run job) place (λ b entry all. lost_is_within_job place.bs _ entry all) possible;
  check = λ held place possible. each_possible (behind_check held) place (λ b entry all. all_filter (is_within_job place.bs) _ entry all) possible;
}
