-- Checks, block by block.
use Rattle.std.proofs.Common.{◌≡◌, ◌≢◌, ℕ, zero, suc, ◌+◌, ◌<◌, Bool, true, false, not, List, [], ◌∷◌, ◌++◌, length, map, take, filter, get_or, set, refl, sym, ap, inl, inr, ◌∙◌, arith, add-one, append-nil, get_or-set_same, get_or-set_other}
use Rattle.std.specs.Prelude.{Option, Some, None, nat_lt, if◌then◌else◌}
use Rattle.std.specs.List.{list_any, range_with_len}
use Rattle.std.proofs.Math.ListN.{length-set}
use Rattle.std.proofs.lemmas.Bool.{lt-ltb, le-ltb, cases_lt, cases_eq}
use Rattle.std.proofs.lemmas.List.{length_push, take_all, take-append-le, length-take, get_or_past, map-id, length-replicate, get_or-replicate}
use Rattle.std.proofs.lemmas.List.Elements.{filter-append}
use Rattle.std.proofs.lemmas.List.FromFn.{fill_by_all, length-map-range_with_len, get_or-map-range_with_len, map-range_with_len_more}
use Rattle.recheck.specs.declared.verdict.Verdict.TheVariants as verdicts
use Rattle.recheck.specs.Check.{with_verdict}
use Rattle.recheck.specs.Report as reports
use Rattle.recheck.specs.Expected.{Expected}
use Rattle.recheck.specs.Faults as checks
use Rattle.recheck.specs.Faults.{last_write}
use Rattle.ledger.specs.declared.entry.RunWrite.{RunWrite}
use Rattle.ledger.specs.Entries.{asks, is_held, is_fault, behind_check, behind_run}
use Rattle.ledger.specs.Places.{Place, entry_of, is_checked, is_lost, verdict_at, with_block_checked, after_check, after_run, empty}
use Rattle.ledger.specs.Reports.{report}
use Rattle.ledger.specs.Checks.{Check, HasSeen, checked_to, tally_to, with_block_fed, report_of, start}
use Rattle.ledger.proofs.EntryLemmas.{one_run}

-- What is known of a block once the first n were checked.
abbrev entry_then : (ℕ → List ℕ) → ℕ → Place → ℕ → List RunWrite
entry_then held n place b = if nat_lt b n then behind_check held b (entry_of place b) else entry_of place b

length_then : (held : ℕ → List ℕ) (n : ℕ) (place : Place) → length (checked_to held n place).entries ≡ length place.entries
length_then held n place = length-map-range_with_len (entry_then held n place) 0 (length place.entries)

entry_then_is : (held : ℕ → List ℕ) (n : ℕ) (place : Place) (b : ℕ) → b < length place.entries → entry_of (checked_to held n place) b ≡ entry_then held n place b
entry_then_is held n place b lt = get_or-map-range_with_len (entry_then held n place) 0 (length place.entries) b b [] lt (omega arith)

-- The block that comes next has the entry that it had.
entry_next : (held : ℕ → List ℕ) (n : ℕ) (place : Place) → entry_of (checked_to held n place) n ≡ entry_of place n
entry_next held n place = elim (cases_lt n (length place.entries)) [
  | inl lt ↦ entry_then_is held n place n lt ∙ rw (le-ltb n n (omega arith)) refl
  | inr past ↦
      get_or_past (checked_to held n place).entries n [] (omega (arith, length_then held n place))
      ∙ sym (get_or_past place.entries n [] past)
]

-- A list of entries is what is known once n were checked.
is_then : (held : ℕ → List ℕ) (n : ℕ) (place : Place) (entries : List (List RunWrite)) → length entries ≡ length place.entries
    → ((b : ℕ) → b < length place.entries → get_or entries b [] ≡ entry_then held n place b)
    → record { bs = place.bs; entries = entries } ≡ checked_to held n place
is_then held n place entries len each = ap (λ es. record { bs = place.bs; entries = es }) (fill_by_all (entry_then held n place) entries (length place.entries) [] len each)

then_other : (held : ℕ → List ℕ) (n : ℕ) (place : Place) (b : ℕ) → b ≢ n → entry_then held n place b ≡ entry_then held (n + 1) place b
then_other held n place b other = elim (cases_lt b n) [
  | inl lt ↦ rw (lt-ltb b n lt, lt-ltb b (n + 1) (omega arith)) refl
  | inr ge ↦ rw (le-ltb b n ge, le-ltb b (n + 1) (omega arith)) refl
]

-- One block more is checked.
left_more : (held : ℕ → List ℕ) (n : ℕ) (place : Place) → n < length place.entries
    → with_block_checked (checked_to held n place) n (held n) ≡ checked_to held (n + 1) place
left_more held n place lt =
    let old = (checked_to held n place).entries in
    let new : List RunWrite = filter (is_held n (held n)) (entry_of (checked_to held n place) n) in
    is_then held (n + 1) place (set old n new) (length-set old n new ∙ length_then held n place) (λ b below.
    elim (cases_eq b n) [
      | inl here ↦
          rw here (get_or-set_same old n new [] (omega (arith, length_then held n place))
          ∙ ap (filter (is_held n (held n))) (entry_next held n place)
          ∙ sym (rw (lt-ltb n (n + 1) (omega arith)) refl))
      | inr other ↦
          get_or-set_other old n b new [] other ∙ entry_then_is held n place b below ∙ then_other held n place b other
    ])

-- A block that isn't wanted is passed over.
left_same : (held : ℕ → List ℕ) (n : ℕ) (place : Place) → entry_of place n ≡ [] → checked_to held n place ≡ checked_to held (n + 1) place
left_same held n place none =
    is_then held (n + 1) place (checked_to held n place).entries (length_then held n place) (λ b below.
    elim (cases_eq b n) [
      | inl here ↦
          rw here (entry_next held n place ∙ none ∙ sym (rw (lt-ltb n (n + 1) (omega arith), none) refl))
      | inr other ↦ entry_then_is held n place b below ∙ then_other held n place b other
    ])

-- The entries of all blocks, one by one, are those of the place.
pub all_entries : (place : Place) → map (λ b. entry_of place b) (range_with_len 0 (length place.entries)) ≡ place.entries
all_entries place = sym (fill_by_all (λ b. entry_of place b) place.entries (length place.entries) [] refl (λ b below. refl))

-- ---- the tally

range_more : (n : ℕ) → range_with_len 0 (n + 1) ≡ range_with_len 0 n ++ n ∷ []
range_more n =
    sym (map-id (range_with_len 0 (n + 1))) ∙ map-range_with_len_more (λ (k : ℕ). k) 0 n n (omega arith)
    ∙ ap (λ ks. ks ++ n ∷ []) (map-id (range_with_len 0 n))

filter_in : (p : ℕ → Bool) (n : ℕ) → p n ≡ true → filter p (range_with_len 0 (n + 1)) ≡ filter p (range_with_len 0 n) ++ n ∷ []
filter_in p n e = rw (range_more n, filter-append p (range_with_len 0 n) (n ∷ []), e) refl

filter_out : (p : ℕ → Bool) (n : ℕ) → p n ≡ false → filter p (range_with_len 0 (n + 1)) ≡ filter p (range_with_len 0 n)
filter_out p n e = rw (range_more n, filter-append p (range_with_len 0 n) (n ∷ []), e) (append-nil (filter p (range_with_len 0 n)))

-- The first 32 of a list that grows.
first_more : (xs : List ℕ) (x : ℕ) → take 32 (xs ++ x ∷ []) ≡ take 32 (take 32 xs ++ x ∷ [])
first_more xs x = elim (cases_lt (length xs) 32) [
  | inl few ↦ ap (λ ys. take 32 (ys ++ x ∷ [])) (sym (take_all 32 xs (omega arith)))
  | inr many ↦
      let len : length (take 32 xs) ≡ 32 = omega (arith, length-take 32 xs) in
      take-append-le 32 xs (x ∷ []) many ∙ sym (take_all 32 (take 32 xs) (omega arith)) ∙ sym (take-append-le 32 (take 32 xs) (x ∷ []) (omega arith))
]

lost_by : (place : Place) (held : ℕ → List ℕ) (n : ℕ) (entry : List RunWrite) → entry_of place n ≡ entry
    → is_lost place held n ≡ (if asks entry then not (list_any (is_held n (held n)) entry) else false)
lost_by place held n [] is = rw is refl
lost_by place held n (w ∷ ws) is = rw is refl

tally_more : (place : Place) (held : ℕ → List ℕ) (n : ℕ) → tally_to place held (n + 1) ≡ with_verdict (tally_to place held n) n (verdict_at place n (held n))
tally_more place held n =
    by (asks (entry_of place n)) (list_any (is_held n (held n)) (entry_of place n)) refl refl (lost_by place held n (entry_of place n) refl)
  where
    by : (c g : Bool) → asks (entry_of place n) ≡ c → list_any (is_held n (held n)) (entry_of place n) ≡ g
        → is_lost place held n ≡ (if asks (entry_of place n) then not (list_any (is_held n (held n)) (entry_of place n)) else false)
        → tally_to place held (n + 1) ≡ with_verdict (tally_to place held n) n (if c then (if g then verdicts.Good else verdicts.Fault) else verdicts.Skipped)
    by false g c_is g_is lost =
        let sound : is_lost place held n ≡ false = rw c_is at lost in
        rw (filter_out (is_checked place) n c_is, filter_out (is_lost place held) n sound) refl
    by true true c_is g_is lost =
        let sound : is_lost place held n ≡ false = rw (c_is, g_is) at lost in
        rw (filter_in (is_checked place) n c_is, filter_out (is_lost place held) n sound, length_push (filter (is_checked place) (range_with_len 0 n)) n) refl
    by true false c_is g_is lost =
        let faulty : is_lost place held n ≡ true = rw (c_is, g_is) at lost in
        rw (
          filter_in (is_checked place) n c_is,
          filter_in (is_lost place held) n faulty,
          length_push (filter (is_checked place) (range_with_len 0 n)) n,
          length_push (filter (is_lost place held) (range_with_len 0 n)) n,
          first_more (filter (is_lost place held) (range_with_len 0 n)) n,
        ) refl

-- ---- the whole check

pub starts : (place : Place) (held : ℕ → List ℕ) → HasSeen (start place) place held 0
starts place held = record {
  left = is_then held 0 place place.entries refl (λ b below. rw (le-ltb b 0 (omega arith)) refl);
  next = omega arith;
  found = refl;
}

pub feeds : (check new : Check) (place : Place) (held : ℕ → List ℕ) (n : ℕ) (bytes : List ℕ) → n < length check.place.entries
    → new ≡ with_block_fed check n bytes → held n ≡ bytes → HasSeen check place held n → HasSeen new place held (n + 1)
feeds check new place held n bytes lt is same seen =
    let inside : n < length place.entries = omega (arith, ap (λ p. length p.entries) seen.left, length_then held n place) in
    let bytes_are : bytes ≡ held n = sym same in
    rw is (record {
      left = rw (bytes_are, seen.left) (left_more held n place inside);
      next = omega arith;
      found = rw (bytes_are, seen.left, seen.found, entry_next held n place) (sym (tally_more place held n));
    })

pub passes : (check : Check) (place : Place) (held : ℕ → List ℕ) (n : ℕ) → is_checked check.place n ≡ false → HasSeen check place held n
    → HasSeen check place held (n + 1)
passes check place held n unwanted seen =
    let same : entry_of check.place n ≡ entry_of place n = ap (λ p. entry_of p n) seen.left ∙ entry_next held n place in
    let none : entry_of place n ≡ [] = by (entry_of place n) (ap asks (sym same) ∙ unwanted) in
    record {
      left = seen.left ∙ left_same held n place none;
      next = omega (arith, seen.next);
      found = seen.found ∙ sym (tally_more place held n ∙ rw none refl);
    }
  where
    by : (entry : List RunWrite) → asks entry ≡ false → entry ≡ []
    by [] is = refl
    by (w ∷ ws) is = absurd cc

pub ends : (check : Check) (place : Place) (held : ℕ → List ℕ) → HasSeen check place held (length check.place.entries)
    → (report_of check.found ≡ report place held) × (check.place ≡ after_check held place)
ends check place held seen =
    let n = length check.place.entries in
    let len : n ≡ length place.entries = ap (λ p. length p.entries) seen.left ∙ length_then held n place in (
      rw (seen.found, len) refl,
      seen.left ∙ ap (λ es. record { bs = place.bs; entries = es }) (fill_by_all (λ b. behind_check held b (entry_of place b)) (checked_to held n place).entries (length place.entries) [] (length_then held n place)
          (λ b below. entry_then_is held n place b below ∙ rw (lt-ltb b n (omega arith)) refl)),
    )

-- ---- one run

filter_agree : (p q : ℕ → Bool) (n : ℕ) → ((k : ℕ) → k < n → p k ≡ q k) → filter p (range_with_len 0 n) ≡ filter q (range_with_len 0 n)
filter_agree p q zero agree = refl
filter_agree p q (suc n) agree =
    let more : range_with_len 0 (suc n) ≡ range_with_len 0 n ++ n ∷ [] = ap (range_with_len 0) (sym (add-one n)) ∙ range_more n in
    let below = filter_agree p q n (λ k lt. agree k (omega arith)) in
    let here = agree n (omega arith) in
    let both : filter p (range_with_len 0 n ++ n ∷ []) ≡ filter q (range_with_len 0 n ++ n ∷ []) =
    rw (filter-append p (range_with_len 0 n) (n ∷ []), filter-append q (range_with_len 0 n) (n ∷ []), below, here) refl in
    ap (filter p) more ∙ both ∙ sym (ap (filter q) more)

entry_of_one : (e : Expected) (bs n b : ℕ) → b < n → entry_of (after_run e (empty bs n)) b ≡ behind_run e b []
entry_of_one e bs n b lt =
    get_or-map-range_with_len (λ k. behind_run e k (entry_of (empty bs n) k)) 0 (length (empty bs n).entries) b b [] (omega (arith, length-replicate {A = List RunWrite} n [])) (omega arith)
    ∙ ap (behind_run e b) (get_or-replicate {A = List RunWrite} n b [] [] lt)

asks_one : (e : Expected) (b : ℕ) → asks (behind_run e b []) ≡ checks.is_checked e b
asks_one e b = by (last_write e b) refl
  where
    by : (o : Option ℕ) → last_write e b ≡ o → asks (behind_run e b []) ≡ checks.is_checked e b
    by None is = rw is refl
    by (Some k) is = rw is refl

pub one_run_reports : (e : Expected) (held : ℕ → List ℕ) (bs blocks : ℕ)
    → report (after_run e (empty bs blocks)) held ≡ reports.report false e held (range_with_len 0 blocks)
one_run_reports e held bs blocks =
    let place = after_run e (empty bs blocks) in
    let len : length place.entries ≡ blocks =
    length-map-range_with_len (λ k. behind_run e k (entry_of (empty bs blocks) k)) 0 (length (empty bs blocks).entries) ∙ length-replicate {A = List RunWrite} blocks [] in
    let checked : filter (is_checked place) (range_with_len 0 blocks) ≡ filter (checks.is_checked e) (range_with_len 0 blocks) =
    filter_agree (is_checked place) (checks.is_checked e) blocks (λ b lt. ap asks (entry_of_one e bs blocks b lt) ∙ asks_one e b) in
    let lost : filter (is_lost place held) (range_with_len 0 blocks) ≡ filter (checks.is_fault e held) (range_with_len 0 blocks) =
    filter_agree (is_lost place held) (checks.is_fault e held) blocks (λ b lt. ap (is_fault held b) (entry_of_one e bs blocks b lt) ∙ one_run e held b) in
    rw (len, checked, lost) refl
