-- What a write to one run does to the content that runs stand for.
use Rattle.std.proofs.Common.{◌≡◌, ◌≢◌, ◌==◌, ℕ, zero, suc, ne_eqb, ◌+◌, ◌*◌, ◌-◌, ◌/◌, ◌%◌, ◌<◌, ◌≤◌, ◌&&◌, Bool, true, false, cond, leb, ltb}
use Rattle.std.proofs.Common.{List, length, Option, Some, refl, sym, ◌∙◌, ap, ap₂, ⊎_elim, arith, take, drop, length-drop, length-take-le}
use Rattle.std.specs.Ordering.{nat_cmp}
use Rattle.std.specs.BTreeMap.{is_at}
use Rattle.std.proofs.lemmas.Bool.{cases_lt, cases_eq}
use Rattle.std.proofs.lemmas.List.{take_all}
use Rattle.disk_model.proofs.SectorLemmas.{sector_of-take, sector_of-drop}
use Rattle.std.proofs.lemmas.Bool.Decides.{nat_tests}
use Rattle.std.proofs.lemmas.Nat.Bits.{bit_at-suc, bit_at-zero}
use Rattle.disk_model.specs.File.{sector_of, landed, has_bit}
use Rattle.disk_model.specs.Run.{run_sector}

-- the content by runs, and by the sectors that lie by themselves
abbrev pub content_by : (ℕ → Option (List ℕ)) → (ℕ → List ℕ) → ℕ → List ℕ
content_by runs singles s = run_sector (runs (s / 128)) (singles s) (s % 128)

-- within the run of a first sector, numbers in the run compare as the sectors do
pub is_within-in_run : (first count s : ℕ) → s / 128 ≡ first / 128 →
    (leb (first % 128) (s % 128) && ltb (s % 128) (first % 128 + count)) ≡ (leb first s && ltb s (first + count))
is_within-in_run first count s same = ap₂ (λ a b. a && b) low high
  where
    low : leb (first % 128) (s % 128) ≡ leb first s
    low = ⊎_elim (λ (lt : s < first). grind (arith, nat_tests)) (λ (le : first ≤ s). grind (arith, nat_tests)) (cases_lt s first)

    high : ltb (s % 128) (first % 128 + count) ≡ ltb s (first + count)
    high = ⊎_elim (λ (lt : s < first + count). grind (arith, nat_tests)) (λ (le : first + count ≤ s). grind (arith, nat_tests)) (cases_lt s (first + count))

-- a sector of another run is not within
pub is_within-elsewhere : (first count s : ℕ) → first % 128 + count ≤ 128 → s / 128 ≢ first / 128 →
    (leb first s && ltb s (first + count)) ≡ false
is_within-elsewhere first count s fits apart =
    ⊎_elim (λ (lt : s < first). grind (arith, nat_tests))
    (λ (le : first ≤ s). ⊎_elim (λ (lt : s < first + count). absurd (apart (omega arith))) (λ (past : first + count ≤ s). grind (arith, nat_tests))
    (cases_lt s (first + count))) (cases_lt s first)

pub content_by-landed : (runs later : ℕ → Option (List ℕ)) (singles : ℕ → List ℕ) (picks : ℕ → Bool) (run new bytes : List ℕ) (first s : ℕ) →
    runs (first / 128) ≡ Some run → later (first / 128) ≡ Some new →
    ((r : ℕ) → r ≢ first / 128 → later r ≡ runs r) →
    first % 128 + length bytes / 512 ≤ 128 →
    ((i : ℕ) → i < 128 → sector_of new i
    ≡ cond (leb (first % 128) i && ltb i (first % 128 + length bytes / 512) && picks (i - first % 128)) (sector_of bytes (i - first % 128)) (sector_of run i)) →
    content_by later singles s ≡ landed picks first bytes (content_by runs singles) s
content_by-landed runs later singles picks run new bytes first s had has others fits wrote =
    ⊎_elim here elsewhere (cases_eq (s / 128) (first / 128))
  where
    elsewhere : s / 128 ≢ first / 128 → content_by later singles s ≡ landed picks first bytes (content_by runs singles) s
    elsewhere apart =
        ap (λ (o : Option (List ℕ)). run_sector o (singles s) (s % 128)) (others (s / 128) apart)
        ∙ sym (ap (λ b. cond (b && picks (s - first)) (sector_of bytes (s - first)) (content_by runs singles s))
        (is_within-elsewhere first (length bytes / 512) s fits apart))

    shift : s / 128 ≡ first / 128 → s % 128 - first % 128 ≡ s - first
    shift same = omega arith

    by_runs : (f : ℕ → Option (List ℕ)) (r : List ℕ) → f (first / 128) ≡ Some r → s / 128 ≡ first / 128 → content_by f singles s ≡ sector_of r (s % 128)
    by_runs f r is same = ap (λ (o : Option (List ℕ)). run_sector o (singles s) (s % 128)) (ap f same ∙ is)

    here : s / 128 ≡ first / 128 → content_by later singles s ≡ landed picks first bytes (content_by runs singles) s
    here same =
        let below : s % 128 < 128 = omega arith in
        by_runs later new has same
        ∙ wrote (s % 128) below
        ∙ ap (λ b. cond (b && picks (s % 128 - first % 128)) (sector_of bytes (s % 128 - first % 128)) (sector_of run (s % 128)))
        (is_within-in_run first (length bytes / 512) s same)
        ∙ ap₂ (λ (k : ℕ) (l : List ℕ). cond (leb first s && ltb s (first + length bytes / 512) && picks k) (sector_of bytes k) l) (shift same)
        (sym (by_runs runs run had same))

-- the order of the keys tells another key apart
pub other_key : (k r : ℕ) → r ≢ k → is_at (nat_cmp k) r ≡ false
other_key k r apart = grind (arith, nat_tests)

pub content_by-in_run : (runs : ℕ → Option (List ℕ)) (singles : ℕ → List ℕ) (first i : ℕ) → first % 128 + i < 128 →
    content_by runs singles (first + i) ≡ run_sector (runs (first / 128)) (singles (first + i)) (first % 128 + i)
content_by-in_run runs singles first i fits =
    ap₂ (λ (r k : ℕ). run_sector (runs r) (singles (first + i)) k) same_run same_sector
  where
    same_run : (first + i) / 128 ≡ first / 128
    same_run = omega arith

    same_sector : (first + i) % 128 ≡ first % 128 + i
    same_sector = omega arith

same_choice : (b c p q : Bool) (x y u v : List ℕ) → b ≡ c → p ≡ q → x ≡ y → u ≡ v → cond (b && p) x u ≡ cond (c && q) y v
same_choice b c p q x y u v bs ps xs us = cc

-- what lands in two parts
pub landed-twice : (picks rest : ℕ → Bool) (first second m : ℕ) (bytes front back : List ℕ) (old mid : ℕ → List ℕ) (s : ℕ) →
    ((i : ℕ) → rest i ≡ picks (m + i)) → second ≡ first + m → 512 * m ≤ length bytes →
    front ≡ take (512 * m) bytes → back ≡ drop (512 * m) bytes →
    mid s ≡ landed picks first front old s →
    landed rest second back mid s ≡ landed picks first bytes old s
landed-twice picks rest first second m bytes front back old mid s rest_is second_is fits front_is back_is mid_is =
    ⊎_elim before behind (cases_lt s (first + m))
  where
    front_len : length front ≡ 512 * m
    front_len = ap length front_is ∙ length-take-le (512 * m) bytes fits

    back_len : length back ≡ length bytes - 512 * m
    back_len = ap length back_is ∙ length-drop (512 * m) bytes

    no_outer : s < first + m → (leb second s && ltb s (second + length back / 512)) ≡ false
    no_outer lt = grind (arith, nat_tests)

    no_inner : first + m ≤ s → (leb first s && ltb s (first + length front / 512)) ≡ false
    no_inner le = grind (arith, nat_tests, front_len)

    both_false : s < first → (leb first s && ltb s (first + length front / 512)) ≡ (leb first s && ltb s (first + length bytes / 512))
    both_false lt = grind (arith, nat_tests)

    both_true : first ≤ s → s < first + m → (leb first s && ltb s (first + length front / 512)) ≡ (leb first s && ltb s (first + length bytes / 512))
    both_true le lt = grind (arith, nat_tests, front_len)

    both_behind : first + m ≤ s → (leb second s && ltb s (second + length back / 512)) ≡ (leb first s && ltb s (first + length bytes / 512))
    both_behind le = ⊎_elim (λ (lt : s < first + length bytes / 512). grind (arith, nat_tests, back_len))
        (λ (past : first + length bytes / 512 ≤ s). grind (arith, nat_tests, back_len)) (cases_lt s (first + length bytes / 512))

    inner : s < first + m → landed picks first front old s ≡ landed picks first bytes old s
    inner lt = ⊎_elim
        (λ (below : s < first).
        let no : (leb first s && ltb s (first + length bytes / 512)) ≡ false = grind (arith, nat_tests) in
        ap (λ b. cond (b && picks (s - first)) (sector_of front (s - first)) (old s)) (both_false below ∙ no)
        ∙ sym (ap (λ b. cond (b && picks (s - first)) (sector_of bytes (s - first)) (old s)) no))
        (λ (from : first ≤ s).
        same_choice _ _ (picks (s - first)) (picks (s - first)) _ _ (old s) (old s) (both_true from lt) refl
        (ap (λ (l : List ℕ). sector_of l (s - first)) front_is ∙ sector_of-take (512 * m) bytes (s - first) (omega arith)) refl)
        (cases_lt s first)

    before : s < first + m → landed rest second back mid s ≡ landed picks first bytes old s
    before lt = ap (λ b. cond (b && rest (s - second)) (sector_of back (s - second)) (mid s)) (no_outer lt) ∙ mid_is ∙ inner lt

    behind : first + m ≤ s → landed rest second back mid s ≡ landed picks first bytes old s
    behind le =
        let shifted : m + (s - second) ≡ s - first = omega arith in
        let old_is = mid_is ∙ ap (λ b. cond (b && picks (s - first)) (sector_of front (s - first)) (old s)) (no_inner le) in
        same_choice (leb second s && ltb s (second + length back / 512)) (leb first s && ltb s (first + length bytes / 512)) (rest (s - second))
        (picks (s - first)) (sector_of back (s - second)) (sector_of bytes (s - first)) (mid s) (old s) (both_behind le)
        (rest_is (s - second) ∙ ap picks shifted)
        (ap (λ (l : List ℕ). sector_of l (s - second)) back_is ∙ sector_of-drop m bytes (s - second) ∙ ap (λ k. sector_of bytes k) shifted) old_is

-- one sector is within itself alone
pub is_within-one : (sector n s : ℕ) → n ≡ 1 → s ≡ sector → (leb sector s && ltb s (sector + n)) ≡ true
is_within-one sector n s one same = grind (arith, nat_tests)

pub is_within-another : (sector n s : ℕ) → n ≡ 1 → s ≢ sector → (leb sector s && ltb s (sector + n)) ≡ false
is_within-another sector n s one apart =
    ⊎_elim (λ (lt : s < sector). grind (arith, nat_tests)) (λ (le : sector ≤ s). grind (arith, nat_tests)) (cases_lt s sector)

-- one sector was replaced
pub landed-one : (later content : ℕ → List ℕ) (bytes : List ℕ) (sector s : ℕ) →
    length bytes ≡ 512 → later sector ≡ bytes → (s ≢ sector → later s ≡ content s) →
    later s ≡ landed (λ _. true) sector bytes content s
landed-one later content bytes sector s len is others = ⊎_elim here elsewhere (cases_eq s sector)
  where
    one : length bytes / 512 ≡ 1
    one = omega arith

    here : s ≡ sector → later s ≡ landed (λ _. true) sector bytes content s
    here same =
        let none : 0 ≡ s - sector = omega arith in
        ap later same ∙ is ∙ sym (take_all 512 bytes (omega arith)) ∙ ap (λ k. sector_of bytes k) none
        ∙ sym (ap (λ b. cond (b && true) (sector_of bytes (s - sector)) (content s)) (is_within-one sector (length bytes / 512) s one same))

    elsewhere : s ≢ sector → later s ≡ landed (λ _. true) sector bytes content s
    elsewhere apart =
        others apart ∙ sym (ap (λ b. cond (b && true) (sector_of bytes (s - sector)) (content s)) (is_within-another sector (length bytes / 512) s one apart))

pub landed-same : (picks : ℕ → Bool) (first : ℕ) (bytes : List ℕ) (content other : ℕ → List ℕ) (s : ℕ) → content s ≡ other s →
    landed picks first bytes content s ≡ landed picks first bytes other s
landed-same picks first bytes content other s same =
    ap (λ (l : List ℕ). cond (leb first s && ltb s (first + length bytes / 512) && picks (s - first)) (sector_of bytes (s - first)) l) same

pub landed-outside : (picks : ℕ → Bool) (first : ℕ) (bytes : List ℕ) (content : ℕ → List ℕ) (s : ℕ) →
    (leb first s && ltb s (first + length bytes / 512)) ≡ false →
    landed picks first bytes content s ≡ content s
landed-outside picks first bytes content s out =
    ap (λ b. cond (b && picks (s - first)) (sector_of bytes (s - first)) (content s)) out

-- the mask of the first sector
pub has_bit-one : has_bit 1 ≡ (λ i. i == 0)
has_bit-one = λ p i. at i p
  where
    at : (i : ℕ) → has_bit 1 i ≡ (i == 0)
    at zero = refl
    at (suc i) = ap (λ b. b == 1) (bit_at-suc 1 i ∙ bit_at-zero i) ∙ sym (ne_eqb (suc i) 0 (λ is. omega arith))
