-- The blocks that came to a check, and what it has seen of them.
use Rattle.std.proofs.Common.{◌≡◌, ◌<◌, ◌≤◌, ◌+◌, ◌-◌, ◌==◌, ◌&&◌, not, zero, suc, ℕ, Bool, true, false, List, [], ◌∷◌, ◌++◌, length, filter, take, refl, sym, ap, ◌∙◌, subst, arith, append-nil}
use Rattle.std.specs.Prelude.{if◌then◌else◌, nat_lt}
use Rattle.std.specs.List.{range_with_len}
use Rattle.std.proofs.lemmas.Bool.{eq-eqb, ne_eqb, ltb-false}
use Rattle.std.proofs.lemmas.List.Elements.{filter-append}
use Rattle.fc_base.proofs.ListLemmas.{range_more}
use Rattle.fc_base.specs.declared.limits.TheConstants.{MAX_LISTED}
use Rattle.fc_base.specs.declared.report.ReportEnd.TheVariants.{AtFault, Whole}
use Rattle.recheck.specs.Expected.{Expected}
use Rattle.recheck.specs.Faults.{is_checked, is_expected, is_fault}
use Rattle.recheck.specs.Report.{Tally, looked_at, report, report_of, tally, up_to_first}
use Rattle.recheck.specs.Check.{Check, HasSeen, has_ended}
use Rattle.filters.specs.UnderWay.{BlockBytes, came_with, held_by, next_block}
use Rattle.filters.specs.CheckRuns.{AreBelow, AreOf}

-- ---- the content that came

pub below_up : (n m : ℕ) (cs : List BlockBytes) → n ≤ m → AreBelow n cs → AreBelow m cs
below_up n m [] le below = tt
below_up n m (c ∷ cs) le (lt, below) = (omega (arith, lt, le), below)

others : (n : ℕ) (x : List ℕ) (held : ℕ → List ℕ) (cs : List BlockBytes) → AreBelow n cs → AreOf held cs → AreOf (λ b. if n == b then x else held b) cs
others n x held [] below are = tt
others n x held (c ∷ cs) (lt, below) (is, are) = (
  ap (λ (t : Bool). if t then x else held c.block) (ne_eqb n c.block (λ e. omega (arith, lt, e))) ∙ is,
  others n x held cs (below_up c.block n cs (omega (arith, lt)) below) are,
)

-- What came is a content of the blocks that came.
pub own : (n : ℕ) (cs : List BlockBytes) → AreBelow n cs → AreOf (held_by cs) cs
own n [] below = tt
own n (c ∷ cs) (lt, below) = (
  ap (λ (t : Bool). if t then c.bytes else held_by cs c.block) (eq-eqb c.block c.block refl),
  others c.block c.bytes (held_by cs) cs below (own c.block cs below),
)

pub below_with : (first size : ℕ) (bytes : List ℕ) (n : ℕ) (came : List BlockBytes) → AreBelow first came → AreBelow (first + n) (came_with first size bytes n came)
below_with first size bytes zero came below = below_up first (first + zero) came (omega arith) below
below_with first size bytes (suc n) came below = (omega arith, below_with first size bytes n came below)

-- A content of more blocks is one of fewer.
pub are_front : (held : ℕ → List ℕ) (first size : ℕ) (bytes : List ℕ) (n d : ℕ) (came : List BlockBytes) → AreOf held (came_with first size bytes (n + d) came)
    → AreOf held (came_with first size bytes n came)
are_front held first size bytes n zero came are =
    let same : n + zero ≡ n = omega arith in subst (λ k. AreOf held (came_with first size bytes k came)) same are
are_front held first size bytes n (suc d) came are =
    let same : n + suc d ≡ suc (n + d) = omega arith in
    let more = subst (λ k. AreOf held (came_with first size bytes k came)) same are in
    are_front held first size bytes n d came more.1

pub next_with : (first size : ℕ) (bytes : List ℕ) (n : ℕ) (came : List BlockBytes) → 0 < n → next_block (came_with first size bytes n came) ≡ first + n
next_with first size bytes zero came some = absurd (omega (arith, some))
next_with first size bytes (suc n) came some = omega arith

-- ---- blocks that aren't checked

filter_none : (test : ℕ → Bool) (xs : List ℕ) (b : ℕ) → test b ≡ false → filter test (xs ++ b ∷ []) ≡ filter test xs
filter_none test xs b none =
    filter-append test xs (b ∷ [])
    ∙ (ap (λ (t : Bool). filter test xs ++ (if t then b ∷ [] else [])) none ∙ append-nil (filter test xs))

abbrev tally_of : List ℕ → List ℕ → Tally
tally_of checked faulty = record { checked = length checked; faults = length faulty; first = take MAX_LISTED faulty }

same_tally : (e : Expected) (held : ℕ → List ℕ) (xs : List ℕ) (b : ℕ) → is_checked e b ≡ false → tally e held (xs ++ b ∷ []) ≡ tally e held xs
same_tally e held xs b none =
    ap (λ (l : List ℕ). tally_of l (filter (is_fault e held) (xs ++ b ∷ []))) (filter_none (is_checked e) xs b none)
    ∙ ap (λ (l : List ℕ). tally_of (filter (is_checked e) xs) l)
    (filter_none (is_fault e held) xs b (ap (λ (t : Bool). t && not (is_expected e b (held b))) none))

none_cut : (t : Bool) (x : ℕ) (faulty ys zs : List ℕ) → length (if t then x ∷ faulty else faulty) ≡ 0 → (length faulty ≡ 0 → ys ≡ zs)
    → (if t then x ∷ [] else x ∷ ys) ≡ x ∷ zs
none_cut true x faulty ys zs none same = absurd (omega (arith, none))
none_cut false x faulty ys zs none same = ap (λ (l : List ℕ). x ∷ l) (same none)

last_cut : (t : Bool) (b : ℕ) → (if t then b ∷ [] else b ∷ []) ≡ b ∷ []
last_cut true b = refl
last_cut false b = refl

through : (test : ℕ → Bool) (xs : List ℕ) (b : ℕ) → length (filter test xs) ≡ 0 → up_to_first test (xs ++ b ∷ []) ≡ xs ++ b ∷ []
through test [] b none = last_cut (test b) b
through test (x ∷ xs) b none = none_cut (test x) x (filter test xs) (up_to_first test (xs ++ b ∷ [])) (xs ++ b ∷ []) none (through test xs b)

uncut_more : (fatal : Bool) (e : Expected) (held : ℕ → List ℕ) (xs : List ℕ) (b faults : ℕ) → (fatal && nat_lt 0 faults) ≡ false
    → faults ≡ length (filter (is_fault e held) xs) → looked_at fatal e held (xs ++ b ∷ []) ≡ xs ++ b ∷ []
uncut_more false e held xs b faults open_check is = refl
uncut_more true e held xs b faults open_check is = through (is_fault e held) xs b (omega (arith, ltb-false 0 faults open_check, is))

skipped : (check : Check) (held : ℕ → List ℕ) (xs : List ℕ) (b : ℕ) → has_ended check ≡ false → is_checked check.expected b ≡ false → HasSeen check held xs
    → HasSeen check held (xs ++ b ∷ [])
skipped check held xs b open_check none seen = record {
  uncut = uncut_more check.fatal check.expected held xs b check.found.faults open_check (ap (λ (t : Tally). t.faults) seen.found);
  found = seen.found ∙ sym (same_tally check.expected held xs b none);
}

skip_more : (check : Check) (held : ℕ → List ℕ) (n d : ℕ) → has_ended check ≡ false
    → ((b : ℕ) → n ≤ b → b < n + d → is_checked check.expected b ≡ false) → HasSeen check held (range_with_len 0 n)
    → HasSeen check held (range_with_len 0 (n + d))
skip_more check held n zero open_check none seen =
    let same : n ≡ n + zero = omega arith in subst (λ k. HasSeen check held (range_with_len 0 k)) same seen
skip_more check held n (suc d) open_check none seen =
    let before = skip_more check held n d open_check (λ b le lt. none b le (omega (arith, lt))) seen in
    let more = skipped check held (range_with_len 0 (n + d)) (n + d) open_check (none (n + d) (omega arith) (omega arith)) before in
    let same : (n + d) + 1 ≡ n + suc d = omega arith in
    subst (λ k. HasSeen check held (range_with_len 0 k)) same (subst (HasSeen check held) (sym (range_more (n + d))) more)

-- Up to a block before which none is checked from this one on.
pub skip_to : (check : Check) (held : ℕ → List ℕ) (n m : ℕ) → n ≤ m → has_ended check ≡ false
    → ((b : ℕ) → n ≤ b → b < m → is_checked check.expected b ≡ false) → HasSeen check held (range_with_len 0 n)
    → HasSeen check held (range_with_len 0 m)
skip_to check held n m le open_check none seen =
    let same : n + (m - n) ≡ m = omega (arith, le) in
    subst (λ k. HasSeen check held (range_with_len 0 k)) same
    (skip_more check held n (m - n) open_check (λ b from lt. none b from (omega (arith, lt, le))) seen)

-- ---- reports

-- The report of what was seen.
pub report_seen : (e : Expected) (fatal : Bool) (held : ℕ → List ℕ) (blocks : List ℕ) (check : Check) → check.expected ≡ e → check.fatal ≡ fatal
    → HasSeen check held blocks → report fatal e held blocks ≡ report_of fatal check.found
report_seen e fatal held blocks check same_e same_fatal seen =
    let uncut : looked_at fatal e held blocks ≡ blocks =
    ap (λ (f : Bool). looked_at f e held blocks) (sym same_fatal)
    ∙ (ap (λ (x : Expected). looked_at check.fatal x held blocks) (sym same_e) ∙ seen.uncut) in
    let found : tally e held blocks ≡ check.found = ap (λ (x : Expected). tally x held blocks) (sym same_e) ∙ sym seen.found in
    ap (λ (xs : List ℕ). report_of fatal (tally e held xs)) uncut ∙ ap (report_of fatal) found

pub open_end : (fatal : Bool) (check : Check) → check.fatal ≡ fatal → has_ended check ≡ false → (report_of fatal check.found).end ≡ Whole
open_end fatal check same_fatal open_check = rw (sym same_fatal, open_check) refl

pub fault_end : (fatal : Bool) (check : Check) → check.fatal ≡ fatal → has_ended check ≡ true → (report_of fatal check.found).end ≡ AtFault
fault_end fatal check same_fatal ended = rw (sym same_fatal, ended) refl
