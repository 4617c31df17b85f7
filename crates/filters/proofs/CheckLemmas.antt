-- A check as its blocks come.
use Rattle.std.proofs.Common.{◌≡◌, ◌⊎◌, ◌<◌, ◌≤◌, ◌+◌, ◌-◌, ◌*◌, ◌/◌, ℕ, Bool, true, false, List, [], ◌∷◌, ◌++◌, take, drop, refl, sym, ap, ◌∙◌, subst, true≢false, inl, inr, arith, add-one}
use Rattle.std.specs.List.{range_with_len}
use Rattle.std.proofs.lemmas.Bool.{cases_lt}
use Rattle.fc_base.proofs.ListLemmas.{range_more}
use Rattle.fc_base.specs.declared.report.ReportParts.{ReportParts}
use Rattle.fc_base.specs.declared.report.ReportEnd.TheVariants.{AtFault, ReadFault}
use Rattle.recheck.specs.Expected.{Expected}
use Rattle.recheck.specs.Faults.{is_checked}
use Rattle.recheck.specs.Report.{report, report_of, report_with}
use Rattle.recheck.specs.Check.{Check, HasSeen, has_ended, start}
use Rattle.recheck.specs.Laws.{FaultsEndChecks}
use Rattle.filters.specs.declared.checking.Checking.{Checking}
use Rattle.filters.specs.declared.checking.TheConstants.{AT_ONCE}
use Rattle.filters.specs.UnderWay.{UnderWay, IsOver, IsWanted, WantsMore, came_with, held_by, next_block, report_before, with_blocks}
use Rattle.filters.specs.CheckRuns.{AreBelow, AreOf, EndsAt, HasCome, IsKept, with_came}
use Rattle.filters.proofs.CameLemmas.{are_front, below_up, below_with, fault_end, open_end, own, report_seen, skip_to}

-- What is checked is the same of both.
checked_of : (j : ℕ) (c : Checking) (u : UnderWay) (b : ℕ) (t : Bool) → HasCome j c u → is_checked c.check.expected b ≡ t → is_checked u.expected b ≡ t
checked_of j c u b t come is = ap (λ (e : Expected). is_checked e b) (sym come.expected) ∙ is

-- A report of the check is one of the check under way.
report_of_check : (j : ℕ) (c : Checking) (u : UnderWay) (held : ℕ → List ℕ) (n m : ℕ) (r : ReportParts) → HasCome j c u → n ≡ m
    → r ≡ report c.check.fatal c.check.expected held (range_with_len 0 n) → r ≡ report u.fatal u.expected held (range_with_len 0 m)
report_of_check j c u held n m r come same is =
    is ∙ (ap (λ (f : Bool). report f c.check.expected held (range_with_len 0 n)) come.fatal
    ∙ (ap (λ (e : Expected). report u.fatal e held (range_with_len 0 n)) come.expected ∙ ap (λ k. report u.fatal u.expected held (range_with_len 0 k)) same))

-- No block is wanted any more.
pub over : (j : ℕ) (c : Checking) (u : UnderWay) (first : ℕ) (r : ReportParts) → HasCome j c u → c.next ≡ next_block u.came → has_ended c.check ≡ false
    → c.next ≤ c.check.expected.job.blocks → c.check.expected.job.blocks ≤ first
    → ((b : ℕ) → c.next ≤ b → b < first → is_checked c.check.expected b ≡ false)
    → ((held : ℕ → List ℕ) (blocks : List ℕ) → HasSeen c.check held blocks → r ≡ report c.check.fatal c.check.expected held blocks)
    → IsOver u r
over j c u first r come next open_check within past none told = record {
  report =
      let seen = come.seen (held_by u.came) (own c.next u.came come.below) in
      report_of_check j c u (held_by u.came) c.check.expected.job.blocks u.expected.job.blocks r come (ap (λ (e : Expected). e.job.blocks) come.expected)
      (told (held_by u.came) (range_with_len 0 c.check.expected.job.blocks)
      (skip_to c.check (held_by u.came) c.next c.check.expected.job.blocks within open_check (λ b from lt. none b from (omega (arith, lt, past))) seen));
  over = inl (λ b from lt.
      checked_of j c u b false come
      (none b (omega (arith, from, next)) (omega (arith, lt, past, ap (λ (e : Expected). e.job.blocks) come.expected))));
}

-- Some block is.
some_wanted : (e : Expected) (first count most blocks : ℕ) → is_checked e first ≡ true → 0 < most → first < blocks
    → (count < most → first + count < blocks → is_checked e (first + count) ≡ false) → 0 < count
some_wanted e first count most blocks found room within all = elim (cases_lt 0 count) [
  | inl some ↦ some
  | inr none ↦
      let same : first ≡ first + count = omega (arith, none) in
      absurd (true≢false (sym found ∙ (ap (λ k. is_checked e k) same ∙ all (omega (arith, none, room)) (omega (arith, none, within)))))
]

all_wanted : (e : Expected) (first count most blocks : ℕ) → count ≤ most → first + count ≤ blocks
    → (count < most → first + count < blocks → is_checked e (first + count) ≡ false)
    → (count ≡ most) ⊎ ((first + count ≡ blocks) ⊎ (is_checked e (first + count) ≡ false))
all_wanted e first count most blocks few within all = elim (cases_lt count most) [
  | inr full ↦ inl (omega (arith, few, full))
  | inl less ↦ elim (cases_lt (first + count) blocks) [
    | inr end ↦ inr (inl (omega (arith, within, end)))
    | inl more ↦ inr (inr (all less more))
  ]
]

has_room : (size : ℕ) → 0 < size → size ≤ AT_ONCE → 0 < AT_ONCE / size
has_room size some fits = elim (cases_lt 0 (AT_ONCE / size)) [
  | inl room ↦ room
  | inr none ↦ let zero_is : AT_ONCE / size ≡ 0 = omega (arith, none) in absurd (omega (arith, some, fits, ap (λ k. size * k) zero_is))
]

-- Which blocks are wanted next.
pub goes_on : (j : ℕ) (old new : Checking) (u : UnderWay) → HasCome j old u → old.next ≡ next_block u.came → has_ended old.check ≡ false
    → new.boot ≡ old.boot → new.attempt ≡ old.attempt → new.job ≡ old.job → new.check ≡ old.check
    → old.next ≤ new.next → new.next < old.check.expected.job.blocks
    → ((b : ℕ) → old.next ≤ b → b < new.next → is_checked old.check.expected b ≡ false) → is_checked old.check.expected new.next ≡ true
    → 0 < old.check.expected.job.bs → old.check.expected.job.bs ≤ AT_ONCE
    → new.count ≤ AT_ONCE / old.check.expected.job.bs → new.next + new.count ≤ old.check.expected.job.blocks
    → ((b : ℕ) → new.next ≤ b → b < new.next + new.count → is_checked old.check.expected b ≡ true)
    → (new.count < AT_ONCE / old.check.expected.job.bs → new.next + new.count < old.check.expected.job.blocks
    → is_checked old.check.expected (new.next + new.count) ≡ false)
    → HasCome j new u × WantsMore u new.next new.count
goes_on j old new u come next open_check boot attempt job check from inside none found some fits few within checked all = (
  record {
    boot = boot ∙ come.boot;
    attempt = attempt ∙ come.attempt;
    job = job ∙ come.job;
    expected = ap (λ (c : Check). c.expected) check ∙ come.expected;
    fatal = ap (λ (c : Check). c.fatal) check ∙ come.fatal;
    below = below_up old.next new.next u.came from come.below;
    seen = λ held are. subst (λ (c : Check). HasSeen c held (range_with_len 0 new.next)) (sym check) (seen held are);
  },
  record {
    wanted = subst (λ (e : Expected). IsWanted e (next_block u.came) new.next new.count) come.expected (record {
      behind = omega (arith, from, next);
      none_before = λ b le lt. none b (omega (arith, le, next)) lt;
      some = some_wanted old.check.expected new.next new.count (AT_ONCE / old.check.expected.job.bs) old.check.expected.job.blocks found
          (has_room old.check.expected.job.bs some fits) inside all;
      few = few;
      within = within;
      checked = checked;
      all = all_wanted old.check.expected new.next new.count (AT_ONCE / old.check.expected.job.bs) old.check.expected.job.blocks few within all;
    });
    unended =
        ap (λ (p : ReportParts). p.end)
        (report_seen u.expected u.fatal (held_by u.came) (range_with_len 0 new.next) old.check come.expected come.fatal
        (seen (held_by u.came) (own old.next u.came come.below)))
        ∙ open_end u.fatal old.check come.fatal open_check;
  },
)
  where
    seen : (held : ℕ → List ℕ) → AreOf held u.came → HasSeen old.check held (range_with_len 0 new.next)
    seen held are = skip_to old.check held old.next new.next from open_check none (come.seen held are)

-- ---- a block more

-- It is seen, with what came before.
pub fed_seen : (j : ℕ) (c : Checking) (u : UnderWay) (block : List ℕ) (new : Check) → HasCome j c u
    → ((held : ℕ → List ℕ) (blocks : List ℕ) → held c.next ≡ block → HasSeen c.check held blocks → HasSeen new held (blocks ++ c.next ∷ []))
    → (held : ℕ → List ℕ) → AreOf held (with_came u c.next block).came → HasSeen new held (range_with_len 0 (c.next + 1))
fed_seen j c u block new come feeds held (is, are) =
    subst (HasSeen new held) (sym (range_more c.next)) (feeds held (range_with_len 0 c.next) is (come.seen held are))

-- The check goes on.
pub fed_on : (j : ℕ) (old new : Checking) (u : UnderWay) (block : List ℕ) → HasCome j old u
    → ((held : ℕ → List ℕ) (blocks : List ℕ) → held old.next ≡ block → HasSeen old.check held blocks → HasSeen new.check held (blocks ++ old.next ∷ []))
    → new.check.expected ≡ old.check.expected → new.check.fatal ≡ old.check.fatal → new.boot ≡ old.boot → new.attempt ≡ old.attempt → new.job ≡ old.job
    → new.next ≡ old.next + 1 → HasCome j new (with_came u old.next block)
fed_on j old new u block come feeds expected fatal boot attempt job next = record {
  boot = boot ∙ come.boot;
  attempt = attempt ∙ come.attempt;
  job = job ∙ come.job;
  expected = expected ∙ come.expected;
  fatal = fatal ∙ come.fatal;
  below = (omega (arith, next), come.below);
  seen = λ held are. subst (λ k. HasSeen new.check held (range_with_len 0 k)) (sym next) (fed_seen j old u block new.check come feeds held are);
}

-- A fault ends it.
pub fed_end : FaultsEndChecks → (j : ℕ) (c : Checking) (u : UnderWay) (block : List ℕ) (new : Check) (r : ReportParts) → HasCome j c u
    → ((held : ℕ → List ℕ) (blocks : List ℕ) → held c.next ≡ block → HasSeen c.check held blocks → HasSeen new held (blocks ++ c.next ∷ []))
    → new.expected ≡ c.check.expected → new.fatal ≡ c.check.fatal → has_ended new ≡ true → c.next < c.check.expected.job.blocks
    → r ≡ report_of new.fatal new.found → EndsAt (with_came u c.next block) r
fed_end law j c u block new r come feeds expected fatal ended within told = record {
  report = λ held are.
      let seen = fed_seen j c u block new come feeds held are in
      let all = report_seen u.expected u.fatal held (range_with_len 0 (c.next + 1)) new (expected ∙ come.expected) (fatal ∙ come.fatal) seen in
      let le : c.next + 1 ≤ u.expected.job.blocks = omega (arith, within, ap (λ (e : Expected). e.job.blocks) come.expected) in
      mine ∙ (sym all
      ∙ sym (law u.fatal u.expected held (c.next + 1) u.expected.job.blocks le (ap (λ (p : ReportParts). p.end) all ∙ at_fault)));
  end = ap (λ (p : ReportParts). p.end) mine ∙ at_fault;
}
  where
    mine : r ≡ report_of u.fatal new.found
    mine = told ∙ ap (λ (f : Bool). report_of f new.found) (fatal ∙ come.fatal)

    at_fault : (report_of u.fatal new.found).end ≡ AtFault
    at_fault = fault_end u.fatal new (fatal ∙ come.fatal) ended

-- ---- all blocks that came at once

one_more : (u : UnderWay) (n : ℕ) (bytes : List ℕ)
    → with_blocks u (n + 1) bytes ≡ with_came (with_blocks u n bytes) (u.first + n) (take u.expected.job.bs (drop (n * u.expected.job.bs) bytes))
one_more u n bytes = ap (λ k. with_blocks u k bytes) (add-one n)

came_one : (j : ℕ) (c now : Checking) (u : UnderWay) (n : ℕ) (bytes block : List ℕ) → IsKept j c u → c.check.expected.job.bs ≡ c.size
    → block ≡ take c.size (drop (n * c.size) bytes) → now.next ≡ c.next + n
    → with_came (with_blocks u n bytes) now.next block ≡ with_blocks u (n + 1) bytes
came_one j c now u n bytes block kept size is next =
    let bs : c.size ≡ u.expected.job.bs = sym size ∙ ap (λ (e : Expected). e.job.bs) kept.come.expected in
    let at : now.next ≡ u.first + n = next ∙ ap (λ k. k + n) kept.first in
    let same : block ≡ take u.expected.job.bs (drop (n * u.expected.job.bs) bytes) = is ∙ ap (λ k. take k (drop (n * k) bytes)) bs in
    ap (λ k. with_came (with_blocks u n bytes) k block) at ∙ (ap (with_came (with_blocks u n bytes) (u.first + n)) same ∙ sym (one_more u n bytes))

pub first_come : (j : ℕ) (c : Checking) (u : UnderWay) (bytes : List ℕ) → IsKept j c u → HasCome j c (with_blocks u 0 bytes)
first_come j c u bytes kept = kept.come

pub next_come : (j : ℕ) (c now next : Checking) (u : UnderWay) (n : ℕ) (bytes block : List ℕ) → IsKept j c u → c.check.expected.job.bs ≡ c.size
    → block ≡ take c.size (drop (n * c.size) bytes) → now.next ≡ c.next + n
    → HasCome j next (with_came (with_blocks u n bytes) now.next block) → HasCome j next (with_blocks u (n + 1) bytes)
next_come j c now next u n bytes block kept size is at come = subst (HasCome j next) (came_one j c now u n bytes block kept size is at) come

pub ends_over : (j : ℕ) (c now : Checking) (u : UnderWay) (n given : ℕ) (bytes block : List ℕ) (r : ReportParts) → IsKept j c u
    → c.check.expected.job.bs ≡ c.size → block ≡ take c.size (drop (n * c.size) bytes) → now.next ≡ c.next + n → n < given
    → EndsAt (with_came (with_blocks u n bytes) now.next block) r → IsOver (with_blocks u given bytes) r
ends_over j c now u n given bytes block r kept size is at lt ends =
    let end = subst (λ (v : UnderWay). EndsAt v r) (came_one j c now u n bytes block kept size is at) ends in
    let same : given ≡ (n + 1) + (given - (n + 1)) = omega (arith, lt) in
    let below = below_with u.first u.expected.job.bs bytes given u.came
    (subst (λ k. AreBelow k u.came) kept.first kept.come.below) in
    let all = own (u.first + given) (came_with u.first u.expected.job.bs bytes given u.came) below in
    let are = are_front (held_by (came_with u.first u.expected.job.bs bytes given u.came)) u.first u.expected.job.bs bytes (n + 1) (given - (n + 1)) u.came
    (subst (λ k. AreOf (held_by (came_with u.first u.expected.job.bs bytes given u.came)) (came_with u.first u.expected.job.bs bytes k u.came)) same all) in
    record { report = end.report (held_by (came_with u.first u.expected.job.bs bytes given u.came)) are; over = inr end.end }

-- ---- a check at its start, and one whose next block can't be read

pub before : (j : ℕ) (c : Checking) (u : UnderWay) (b : ℕ) (r : ReportParts) → HasCome j c u → c.next ≡ b → r ≡ report_with c.check.found (ReadFault c.next)
    → r ≡ report_before u b
before j c u b r come same told =
    let seen = come.seen (held_by u.came) (own c.next u.came come.below) in
    let all = report_seen u.expected u.fatal (held_by u.came) (range_with_len 0 c.next) c.check come.expected come.fatal seen in
    told ∙ (sym (ap (λ (p : ReportParts). record p { end = ReadFault c.next }) all) ∙ ap (λ k. report_before u k) same)

nothing_seen : (fatal : Bool) (e : Expected) (held : ℕ → List ℕ) → HasSeen (start e fatal) held (range_with_len 0 0)
nothing_seen true e held = record { uncut = refl; found = refl }
nothing_seen false e held = record { uncut = refl; found = refl }

pub begun : (j : ℕ) (c : Checking) (u : UnderWay) (e : Expected) (fatal : Bool) → c.boot ≡ u.boot → c.attempt ≡ u.attempt → c.job ≡ j → c.next ≡ 0
    → c.check ≡ start e fatal → u.expected ≡ e → u.fatal ≡ fatal → u.came ≡ [] → HasCome j c u
begun j c u e fatal boot attempt job next check expected is_fatal came = record {
  boot = boot;
  attempt = attempt;
  job = job;
  expected = ap (λ (x : Check). x.expected) check ∙ sym expected;
  fatal = ap (λ (x : Check). x.fatal) check ∙ sym is_fatal;
  below = subst (AreBelow c.next) (sym came) tt;
  seen = λ held are.
      subst (λ k. HasSeen c.check held (range_with_len 0 k)) (sym next)
      (subst (λ (x : Check). HasSeen x held (range_with_len 0 0)) (sym check) (nothing_seen fatal e held));
}
