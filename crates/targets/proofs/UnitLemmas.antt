-- Blocks that are sound unit by unit.
use Rattle.std.proofs.Common.{◌≡◌, ◌+◌, ◌*◌, ◌/◌, ◌%◌, ◌<◌, ◌≤◌, ℕ, Bool, true, false, not, ◌&&◌, ◌||◌, List, [], ◌∷◌, length, take, drop, get_or, eqb, Option, Some, None, filter, refl, subst, zero-add, sym, ap, ◌∙◌, arith}
use Rattle.std.specs.Prelude.{if◌then◌else◌, nat_le, nat_lt, IsTrue}
use Rattle.std.proofs.lemmas.Bool.{and_parts, eq-eqb, leb-true, ltb-true}
use Rattle.std.proofs.lemmas.List.Folds.{list_all-append, list_all_at, list_any_at}
use Rattle.fc_base.proofs.ListLemmas.{range_more}
use Rattle.recheck.specs.declared.expected.BlockWrites.{BlockWrites}
use Rattle.std.specs.List.{list_all, list_any, range_with_len}
use Rattle.std.specs.Str.{bytes_eq}
use Rattle.std.proofs.lemmas.Nat.{div-add-mod', div-mul-add, mul-le}
use Rattle.std.proofs.lemmas.List.FromFn.{get_or-range_with_len, length-range_with_len}
use Rattle.std.proofs.lemmas.List.{take_all}
use Rattle.std.proofs.lemmas.Slice.Eq.{bytes_eq-Decides}
use Rattle.fc_base.specs.declared.limits.TheConstants.{MAX_BLOCK_SIZE}
use Rattle.fc_base.specs.declared.record.JobParts.{JobParts}
use Rattle.fc_base.specs.JobParts.{is_within_limits, has_block_size, has_region, has_queue, has_pattern}
use Rattle.write_order.specs.Laws.{WritesFillTheirBlocks}
use Rattle.write_order.specs.Stamps.{written_bytes}
use Rattle.recheck.specs.Expected.{Expected}
use Rattle.recheck.specs.Faults.{expected_writes, is_checked, is_expected, is_fault, is_write, last_write, writes_to}
use Rattle.recheck.specs.Report.{report_with, tally}
use Rattle.fc_base.specs.declared.report.ReportEnd.TheVariants.{Whole}
use Rattle.targets.specs.Units.{BlocksAreUnits, SoundBlocksHaveSoundUnits, fits_blocks, has_sound_units, is_fault_by, is_sound_unit, is_unit_of, report_by, unit_in}
use Rattle.recheck.specs.Check.{Check}
use Rattle.targets.specs.declared.block_verdict.BlockVerdict.{BlockVerdict}
use Rattle.targets.specs.declared.block_verdict.BlockVerdict.TheVariants as tolds
use Rattle.targets.specs.Maps.{Tells}
use Rattle.targets.specs.Mapping.{IsFed, TellsBytes, fed_bytes, fed_by}

-- ---- tests over lists

or_weaker : (a b c d : Bool) → (a ≡ true → c ≡ true) → (b ≡ true → d ≡ true) → (a || b) ≡ true → (c || d) ≡ true
or_weaker true b c d f g is = rw (f refl) refl
or_weaker false b true d f g is = refl
or_weaker false b false d f g is = g is

any_weaker : {X : Type 0} (p q : X → Bool) → ((x : X) → p x ≡ true → q x ≡ true) → (xs : List X) → list_any p xs ≡ true → list_any q xs ≡ true
any_weaker p q f [] is = is
any_weaker p q f (x ∷ xs) is = or_weaker (p x) (list_any p xs) (q x) (list_any q xs) (f x) (any_weaker p q f xs) is

any_same : {X : Type 0} (p q : X → Bool) → ((x : X) → p x ≡ q x) → (xs : List X) → list_any p xs ≡ list_any q xs
any_same p q f [] = refl
any_same p q f (x ∷ xs) = ap (λ b. b || list_any p xs) (f x) ∙ ap (λ b. q x || b) (any_same p q f xs)

all_pass : {X : Type 0} (p : X → Bool) → ((x : X) → p x ≡ true) → (xs : List X) → list_all p xs ≡ true
all_pass p f [] = refl
all_pass p f (x ∷ xs) = ap (λ b. b && list_all p xs) (f x) ∙ all_pass p f xs

same_filter : {X : Type 0} (p q : X → Bool) → ((x : X) → p x ≡ q x) → (xs : List X) → filter p xs ≡ filter q xs
same_filter p q f [] = refl
same_filter p q f (x ∷ xs) =
    ap (λ b. if b then x ∷ filter p xs else filter p xs) (f x) ∙ ap (λ l. if q x then x ∷ l else l) (same_filter p q f xs)

pub and_true : (b : Bool) → (b && true) ≡ b
and_true true = refl
and_true false = refl

-- ---- a sound block has sound units

unit_too : (unit number : ℕ) (bytes others : List ℕ) → bytes_eq bytes others ≡ true → bytes_eq (unit_in unit bytes number) (unit_in unit others number) ≡ true
unit_too unit number bytes others is =
    (bytes_eq-Decides (unit_in unit bytes number) (unit_in unit others number)).1 (ap (λ l. unit_in unit l number) ((bytes_eq-Decides bytes others).0 is))

pub sound_units : SoundBlocksHaveSoundUnits
sound_units e unit block bytes is =
    all_pass (is_sound_unit e unit block bytes)
    (λ number. any_weaker (is_write e block bytes) (is_unit_of e unit block bytes number)
    (λ k same. unit_too unit number bytes (written_bytes e.key e.job k block) same) (expected_writes e block) is)
    (range_with_len 0 (e.job.bs / unit))

-- ---- the block as the unit

block_size : (job : JobParts) → IsTrue (is_within_limits job) → 0 < job.bs
block_size job limits =
    let three = and_parts (has_block_size job && has_region job && has_queue job) (has_pattern job) limits in
    let two = and_parts (has_block_size job && has_region job) (has_queue job) three.0 in
    let one = and_parts (has_block_size job) (has_region job) two.0 in
    let size = and_parts (nat_le 512 job.bs && nat_le job.bs MAX_BLOCK_SIZE) (eqb (job.bs % 512) 0) one.0 in
    omega (arith, leb-true 512 job.bs (and_parts (nat_le 512 job.bs) (nat_le job.bs MAX_BLOCK_SIZE) size.0).0)

whole_unit : (size : ℕ) (bytes : List ℕ) → length bytes ≡ size → unit_in size bytes 0 ≡ bytes
whole_unit size bytes long =
    let front : 0 * size ≡ 0 = omega arith in
    ap (λ n. take size (drop n bytes)) front ∙ take_all size bytes (omega (arith, long))

one_unit : (size : ℕ) → 0 < size → size / size ≡ 1
one_unit size some = ap (λ n. n / size) (omega arith) ∙ div-mul-add 1 size 0 some

pub blocks_are_units : WritesFillTheirBlocks → BlocksAreUnits
blocks_are_units fills e within block bytes long =
    ap (λ n. list_all (is_sound_unit e e.job.bs block bytes) (range_with_len 0 n)) (one_unit e.job.bs (block_size e.job within))
    ∙ and_true (is_sound_unit e e.job.bs block bytes 0)
    ∙ any_same (is_unit_of e e.job.bs block bytes 0) (is_write e block bytes)
    (λ k. ap (λ l. bytes_eq l (unit_in e.job.bs (written_bytes e.key e.job k block) 0)) (whole_unit e.job.bs bytes long)
    ∙ ap (bytes_eq bytes) (whole_unit e.job.bs (written_bytes e.key e.job k block) (fills e.key e.job within k block)))
    (expected_writes e block)

-- ---- what a check is given in place of a block with sound units

expected_some : (e : Expected) (block k : ℕ) → last_write e block ≡ Some k → expected_writes e block ≡ k ∷ writes_to block e.in_flight
expected_some e block k is = rw is refl

own_write : (e : Expected) (block k : ℕ) → last_write e block ≡ Some k → is_expected e block (written_bytes e.key e.job k block) ≡ true
own_write e block k is =
    let w : List ℕ = written_bytes e.key e.job k block in
    ap (list_any (is_write e block w)) (expected_some e block k is)
    ∙ ap (λ b. b || list_any (is_write e block w) (writes_to block e.in_flight)) ((bytes_eq-Decides w w).1 refl)

not_sound : (a b : Bool) → (a ≡ true → b ≡ true) → b ≡ false → a ≡ false
not_sound true b f is = absurd (let both : true ≡ false = sym (f refl) ∙ is in cc)
not_sound false b f is = refl

fed_is : (e : Expected) (unit block k : ℕ) (bytes : List ℕ) (b : Bool) → last_write e block ≡ Some k → has_sound_units e unit block bytes ≡ b
    → fed_bytes (Some unit) e block bytes ≡ (if b then written_bytes e.key e.job k block else bytes)
fed_is e unit block k bytes b last is =
    ap (λ s. fed_by s (last_write e block) (λ j. written_bytes e.key e.job j block) bytes) is
    ∙ ap (λ l. fed_by b l (λ j. written_bytes e.key e.job j block) bytes) last

fed_sound : (e : Expected) (unit block k : ℕ) (bytes : List ℕ) (b : Bool) → last_write e block ≡ Some k → has_sound_units e unit block bytes ≡ b
    → is_expected e block (fed_bytes (Some unit) e block bytes) ≡ b
fed_sound e unit block k bytes true last is = ap (is_expected e block) (fed_is e unit block k bytes true last is) ∙ own_write e block k last
fed_sound e unit block k bytes false last is =
    ap (is_expected e block) (fed_is e unit block k bytes false last is)
    ∙ not_sound (is_expected e block bytes) (has_sound_units e unit block bytes) (sound_units e unit block bytes) is

fault_by_last : (e : Expected) (unit block : ℕ) (bytes : List ℕ) (last : Option ℕ) → last_write e block ≡ last
    → (is_checked e block && not (is_expected e block (fed_bytes (Some unit) e block bytes)))
    ≡ (is_checked e block && not (has_sound_units e unit block bytes))
fault_by_last e unit block bytes None is =
    let none : is_checked e block ≡ false = rw is refl in
    ap (λ b. b && not (is_expected e block (fed_bytes (Some unit) e block bytes))) none
    ∙ sym (ap (λ b. b && not (has_sound_units e unit block bytes)) none)
fault_by_last e unit block bytes (Some k) is =
    ap (λ b. is_checked e block && not b) (fed_sound e unit block k bytes (has_sound_units e unit block bytes) is refl)

fault_alike : (unit : Option ℕ) (e : Expected) (held : ℕ → List ℕ) (block : ℕ)
    → is_fault e (λ n. fed_bytes unit e n (held n)) block ≡ is_fault_by unit e held block
fault_alike None e held block = refl
fault_alike (Some unit) e held block = fault_by_last e unit block (held block) (last_write e block) refl

pub report_alike : (unit : Option ℕ) (e : Expected) (held : ℕ → List ℕ) (blocks : List ℕ)
    → report_with (tally e (λ n. fed_bytes unit e n (held n)) blocks) Whole ≡ report_by unit e held blocks
report_alike unit e held blocks =
    let same = same_filter (is_fault e (λ n. fed_bytes unit e n (held n))) (is_fault_by unit e held) (fault_alike unit e held) blocks in
    rw same refl

-- ---- what is told of a block by units

-- What is told of a block that has no sound units, or isn't checked, is so by units, too.
tells_too : (e : Expected) (unit block : ℕ) (bytes : Option (List ℕ)) (told : BlockVerdict)
    → ((held : List ℕ) → bytes ≡ Some held → is_checked e block ≡ true → has_sound_units e unit block held ≡ false)
    → Tells None e block bytes told → Tells (Some unit) e block bytes told
tells_too e unit block bytes tolds.Unchecked none tells = tells
tells_too e unit block bytes tolds.Unread none tells = tells
tells_too e unit block bytes tolds.Sound none (checked, (held, is, sound)) = (checked, (held, is, sound_units e unit block held sound))
tells_too e unit block bytes (tolds.Fault kind) none (checked, (held, is, unsound, holds)) = (checked, (held, is, none held is checked, holds))

some_is : (a b : List ℕ) → Some a ≡ Some b → a ≡ b
some_is a b is = cc

pub told_too : (old new : Check) (unit block : ℕ) (bytes : List ℕ) (told : BlockVerdict)
    → (is_checked old.expected block ≡ true → has_sound_units old.expected unit block bytes ≡ false)
    → fed_bytes (Some unit) old.expected block bytes ≡ bytes
    → TellsBytes None old new block bytes told → TellsBytes (Some unit) old new block bytes told
told_too old new unit block bytes told none fed tells = record {
  tells = tells_too old.expected unit block (Some bytes) told
      (λ held is checked. ap (has_sound_units old.expected unit block) (sym (some_is bytes held is)) ∙ none checked) tells.tells;
  expected = tells.expected;
  fatal = tells.fatal;
  next = tells.next;
  taken = λ held blocks is seen. tells.taken held blocks (is ∙ fed) seen;
}

-- Of one that isn't checked.
pub told_unchecked : (old new : Check) (unit block : ℕ) (bytes : List ℕ) (told : BlockVerdict) → last_write old.expected block ≡ None
    → TellsBytes None old new block bytes told → TellsBytes (Some unit) old new block bytes told
told_unchecked old new unit block bytes told last tells =
    let none : is_checked old.expected block ≡ false = rw last refl in
    told_too old new unit block bytes told
    (λ checked. absurd (let both : true ≡ false = sym checked ∙ none in cc))
    (ap (λ l. fed_by (has_sound_units old.expected unit block bytes) l (λ k. written_bytes old.expected.key old.expected.job k block) bytes) last) tells

-- Of one that has a unit that isn't sound.
pub told_unsound : (old new : Check) (unit block k : ℕ) (bytes : List ℕ) (told : BlockVerdict) → last_write old.expected block ≡ Some k
    → has_sound_units old.expected unit block bytes ≡ false
    → TellsBytes None old new block bytes told → TellsBytes (Some unit) old new block bytes told
told_unsound old new unit block k bytes told last is tells =
    told_too old new unit block bytes told (λ checked. is) (fed_is old.expected unit block k bytes false last is) tells

-- Of one whose units are sound.
pub told_sound : (old new : Check) (unit block k : ℕ) (bytes : List ℕ) → last_write old.expected block ≡ Some k
    → has_sound_units old.expected unit block bytes ≡ true
    → IsFed old new block (written_bytes old.expected.key old.expected.job k block) → TellsBytes (Some unit) old new block bytes tolds.Sound
told_sound old new unit block k bytes last is fed = record {
  tells = ((rw last refl), (bytes, refl, is));
  expected = fed.expected;
  fatal = fed.fatal;
  next = fed.next;
  taken = λ held blocks same seen. fed.seen held blocks (same ∙ fed_is old.expected unit block k bytes true last is) seen;
}

-- ---- units of a block

-- A unit is within its block.
pub unit_within : (size unit number : ℕ) → number < size / unit → number * unit + unit ≤ size
unit_within size unit number lt =
    let most : (number + 1) * unit ≤ size / unit * unit = mul-le (number + 1) unit (size / unit) unit (omega (arith, lt)) (omega arith) in
    omega (arith, most, div-add-mod' size unit)

pub fits_some : (unit size : ℕ) → fits_blocks unit size ≡ true → 0 < unit
fits_some unit size fits = ltb-true 0 unit (and_parts (nat_lt 0 unit) (eqb (unit % 512) 0 && eqb (size % unit) 0) fits).0

-- ---- writes in flight to a block

-- Of the writes that go to a block one passes.
any_to : (test : ℕ → Bool) (block : ℕ) (writes : List BlockWrites)
    → list_any test (writes_to block writes) ≡ list_any (λ w. eqb w.block block && test w.seq) writes
any_to test block [] = refl
any_to test block (w ∷ ws) = by (eqb w.block block) refl (any_to test block ws)
  where
    by : (b : Bool) → eqb w.block block ≡ b → list_any test (writes_to block ws) ≡ list_any (λ v. eqb v.block block && test v.seq) ws
        → list_any test (writes_to block (w ∷ ws)) ≡ (eqb w.block block && test w.seq || list_any (λ v. eqb v.block block && test v.seq) ws)
    by true e rest = rw (e, rest) refl
    by false e rest = rw (e, rest) refl

-- A write of a list that goes to the block and passes.
pub found_at : (test : ℕ → Bool) (block : ℕ) (writes : List BlockWrites) (i : ℕ) (w : BlockWrites) → i < length writes → w ≡ get_or writes i w → w.block ≡ block
    → test w.seq ≡ true → list_any test (writes_to block writes) ≡ true
found_at test block writes i w lt is here passes =
    any_to test block writes
    ∙ list_any_at (λ (v : BlockWrites). eqb v.block block && test v.seq) writes i w lt
    (subst (λ v. (eqb v.block block && test v.seq) ≡ true) is (rw (eq-eqb w.block block here, passes) refl))

-- None of a list goes to the block and passes.
pub none_found : (test : ℕ → Bool) (block : ℕ) (writes : List BlockWrites) (n : ℕ) → length writes ≤ n
    → list_any (λ v. eqb v.block block && test v.seq) (take n writes) ≡ false → list_any test (writes_to block writes) ≡ false
none_found test block writes n all none =
    any_to test block writes ∙ ap (list_any (λ (v : BlockWrites). eqb v.block block && test v.seq)) (sym (take_all n writes all)) ∙ none

-- ---- units one by one

-- One unit more is sound.
pub sound_more : (p : ℕ → Bool) (n : ℕ) → list_all p (range_with_len 0 n) ≡ true → p n ≡ true → list_all p (range_with_len 0 (n + 1)) ≡ true
sound_more p n all one =
    ap (list_all p) (range_more n) ∙ list_all-append p (range_with_len 0 n) (n ∷ []) ∙ ap (λ b. b && (p n && true)) all ∙ and_true (p n) ∙ one

-- One that isn't is among all.
pub unsound_one : (p : ℕ → Bool) (n m : ℕ) → n < m → p n ≡ false → list_all p (range_with_len 0 m) ≡ false
unsound_one p n m lt none =
    list_all_at p (range_with_len 0 m) n 0 (omega (arith, length-range_with_len 0 m, lt)) (ap p (get_or-range_with_len 0 m n 0 lt ∙ zero-add n) ∙ none)

pub units_none : (e : Expected) (unit block number : ℕ) (bytes : List ℕ) → last_write e block ≡ None → is_sound_unit e unit block bytes number ≡ false
units_none e unit block number bytes last = rw last refl

pub units_some : (e : Expected) (unit block number k : ℕ) (bytes : List ℕ) → last_write e block ≡ Some k
    → is_sound_unit e unit block bytes number
    ≡ (is_unit_of e unit block bytes number k || list_any (is_unit_of e unit block bytes number) (writes_to block e.in_flight))
units_some e unit block number k bytes last = ap (list_any (is_unit_of e unit block bytes number)) (expected_some e block k last)
