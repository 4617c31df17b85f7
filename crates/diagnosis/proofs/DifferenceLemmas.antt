-- How bytes differ, place by place.
use Rattle.std.proofs.Common.{◌≡◌, ℕ, ◌+◌, ◌-◌, ◌*◌, ◌/◌, ◌<◌, ◌≤◌, Bool, true, false, not, eqb, List, [], ◌∷◌, ◌++◌}
use Rattle.std.proofs.Common.{length, take, drop, get_or, filter, replicate, zero-add, refl, sym, ap, ◌∙◌, arith, length-append}
use Rattle.std.specs.Prelude.{Option, slice_get}
use Rattle.std.specs.List.{range_with_len, sum_by, flat_map}
use Rattle.std.proofs.lemmas.List.{append-nil, get_or-take, get_or-drop, drop-replicate, take-replicate}
use Rattle.std.proofs.lemmas.List.Concat.{flat_map-cons}
use Rattle.std.specs.Int.{w32, to_be_bytes}
use borrow.Rule.Slice.PartMut.{put_mid}
use Rattle.std.proofs.lemmas.List.Elements.{filter-append}
use Rattle.std.proofs.lemmas.List.Sums.{sum_by-append}
use Rattle.fc_base.specs.declared.numbers.Key.{Key}
use Rattle.fc_base.specs.declared.record.JobParts.{JobParts}
use Rattle.fc_base.specs.declared.record.Verify.TheVariants as verifies
use Rattle.write_order.specs.Stamps.{stamped_sector, written_bytes}
use Rattle.diagnosis.specs.declared.difference.Difference.{Difference}
use Rattle.diagnosis.specs.Differences.{differing_below, bits_apart, difference_at}
use Rattle.diagnosis.specs.Steps.{first_or, with_byte, one_sector}
use Rattle.diagnosis.proofs.BlockLemmas.{range_with_len-more, sector_at, length-stamped_sector}

first_more : (places : List ℕ) (at : ℕ) → slice_get (places ++ at ∷ []) 0 ≡ first_or (slice_get places 0) at
first_more [] at = refl
first_more (p ∷ places) at = refl

-- A difference is known by its parts.
abbrev difference_by : ℕ → ℕ → Option ℕ → Difference
difference_by bytes bits first = record { bytes = bytes; bits = bits; first = first }

one_more : (bytes others places : List ℕ) (at : ℕ)
    → difference_at bytes others (places ++ at ∷ [])
    ≡ difference_by (length places + 1) (sum_by (bits_apart bytes others) places + bits_apart bytes others at) (first_or (slice_get places 0) at)
one_more bytes others places at =
    let long : length (places ++ at ∷ []) ≡ length places + 1 = omega (arith, length-append places (at ∷ [])) in
    let bits : sum_by (bits_apart bytes others) (places ++ at ∷ []) ≡ sum_by (bits_apart bytes others) places + bits_apart bytes others at =
    sum_by-append (bits_apart bytes others) places (at ∷ []) ∙ ap (λ k. sum_by (bits_apart bytes others) places + k) (zero-add (bits_apart bytes others at)) in
    let same : difference_by (length (places ++ at ∷ [])) (sum_by (bits_apart bytes others) (places ++ at ∷ [])) (slice_get (places ++ at ∷ []) 0) ≡ difference_by (length places + 1) (sum_by (bits_apart bytes others) places + bits_apart bytes others at) (first_or (slice_get places 0) at) =
    rw (long, bits, first_more places at) refl in
    same

-- One more byte.
pub byte_more : (bytes others : List ℕ) (n : ℕ)
    → difference_at bytes others (differing_below bytes others (n + 1))
    ≡ with_byte (difference_at bytes others (differing_below bytes others n)) n (get_or bytes n 0) (get_or others n 0)
byte_more bytes others n = by (eqb (get_or bytes n 0) (get_or others n 0)) refl
  where
    places : List ℕ
    places = differing_below bytes others n

    more : differing_below bytes others (n + 1) ≡ places ++ filter (λ i. not (eqb (get_or bytes i 0) (get_or others i 0))) (n ∷ [])
    more = ap (filter (λ i. not (eqb (get_or bytes i 0) (get_or others i 0)))) (range_with_len-more n)
        ∙ filter-append (λ i. not (eqb (get_or bytes i 0) (get_or others i 0))) (range_with_len 0 n) (n ∷ [])

    by : (b : Bool) → eqb (get_or bytes n 0) (get_or others n 0) ≡ b
        → difference_at bytes others (differing_below bytes others (n + 1)) ≡ with_byte (difference_at bytes others places) n (get_or bytes n 0) (get_or others n 0)
    by true e = ap (difference_at bytes others) more ∙ rw e (ap (difference_at bytes others) (append-nil places))
    by false e = ap (difference_at bytes others) more ∙ rw e (one_more bytes others places n)

-- A byte of a sector is that of the block.
pub byte_in_sector : (others sector : List ℕ) (at i : ℕ) → i < 512 → take 512 (drop at others) ≡ sector → get_or sector i 0 ≡ get_or others (at + i) 0
byte_in_sector others sector at i lt e =
    ap (λ l. get_or l i 0) (sym e) ∙ get_or-take 512 (drop at others) i 0 lt ∙ get_or-drop at others i 0

-- One more byte of a sector.
pub byte_step : (bytes others sector : List ℕ) (at i : ℕ) (old new : Difference) → i < 512 → take 512 (drop at others) ≡ sector
    → old ≡ difference_at bytes others (differing_below bytes others (at + i)) → new ≡ with_byte old (at + i) (get_or bytes (at + i) 0) (get_or sector i 0)
    → new ≡ difference_at bytes others (differing_below bytes others (at + (i + 1)))
byte_step bytes others sector at i old new lt there before told =
    let next : (at + i) + 1 ≡ at + (i + 1) = omega arith in
    told ∙ ap (λ d. with_byte d (at + i) (get_or bytes (at + i) 0) (get_or sector i 0)) before
    ∙ ap (λ b. with_byte (difference_at bytes others (differing_below bytes others (at + i))) (at + i) (get_or bytes (at + i) 0) b) (byte_in_sector others sector at i lt there)
    ∙ sym (byte_more bytes others (at + i)) ∙ ap (λ n. difference_at bytes others (differing_below bytes others n)) next

-- ---- the sector that a write fills

pub pattern_sector : (key : Key) (job one : JobParts) (k block number : ℕ) (bytes : List ℕ) → job.verify ≡ verifies.Pattern → (number + 1) * 512 ≤ job.bs
    → one ≡ one_sector job → bytes ≡ written_bytes key one k block → bytes ≡ take 512 (drop (number * 512) (written_bytes key job k block))
pattern_sector key job one k block number bytes verify within is told =
    let rest : take 512 (drop (number * 512) (replicate job.bs job.pattern)) ≡ replicate 512 job.pattern =
    ap (take 512) (drop-replicate (number * 512) job.bs job.pattern) ∙ take-replicate 512 (job.bs - number * 512) job.pattern (omega arith) in
    told ∙ ap (λ j. written_bytes key j k block) is ∙ rw verify (sym rest)

one_stamp : (key : Key) (job : JobParts) (k block : ℕ) → job.verify ≡ verifies.Stamp → written_bytes key (one_sector job) k block ≡ stamped_sector key k block 0
one_stamp key job k block verify =
    rw verify (flat_map-cons (stamped_sector key k block) 0 [] ∙ append-nil (stamped_sector key k block 0))

renumbered : (key : Key) (k block number : ℕ) → put_mid 32 4 (stamped_sector key k block 0) (to_be_bytes w32 number) ≡ stamped_sector key k block number
unfolding stamped_sector
renumbered key k block number = refl

pub stamp_sector : (key : Key) (job one : JobParts) (k block number : ℕ) (bytes four : List ℕ) → job.verify ≡ verifies.Stamp → (number + 1) * 512 ≤ job.bs
    → one ≡ one_sector job → bytes ≡ written_bytes key one k block → four ≡ to_be_bytes w32 number
    → put_mid 32 4 bytes four ≡ take 512 (drop (number * 512) (written_bytes key job k block))
stamp_sector key job one k block number bytes four verify within is told spelled =
    let stamp : bytes ≡ stamped_sector key k block 0 = told ∙ ap (λ j. written_bytes key j k block) is ∙ one_stamp key job k block verify in
    let there : take 512 (drop (number * 512) (flat_map (stamped_sector key k block) (range_with_len 0 (job.bs / 512)))) ≡ stamped_sector key k block number =
    sector_at (stamped_sector key k block) (job.bs / 512) number 0 (length-stamped_sector key k block) (omega arith) ∙ ap (stamped_sector key k block) (zero-add number) in
    rw (stamp, spelled, verify) (renumbered key k block number ∙ sym there)
