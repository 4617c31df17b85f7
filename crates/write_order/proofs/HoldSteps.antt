-- Bytes of a block, compared sector by sector.
use Rattle.std.proofs.Common.{◌≡◌, ℕ, zero, suc, ◌+◌, ◌*◌, ◌<◌, Bool, true, false, List, [], ◌++◌}
use Rattle.std.proofs.Common.{length, take, drop, refl, sym, ap, subst, ◌∙◌, arith, add-zero, replicate}
use Rattle.std.specs.List.{range_with_len, flat_map}
use Rattle.std.specs.Str.{bytes_eq}
use Rattle.std.proofs.Math.Seq.{take-append_seam, drop-append-add, take-add}
use Rattle.std.proofs.lemmas.Bool.{false_from_ne_true}
use Rattle.std.proofs.lemmas.List.{flat_map_more, replicate-append-replicate, take_all}
use Rattle.std.proofs.lemmas.List.Concat.{flat_map-cons}
use Rattle.std.proofs.lemmas.Slice.Eq.{bytes_eq-Decides}
use Rattle.write_order.proofs.PickSteps.{range_with_len-more}

-- A sector of bytes that are made sector by sector.
pub sector_at : (f : ℕ → List ℕ) (n i a : ℕ) → ((k : ℕ) → length (f k) ≡ 512) → i < n → take 512 (drop (i * 512) (flat_map f (range_with_len a n))) ≡ f (a + i)
sector_at f zero i a len lt = absurd (omega arith)
sector_at f (suc n) zero a len lt =
    let rest = flat_map f (range_with_len (a + 1) n) in
    rw (flat_map-cons f a (range_with_len (a + 1) n))
    (subst (λ m. take m (f a ++ rest) ≡ f (a + 0)) (len a) (take-append_seam (f a) rest ∙ ap f (sym (add-zero a))))
sector_at f (suc n) (suc i) a len lt =
    let rest = flat_map f (range_with_len (a + 1) n) in
    let at : suc i * 512 ≡ length (f a) + i * 512 = omega (arith, len a) in
    let next : (a + 1) + i ≡ a + suc i = omega arith in
    rw (flat_map-cons f a (range_with_len (a + 1) n), at, drop-append-add (f a) rest (i * 512))
    (sector_at f n i (a + 1) len (omega arith) ∙ ap f next)

-- Bytes that differ in a sector differ.
pub differs : (f : ℕ → List ℕ) (n i : ℕ) (bytes sector : List ℕ) (has : Bool) → ((k : ℕ) → length (f k) ≡ 512) → i < n → sector ≡ f i
    → has ≡ bytes_eq (take 512 (drop (i * 512) bytes)) sector → has ≡ false → false ≡ bytes_eq bytes (flat_map f (range_with_len 0 n))
differs f n i bytes sector has len lt is said none =
    sym (false_from_ne_true _ (λ e.
    let same : bytes ≡ flat_map f (range_with_len 0 n) = (bytes_eq-Decides bytes (flat_map f (range_with_len 0 n))).0 e in
    let zero_plus : 0 + i ≡ i = omega arith in
    let here : take 512 (drop (i * 512) bytes) ≡ sector =
    ap (λ xs. take 512 (drop (i * 512) xs)) same ∙ sector_at f n i 0 len lt ∙ ap f zero_plus ∙ sym is in
    let yes = (bytes_eq-Decides (take 512 (drop (i * 512) bytes)) sector).1 here in
    let both : true ≡ false = sym yes ∙ sym said ∙ none in absurd cc))

-- One more sector is alike.
pub alike_more : (f : ℕ → List ℕ) (i : ℕ) (bytes sector : List ℕ) (has : Bool) → take (i * 512) bytes ≡ flat_map f (range_with_len 0 i) → sector ≡ f i
    → has ≡ bytes_eq (take 512 (drop (i * 512) bytes)) sector → has ≡ true → take ((i + 1) * 512) bytes ≡ flat_map f (range_with_len 0 (i + 1))
alike_more f i bytes sector has before is said alike =
    let here : take 512 (drop (i * 512) bytes) ≡ sector = (bytes_eq-Decides (take 512 (drop (i * 512) bytes)) sector).0 (sym said ∙ alike) in
    let at : (i + 1) * 512 ≡ i * 512 + 512 = omega arith in
    ap (λ m. take m bytes) at ∙ take-add (i * 512) 512 bytes
    ∙ ap (λ xs. xs ++ take 512 (drop (i * 512) bytes)) before
    ∙ ap (λ xs. flat_map f (range_with_len 0 i) ++ xs) (here ∙ is)
    ∙ flat_map_more f [] (range_with_len 0 i) i
    ∙ ap (flat_map f) (sym (range_with_len-more i))

-- Bytes that are alike in all sectors are alike.
pub alike_in_all : (f : ℕ → List ℕ) (n i : ℕ) (bytes : List ℕ) → i ≡ n → length bytes ≡ n * 512 → take (i * 512) bytes ≡ flat_map f (range_with_len 0 i)
    → true ≡ bytes_eq bytes (flat_map f (range_with_len 0 n))
alike_in_all f n i bytes all len alike =
    let same : bytes ≡ flat_map f (range_with_len 0 n) =
    sym (take_all (i * 512) bytes (omega arith)) ∙ alike ∙ ap (λ k. flat_map f (range_with_len 0 k)) all in
    sym ((bytes_eq-Decides bytes (flat_map f (range_with_len 0 n))).1 same)

-- Sectors of one byte are so many of that byte.
pub sectors_of_one : (byte n len : ℕ) → len ≡ n * 512 → flat_map (λ k. replicate 512 byte) (range_with_len 0 n) ≡ replicate len byte
sectors_of_one byte n len whole = go n len 0 whole
  where
    go : (n len a : ℕ) → len ≡ n * 512 → flat_map (λ k. replicate 512 byte) (range_with_len a n) ≡ replicate len byte
    go zero len a whole =
        let none : len ≡ 0 = omega arith in
        rw none refl
    go (suc n) len a whole =
        let more : len ≡ 512 + n * 512 = omega arith in
        rw (more, flat_map-cons (λ (k : ℕ). replicate 512 byte) a (range_with_len (a + 1) n), go n (n * 512) (a + 1) refl)
        (replicate-append-replicate 512 (n * 512) byte)
