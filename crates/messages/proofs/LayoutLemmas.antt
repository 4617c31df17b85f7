-- Numbers in bytes: what is read is what was written, and what was written is read again.
use Rattle.std.proofs.Common.{◌≡◌, ℕ, zero, suc, ◌+◌, ◌*◌, ◌%◌, ◌^◌, ◌<◌, ◌≤◌, List, [], ◌∷◌, ◌++◌}
use Rattle.std.proofs.Common.{length, take, drop, refl, ap, ◌∙◌, append_assoc, arith}
use Rattle.std.specs.Int.{Width, w8, w32, w64, byte_len, bytes_high_first, from_be_bytes, to_be_bytes}
use Rattle.std.proofs.lemmas.List.{take_at, drop_at, take-append-drop, length-append, length-take}
use Rattle.std.proofs.lemmas.List.{length-drop, drop-drop}
use Rattle.std.proofs.lemmas.Nat.{be_bytes_4, be_bytes_8, from_be_bytes-to_be_bytes_4, from_be_bytes-to_be_bytes_8}
use Rattle.fc_base.specs.Layouts.{bytes_of, number_in, size, spelled, numbers, spelled_blocks, blocks_in}
use Rattle.verify_state.proofs.FieldLemmas.{IsBytes, bytes_drop, bytes_take}

length-bytes_high_first : (k n : ℕ) → length (bytes_high_first k n) ≡ k
length-bytes_high_first zero n = refl
length-bytes_high_first (suc k) n = omega (arith, length-bytes_high_first k n)

pub length-bytes_of : (w : Width) (n : ℕ) → length (bytes_of w n) ≡ byte_len w
unfolding bytes_of
length-bytes_of w n = length-bytes_high_first (byte_len w) n

pub length-spelled : (ws : List Width) (ns : List ℕ) → length ns ≡ length ws → length (spelled ws ns) ≡ size ws
length-spelled [] ns e = refl
length-spelled (w ∷ ws) [] e = absurd (omega arith)
length-spelled (w ∷ ws) (n ∷ ns) e =
    omega (arith, length-append (bytes_of w n) (spelled ws ns), length-bytes_of w n, length-spelled ws ns (omega arith))

-- A width of which numbers are read as they were written.
pub record IsWide (w : Width) : Type 0 where
  pub again : (n : ℕ) (rest : List ℕ) → n < 256 ^ byte_len w → number_in w (bytes_of w n ++ rest) ≡ n
  pub back : (bytes : List ℕ) → IsBytes bytes → byte_len w ≤ length bytes → bytes_of w (number_in w bytes) ≡ take (byte_len w) bytes

again8 : (n : ℕ) (rest : List ℕ) → n < 2 ^ 8 → number_in w8 (bytes_of w8 n ++ rest) ≡ n
unfolding bytes_of number_in
again8 n rest lt = omega arith

back8 : (bytes : List ℕ) → IsBytes bytes → 1 ≤ length bytes → bytes_of w8 (number_in w8 bytes) ≡ take 1 bytes
unfolding bytes_of number_in
back8 [] fits le = absurd (omega arith)
back8 (b ∷ bs) fits le =
    let e : b % 256 ≡ b = omega (arith, fits 0) in
    ap (λ (x : ℕ). x ∷ []) e

pub wide8 : IsWide w8
wide8 = record { again = again8; back = back8 }

again32 : (n : ℕ) (rest : List ℕ) → n < 2 ^ 32 → number_in w32 (bytes_of w32 n ++ rest) ≡ n
unfolding bytes_of number_in
again32 n rest lt = ap (from_be_bytes w32) (take_at (to_be_bytes w32 n) rest 4 refl) ∙ from_be_bytes-to_be_bytes_4 n lt

back32 : (bytes : List ℕ) → IsBytes bytes → 4 ≤ length bytes → bytes_of w32 (number_in w32 bytes) ≡ take 4 bytes
unfolding bytes_of number_in
back32 bytes fits le = be_bytes_4 (take 4 bytes) _ (omega (arith, length-take 4 bytes)) (bytes_take 4 bytes fits) refl

pub wide32 : IsWide w32
wide32 = record { again = again32; back = back32 }

again64 : (n : ℕ) (rest : List ℕ) → n < 2 ^ 64 → number_in w64 (bytes_of w64 n ++ rest) ≡ n
unfolding bytes_of number_in
again64 n rest lt = ap (from_be_bytes w64) (take_at (to_be_bytes w64 n) rest 8 refl) ∙ from_be_bytes-to_be_bytes_8 n lt

back64 : (bytes : List ℕ) → IsBytes bytes → 8 ≤ length bytes → bytes_of w64 (number_in w64 bytes) ≡ take 8 bytes
unfolding bytes_of number_in
back64 bytes fits le = be_bytes_8 (take 8 bytes) _ (omega (arith, length-take 8 bytes)) (bytes_take 8 bytes fits) refl

pub wide64 : IsWide w64
wide64 = record { again = again64; back = back64 }

-- All widths are such.
abbrev pub AreWide : List Width → Type 0
AreWide [] = Unit {0}
AreWide (w ∷ ws) = IsWide w × AreWide ws

-- Each number fits its width.
abbrev pub Fit : List Width → List ℕ → Type 0
Fit [] [] = Unit {0}
Fit [] (n ∷ ns) = ⊥
Fit (w ∷ ws) [] = ⊥
Fit (w ∷ ws) (n ∷ ns) = (n < 256 ^ byte_len w) × Fit ws ns

pub numbers-spelled : (ws : List Width) (ns rest : List ℕ) → AreWide ws → Fit ws ns → numbers ws (spelled ws ns ++ rest) ≡ ns
numbers-spelled [] [] rest wide fit = refl
numbers-spelled [] (n ∷ ns) rest wide fit = absurd fit
numbers-spelled (w ∷ ws) [] rest wide fit = absurd fit
numbers-spelled (w ∷ ws) (n ∷ ns) rest wide fit =
    let first = wide.0.again n (spelled ws ns ++ rest) fit.0 in
    let behind = drop_at (bytes_of w n) (spelled ws ns ++ rest) (byte_len w) (length-bytes_of w n) in
    rw (append_assoc (bytes_of w n) (spelled ws ns) rest, first, behind, numbers-spelled ws ns rest wide.1 fit.1) refl

pub drop-spelled : (ws : List Width) (ns rest : List ℕ) → length ns ≡ length ws → drop (size ws) (spelled ws ns ++ rest) ≡ rest
drop-spelled ws ns rest e = drop_at (spelled ws ns) rest (size ws) (length-spelled ws ns e)

pub spelled-numbers : (ws : List Width) (bytes : List ℕ) → AreWide ws → IsBytes bytes → size ws ≤ length bytes
    → spelled ws (numbers ws bytes) ++ drop (size ws) bytes ≡ bytes
spelled-numbers [] bytes wide fits le = refl
spelled-numbers (w ∷ ws) bytes wide fits le =
    let k = byte_len w in
    let after = drop k bytes in
    let front = wide.0.back bytes fits (omega arith) in
    let rest = spelled-numbers ws after wide.1 (bytes_drop k bytes fits) (omega (arith, length-drop k bytes)) in
    rw (append_assoc (bytes_of w (number_in w bytes)) (spelled ws (numbers ws after)) (drop (k + size ws) bytes), ← drop-drop (size ws) k bytes, rest, front)
    (take-append-drop k bytes)

-- Blocks

pub length-blocks_in : (n : ℕ) (bytes : List ℕ) → length (blocks_in n bytes) ≡ n
length-blocks_in zero bytes = refl
length-blocks_in (suc n) bytes = omega (arith, length-blocks_in n (drop 4 bytes))

pub length-spelled_blocks : (blocks : List ℕ) → length (spelled_blocks blocks) ≡ 4 * length blocks
length-spelled_blocks [] = refl
length-spelled_blocks (b ∷ bs) =
    omega (arith, length-append (bytes_of w32 b) (spelled_blocks bs), length-bytes_of w32 b, length-spelled_blocks bs)

pub spelled_blocks-blocks_in : (n : ℕ) (bytes : List ℕ) → IsBytes bytes → length bytes ≡ 4 * n → spelled_blocks (blocks_in n bytes) ≡ bytes
spelled_blocks-blocks_in zero [] fits e = refl
spelled_blocks-blocks_in zero (b ∷ bs) fits e = absurd (omega arith)
spelled_blocks-blocks_in (suc n) bytes fits e =
    let rest = spelled_blocks-blocks_in n (drop 4 bytes) (bytes_drop 4 bytes fits) (omega (arith, length-drop 4 bytes)) in
    rw (rest, back32 bytes fits (omega arith)) (take-append-drop 4 bytes)
