-- What stands in a sector.
use Rattle.std.proofs.Common.{◌≡◌, ℕ, ◌+◌, ◌/◌, ◌%◌, ◌^◌, ◌<◌, ◌≤◌, Bool, true, false, ◌&&◌, eqb, List, [], ◌∷◌, ◌++◌}
use Rattle.std.proofs.Common.{length, take, drop, get_or, refl, sym, ap, ◌∙◌, inl, inr, arith}
use Rattle.std.specs.Int.{w32, w64, from_be_bytes, to_be_bytes}
use Rattle.std.specs.Str.{bytes_eq}
use Rattle.std.proofs.lemmas.Bool.{cases_lt, eqb-true, eq-eqb, and_parts, false_from_ne_true, ne_eqb}
use Rattle.std.proofs.lemmas.Bool.Decides.{same_from_decides}
use Rattle.std.proofs.lemmas.List.{drop-drop, take-append-drop, length-drop, length-take, get_or-drop, get_or-take, get_or_past}
use Rattle.std.proofs.lemmas.List.FromFn.{fill_by_all, get_or-map-range_with_len, length-map-range_with_len}
use Rattle.std.proofs.Math.Nat.{div-eq_of_lt}
use Rattle.std.proofs.lemmas.Nat.{be_bytes_4, be_bytes_8, from_be_bytes-to_be_bytes_4, from_be_bytes-to_be_bytes_8}
use Rattle.std.proofs.lemmas.Slice.Eq.{bytes_eq-Decides}
use Rattle.fc_base.specs.Layouts.{number_in}
use Rattle.verify_state.specs.Reading.{field}
use Rattle.write_order.specs.Stamps.{counting_bytes, stamped_sector}
use Rattle.write_order.specs.Laws.{HasRoomInAStamp, sector_with}
use Rattle.diagnosis.specs.declared.stamp.Stamp.{Stamp}
use Rattle.diagnosis.specs.declared.stamp.Write.{Write}
use Rattle.diagnosis.specs.Sectors.{fields_of, HasRoom, stamp_in, is_stamped}

-- ---- bytes

abbrev pub IsBytes : List ℕ → Type 0
IsBytes bytes = (i : ℕ) → get_or bytes i 0 < 256

bytes_drop : (n : ℕ) (bytes : List ℕ) → IsBytes bytes → IsBytes (drop n bytes)
bytes_drop n bytes h i = rw get_or-drop (h (n + i))

bytes_take : (n : ℕ) (bytes : List ℕ) → IsBytes bytes → IsBytes (take n bytes)
bytes_take n bytes h i =
    elim (cases_lt i n) [
      | inl lt ↦ rw (get_or-take n bytes i 0 lt) (h i)
      | inr le ↦ rw (get_or_past (take n bytes) i 0 (omega (arith, length-take n bytes))) (omega arith)
    ]

-- ---- a stamp says what was put into it

long_again : (n : ℕ) → n < 2 ^ 64 → from_be_bytes w64 (to_be_bytes w64 n) ≡ n
long_again n lt = from_be_bytes-to_be_bytes_8 n lt

short_again : (n : ℕ) → n < 2 ^ 32 → from_be_bytes w32 (to_be_bytes w32 n) ≡ n
short_again n lt = from_be_bytes-to_be_bytes_4 n lt

-- The stamp with this sector of a write.
abbrev pub stamp_with : Write → ℕ → Stamp
stamp_with write sector = record { write = write; sector = sector }

-- A stamp is known by its numbers.
abbrev pub stamp_by : ℕ → ℕ → ℕ → ℕ → ℕ → ℕ → Stamp
stamp_by run server job seq block sector =
    record { write = record { key = record { run = run; server = server; job = job }; seq = seq; block = block }; sector = sector }

pub read_back : (write : Write) (sector : ℕ) → HasRoom write → sector < 2 ^ 32 → stamp_in (sector_with (fields_of (stamp_with write sector))) ≡ stamp_with write sector
unfolding stamped_sector field number_in
read_back w s room lt =
    let k = w.key in
    let same : stamp_by (from_be_bytes w64 (to_be_bytes w64 k.run)) (from_be_bytes w32 (to_be_bytes w32 k.server)) (from_be_bytes w32 (to_be_bytes w32 k.job)) (from_be_bytes w64 (to_be_bytes w64 w.seq)) (from_be_bytes w32 (to_be_bytes w32 w.block)) (from_be_bytes w32 (to_be_bytes w32 s)) ≡ stamp_by k.run k.server k.job w.seq w.block s =
    rw (long_again k.run room.run, short_again k.server room.server, short_again k.job room.job, long_again w.seq room.seq, short_again w.block room.block, short_again s lt) refl in
    same

pub is_stamped-stamp : (write : Write) (sector : ℕ) → HasRoom write → sector < 2 ^ 32 → is_stamped (sector_with (fields_of (stamp_with write sector))) ≡ true
unfolding is_stamped
is_stamped-stamp write sector room lt =
    let bytes = sector_with (fields_of (stamp_with write sector)) in
    (bytes_eq-Decides bytes (sector_with (fields_of (stamp_in bytes)))).1 (sym (ap (λ (s : Stamp). sector_with (fields_of s)) (read_back write sector room lt)))

-- A stamped sector is what its stamp makes.
pub stamped_is : (sector : List ℕ) → is_stamped sector ≡ true → sector ≡ sector_with (fields_of (stamp_in sector))
unfolding is_stamped
stamped_is sector e = (bytes_eq-Decides sector (sector_with (fields_of (stamp_in sector)))).0 e

-- ---- where the fields stand

cut : (k at : ℕ) (bytes : List ℕ) → drop at bytes ≡ take k (drop at bytes) ++ drop (at + k) bytes
cut k at bytes = sym (take-append-drop k (drop at bytes)) ∙ ap (λ l. take k (drop at bytes) ++ l) (drop-drop k at bytes)

long_at : (at : ℕ) (bytes : List ℕ) → IsBytes bytes → at + 8 ≤ length bytes → take 8 (drop at bytes) ≡ to_be_bytes w64 (field w64 at bytes)
unfolding field number_in
long_at at bytes fits long =
    let front = take 8 (drop at bytes) in
    sym (be_bytes_8 front (from_be_bytes w64 front) (omega (arith, length-take 8 (drop at bytes), length-drop at bytes))
    (bytes_take 8 (drop at bytes) (bytes_drop at bytes fits)) refl)

short_at : (at : ℕ) (bytes : List ℕ) → IsBytes bytes → at + 4 ≤ length bytes → take 4 (drop at bytes) ≡ to_be_bytes w32 (field w32 at bytes)
unfolding field number_in
short_at at bytes fits long =
    let front = take 4 (drop at bytes) in
    sym (be_bytes_4 front (from_be_bytes w32 front) (omega (arith, length-take 4 (drop at bytes), length-drop at bytes))
    (bytes_take 4 (drop at bytes) (bytes_drop at bytes fits)) refl)

short_limit : (bytes : List ℕ) → IsBytes bytes → from_be_bytes w32 bytes < 2 ^ 32
short_limit bytes fits = omega (arith, fits 0, fits 1, fits 2, fits 3)

field_limit : (at : ℕ) (bytes : List ℕ) → IsBytes bytes → field w32 at bytes < 2 ^ 32
unfolding field number_in
field_limit at bytes fits = short_limit (take 4 (drop at bytes)) (bytes_take 4 (drop at bytes) (bytes_drop at bytes fits))

long_limit : (bytes : List ℕ) → IsBytes bytes → from_be_bytes w64 bytes < 2 ^ 64
long_limit bytes fits = omega (arith, fits 0, fits 1, fits 2, fits 3, fits 4, fits 5, fits 6, fits 7)

long_field_limit : (at : ℕ) (bytes : List ℕ) → IsBytes bytes → field w64 at bytes < 2 ^ 64
unfolding field number_in
long_field_limit at bytes fits = long_limit (take 8 (drop at bytes)) (bytes_take 8 (drop at bytes) (bytes_drop at bytes fits))

-- The numbers that stand in a sector have room in a stamp.
pub stamp_room : (s : List ℕ) → IsBytes s → HasRoomInAStamp (fields_of (stamp_in s))
stamp_room s fits = record {
  run = long_field_limit 0 s fits;
  server = field_limit 8 s fits;
  job = field_limit 12 s fits;
  write = long_field_limit 16 s fits;
  block = omega (arith, field_limit 28 s fits);
  sector = field_limit 32 s fits;
}

abbrev four_zeros : List ℕ
four_zeros = 0 ∷ 0 ∷ 0 ∷ 0 ∷ []

high_byte : (n d : ℕ) → n < 4294967296 → 4294967296 ≤ d → n / d % 256 ≡ 0
high_byte n d lt le = omega (arith, div-eq_of_lt {n = n} {m = d} (omega arith))

-- A number of four bytes in eight.
low_half : (n : ℕ) → n < 2 ^ 32 → to_be_bytes w64 n ≡ four_zeros ++ to_be_bytes w32 n
low_half n lt =
    rw (high_byte n (256 ^ 7) (omega arith) (omega arith), high_byte n (256 ^ 6) (omega arith) (omega arith), high_byte n (256 ^ 5) (omega arith) (omega arith), high_byte n (256 ^ 4) (omega arith) (omega arith))
    refl

-- Seven fields and what stands behind them, field by field.
alike : (a b c d f g h i j k l m n o t : List ℕ) → a ≡ h → b ≡ i → c ≡ j → d ≡ k → f ≡ l → g ≡ m → n ≡ o
    → a ++ (b ++ (c ++ (d ++ (f ++ (g ++ (n ++ t)))))) ≡ h ++ (i ++ (j ++ (k ++ (l ++ (m ++ (o ++ t))))))
alike a b c d f g h i j k l m n o t p q r s u v w = rw (p, q, r, s, u, v, w) refl

-- What stands before the bytes that count up.
fields_alike : (s : List ℕ) → IsBytes s → length s ≡ 512 → field w32 24 s ≡ 0 → drop 36 s ≡ counting_bytes (field w64 16 s) 476 → s ≡ sector_with (fields_of (stamp_in s))
unfolding stamped_sector
fields_alike s fits len none tail =
    let half = low_half (field w32 28 s) (field_limit 28 s fits) in
    let zeros : take 4 (drop 24 s) ≡ four_zeros = short_at 24 s fits (omega arith) ∙ ap (to_be_bytes w32) none in
    cut 8 0 s ∙ ap (λ l. take 8 s ++ l) (cut 4 8 s ∙ ap (λ l. take 4 (drop 8 s) ++ l) (cut 4 12 s ∙ ap (λ l. take 4 (drop 12 s) ++ l)
    (cut 8 16 s ∙ ap (λ l. take 8 (drop 16 s) ++ l) (cut 4 24 s ∙ ap (λ l. take 4 (drop 24 s) ++ l) (cut 4 28 s ∙ ap (λ l. take 4 (drop 28 s) ++ l)
    (cut 4 32 s ∙ ap (λ l. take 4 (drop 32 s) ++ l) tail))))))
    ∙ alike (take 8 s) (take 4 (drop 8 s)) (take 4 (drop 12 s)) (take 8 (drop 16 s)) (take 4 (drop 24 s)) (take 4 (drop 28 s))
    (to_be_bytes w64 (field w64 0 s)) (to_be_bytes w32 (field w32 8 s)) (to_be_bytes w32 (field w32 12 s)) (to_be_bytes w64 (field w64 16 s)) four_zeros
    (to_be_bytes w32 (field w32 28 s)) (take 4 (drop 32 s)) (to_be_bytes w32 (field w32 32 s)) (counting_bytes (field w64 16 s) 476)
    (long_at 0 s fits (omega arith)) (short_at 8 s fits (omega arith)) (short_at 12 s fits (omega arith)) (long_at 16 s fits (omega arith)) zeros
    (short_at 28 s fits (omega arith)) (short_at 32 s fits (omega arith))
    ∙ ap (λ l. to_be_bytes w64 (field w64 0 s) ++ (to_be_bytes w32 (field w32 8 s) ++ (to_be_bytes w32 (field w32 12 s) ++ (to_be_bytes w64 (field w64 16 s) ++
    (l ++ (to_be_bytes w32 (field w32 32 s) ++ counting_bytes (field w64 16 s) 476)))))) (sym half)

-- Of the bytes of a block the first four are zeros.
no_high_half : (write : Write) (sector : ℕ) → write.block < 2 ^ 32 → field w32 24 (sector_with (fields_of (stamp_with write sector))) ≡ 0
unfolding stamped_sector field number_in
no_high_half w s lt = ap (λ l. from_be_bytes w32 (take 4 l)) (low_half w.block lt)

pub tail_of : (write : Write) (sector : ℕ) → drop 36 (sector_with (fields_of (stamp_with write sector))) ≡ counting_bytes write.seq 476
unfolding stamped_sector
tail_of w s = refl

stamped_parts : (s : List ℕ) → IsBytes s → s ≡ sector_with (fields_of (stamp_in s)) → (field w32 24 s ≡ 0) × (drop 36 s ≡ counting_bytes (field w64 16 s) 476)
stamped_parts s fits e =
    let stamp = stamp_in s in
    (ap (field w32 24) e ∙ no_high_half stamp.write stamp.sector (field_limit 28 s fits), ap (drop 36) e ∙ tail_of stamp.write stamp.sector)

-- The test that the code makes.
pub stamped_test : (s : List ℕ) → IsBytes s → length s ≡ 512 → (eqb (field w32 24 s) 0 && bytes_eq (drop 36 s) (counting_bytes (field w64 16 s) 476)) ≡ is_stamped s
unfolding is_stamped
stamped_test s fits len =
    let tail = counting_bytes (field w64 16 s) 476 in
    let whole = sector_with (fields_of (stamp_in s)) in
    same_from_decides _ _ (
      λ e. let both = and_parts (eqb (field w32 24 s) 0) (bytes_eq (drop 36 s) tail) e in
          fields_alike s fits len (eqb-true (field w32 24 s) 0 both.0) ((bytes_eq-Decides (drop 36 s) tail).0 both.1),
      λ e. let parts = stamped_parts s fits e in
          rw (eq-eqb (field w32 24 s) 0 parts.0, (bytes_eq-Decides (drop 36 s) tail).1 parts.1) refl,
    )
    (bytes_eq-Decides s whole)

pub stamped_when : (s tail : List ℕ) (seq : ℕ) (r : Bool) → IsBytes s → length s ≡ 512 → field w32 24 s ≡ 0 → tail ≡ drop 36 s → seq ≡ field w64 16 s
    → r ≡ bytes_eq tail (counting_bytes seq (length tail)) → r ≡ is_stamped s
stamped_when s tail seq r fits len none rest is told =
    let long : length tail ≡ 476 = ap length rest ∙ omega (arith, length-drop 36 s) in
    let head : eqb (field w32 24 s) 0 ≡ true = eq-eqb (field w32 24 s) 0 none in
    let test : bytes_eq (drop 36 s) (counting_bytes (field w64 16 s) 476) ≡ is_stamped s = rw head at (stamped_test s fits len) in
    told ∙ ap (λ n. bytes_eq tail (counting_bytes seq n)) long ∙ ap (λ l. bytes_eq l (counting_bytes seq 476)) rest
    ∙ ap (λ n. bytes_eq (drop 36 s) (counting_bytes n 476)) is ∙ test

pub unstamped_when : (s : List ℕ) → IsBytes s → length s ≡ 512 → (field w32 24 s ≡ 0 → ⊥) → false ≡ is_stamped s
unstamped_when s fits len some =
    let head : eqb (field w32 24 s) 0 ≡ false = ne_eqb (field w32 24 s) 0 some in
    rw head at (stamped_test s fits len)

-- ---- bytes that count up

pub length-counting_bytes : (from n : ℕ) → length (counting_bytes from n) ≡ n
unfolding counting_bytes
length-counting_bytes from n = length-map-range_with_len (λ i. (from + i) % 256) 0 n

pub count_at : (k n i : ℕ) → i < n → get_or (counting_bytes k n) i 0 ≡ (k + i) % 256
unfolding counting_bytes
count_at k n i lt = get_or-map-range_with_len (λ i. (k + i) % 256) 0 n i i 0 lt (omega arith)

-- Bytes that don't count up at one place aren't those that do.
pub stops_at : (from n i : ℕ) (bytes : List ℕ) (byte next : ℕ) → i < n → get_or bytes i 0 ≡ byte → next ≡ (from + i) % 256 → (byte ≡ next → ⊥)
    → false ≡ bytes_eq bytes (counting_bytes from n)
stops_at from n i bytes byte next lt here is other =
    sym (false_from_ne_true (bytes_eq bytes (counting_bytes from n)) (λ e.
    let same = (bytes_eq-Decides bytes (counting_bytes from n)).0 e in
    other (sym here ∙ ap (λ l. get_or l i 0) same ∙ count_at from n i lt ∙ sym is)))

-- Bytes that count up at each place are those that do.
pub counts_at_all : (from n : ℕ) (bytes : List ℕ) → length bytes ≡ n → ((k : ℕ) → k < n → get_or bytes k 0 ≡ (from + k) % 256) → true ≡ bytes_eq bytes (counting_bytes from n)
unfolding counting_bytes
counts_at_all from n bytes len each =
    sym ((bytes_eq-Decides bytes (counting_bytes from n)).1 (fill_by_all (λ i. (from + i) % 256) bytes n 0 len each))
