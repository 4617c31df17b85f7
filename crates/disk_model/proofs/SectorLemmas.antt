-- Sectors of bytes: of zeros, of a part, of bytes with a part written over.
use Rattle.std.proofs.Common.{◌≡◌, ℕ, zero, suc, ◌+◌, ◌*◌, ◌-◌, ◌/◌, ◌<◌, ◌≤◌, ◌&&◌, Bool, true, false, ◌≢◌, cond, eq-eqb, ne_eqb, leb}
use Rattle.std.proofs.Common.{ltb, List, [], ◌++◌, length, take, drop, replicate, refl, sym, ◌∙◌, ap, ap₂, ⊎_elim, arith, length-drop}
use Rattle.std.specs.Int.{bit_at}
use Rattle.std.proofs.lemmas.List.{append-nil, append_assoc, drop_all, take-append-le, drop-append-le, drop-drop, drop-take}
use Rattle.std.proofs.lemmas.List.{take-take, take-replicate, drop-replicate, drop_at, take_all, take_at, length-take-le}
use Rattle.std.proofs.lemmas.Bool.{cases_lt, cases_eq}
use Rattle.std.proofs.lemmas.Bool.Decides.{nat_tests}
use Rattle.std.proofs.Math.Seq.{take-add}
use Rattle.disk_model.specs.File.{zeros, sector_of, sectors, has_bit}

pub sector_of-replicate : (n i : ℕ) → 512 * i + 512 ≤ n → sector_of (replicate n 0) i ≡ zeros
unfolding zeros
sector_of-replicate n i le =
    ap (λ (l : List ℕ). take 512 l) (drop-replicate (512 * i) n 0) ∙ take-replicate 512 (n - 512 * i) 0 (omega arith)

-- sectors one after another are a part of the bytes
pub sectors-sector_of : (bytes : List ℕ) (first count : ℕ) →
    sectors (sector_of bytes) first count ≡ take (512 * count) (drop (512 * first) bytes)
sectors-sector_of bytes first zero = refl
sectors-sector_of bytes first (suc count) =
    let next : 512 * (first + 1) ≡ 512 * first + 512 = omega arith in
    let more : 512 * suc count ≡ 512 + 512 * count = omega arith in
    rw (more, take-add 512 (512 * count) (drop (512 * first) bytes), drop-drop 512 (512 * first) bytes, ← next)
    (ap (λ (l : List ℕ). sector_of bytes first ++ l) (sectors-sector_of bytes (first + 1) count))

-- the front of two lists
pub sector_of-left : (p q : List ℕ) (i : ℕ) → 512 * i + 512 ≤ length p → sector_of (p ++ q) i ≡ sector_of p i
sector_of-left p q i le =
    ap (λ (l : List ℕ). take 512 l) (drop-append-le (512 * i) p q (omega arith))
    ∙ take-append-le 512 (drop (512 * i) p) q (omega (arith, length-drop (512 * i) p))

pub sector_of-drop : (m : ℕ) (p : List ℕ) (i : ℕ) → sector_of (drop (512 * m) p) i ≡ sector_of p (m + i)
sector_of-drop m p i =
    let at : 512 * m + 512 * i ≡ 512 * (m + i) = omega arith in
    ap (λ (l : List ℕ). take 512 l) (drop-drop (512 * i) (512 * m) p ∙ ap (λ n. drop n p) at)

-- the rest of two lists
pub sector_of-right : (p q : List ℕ) (m i : ℕ) → length p ≡ 512 * m → sector_of (p ++ q) (m + i) ≡ sector_of q i
sector_of-right p q m i is =
    sym (sector_of-drop m (p ++ q) i) ∙ ap (λ (l : List ℕ). sector_of l i) (drop_at p q (512 * m) is)

pub sector_of-take : (n : ℕ) (p : List ℕ) (i : ℕ) → 512 * i + 512 ≤ n → sector_of (take n p) i ≡ sector_of p i
sector_of-take n p i le =
    let at : n ≡ 512 * i + (n - 512 * i) = omega arith in
    ap (λ k. sector_of (take k p) i) at
    ∙ ap (λ (l : List ℕ). take 512 l) (drop-take (512 * i) (n - 512 * i) p)
    ∙ take-take 512 (n - 512 * i) (drop (512 * i) p) (omega arith)

-- bytes with a part from sector m on written over, whose end is that of n sectors
pub sector_of-written : (a k m n : ℕ) (old part : List ℕ) (i : ℕ) → a ≡ 512 * m → k ≡ 512 * n →
    a + k ≤ length old → length part ≡ k →
    sector_of (take a old ++ (part ++ drop k (drop a old))) i
    ≡ cond (leb m i && ltb i (m + n)) (sector_of part (i - m)) (sector_of old i)
sector_of-written a k m n old part i a_is k_is fits len =
    ⊎_elim below (λ from. ⊎_elim (within from) above (cases_lt i (m + n))) (cases_lt i m)
  where
    front : List ℕ
    front = take a old

    front_len : length (take a old) ≡ 512 * m
    front_len = omega (arith, length-take-le a old (omega arith))

    below : i < m → sector_of (take a old ++ (part ++ drop k (drop a old))) i ≡ cond (leb m i && ltb i (m + n)) (sector_of part (i - m)) (sector_of old i)
    below lt = sector_of-left (take a old) (part ++ drop k (drop a old)) i (omega (arith, front_len)) ∙ sector_of-take a old i (omega arith)
        ∙ grind (arith, nat_tests)

    within : m ≤ i → i < m + n → sector_of (take a old ++ (part ++ drop k (drop a old))) i
        ≡ cond (leb m i && ltb i (m + n)) (sector_of part (i - m)) (sector_of old i)
    within le lt =
        let at : i ≡ m + (i - m) = omega arith in
        ap (λ j. sector_of (take a old ++ (part ++ drop k (drop a old))) j) at
        ∙ sector_of-right (take a old) (part ++ drop k (drop a old)) m (i - m) front_len
        ∙ sector_of-left part (drop k (drop a old)) (i - m) (omega arith)
        ∙ grind (arith, nat_tests)

    above : m + n ≤ i → sector_of (take a old ++ (part ++ drop k (drop a old))) i ≡ cond (leb m i && ltb i (m + n)) (sector_of part (i - m)) (sector_of old i)
    above le =
        let at : i ≡ m + (n + (i - (m + n))) = omega arith in
        let back : m + (n + (i - (m + n))) ≡ i = omega arith in
        ap (λ j. sector_of (take a old ++ (part ++ drop k (drop a old))) j) at
        ∙ sector_of-right (take a old) (part ++ drop k (drop a old)) m (n + (i - (m + n))) front_len
        ∙ sector_of-right part (drop k (drop a old)) n (i - (m + n)) (len ∙ k_is)
        ∙ ap₂ (λ (b c : ℕ). sector_of (drop b (drop c old)) (i - (m + n))) k_is a_is
        ∙ sector_of-drop n (drop (512 * m) old) (i - (m + n))
        ∙ sector_of-drop m old (n + (i - (m + n)))
        ∙ ap (λ j. sector_of old j) back
        ∙ grind (arith, nat_tests)

-- one sector more is copied
pub copied_one : (from to old part : List ℕ) (mask i j : ℕ) → bit_at mask i ≡ 1 →
    512 * i + 512 ≤ length to → 512 * i + 512 ≤ length from →
    part ≡ take (i * 512 + 512 - i * 512) (drop (i * 512) from) →
    sector_of to j ≡ cond (ltb j i && has_bit mask j) (sector_of from j) (sector_of old j) →
    sector_of (take (i * 512) to ++ (part ++ drop (i * 512 + 512 - i * 512) (drop (i * 512) to))) j
    ≡ cond (ltb j (i + 1) && has_bit mask j) (sector_of from j) (sector_of old j)
copied_one from to old part mask i j bit fits there is so_far =
    sector_of-written (i * 512) (i * 512 + 512 - i * 512) i 1 to part j (omega arith) (omega arith) (omega arith) (ap length is ∙ part_len)
    ∙ ⊎_elim below (λ le. ⊎_elim (here le) above (cases_lt j (i + 1))) (cases_lt j i)
  where
    part_len : length (take (i * 512 + 512 - i * 512) (drop (i * 512) from)) ≡ i * 512 + 512 - i * 512
    part_len = length-take-le (i * 512 + 512 - i * 512) (drop (i * 512) from) (omega (arith, length-drop (i * 512) from))

    whole_part : sector_of part 0 ≡ sector_of from i
    whole_part =
        let much : i * 512 + 512 - i * 512 ≡ 512 = omega arith in
        let at : i * 512 ≡ 512 * i = omega arith in
        let from_is : i + 0 ≡ i = omega arith in
        rw (is, much, at) (sector_of-take 512 (drop (512 * i) from) 0 (omega arith) ∙ sector_of-drop i from 0 ∙ ap (λ k. sector_of from k) from_is)

    below : j < i → cond (leb i j && ltb j (i + 1)) (sector_of part (j - i)) (sector_of to j)
        ≡ cond (ltb j (i + 1) && has_bit mask j) (sector_of from j) (sector_of old j)
    below lt = grind (arith, nat_tests, so_far)

    is_one : i ≤ j → j < i + 1 → (leb i j && ltb j (i + 1)) ≡ true
    is_one le lt = grind (arith, nat_tests)

    is_before : j < i + 1 → ltb j (i + 1) ≡ true
    is_before lt = grind (arith, nat_tests)

    here : i ≤ j → j < i + 1 → cond (leb i j && ltb j (i + 1)) (sector_of part (j - i)) (sector_of to j)
        ≡ cond (ltb j (i + 1) && has_bit mask j) (sector_of from j) (sector_of old j)
    here le lt =
        let same : j ≡ i = omega arith in
        let none : j - i ≡ 0 = omega arith in
        ap (λ b. cond b (sector_of part (j - i)) (sector_of to j)) (is_one le lt)
        ∙ ap (λ k. sector_of part k) none ∙ whole_part ∙ ap (λ k. sector_of from k) (sym same)
        ∙ sym (ap (λ b. cond b (sector_of from j) (sector_of old j))
        (ap₂ (λ a b. a && b) (is_before lt) (eq-eqb (bit_at mask j) 1 (ap (λ k. bit_at mask k) same ∙ bit))))

    above : i + 1 ≤ j → cond (leb i j && ltb j (i + 1)) (sector_of part (j - i)) (sector_of to j)
        ≡ cond (ltb j (i + 1) && has_bit mask j) (sector_of from j) (sector_of old j)
    above le = grind (arith, nat_tests, so_far)

-- one sector more is passed over
pub skipped_one : (from to old : List ℕ) (mask i j : ℕ) → bit_at mask i ≢ 1 →
    sector_of to j ≡ cond (ltb j i && has_bit mask j) (sector_of from j) (sector_of old j) →
    sector_of to j ≡ cond (ltb j (i + 1) && has_bit mask j) (sector_of from j) (sector_of old j)
skipped_one from to old mask i j bit so_far = so_far ∙ ap (λ b. cond b (sector_of from j) (sector_of old j)) (⊎_elim here other (cases_eq j i))
  where
    unset : j ≡ i → has_bit mask j ≡ false
    unset same = ap (λ k. has_bit mask k) same ∙ ne_eqb (bit_at mask i) 1 bit

    none : (b : Bool) → (b && false) ≡ false
    none true = refl
    none false = refl

    here : j ≡ i → (ltb j i && has_bit mask j) ≡ (ltb j (i + 1) && has_bit mask j)
    here same = ap (λ b. ltb j i && b) (unset same) ∙ none (ltb j i) ∙ sym (ap (λ b. ltb j (i + 1) && b) (unset same) ∙ none (ltb j (i + 1)))

    same_test : j ≢ i → ltb j i ≡ ltb j (i + 1)
    same_test apart = grind (arith, nat_tests)

    other : j ≢ i → (ltb j i && has_bit mask j) ≡ (ltb j (i + 1) && has_bit mask j)
    other apart = ap (λ b. b && has_bit mask j) (same_test apart)

-- a vector that was lent whole
pub lent_whole : (len : ℕ) (old new : List ℕ) → length new ≡ length old → len ≡ length old →
    take len (new ++ drop (length new) old) ≡ new
lent_whole len old new same is = take_at new (drop (length new) old) len (sym (is ∙ sym same))

-- the picked sectors of some bytes have come over a part
pub landed_part : (picks : ℕ → Bool) (old bytes part : List ℕ) (first i : ℕ) →
    length part ≡ length bytes → length bytes ≡ 512 * (length bytes / 512) →
    512 * first + length bytes ≤ length old →
    ((j : ℕ) → j < length bytes / 512 → sector_of part j
    ≡ cond (picks j) (sector_of bytes j) (sector_of (take (first * 512 + length bytes - first * 512) (drop (first * 512) old)) j)) →
    sector_of (take (first * 512) old ++ (part ++ drop (first * 512 + length bytes - first * 512) (drop (first * 512) old))) i
    ≡ cond (leb first i && ltb i (first + length bytes / 512) && picks (i - first)) (sector_of bytes (i - first)) (sector_of old i)
landed_part picks old bytes part first i same whole fits copied =
    sector_of-written (first * 512) (first * 512 + length bytes - first * 512) first (length bytes / 512) old part i (omega arith) (omega arith) (omega arith)
    (omega arith)
    ∙ ⊎_elim below (λ le. ⊎_elim (within le) above (cases_lt i (first + length bytes / 512))) (cases_lt i first)
  where
    below : i < first → cond (leb first i && ltb i (first + length bytes / 512)) (sector_of part (i - first)) (sector_of old i)
        ≡ cond (leb first i && ltb i (first + length bytes / 512) && picks (i - first)) (sector_of bytes (i - first)) (sector_of old i)
    below lt = grind (arith, nat_tests)

    above : first + length bytes / 512 ≤ i → cond (leb first i && ltb i (first + length bytes / 512)) (sector_of part (i - first)) (sector_of old i)
        ≡ cond (leb first i && ltb i (first + length bytes / 512) && picks (i - first)) (sector_of bytes (i - first)) (sector_of old i)
    above le = grind (arith, nat_tests)

    old_sector : first ≤ i → i < first + length bytes / 512
        → sector_of (take (first * 512 + length bytes - first * 512) (drop (first * 512) old)) (i - first) ≡ sector_of old i
    old_sector le lt =
        let much : first * 512 + length bytes - first * 512 ≡ length bytes = omega arith in
        let at : first * 512 ≡ 512 * first = omega arith in
        let back : first + (i - first) ≡ i = omega arith in
        rw (much, at) (sector_of-take (length bytes) (drop (512 * first) old) (i - first) (omega arith) ∙ sector_of-drop first old (i - first)
        ∙ ap (λ k. sector_of old k) back)

    within : first ≤ i → i < first + length bytes / 512 → cond (leb first i && ltb i (first + length bytes / 512)) (sector_of part (i - first))
        (sector_of old i)
        ≡ cond (leb first i && ltb i (first + length bytes / 512) && picks (i - first)) (sector_of bytes (i - first)) (sector_of old i)
    within le lt = grind (arith, nat_tests, copied (i - first) (omega arith), old_sector le lt)

pub sectors-append : (f : ℕ → List ℕ) (first m n : ℕ) → sectors f first (m + n) ≡ sectors f first m ++ sectors f (first + m) n
sectors-append f first zero n =
    let none : zero + n ≡ n = omega arith in
    let here : first + zero ≡ first = omega arith in
    rw (none, here) refl
sectors-append f first (suc m) n =
    let more : suc m + n ≡ suc (m + n) = omega arith in
    let there : first + suc m ≡ first + 1 + m = omega arith in
    rw (more, there) (ap (λ (l : List ℕ). f first ++ l) (sectors-append f (first + 1) m n)
    ∙ sym (append_assoc (f first) (sectors f (first + 1) m) (sectors f (first + 1 + m) n)))

-- two contents with the same sectors there
pub sectors-same : (f g : ℕ → List ℕ) (a b count : ℕ) → ((i : ℕ) → i < count → f (a + i) ≡ g (b + i)) →
    sectors f a count ≡ sectors g b count
sectors-same f g a b zero same = refl
sectors-same f g a b (suc count) same =
    ap₂ (λ (x y : List ℕ). x ++ y) here (sectors-same f g (a + 1) (b + 1) count rest)
  where
    here : f a ≡ g b
    here =
        let left : a + 0 ≡ a = omega arith in
        let right : b + 0 ≡ b = omega arith in
        sym (ap f left) ∙ same 0 (omega arith) ∙ ap g right

    rest : (i : ℕ) → i < count → f (a + 1 + i) ≡ g (b + 1 + i)
    rest i lt =
        let left : a + 1 + i ≡ a + (i + 1) = omega arith in
        let right : b + (i + 1) ≡ b + 1 + i = omega arith in
        ap f left ∙ same (i + 1) (omega arith) ∙ ap g right

-- bytes whose sectors are those of a content
pub sectors-read : (f : ℕ → List ℕ) (bytes : List ℕ) (first count : ℕ) → length bytes ≡ 512 * count →
    ((i : ℕ) → i < count → sector_of bytes i ≡ f (first + i)) → bytes ≡ sectors f first count
sectors-read f bytes first count len are =
    sym (take_all (512 * count) bytes (omega arith)) ∙ sym (sectors-sector_of bytes 0 count) ∙ sectors-same (sector_of bytes) f 0 first count at
  where
    at : (i : ℕ) → i < count → sector_of bytes (0 + i) ≡ f (first + i)
    at i lt = let none : 0 + i ≡ i = omega arith in ap (λ k. sector_of bytes k) none ∙ are i lt

-- a part read, and then the rest
pub read_twice : (f : ℕ → List ℕ) (first a m n : ℕ) (p q r : List ℕ) → length p ≡ a → length r ≡ length q →
    p ≡ sectors f first m → r ≡ sectors f (first + m) n →
    take a (p ++ q) ++ (r ++ drop (length (p ++ q) - a) (drop a (p ++ q))) ≡ sectors f first (m + n)
read_twice f first a m n p q r len same p_is r_is =
    ap₂ (λ (x y : List ℕ). x ++ (r ++ y)) (take_at p q a len) none
    ∙ ap (λ (y : List ℕ). p ++ y) (append-nil r)
    ∙ ap₂ (λ (x y : List ℕ). x ++ y) p_is r_is
    ∙ sym (sectors-append f first m n)
  where
    none : drop (length (p ++ q) - a) (drop a (p ++ q)) ≡ []
    none = drop_all (length (p ++ q) - a) (drop a (p ++ q)) (omega (arith, length-drop a (p ++ q)))

-- one sector more was put where zeros were
pub placed_one : (to part : List ℕ) (wanted : ℕ → List ℕ) (i j : ℕ) → length part ≡ 512 → part ≡ wanted i →
    512 * i + 512 ≤ length to → sector_of to j ≡ cond (ltb j i) (wanted j) zeros →
    sector_of (take (i * 512) to ++ (part ++ drop (i * 512 + 512 - i * 512) (drop (i * 512) to))) j ≡ cond (ltb j (i + 1)) (wanted j) zeros
placed_one to part wanted i j len is fits so_far =
    sector_of-written (i * 512) (i * 512 + 512 - i * 512) i 1 to part j (omega arith) (omega arith) (omega arith) (omega arith)
    ∙ ⊎_elim below (λ le. ⊎_elim (here le) above (cases_lt j (i + 1))) (cases_lt j i)
  where
    below : j < i → cond (leb i j && ltb j (i + 1)) (sector_of part (j - i)) (sector_of to j) ≡ cond (ltb j (i + 1)) (wanted j) zeros
    below lt = grind (arith, nat_tests, so_far)

    above : i + 1 ≤ j → cond (leb i j && ltb j (i + 1)) (sector_of part (j - i)) (sector_of to j) ≡ cond (ltb j (i + 1)) (wanted j) zeros
    above le = grind (arith, nat_tests, so_far)

    here : i ≤ j → j < i + 1 → cond (leb i j && ltb j (i + 1)) (sector_of part (j - i)) (sector_of to j) ≡ cond (ltb j (i + 1)) (wanted j) zeros
    here le lt =
        let same : j ≡ i = omega arith in
        let none : j - i ≡ 0 = omega arith in
        let whole : sector_of part (j - i) ≡ wanted j = ap (λ k. sector_of part k) none ∙ take_all 512 part (omega arith) ∙ is ∙ ap wanted (sym same) in
        grind (arith, nat_tests, whole)

-- one sector more is left with its zeros
pub passed_one : (to : List ℕ) (wanted : ℕ → List ℕ) (i j : ℕ) → wanted i ≡ zeros →
    sector_of to j ≡ cond (ltb j i) (wanted j) zeros → sector_of to j ≡ cond (ltb j (i + 1)) (wanted j) zeros
passed_one to wanted i j none so_far = so_far ∙ ⊎_elim here other (cases_eq j i)
  where
    here : j ≡ i → cond (ltb j i) (wanted j) zeros ≡ cond (ltb j (i + 1)) (wanted j) zeros
    here same = let is : wanted j ≡ zeros = ap wanted same ∙ none in grind (arith, nat_tests, is)

    other : j ≢ i → cond (ltb j i) (wanted j) zeros ≡ cond (ltb j (i + 1)) (wanted j) zeros
    other apart = ⊎_elim (λ (lt : j < i). grind (arith, nat_tests)) (λ (le : i ≤ j). grind (arith, nat_tests)) (cases_lt j i)
