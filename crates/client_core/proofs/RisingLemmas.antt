-- Numbers that have nothing to send are passed over.
use Rattle.std.proofs.Common.{◌≡◌, refl, sym, ◌∙◌, ap, subst, ℕ, zero, suc, ◌+◌, ◌<◌, ◌≤◌, arith, Bool, true, false, ◌==◌, nat_lt, List, [], ◌∷◌, ◌++◌}
use Rattle.std.specs.List.{AllByRecursion, flat_map, range_with_len}
use Rattle.std.proofs.lemmas.Bool.Decides.{nat_tests}
use Rattle.std.specs.Prelude.{if◌then◌else◌}
use Rattle.messages.specs.declared.packet.PacketParts.{PacketParts}
use Rattle.client_core.specs.Asked.{with_number, rising as in_order}

-- The keys ascend from a.
abbrev pub Rises : {X : Type 0} → ℕ → List (ℕ × X) → Type 0
Rises a [] = Unit {0}
Rises a (e ∷ es) = (a ≤ e.0) × Rises (e.0 + 1) es

-- None of them is n.
abbrev pub Lacks : {X : Type 0} → ℕ → List (ℕ × X) → Type 0
Lacks n es = AllByRecursion (λ e. (n == e.0) ≡ false) es

lacks_below : {X : Type 0} (a n : ℕ) (es : List (ℕ × X)) → n < a → Rises a es → Lacks n es
lacks_below a n [] l h = tt
lacks_below a n (e ∷ es) l h =
    let low : a ≤ e.0 = h.0 in
    let d : (n == e.0) ≡ false = grind (arith, nat_tests) in
    (d, lacks_below (e.0 + 1) n es (omega arith) h.1)

up : {X : Type 0} (a : ℕ) (e : ℕ × X) (es : List (ℕ × X)) → a < e.0 → Rises a (e ∷ es) → Rises (a + 1) (e ∷ es)
up a e es l h = (omega arith, h.1)

none_left : {X : Type 0} (f : ℕ → List PacketParts) (a : ℕ) (es : List (ℕ × X)) → Rises a es → ((n : ℕ) → a ≤ n → f n ≡ []) → flat_map (λ e. f e.0) es ≡ []
none_left f a [] h none = refl
none_left f a (e ∷ es) h none =
    let low : a ≤ e.0 = h.0 in
    ap (λ ps. ps ++ flat_map (λ x. f x.0) es) (none e.0 low) ∙ none_left f (e.0 + 1) es h.1 (λ n l. none n (omega arith))

-- What is sent for so many numbers is what is sent for those that have something to send.
pub rising : {X : Type 0} (f : ℕ → List PacketParts) (k a : ℕ) (es : List (ℕ × X)) → Rises a es → ((n : ℕ) → Lacks n es → a ≤ n → f n ≡ [])
    → ((n : ℕ) → a + k ≤ n → f n ≡ []) → flat_map f (range_with_len a k) ≡ flat_map (λ e. f e.0) es
rising f zero a es h lacks above = sym (none_left f a es h (λ n l. above n (omega arith)))
rising {X} f (suc k) a [] h lacks above = ap (λ ps. ps ++ flat_map f (range_with_len (a + 1) k)) (lacks a tt (omega arith))
    ∙ rising {X = X} f k (a + 1) [] tt (λ n l m. lacks n tt (omega arith)) (λ n l. above n (omega arith))
rising {X} f (suc k) a (e ∷ es) h lacks above = by_first (a == e.0) refl (λ fs. rising f k (a + 1) fs)
  where
    by_first : (b : Bool) → (a == e.0) ≡ b
        → ((fs : List (ℕ × X)) → Rises (a + 1) fs → ((n : ℕ) → Lacks n fs → a + 1 ≤ n → f n ≡ []) → ((n : ℕ) → a + 1 + k ≤ n → f n ≡ [])
        → flat_map f (range_with_len (a + 1) k) ≡ flat_map (λ x. f x.0) fs)
        → flat_map f (range_with_len a (suc k)) ≡ flat_map (λ x. f x.0) (e ∷ es)
    by_first true is ih =
        let same : a ≡ e.0 = grind (arith, nat_tests) in
        let rest = ih es (subst (λ n. Rises (n + 1) es) (sym same) h.1)
        (λ n l m. let d : (n == e.0) ≡ false = grind (arith, nat_tests) in lacks n (d, l) (omega arith)) (λ n l. above n (omega arith)) in
        ap (λ n. f n ++ flat_map f (range_with_len (a + 1) k)) same ∙ ap (λ ps. f e.0 ++ ps) rest
    by_first false is ih =
        let low : a ≤ e.0 = h.0 in
        let less : a < e.0 = grind (arith, nat_tests) in
        ap (λ ps. ps ++ flat_map f (range_with_len (a + 1) k)) (lacks a (is, lacks_below (e.0 + 1) a es (omega arith) h.1) (omega arith))
        ∙ ih (e ∷ es) (up a e es less h) (λ n l m. lacks n l (omega arith)) (λ n l. above n (omega arith))

-- ---- numbers in rising order

-- each beside nothing
abbrev beside : List ℕ → List (ℕ × Unit {0})
beside [] = []
beside (n ∷ ns) = (n, tt) ∷ beside ns

beside_flat : (f : ℕ → List PacketParts) (ns : List ℕ) → flat_map (λ e. f e.0) (beside ns) ≡ flat_map f ns
beside_flat f [] = refl
beside_flat f (n ∷ ns) = ap (λ ps. f n ++ ps) (beside_flat f ns)

placed_rises : (a n : ℕ) (ns : List ℕ) → a ≤ n → Rises a (beside ns) → Rises a (beside (with_number n ns))
placed_rises a n [] l h = (l, tt)
placed_rises a n (m ∷ ms) l h = by_less (nat_lt n m) refl (λ more. placed_rises (m + 1) n ms more h.1)
  where
    by_equal : (b : Bool) → (n == m) ≡ b → nat_lt n m ≡ false → (m + 1 ≤ n → Rises (m + 1) (beside (with_number n ms)))
        → Rises a (beside (if b then m ∷ ms else m ∷ with_number n ms))
    by_equal true e o next = h
    by_equal false e o next = let more : m + 1 ≤ n = grind (arith, nat_tests) in (h.0, next more)

    by_less : (b : Bool) → nat_lt n m ≡ b → (m + 1 ≤ n → Rises (m + 1) (beside (with_number n ms)))
        → Rises a (beside (if b then n ∷ m ∷ ms else (if n == m then m ∷ ms else m ∷ with_number n ms)))
    by_less true e next = let more : n + 1 ≤ m = grind (arith, nat_tests) in (l, (more, h.1))
    by_less false e next = by_equal (n == m) refl e next

order_rises : (ns : List ℕ) → Rises 0 (beside (in_order ns))
order_rises [] = tt
order_rises (n ∷ ns) = placed_rises 0 n (in_order ns) (omega arith) (order_rises ns)

-- None of these is n.
abbrev pub Misses : ℕ → List ℕ → Type 0
Misses n ns = AllByRecursion (λ m. (n == m) ≡ false) ns

lacks_placed : (n m : ℕ) (ns : List ℕ) → Lacks n (beside (with_number m ns)) → ((n == m) ≡ false) × Lacks n (beside ns)
lacks_placed n m [] h = h
lacks_placed n m (k ∷ ks) h = by_less (nat_lt m k) h (λ l. lacks_placed n m ks l)
  where
    by_equal : (b : Bool) → (m == k) ≡ b → Lacks n (beside (if b then k ∷ ks else k ∷ with_number m ks))
        → (Lacks n (beside (with_number m ks)) → ((n == m) ≡ false) × Lacks n (beside ks)) → ((n == m) ≡ false) × Lacks n (beside (k ∷ ks))
    by_equal true e h next =
        let first : (n == k) ≡ false = h.0 in let same : m ≡ k = grind (arith, nat_tests) in (subst (λ x. (n == x) ≡ false) (sym same) first, h)
    by_equal false e h next = let r = next h.1 in (r.0, (h.0, r.1))

    by_less : (b : Bool) → Lacks n (beside (if b then m ∷ k ∷ ks else (if m == k then k ∷ ks else k ∷ with_number m ks)))
        → (Lacks n (beside (with_number m ks)) → ((n == m) ≡ false) × Lacks n (beside ks)) → ((n == m) ≡ false) × Lacks n (beside (k ∷ ks))
    by_less true h next = (h.0, h.1)
    by_less false h next = by_equal (m == k) refl h next

lacks_order : (n : ℕ) (ns : List ℕ) → Lacks n (beside (in_order ns)) → Misses n ns
lacks_order n [] h = tt
lacks_order n (m ∷ ns) h = let r = lacks_placed n m (in_order ns) h in (r.0, lacks_order n ns r.1)

-- a number above all of them
abbrev pub above : List ℕ → ℕ
above [] = 0
above (n ∷ ns) = n + 1 + above ns

past_all : (n : ℕ) (ns : List ℕ) → above ns ≤ n → Misses n ns
past_all n [] l = tt
past_all n (m ∷ ns) l = let d : (n == m) ≡ false = grind (arith, nat_tests) in (d, past_all n ns (omega arith))

-- What is sent for some numbers in rising order is what is sent for as many from 0.
pub order_spread : (f : ℕ → List PacketParts) (ns : List ℕ) → ((n : ℕ) → Misses n ns → f n ≡ [])
    → flat_map f (range_with_len 0 (above ns)) ≡ flat_map f (in_order ns)
order_spread f ns none =
    rising f (above ns) 0 (beside (in_order ns)) (order_rises ns) (λ n l z. none n (lacks_order n ns l)) (λ n l. none n (past_all n ns (omega (arith, l))))
    ∙ beside_flat f (in_order ns)

-- What is sent for entries is what is sent for the numbers in rising order.
pub entries_spread : {X : Type 0} (f : ℕ → List PacketParts) (ns : List ℕ) (es : List (ℕ × X)) → Rises 0 es → ((n : ℕ) → Misses n ns → f n ≡ [])
    → ((n : ℕ) → Lacks n es → f n ≡ []) → flat_map (λ e. f e.0) es ≡ flat_map f (in_order ns)
entries_spread f ns es r none lacks =
    sym (rising f (above ns) 0 es r (λ n l z. lacks n l) (λ n l. none n (past_all n ns (omega (arith, l))))) ∙ order_spread f ns none

placed_all : (P : ℕ → Type 0) (n : ℕ) (ns : List ℕ) → P n → AllByRecursion P ns → AllByRecursion P (with_number n ns)
placed_all P n [] p h = (p, tt)
placed_all P n (m ∷ ms) p h = by_less (nat_lt n m) (placed_all P n ms p h.1)
  where
    by_equal : (b : Bool) → AllByRecursion P (with_number n ms) → AllByRecursion P (if b then m ∷ ms else m ∷ with_number n ms)
    by_equal true rest = h
    by_equal false rest = (h.0, rest)

    by_less : (b : Bool) → AllByRecursion P (with_number n ms) → AllByRecursion P (if b then n ∷ m ∷ ms else (if n == m then m ∷ ms else m ∷ with_number n ms))
    by_less true rest = (p, h)
    by_less false rest = by_equal (n == m) rest

-- What holds of all holds of them in rising order.
pub order_all : (P : ℕ → Type 0) (ns : List ℕ) → AllByRecursion P ns → AllByRecursion P (in_order ns)
order_all P [] h = tt
order_all P (n ∷ ns) h = placed_all P n (in_order ns) h.0 (order_all P ns h.1)
