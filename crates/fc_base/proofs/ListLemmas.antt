-- Elements of lists and what holds of each, for the crates above.
use Rattle.std.proofs.Common.{◌≡◌, refl, ap, ◌∙◌, ◌⊎◌, inl, inr, ℕ, zero, suc, ◌+◌, ◌<◌, ◌≤◌, arith, add-zero, zero-add, Bool, true, false, List, [], ◌∷◌, ◌++◌}
use Rattle.std.specs.Prelude.{if◌then◌else◌, map, Contains}
use Rattle.std.specs.List.{AllByRecursion, flat_map, range_with_len}
use Rattle.std.proofs.lemmas.List.Elements.{All-contains, All-from_recursion, Contains-append_right, Contains-append_cases, Contains-push_cases}
use Rattle.fc_base.specs.Counted.{numbers_below}

pub all_append : {X : Type 0} (P : X → Type 0) (xs ys : List X) → AllByRecursion P xs → AllByRecursion P ys → AllByRecursion P (xs ++ ys)
all_append P [] ys a b = b
all_append P (x ∷ xs) ys a b = (a.0, all_append P xs ys a.1 b)

pub all_flat : {X Y : Type 0} (P : Y → Type 0) (f : X → List Y) (xs : List X) → ((x : X) → AllByRecursion P (f x)) → AllByRecursion P (flat_map f xs)
all_flat P f [] h = tt
all_flat P f (x ∷ xs) h = all_append P (f x) (flat_map f xs) (h x) (all_flat P f xs h)

pub all_map : {X Y : Type 0} (P : Y → Type 0) (f : X → Y) (xs : List X) → ((x : X) → P (f x)) → AllByRecursion P (map f xs)
all_map P f [] h = tt
all_map P f (x ∷ xs) h = (h x, all_map P f xs h)

pub all_weaker : {X : Type 0} (P Q : X → Type 0) (xs : List X) → ((x : X) → P x → Q x) → AllByRecursion P xs → AllByRecursion Q xs
all_weaker P Q [] f a = tt
all_weaker P Q (x ∷ xs) f a = (f x a.0, all_weaker P Q xs f a.1)

pub flat_of : {X Y : Type 0} (Q : X → Type 0) (P : Y → Type 0) (f : X → List Y) (xs : List X) → AllByRecursion Q xs → ((x : X) → Q x → AllByRecursion P (f x))
    → AllByRecursion P (flat_map f xs)
flat_of Q P f [] a h = tt
flat_of Q P f (x ∷ xs) a h = all_append P (f x) (flat_map f xs) (h x a.0) (flat_of Q P f xs a.1 h)

pub map_of : {X Y : Type 0} (Q : X → Type 0) (P : Y → Type 0) (f : X → Y) (xs : List X) → AllByRecursion Q xs → ((x : X) → Q x → P (f x))
    → AllByRecursion P (map f xs)
map_of Q P f [] a h = tt
map_of Q P f (x ∷ xs) a h = (h x a.0, map_of Q P f xs a.1 h)

pub all_where : {X : Type 0} (P : X → Type 0) (b : Bool) (xs : List X) → (b ≡ true → AllByRecursion P xs) → AllByRecursion P (if b then xs else [])
all_where P true xs f = f refl
all_where P false xs f = tt

-- the numbers below n
pub all_below : (n m : ℕ) → n ≤ m → AllByRecursion (λ x. x < m) (numbers_below n)
all_below zero m l = tt
all_below (suc n) m l = all_append (λ x. x < m) (numbers_below n) (n ∷ []) (all_below n m (omega arith)) (omega arith, tt)

pub each_of : {X : Type 0} (P : X → Type 0) (xs : List X) (x : X) → AllByRecursion P xs → Contains xs x → P x
each_of P xs x a h = All-contains P xs x (All-from_recursion P xs a) h

pub none_in : {X : Type 0} (x : X) → Contains [] x → ⊥
none_in x h = omega (arith, h.1)

pub one : {X : Type 0} (p x : X) → p ≡ x → Contains (p ∷ []) x
one p x e = (0, omega arith, e)

pub behind_one : {X : Type 0} (y : X) (xs : List X) (x : X) → Contains xs x → Contains (y ∷ xs) x
behind_one y xs x h = Contains-append_right (y ∷ []) xs x h

pub first_of : {X : Type 0} (x : X) (xs : List X) → Contains (x ∷ xs) x
first_of x xs = (0, omega arith, refl)

pub only_in : {X : Type 0} (y x : X) → Contains (y ∷ []) x → y ≡ x
only_in y x h = elim (Contains-push_cases [] y x h) [ inl i ↦ absurd (none_in x i) | inr e ↦ e ]

pub first_or_behind : {X : Type 0} (y : X) (xs : List X) (x : X) → Contains (y ∷ xs) x → (y ≡ x) ⊎ Contains xs x
first_or_behind y xs x h = elim (Contains-append_cases (y ∷ []) xs x h) [ inl a ↦ inl (only_in y x a) | inr b ↦ inr b ]

pub each_is_there : {X : Type 0} (xs : List X) → AllByRecursion (λ x. Contains xs x) xs
each_is_there [] = tt
each_is_there (x ∷ xs) = (first_of x xs, all_weaker (λ y. Contains xs y) (λ y. Contains (x ∷ xs) y) xs (λ y h. behind_one x xs y h) (each_is_there xs))

pub where_so : {X : Type 0} (b : Bool) (xs : List X) (x : X) → Contains (if b then xs else []) x → (b ≡ true) × Contains xs x
where_so true xs x h = (refl, h)
where_so false xs x h = absurd (none_in x h)

-- What is in the list of images is the image of something in the list.
pub of_map : {X Y : Type 0} (f : X → Y) (xs : List X) (y : Y) → Contains (map f xs) y → (x : X) × Contains xs x × (f x ≡ y)
of_map f [] y h = absurd (none_in y h)
of_map f (x ∷ xs) y h = elim (first_or_behind (f x) (map f xs) y h) [
  | inl e ↦ (x, first_of x xs, e)
  | inr i ↦ let s = of_map f xs y i in (s.0, behind_one x xs s.0 s.1, s.2)
]

-- Numbers in a row, and those behind them.
pub range_append : (a m n : ℕ) → range_with_len a (m + n) ≡ range_with_len a m ++ range_with_len (a + m) n
range_append a zero n = rw (zero-add n, add-zero a) refl
range_append a (suc m) n =
    let at : suc m + n ≡ suc (m + n) = omega arith in
    let from : (a + 1) + m ≡ a + suc m = omega arith in
    rw at (ap (λ xs. a ∷ xs) (range_append (a + 1) m n ∙ ap (λ k. range_with_len (a + 1) m ++ range_with_len k n) from))

pub range_more : (n : ℕ) → range_with_len 0 (n + 1) ≡ range_with_len 0 n ++ n ∷ []
range_more n = range_append 0 n 1 ∙ ap (λ k. range_with_len 0 n ++ k ∷ []) (zero-add n)
