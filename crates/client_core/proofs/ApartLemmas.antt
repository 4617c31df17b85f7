-- A client with a mirror gives no number twice, though its note is lost: each generation has its own.
use Rattle.std.proofs.Common.{◌≡◌, refl, sym, subst, inl, inr, ℕ, ◌+◌, ◌<◌, ◌≤◌, arith, Bool, true, false, ◌||◌, ◌==◌, List, [], ◌∷◌}
use Rattle.std.specs.Prelude.{nat_lt, ◌*◌, ◌^◌}
use Rattle.std.specs.List.{AllByRecursion}
use Rattle.std.proofs.Math.Nat.{mul-le-mul_right}
use Rattle.std.proofs.lemmas.Bool.{cases_Bool, eqb-true, ltb-true}
use Rattle.std.proofs.lemmas.Bool.Decides.{nat_tests}
use Rattle.fc_base.specs.Counted.{has, is_distinct}
use Rattle.fc_base.proofs.ListLemmas.{all_weaker}
use Rattle.client_core.proofs.HeardLemmas.{clash}

-- the number is one of a generation in the list, and, where this is the last, was used
abbrev pub Of : List ℕ → ℕ → ℕ → ℕ → Type 0
Of gs g used n = (h : ℕ) × (has gs h ≡ true) × (1 ≤ h) × (h * 2 ^ 32 < n) × (n < (h + 1) * 2 ^ 32) × (h ≡ g → n ≤ used)

-- the numbers are apart, and each is of a generation in the list
pub record Apart (gs : List ℕ) (g used : ℕ) (ns : List ℕ) : Type 0 where
  pub distinct : is_distinct ns ≡ true
  pub each : AllByRecursion (Of gs g used) ns
  pub low : g * 2 ^ 32 ≤ used
  pub there : 1 ≤ g → has gs g ≡ true

below_all : (n a b u : ℕ) → n < a → a ≤ b → b ≤ u → n ≤ u
below_all n a b u h k l = omega arith

above_all : (n a b u : ℕ) → u + 1 < a → a ≤ b → b < n → u + 1 < n
above_all n a b u h k l = omega arith

higher : (h g : ℕ) → (h == g) ≡ false → nat_lt h g ≡ false → g + 1 ≤ h
higher h g e l = grind (arith, nat_tests)

no_less : (n u : ℕ) → n ≤ u → (n == u + 1) ≡ false
no_less n u h = grind (arith, nat_tests)

no_more : (n u : ℕ) → u + 1 < n → (n == u + 1) ≡ false
no_more n u h = grind (arith, nat_tests)

one_higher : (h g : ℕ) → h < g → h + 1 ≤ g
one_higher h g l = omega arith

next_differs : (gs : List ℕ) (g used n : ℕ) → Of gs g used n → g * 2 ^ 32 ≤ used → used + 1 < (g + 1) * 2 ^ 32 → (n == used + 1) ≡ false
next_differs gs g used n o low high = elim (cases_Bool (o.0 == g)) [
  | inl e ↦ no_less n used (o.5 (eqb-true o.0 g e))
  | inr e ↦ elim (cases_Bool (nat_lt o.0 g)) [
    | inl l ↦ no_less n used (below_all n ((o.0 + 1) * 2 ^ 32) (g * 2 ^ 32) used o.4 (mul-le-mul_right (2 ^ 32) (one_higher o.0 g (ltb-true o.0 g l))) low)
    | inr l ↦ no_more n used (above_all n ((g + 1) * 2 ^ 32) (o.0 * 2 ^ 32) used high (mul-le-mul_right (2 ^ 32) (higher o.0 g e l)) o.3)
  ]
]

next_absent : (gs : List ℕ) (g used : ℕ) (ns : List ℕ) → AllByRecursion (Of gs g used) ns → g * 2 ^ 32 ≤ used → used + 1 < (g + 1) * 2 ^ 32
    → has ns (used + 1) ≡ false
next_absent gs g used [] h low high = refl
next_absent gs g used (n ∷ ns) h low high = rw (next_differs gs g used n h.0 low high) (next_absent gs g used ns h.1 low high)

still_of : (gs : List ℕ) (g used n : ℕ) → Of gs g used n → Of gs g (used + 1) n
still_of gs g used n o = (o.0, o.1, o.2, o.3, o.4, λ e. one_more n used (o.5 e))
  where
    one_more : (n u : ℕ) → n ≤ u → n ≤ u + 1
    one_more n u h = omega arith

pub pass : (gs : List ℕ) (g used : ℕ) (ns : List ℕ) → Apart gs g used ns → Apart gs g (used + 1) ns
pass gs g used ns k = record {
  distinct = k.distinct;
  each = all_weaker (Of gs g used) (Of gs g (used + 1)) ns (λ n o. still_of gs g used n o) k.each;
  low = up (g * 2 ^ 32) used k.low;
  there = k.there;
}
  where
    up : (a u : ℕ) → a ≤ u → a ≤ u + 1
    up a u h = omega arith

pub give : (gs : List ℕ) (g used : ℕ) (ns : List ℕ) → 1 ≤ g → used + 1 < (g + 1) * 2 ^ 32 → Apart gs g used ns → Apart gs g (used + 1) ((used + 1) ∷ ns)
give gs g used ns one high k =
    let p = pass gs g used ns k in
    let no : has ns (used + 1) ≡ false = next_absent gs g used ns k.each k.low high in
    record {
      distinct = rw no k.distinct;
      each = ((g, k.there one, one, above (g * 2 ^ 32) used k.low, high, λ e. itself (used + 1)), p.each);
      low = p.low;
      there = k.there;
    }
  where
    above : (a u : ℕ) → a ≤ u → a < u + 1
    above a u h = omega arith

    itself : (n : ℕ) → n ≤ n
    itself n = omega arith

or_true : (a b : Bool) → b ≡ true → (a || b) ≡ true
or_true true b h = refl
or_true false b h = h

-- a renewal with the old bytes
pub unsaved : (gs : List ℕ) (x g used : ℕ) (ns : List ℕ) → Apart gs g used ns → Apart (x ∷ gs) g used ns
unsaved gs x g used ns k = record {
  distinct = k.distinct;
  each = all_weaker (Of gs g used) (Of (x ∷ gs) g used) ns (λ n o. (o.0, or_true (x == o.0) (has gs o.0) o.1, o.2, o.3, o.4, o.5)) k.each;
  low = k.low;
  there = λ h. or_true (x == g) (has gs g) (k.there h);
}

-- a renewal with the new ones
pub renew : (gs : List ℕ) (x g used : ℕ) (ns : List ℕ) → has gs x ≡ false → Apart gs g used ns → Apart (x ∷ gs) x (x * 2 ^ 32) ns
renew gs x g used ns new k = record {
  distinct = k.distinct;
  each = all_weaker (Of gs g used) (Of (x ∷ gs) x (x * 2 ^ 32)) ns
      (λ n o. (o.0, or_true (x == o.0) (has gs o.0) o.1, o.2, o.3, o.4, λ e. absurd (clash (has gs x) new (subst (λ y. has gs y ≡ true) e o.1)))) k.each;
  low = itself (x * 2 ^ 32);
  there = λ h. (let own : (x == x) ≡ true = grind (arith, nat_tests) in rw own refl);
}
  where
    itself : (n : ℕ) → n ≤ n
    itself n = omega arith

-- the note is lost
pub lose : (gs : List ℕ) (g used : ℕ) (ns : List ℕ) → Apart gs g used ns → Apart gs 0 0 ns
lose gs g used ns k = record {
  distinct = k.distinct;
  each = all_weaker (Of gs g used) (Of gs 0 0) ns (λ n o. (o.0, o.1, o.2, o.3, o.4, λ e. absurd (none o.0 o.2 e))) k.each;
  low = omega arith;
  there = λ h. absurd (none 0 h refl);
}
  where
    none : (h : ℕ) → 1 ≤ h → h ≡ 0 → ⊥
    none h a b = omega arith

-- nothing was given
pub start : (g used : ℕ) → g ≡ 0 → Apart [] g used []
start g used e = record {
  distinct = refl;
  each = tt;
  low = subst (λ (x : ℕ). x * 2 ^ 32 ≤ used) (sym e) (omega arith);
  there = λ h. absurd (none g h e);
}
  where
    none : (h : ℕ) → 1 ≤ h → h ≡ 0 → ⊥
    none h a b = omega arith
