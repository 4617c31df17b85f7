-- The writes in flight, as marks on slots.
use Rattle.std.proofs.Common.{◌≡◌, ℕ, ◌+◌, ◌-◌, ◌%◌, ◌^◌, ◌<◌, ◌≤◌, suc, Bool, true, false, cond, ◌&&◌, not, eqb, ltb, leb}
use Rattle.std.proofs.Common.{List, [], ◌∷◌, ◌++◌, length, filter, sym, refl, ap, ◌∙◌, add-one, bit_and, inl, inr, arith, w64}
use Rattle.std.specs.List.{list_any}
use Rattle.std.specs.Int.{bit_not}
use Rattle.std.specs.Int.Bits.{and_lt}
use Rattle.std.proofs.Math.Nat.{mod-add-mod}
use Rattle.std.proofs.lemmas.Nat.Bits.{bit_at-zero}
use Rattle.std.proofs.lemmas.Bool.{cases_Bool, cases_lt, cases_eq, false≢true, or_right, and_parts, and_from, and_left}
use Rattle.std.proofs.lemmas.Bool.{and_right, eq-eqb, ne_eqb, ltb-true, lt-ltb, le-ltb, leb-true, le-leb, lt-leb, not_from_true}
use Rattle.std.proofs.lemmas.Bool.Decides.{same_from_decides}
use Rattle.std.proofs.lemmas.List.Elements.{filter-append}
use Rattle.std.proofs.lemmas.List.Filters.{length-filter_both}
use Rattle.fc_base.specs.declared.limits.TheConstants.{MAX_WINDOW}
use Rattle.fc_base.specs.Counted.{has, numbers_below}
use Rattle.engine.specs.Numbers.{without}
use Rattle.fc_base.specs.Marks.{word_of, is_marked}
use Rattle.fc_base.specs.MarkLaws.{word_from_bits}
use Rattle.engine.specs.Kept.{has_completed}
use Rattle.engine.proofs.BitLemmas.{set_and, set_not, clear_is}
use Rattle.engine.proofs.RingLemmas.{and_true, apart}
use Rattle.engine.specs.InFlight.{Flights, is_set, is_current, marked_numbers}
use Rattle.fc_base.specs.NumberLaws.{has_filter, has_numbers_below, filter_agree_below, filter_next, length_numbers_below}
use Rattle.engine.proofs.NumberLemmas.{has_head, filter_twice, length_filter_without, and_not}
use Rattle.engine.proofs.StepLemmas.{any_from_has, has_from_any}

-- what a bit that is written leaves
abbrev pub Writes : List ℕ → List ℕ → ℕ → Bool → Type 0
Writes old new slot b = (i : ℕ) → i < MAX_WINDOW → is_marked new i ≡ cond (eqb i slot) b (is_marked old i)

marked_same : (old new : List ℕ) (slot : ℕ) (b : Bool) → Writes old new slot b → slot < MAX_WINDOW → is_marked new slot ≡ b
marked_same old new slot b w below = w slot below ∙ (rw (eq-eqb slot slot refl) refl)

marked_other : (old new : List ℕ) (slot : ℕ) (b : Bool) (i : ℕ) → Writes old new slot b → i < MAX_WINDOW → (i ≡ slot → ⊥) → is_marked new i ≡ is_marked old i
marked_other old new slot b i w below ne = w i below ∙ (rw (ne_eqb i slot ne) refl)

-- ---- what is in the list of marked numbers

and_assoc : (a b c : Bool) → (a && (b && c)) ≡ ((a && b) && c)
and_assoc true b c = refl
and_assoc false b c = refl

pub has_marked : (m : List ℕ) (window issued k : ℕ) → has (marked_numbers m window issued) k
    ≡ ((ltb k issued && leb issued (k + window)) && is_marked m (k % window))
has_marked m window issued k =
    has_filter (is_current m window issued) (numbers_below issued) k
    ∙ ap (λ b. b && is_current m window issued k) (has_numbers_below issued k)
    ∙ and_assoc (ltb k issued) (leb issued (k + window)) (is_marked m (k % window))

record IsLast (window issued k : ℕ) : Type 0 where
  below : k < issued
  near : issued ≤ k + window

is_last : (m : List ℕ) (window issued k : ℕ) → has (marked_numbers m window issued) k ≡ true → IsLast window issued k
is_last m window issued k e =
    let parts = and_parts (ltb k issued && leb issued (k + window)) (is_marked m (k % window)) (sym (has_marked m window issued k) ∙ e) in
    let both = and_parts (ltb k issued) (leb issued (k + window)) parts.0 in
    record { below = ltb-true k issued both.0; near = leb-true issued (k + window) both.1 }

pub has_open : (m o : List ℕ) (window issued k : ℕ) → has (filter (λ j. is_marked o (j % window)) (marked_numbers m window issued)) k
    ≡ (has (marked_numbers m window issued) k && is_marked o (k % window))
has_open m o window issued k = has_filter (λ j. is_marked o (j % window)) (marked_numbers m window issued) k

-- an open write is in flight
pub open_flies : (m o : List ℕ) (window issued k : ℕ) → has (filter (λ j. is_marked o (j % window)) (marked_numbers m window issued)) k ≡ true
    → has (marked_numbers m window issued) k ≡ true
open_flies m o window issued k e = (and_parts (has (marked_numbers m window issued) k) (is_marked o (k % window)) (sym (has_open m o window issued k) ∙ e)).0

-- only the number a whole window below the next one can be held
pub held_is : (m : List ℕ) (window issued : ℕ) → list_any (λ j. leb (j + window) issued) (marked_numbers m window issued)
    ≡ (leb window issued && has (marked_numbers m window issued) (issued - window))
held_is m window issued =
    let flying = marked_numbers m window issued in
    same_from_decides (list_any (λ j. leb (j + window) issued) flying) (leb window issued && has flying (issued - window)) (there, here) (λ e. e, λ e. e)
  where
    there : list_any (λ j. leb (j + window) issued) (marked_numbers m window issued) ≡ true
        → (leb window issued && has (marked_numbers m window issued) (issued - window)) ≡ true
    there e =
        let flying = marked_numbers m window issued in
        let found = has_from_any (λ j. leb (j + window) issued) flying e in
        let last = is_last m window issued found.0 found.1 in
        let le = leb-true (found.0 + window) issued found.2 in
        let same : found.0 ≡ issued - window = omega (arith, last.near) in
        and_from (leb window issued) (has flying (issued - window)) (le-leb window issued (omega arith)) (ap (has flying) (sym same) ∙ found.1)

    here : (leb window issued && has (marked_numbers m window issued) (issued - window)) ≡ true
        → list_any (λ j. leb (j + window) issued) (marked_numbers m window issued) ≡ true
    here e =
        let flying = marked_numbers m window issued in
        let parts = and_parts (leb window issued) (has flying (issued - window)) e in
        let le = leb-true window issued parts.0 in
        any_from_has (λ j. leb (j + window) issued) flying (issued - window) parts.1 (le-leb (issued - window + window) issued (omega arith))

-- ---- two tests that agree at each member keep the same members

pub filter_agree_in : (p q : ℕ → Bool) (xs : List ℕ) → ((k : ℕ) → has xs k ≡ true → p k ≡ q k) → filter p xs ≡ filter q xs
filter_agree_in p q [] agree = refl
filter_agree_in p q (x ∷ xs) agree =
    let here = agree x (has_head x xs) in
    let rest = filter_agree_in p q xs (λ k e. agree k (or_right (eqb x k) (has xs k) e)) in
    rw (here, rest) refl

-- ---- an issue

-- a number that is in flight, where none is held, lies less than a window below the next
not_held : (m : List ℕ) (window issued k : ℕ) → list_any (λ j. leb (j + window) issued) (marked_numbers m window issued) ≡ false
    → has (marked_numbers m window issued) k ≡ true → issued < k + window
not_held m window issued k none e = elim (cases_lt issued (k + window)) [
  | inl lt ↦ lt
  | inr le ↦ absurd (false≢true (sym none ∙ any_from_has (λ j. leb (j + window) issued) (marked_numbers m window issued) k e (le-leb (k + window) issued le)))
]

mod_in : (k window : ℕ) → 0 < window → window ≤ MAX_WINDOW → k % window < MAX_WINDOW
mod_in k window some most = omega arith

current-issue : (m m' : List ℕ) (window issued k : ℕ) → 0 < window → window ≤ MAX_WINDOW
    → list_any (λ j. leb (j + window) issued) (marked_numbers m window issued) ≡ false → Writes m m' (issued % window) true → k < issued
    → is_current m' window (suc issued) k ≡ is_current m window issued k
current-issue m m' window issued k some most none w below = elim (cases_lt issued (k + window)) [
  | inl near ↦
      let same = marked_other m m' (issued % window) true (k % window) w (mod_in k window some most) (apart window k issued some below near) in
      rw (le-leb (suc issued) (k + window) near, le-leb issued (k + window) (omega arith), same) refl
  | inr far ↦
      let not_current : is_current m window issued k ≡ false = elim (cases_Bool (is_current m window issued k)) [
        | inl t ↦
            let flying : has (marked_numbers m window issued) k ≡ true =
            has_filter (is_current m window issued) (numbers_below issued) k
            ∙ and_from (has (numbers_below issued) k) (is_current m window issued k) (has_numbers_below issued k ∙ lt-ltb k issued below) t in
            absurd (omega (arith, not_held m window issued k none flying))
        | inr f ↦ f
      ] in
      and_left (leb (suc issued) (k + window)) (is_marked m' (k % window)) (lt-leb (suc issued) (k + window) (omega arith)) ∙ sym not_current
]

pub marked-issue : (m m' : List ℕ) (window issued : ℕ) → 0 < window → window ≤ MAX_WINDOW
    → list_any (λ j. leb (j + window) issued) (marked_numbers m window issued) ≡ false → Writes m m' (issued % window) true
    → marked_numbers m' window (issued + 1) ≡ marked_numbers m window issued ++ issued ∷ []
marked-issue m m' window issued some most none w =
    let p = is_current m window issued in
    let p' = is_current m' window (suc issued) in
    let last : p' issued ≡ true = and_from (leb (suc issued) (issued + window)) (is_marked m' (issued % window))
    (le-leb (suc issued) (issued + window) (omega arith)) (marked_same m m' (issued % window) true w (mod_in issued window some most)) in
    rw (add-one issued) (filter_next p' issued last ∙ ap (λ xs. xs ++ issued ∷ [])
    (filter_agree_below p' p issued (λ k below. current-issue m m' window issued k some most none w below)))

pub open-issue : (m m' o o' : List ℕ) (window issued : ℕ) → 0 < window → window ≤ MAX_WINDOW
    → list_any (λ j. leb (j + window) issued) (marked_numbers m window issued) ≡ false → Writes m m' (issued % window) true → Writes o o' (issued % window) true
    → filter (λ k. is_marked o' (k % window)) (marked_numbers m' window (issued + 1))
    ≡ filter (λ k. is_marked o (k % window)) (marked_numbers m window issued) ++ issued ∷ []
open-issue m m' o o' window issued some most none w wo =
    let flying = marked_numbers m window issued in
    let p = λ (k : ℕ). is_marked o (k % window) in
    let p' = λ (k : ℕ). is_marked o' (k % window) in
    let last : p' issued ≡ true = marked_same o o' (issued % window) true wo (mod_in issued window some most) in
    let same = filter_agree_in p' p flying (λ k e. marked_other o o' (issued % window) true (k % window) wo (mod_in k window some most)
    (apart window k issued some (is_last m window issued k e).below (not_held m window issued k none e))) in
    ap (filter p') (marked-issue m m' window issued some most none w)
    ∙ filter-append p' flying (issued ∷ [])
    ∙ (rw (last, same) refl)

-- ---- a completion, and a failure

-- two numbers of one window, with one slot, are one
same_number : (window issued j k : ℕ) → 0 < window → IsLast window issued j → IsLast window issued k → (j ≡ k → ⊥) → j % window ≡ k % window → ⊥
same_number window issued j k some a b ne same = elim (cases_lt j k) [
  | inl lt ↦ apart window j k some lt (omega (arith, a.near, b.below)) same
  | inr ge ↦ apart window k j some (omega arith) (omega (arith, a.below, b.near)) (sym same)
]

-- the bit of k is cleared: that is a test more
cleared : (o o' : List ℕ) (window issued j k : ℕ) → 0 < window → window ≤ MAX_WINDOW → IsLast window issued j → IsLast window issued k
    → Writes o o' (k % window) false → is_marked o' (j % window) ≡ (is_marked o (j % window) && not (eqb j k))
cleared o o' window issued j k some most a b w = elim (cases_eq j k) [
  | inl same ↦
      ap (λ i. is_marked o' (i % window)) same
      ∙ marked_same o o' (k % window) false w (mod_in k window some most)
      ∙ sym (and_right (is_marked o (j % window)) (not (eqb j k)) (not_from_true (eqb j k) (eq-eqb j k same)))
  | inr ne ↦
      marked_other o o' (k % window) false (j % window) w (mod_in j window some most) (same_number window issued j k some a b ne)
      ∙ sym (and_not (is_marked o (j % window)) (eqb j k) (ne_eqb j k ne))
]

marked-cleared : (m m' : List ℕ) (window issued k : ℕ) → 0 < window → window ≤ MAX_WINDOW → has (marked_numbers m window issued) k ≡ true
    → Writes m m' (k % window) false → marked_numbers m' window issued ≡ filter (λ j. is_current m window issued j && not (eqb j k)) (numbers_below issued)
marked-cleared m m' window issued k some most e w =
    filter_agree_below (is_current m' window issued) (λ j. is_current m window issued j && not (eqb j k)) issued
    (λ j below. elim (cases_lt (j + window) issued) [
      | inl far ↦
          let old = lt-leb issued (j + window) far in
          rw (old) refl
      | inr near ↦
          ap (λ b. leb issued (j + window) && b) (cleared m m' window issued j k some most (record { below = below; near = near })
          (is_last m window issued k e) w)
          ∙ and_assoc (leb issued (j + window)) (is_marked m (j % window)) (not (eqb j k))
    ])

pub marked-done : (m m' : List ℕ) (window issued k : ℕ) → 0 < window → window ≤ MAX_WINDOW → has (marked_numbers m window issued) k ≡ true
    → Writes m m' (k % window) false → marked_numbers m' window issued ≡ without k (marked_numbers m window issued)
marked-done m m' window issued k some most e w =
    marked-cleared m m' window issued k some most e w
    ∙ sym (filter_twice (is_current m window issued) (λ j. not (eqb j k)) (numbers_below issued))

pub length-marked-done : (m m' : List ℕ) (window issued k : ℕ) → 0 < window → window ≤ MAX_WINDOW → has (marked_numbers m window issued) k ≡ true
    → Writes m m' (k % window) false → length (marked_numbers m' window issued) + 1 ≡ length (marked_numbers m window issued)
length-marked-done m m' window issued k some most e w =
    let parts = and_parts (has (numbers_below issued) k) (is_current m window issued k)
    (sym (has_filter (is_current m window issued) (numbers_below issued) k) ∙ e) in
    omega (
      arith,
      ap length (marked-cleared m m' window issued k some most e w),
      length_filter_without (is_current m window issued) issued k ((is_last m window issued k e).below) parts.1,
    )

pub open-fail : (m o o' : List ℕ) (window issued k : ℕ) → 0 < window → window ≤ MAX_WINDOW → has (marked_numbers m window issued) k ≡ true
    → Writes o o' (k % window) false → filter (λ j. is_marked o' (j % window)) (marked_numbers m window issued)
    ≡ without k (filter (λ j. is_marked o (j % window)) (marked_numbers m window issued))
open-fail m o o' window issued k some most e wo =
    let flying = marked_numbers m window issued in
    let p = λ (j : ℕ). is_marked o (j % window) in
    let p' = λ (j : ℕ). is_marked o' (j % window) in
    let q = λ (j : ℕ). not (eqb j k) in
    filter_agree_in p' (λ j. p j && q j) flying (λ j f. cleared o o' window issued j k some most (is_last m window issued j f) (is_last m window issued k e) wo)
    ∙ sym (filter_twice p q flying)

tested_twice : (a b : Bool) → (not b && (a && not b)) ≡ (a && not b)
tested_twice true true = refl
tested_twice true false = refl
tested_twice false true = refl
tested_twice false false = refl

pub open-done : (m m' o o' : List ℕ) (window issued k : ℕ) → 0 < window → window ≤ MAX_WINDOW → has (marked_numbers m window issued) k ≡ true
    → Writes m m' (k % window) false → Writes o o' (k % window) false
    → filter (λ j. is_marked o' (j % window)) (marked_numbers m' window issued)
    ≡ without k (filter (λ j. is_marked o (j % window)) (marked_numbers m window issued))
open-done m m' o o' window issued k some most e w wo =
    let flying = marked_numbers m window issued in
    let p = λ (j : ℕ). is_marked o (j % window) in
    let p' = λ (j : ℕ). is_marked o' (j % window) in
    let q = λ (j : ℕ). not (eqb j k) in
    ap (filter p') (marked-done m m' window issued k some most e w)
    ∙ filter_twice q p' flying
    ∙ filter_agree_in (λ j. q j && p' j) (λ j. p j && q j) flying
    (λ j f. ap (λ b. q j && b) (cleared o o' window issued j k some most (is_last m window issued j f) (is_last m window issued k e) wo)
    ∙ tested_twice (p j) (eqb j k))
    ∙ sym (filter_twice p q flying)

-- ---- the value as a whole

abbrev flights : ℕ → ℕ → List ℕ → List ℕ → Flights
flights window n flying opened = record { window = window; issued = n; in_flight = flying; open_writes = opened }

pub same_flights : (window m n : ℕ) (flying flying' opened opened' : List ℕ) → m ≡ n → flying ≡ flying' → opened ≡ opened'
    → flights window m flying opened ≡ flights window n flying' opened'
same_flights window m n flying flying' opened opened' a b c = cc

pub length_marked : (m : List ℕ) (window issued : ℕ) → length (marked_numbers m window issued) ≤ issued
length_marked m window issued =
    let p = is_current m window issued in
    omega (arith, length-filter_both p (λ k. not (p k)) (λ k. refl) (numbers_below issued), length_numbers_below issued)

-- ---- the numbers that have completed, 64 of them

pub none_completed : (m : List ℕ) (window issued first : ℕ) → issued ≤ first → 0 ≡ word_of (has_completed issued (marked_numbers m window issued)) first
none_completed m window issued first past =
    let flying = marked_numbers m window issued in
    word_from_bits 0 (has_completed issued flying) first (omega arith) (λ i small.
    clear_is 0 i (bit_at-zero i) ∙ sym (and_left (ltb (first + i) issued) (not (has flying (first + i))) (le-ltb (first + i) issued (omega arith))))

completed_bit : (m : List ℕ) (window issued first i : ℕ) (flying mask : Bool) → issued ≤ first + window → first < issued
    → (i < window → flying ≡ is_marked m ((first % window + i) % window)) → mask ≡ ltb i (issued - first)
    → (not flying && mask) ≡ has_completed issued (marked_numbers m window issued) (first + i)
completed_bit m window issued first i flying mask near below same masked = elim (cases_lt i (issued - first)) [
  | inl within ↦
      let last : (ltb (first + i) issued && leb issued (first + i + window)) ≡ true =
      and_from (ltb (first + i) issued) (leb issued (first + i + window)) (lt-ltb (first + i) issued (omega arith))
      (le-leb issued (first + i + window) (omega arith)) in
      let flies : has (marked_numbers m window issued) (first + i) ≡ flying =
      has_marked m window issued (first + i)
      ∙ ap (λ b. b && is_marked m ((first + i) % window)) last
      ∙ sym (same (omega arith) ∙ ap (is_marked m) (mod-add-mod first window i)) in
      rw (flies, masked, lt-ltb i (issued - first) within, lt-ltb (first + i) issued (omega arith)) (and_true (not flying))
  | inr past ↦
      and_right (not flying) mask (masked ∙ le-ltb i (issued - first) past)
      ∙ sym (and_left (ltb (first + i) issued) (not (has (marked_numbers m window issued) (first + i))) (le-ltb (first + i) issued (omega arith)))
]

pub completed_word : (m : List ℕ) (window issued first flying mask : ℕ) → flying < 2 ^ 64 → mask < 2 ^ 64 → issued ≤ first + window → first < issued
    → ((i : ℕ) → i < 64 → i < window → is_set flying i ≡ is_marked m ((first % window + i) % window))
    → ((i : ℕ) → i < 64 → is_set mask i ≡ ltb i (issued - first))
    → bit_and (bit_not w64 flying) mask ≡ word_of (has_completed issued (marked_numbers m window issued)) first
completed_word m window issued first flying mask small small_mask near below same masked =
    word_from_bits (bit_and (bit_not w64 flying) mask) (has_completed issued (marked_numbers m window issued)) first
    (and_lt 64 (bit_not w64 flying) mask (omega arith) small_mask) (λ i under.
    set_and (bit_not w64 flying) mask i
    ∙ ap (λ b. b && is_set mask i) (set_not flying i small under)
    ∙ completed_bit m window issued first i (is_set flying i) (is_set mask i) near below (same i under) (masked i under))
