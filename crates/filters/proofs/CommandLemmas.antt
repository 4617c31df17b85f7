-- The words of a command line, one by one.
use Rattle.std.proofs.Common.{◌≡◌, ◌∙◌, ap, sym, subst, refl, ℕ, arith, List, [], ◌∷◌, length, get_or, map, codes, take, drop, cond, slice_index}
use Rattle.std.specs.Str.Parse.{IsNumeral, digits_value, without_leading_plus}
use Rattle.std.proofs.lemmas.Bool.{ne_eqb}
use Rattle.std.proofs.lemmas.List.{drop-map, take-map}
use Rattle.program_io.specs.Words.{IsNumber}
use Rattle.filters.specs.declared.beginning.Beginning.{Beginning}
use Rattle.filters.specs.Command.{AreClientWords, AreWords, Begins, IsPair, IsUnsigned, IsWord}

-- a word that is known by its text
at_place : {S : Type 0} (text : S → List ℕ) (P : List ℕ → Type 0) (x a : S) (word : List ℕ) → a ≡ x → word ≡ text a → P word → P (text x)
at_place text P x a word is said h = subst P (said ∙ ap text is) h

pub three_words : {S : Type 0} (text : S → List ℕ) (ws : List S) (a b : S) (word number command : List ℕ) (n m : ℕ) → length ws ≡ 3
    → a ≡ get_or ws 1 a → b ≡ get_or ws 2 b → word ≡ text a → number ≡ text b
    → word ≡ command → IsUnsigned number n → n ≡ m → AreWords (map text ws) command m
three_words text [] a b word number command n m l p q r s e f g = absurd (omega arith)
three_words text (w ∷ []) a b word number command n m l p q r s e f g = absurd (omega arith)
three_words text (w ∷ x ∷ []) a b word number command n m l p q r s e f g = absurd (omega arith)
three_words text (w ∷ x ∷ y ∷ []) a b word number command n m l p q r s e f g = (
  at_place text (λ said. said ≡ command) x a word p r e,
  at_place text (λ said. IsUnsigned said m) y b number q s (f.0, f.1 ∙ g),
)
three_words text (w ∷ x ∷ y ∷ z ∷ zs) a b word number command n m l p q r s e f g = absurd (omega arith)

pub one_word : {S : Type 0} (text : S → List ℕ) (ws : List S) (a : S) (word wanted : List ℕ) → length ws ≡ 1
    → a ≡ get_or ws 0 a → word ≡ text a → word ≡ wanted → IsWord (map text ws) wanted
one_word text [] a word wanted l p r e = absurd (omega arith)
one_word text (w ∷ []) a word wanted l p r e = at_place text (λ said. said ≡ wanted) w a word p r e
one_word text (w ∷ x ∷ xs) a word wanted l p r e = absurd (omega arith)

pub two_words : {S : Type 0} (text : S → List ℕ) (ws : List S) (a b : S) (word number wanted : List ℕ) (n m : ℕ) → length ws ≡ 2
    → a ≡ get_or ws 0 a → b ≡ get_or ws 1 b → word ≡ text a → number ≡ text b → word ≡ wanted → IsUnsigned number n → n ≡ m
    → IsPair (map text ws) wanted m
two_words text [] a b word number wanted n m l p q r s e f g = absurd (omega arith)
two_words text (w ∷ []) a b word number wanted n m l p q r s e f g = absurd (omega arith)
two_words text (w ∷ x ∷ []) a b word number wanted n m l p q r s e f g = (
  at_place text (λ said. said ≡ wanted) w a word p r e,
  at_place text (λ said. IsUnsigned said m) x b number q s (f.0, f.1 ∙ g),
)
two_words text (w ∷ x ∷ y ∷ ys) a b word number wanted n m l p q r s e f g = absurd (omega arith)

pub no_words : {S : Type 0} (text : S → List ℕ) (ws : List S) → length ws ≡ 0 → map text ws ≡ []
no_words text [] l = refl
no_words text (w ∷ ws) l = absurd (omega arith)

-- The words of a client, and behind them how it begins.
pub client_words : {S : Type 0} (text : S → List ℕ) (ws front back : List S) (servers : ℕ) (beginning : Beginning) → front ≡ take 3 ws → back ≡ drop 3 ws
    → AreWords (map text front) (codes "client") servers → Begins (map text back) beginning → AreClientWords (map text ws) servers beginning
client_words text ws front back servers beginning first second are begins = (
  subst (λ l. AreWords l (codes "client") servers) (ap (map text) first ∙ sym (take-map text 3 ws)) are,
  subst (λ l. Begins l beginning) (ap (map text) second ∙ sym (drop-map text 3 ws)) begins,
)

-- The words of a mirror.
pub mirror_words : {S : Type 0} (text : S → List ℕ) (ws back : List S) → back ≡ drop 1 ws → IsWord (map text back) (codes "mirror")
    → IsWord (drop 1 (map text ws)) (codes "mirror")
mirror_words text ws back second is = subst (λ l. IsWord l (codes "mirror")) (ap (map text) second ∙ sym (drop-map text 1 ws)) is

-- A number that begins with no plus has digits alone.
pub digits_alone : (word : List ℕ) (n : ℕ) → (slice_index word 0 ≡ 43 → ⊥) → IsNumber word n → IsUnsigned word n
digits_alone word n other is =
    let same : without_leading_plus word ≡ word = ap (λ b. drop (cond b 1 0) word) (ne_eqb (slice_index word 0) 43 other) in
    subst (λ w. IsNumeral 10 w × (digits_value 10 w ≡ n)) same is
