-- The words of a command line, one by one.
use Rattle.std.proofs.Common.{◌≡◌, ◌∙◌, ap, subst, refl, ℕ, arith, List, [], ◌∷◌, length, get_or, map, codes, take, drop, sym, Option, Some}
use Rattle.std.proofs.lemmas.List.{drop-map, take-map}
use Rattle.program_io.specs.Words.{IsNumber}
use Rattle.targets.specs.Command.{AreLedgerWords, AreMapWords, AreOptions, AreTourWords, AreWords, IsOption, option_words}

-- a word that is known by its text
at_place : {S : Type 0} (text : S → List ℕ) (P : List ℕ → Type 0) (x a : S) (word : List ℕ) → a ≡ x → word ≡ text a → P word → P (text x)
at_place text P x a word is said h = subst P (said ∙ ap text is) h

pub four_words : {S : Type 0} (text : S → List ℕ) (ws : List S) (a b d : S) (word first second command : List ℕ) (n m run job : ℕ) → length ws ≡ 4
    → a ≡ get_or ws 1 a → b ≡ get_or ws 2 b → d ≡ get_or ws 3 d → word ≡ text a → first ≡ text b → second ≡ text d
    → word ≡ command → IsNumber first n → n ≡ run → IsNumber second m → m ≡ job → AreWords (map text ws) command run job
four_words text [] a b d word first second command n m run job l p q r s t u e f g h i = absurd (omega arith)
four_words text (w ∷ []) a b d word first second command n m run job l p q r s t u e f g h i = absurd (omega arith)
four_words text (w ∷ x ∷ []) a b d word first second command n m run job l p q r s t u e f g h i = absurd (omega arith)
four_words text (w ∷ x ∷ y ∷ []) a b d word first second command n m run job l p q r s t u e f g h i = absurd (omega arith)
four_words text (w ∷ x ∷ y ∷ z ∷ []) a b d word first second command n m run job l p q r s t u e f g h i = (
  at_place text (λ said. said ≡ command) x a word p s e,
  at_place text (λ said. IsNumber said run) y b first q t (f.0, f.1 ∙ g),
  at_place text (λ said. IsNumber said job) z d second r u (h.0, h.1 ∙ i),
)
four_words text (w ∷ x ∷ y ∷ z ∷ v ∷ vs) a b d word first second command n m run job l p q r s t u e f g h i = absurd (omega arith)

pub three_words : {S : Type 0} (text : S → List ℕ) (ws : List S) (a b : S) (word second : List ℕ) (m job : ℕ) → length ws ≡ 3
    → a ≡ get_or ws 1 a → b ≡ get_or ws 2 b → word ≡ text a → second ≡ text b → word ≡ codes "tour" → IsNumber second m → m ≡ job
    → AreTourWords (map text ws) job
three_words text [] a b word second m job l p q r s e f g = absurd (omega arith)
three_words text (w ∷ []) a b word second m job l p q r s e f g = absurd (omega arith)
three_words text (w ∷ x ∷ []) a b word second m job l p q r s e f g = absurd (omega arith)
three_words text (w ∷ x ∷ y ∷ []) a b word second m job l p q r s e f g = (
  at_place text (λ said. said ≡ codes "tour") x a word p r e,
  at_place text (λ said. IsNumber said job) y b second q s (f.0, f.1 ∙ g),
)
three_words text (w ∷ x ∷ y ∷ z ∷ zs) a b word second m job l p q r s e f g = absurd (omega arith)

pub two_words : {S : Type 0} (text : S → List ℕ) (ws : List S) (a b : S) (word number name : List ℕ) (n value : ℕ) → length ws ≡ 2
    → a ≡ get_or ws 0 a → b ≡ get_or ws 1 b → word ≡ text a → number ≡ text b → word ≡ name → IsNumber number n → n ≡ value
    → IsOption name (Some value) (map text ws)
two_words text [] a b word number name n value l p q r s e f g = absurd (omega arith)
two_words text (w ∷ []) a b word number name n value l p q r s e f g = absurd (omega arith)
two_words text (w ∷ x ∷ []) a b word number name n value l p q r s e f g = (
  at_place text (λ said. said ≡ name) w a word p r e,
  at_place text (λ said. IsNumber said value) x b number q s (f.0, f.1 ∙ g),
)
two_words text (w ∷ x ∷ y ∷ ys) a b word number name n value l p q r s e f g = absurd (omega arith)

pub no_words : {S : Type 0} (text : S → List ℕ) (ws : List S) → length ws ≡ 0 → map text ws ≡ []
no_words text [] l = refl
no_words text (w ∷ ws) l = absurd (omega arith)

-- The words of a server, and behind them those of a unit.
pub two_options : {S : Type 0} (text : S → List ℕ) (ws front back : List S) (server unit : Option ℕ) (behind : ℕ) → behind ≡ option_words server
    → front ≡ take behind ws → back ≡ drop behind ws → IsOption (codes "--server") server (map text front)
    → IsOption (codes "--unit") unit (map text back) → AreOptions (map text ws) server unit
two_options text ws front back server unit behind count first second server_is unit_is = record {
  server_is = subst (λ l. IsOption (codes "--server") server l)
      (ap (map text) (first ∙ ap (λ n. take n ws) count) ∙ sym (take-map text (option_words server) ws)) server_is;
  unit_is = subst (λ l. IsOption (codes "--unit") unit l)
      (ap (map text) (second ∙ ap (λ n. drop n ws) count) ∙ sym (drop-map text (option_words server) ws)) unit_is;
}

-- The words of a map, and behind them those of its options.
pub map_words : {S : Type 0} (text : S → List ℕ) (ws front back : List S) (run job : ℕ) (server unit : Option ℕ) → front ≡ take 4 ws → back ≡ drop 4 ws
    → AreWords (map text front) (codes "map") run job → AreOptions (map text back) server unit → AreMapWords (map text ws) run job server unit
map_words text ws front back run job server unit first second are is = (
  subst (λ l. AreWords l (codes "map") run job) (ap (map text) first ∙ sym (take-map text 4 ws)) are,
  subst (λ l. AreOptions l server unit) (ap (map text) second ∙ sym (drop-map text 4 ws)) is,
)

-- The words of a command by a ledger, and behind them those of a server.
pub ledger_words : {S : Type 0} (text : S → List ℕ) (ws front back : List S) (word : List ℕ) (run job : ℕ) (server : Option ℕ) → front ≡ take 4 ws
    → back ≡ drop 4 ws → AreWords (map text front) word run job → IsOption (codes "--server") server (map text back)
    → AreLedgerWords (map text ws) word run job server
ledger_words text ws front back word run job server first second are is = (
  subst (λ l. AreWords l word run job) (ap (map text) first ∙ sym (take-map text 4 ws)) are,
  subst (λ l. IsOption (codes "--server") server l) (ap (map text) second ∙ sym (drop-map text 4 ws)) is,
)
