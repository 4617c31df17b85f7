-- The words of a command line, one by one.
use Rattle.std.proofs.Common.{◌≡◌, ◌∙◌, ap, subst, ℕ, arith, List, [], ◌∷◌, length, get_or, map}
use Rattle.std.specs.Prelude.{codes}
use Rattle.program_io.specs.Words.{IsNumber}
use Rattle.commands.specs.declared.command.FleetSize.{FleetSize}
use Rattle.commands.specs.Command.{IsCommand, AsksLive}

-- a word that is known by its text
at_place : {S : Type 0} (text : S → List ℕ) (P : List ℕ → Type 0) (x a : S) (word : List ℕ) → a ≡ x → word ≡ text a → P word → P (text x)
at_place text P x a word is said h = subst P (said ∙ ap text is) h

pub two_words : {S : Type 0} (text : S → List ℕ) (ws : List S) (a : S) (word command : List ℕ) → length ws ≡ 2 → a ≡ get_or ws 1 a → word ≡ text a
    → word ≡ command → IsCommand (map text ws) command
two_words text [] a word command l p s e = absurd (omega arith)
two_words text (w ∷ []) a word command l p s e = absurd (omega arith)
two_words text (w ∷ x ∷ []) a word command l p s e = at_place text (λ said. said ≡ command) x a word p s e
two_words text (w ∷ x ∷ y ∷ ws) a word command l p s e = absurd (omega arith)

pub five_words : {S : Type 0} (text : S → List ℕ) (ws : List S) (a b d f : S) (word first second last path : List ℕ) (n m : ℕ) (size : FleetSize)
    → length ws ≡ 5 → a ≡ get_or ws 1 a → b ≡ get_or ws 2 b → d ≡ get_or ws 3 d → f ≡ get_or ws 4 f
    → word ≡ text a → first ≡ text b → second ≡ text d → last ≡ text f → word ≡ codes "live" → IsNumber first n → n ≡ size.servers
    → IsNumber second m → m ≡ size.workers → last ≡ path → AsksLive (map text ws) size path
five_words text [] a b d f word first second last path n m size l p q r o s t u v e g h i j k = absurd (omega arith)
five_words text (w ∷ []) a b d f word first second last path n m size l p q r o s t u v e g h i j k = absurd (omega arith)
five_words text (w ∷ x ∷ []) a b d f word first second last path n m size l p q r o s t u v e g h i j k = absurd (omega arith)
five_words text (w ∷ x ∷ y ∷ []) a b d f word first second last path n m size l p q r o s t u v e g h i j k = absurd (omega arith)
five_words text (w ∷ x ∷ y ∷ z ∷ []) a b d f word first second last path n m size l p q r o s t u v e g h i j k = absurd (omega arith)
five_words text (w ∷ x ∷ y ∷ z ∷ c ∷ []) a b d f word first second last path n m size l p q r o s t u v e g h i j k = (
  at_place text (λ said. said ≡ codes "live") x a word p s e,
  at_place text (λ said. IsNumber said size.servers) y b first q t (g.0, g.1 ∙ h),
  at_place text (λ said. IsNumber said size.workers) z d second r u (i.0, i.1 ∙ j),
  at_place text (λ said. said ≡ path) c f last o v k,
)
five_words text (w ∷ x ∷ y ∷ z ∷ c ∷ c2 ∷ cs) a b d f word first second last path n m size l p q r o s t u v e g h i j k = absurd (omega arith)
