-- What a client finds in its note where it is opened.
use Rattle.std.proofs.Common.{◌≡◌, refl, ◌∙◌, ap, subst, sym, ℕ, arith, eqb-true, Bool, true, false, ◌==◌, ◌&&◌, List, [], ◌∷◌, length, None, Some}
use Rattle.std.specs.Prelude.{if◌then◌else◌}
use Rattle.disk_model.specs.declared.save_outcome.SaveOutcome.TheVariants.{Saved}
use Rattle.messages.specs.Ranges.{is_generation}
use Rattle.client_core.specs.Note.{Says, blank, new_note}
use Rattle.client_core.specs.History.{Opening, Entry, Renew}
use Rattle.client_core.specs.Words.{words_noted, renewed_after}
use Rattle.client_core.proofs.NoteLemmas.{says_blank}

pub some_note : (bytes : List ℕ) → (length bytes == 0) ≡ false → bytes ≡ [] → ⊥
some_note [] h e = cc
some_note (b ∷ bytes) h e = cc

pub no_mirror : (mirror : Bool) → mirror ≡ false → mirror ≡ true → ⊥
no_mirror true h m = cc
no_mirror false h m = cc

-- The generation that was asked for is one that a client can be renewed with.
pub renewed_with : (g h : ℕ) → Some h ≡ (if is_generation g then Some g else None) → (is_generation g ≡ true) × (h ≡ g)
renewed_with g h e = by_test (is_generation g) refl e
  where
    by_test : (b : Bool) → is_generation g ≡ b → Some h ≡ (if b then Some g else None) → (is_generation g ≡ true) × (h ≡ g)
    by_test true is e = (is, let same : h ≡ g = cc in same)
    by_test false is e = cc

-- Over no bytes a list with a renewal says the generation.
pub renewed_noted : (o : Opening) (past : List Entry) (bytes : List ℕ) (g : ℕ) → bytes ≡ [] → is_generation g ≡ true → Says bytes (words_noted o past)
    → words_noted o (Renew g Saved ∷ past) ≡ new_note g
renewed_noted o past bytes g none is says =
    let empty : words_noted o past ≡ blank = says_blank (words_noted o past) (subst (λ l. Says l (words_noted o past)) none says) in
    ap (renewed_after true g) empty ∙ ap (λ b. if b && true then new_note g else blank) is

pub no_bytes : (bytes : List ℕ) → true ≡ (length bytes == 0) → bytes ≡ []
no_bytes [] h = refl
no_bytes (b ∷ bytes) h = let none : length (b ∷ bytes) ≡ 0 = eqb-true (length (b ∷ bytes)) 0 (sym h) in absurd (omega arith)
