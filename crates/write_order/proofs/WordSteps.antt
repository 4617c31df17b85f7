-- One word on.
use Rattle.std.proofs.Common.{◌≡◌, ℕ, ◌+◌, List, [], ◌∷◌, get_or, ◌∙◌, ap, refl, add-one, arith}
use Rattle.rand_xoshiro.specs.SplitMix64.{splitmix_seed}
use Rattle.rand_xoshiro.specs.Xoshiro256.{plus_plus, next_state, of_seed}
use Rattle.write_order.specs.declared.words.Words.{Words}
use Rattle.write_order.specs.Words.{state_after, word}
use Rattle.write_order.specs.Ahead.{words_after}

-- A step from the state after n words gives word n and the state after one more.
pub word_from_step : (seed n w : ℕ) (old new : List ℕ) → (w, new) ≡ plus_plus old → old ≡ state_after seed n → w ≡ word seed n
unfolding word
word_from_step seed n w old new step at =
    ap (λ (p : ℕ × List ℕ). p.0) step ∙ ap (λ s. (plus_plus s).0) at

pub state_from_step : (seed n m w : ℕ) (old new : List ℕ) → (w, new) ≡ plus_plus old → old ≡ state_after seed n → n + 1 ≡ m → new ≡ state_after seed m
unfolding state_after
state_from_step seed n m w old new step at e =
    rw (← e, add-one) (ap (λ (p : ℕ × List ℕ). p.1) step ∙ ap next_state at)

pub state_after-zero : (seed : ℕ) → state_after seed 0 ≡ of_seed (splitmix_seed 32 seed)
unfolding state_after
state_after-zero seed = refl

pub same_words : (a b c d p q r s : ℕ) (g h : List ℕ) → a ≡ p → b ≡ q → c ≡ r → d ≡ s → g ≡ h →
    (let x : Words = record { next = a ∷ b ∷ c ∷ d ∷ []; generator = g } in
    let y : Words = record { next = p ∷ q ∷ r ∷ s ∷ []; generator = h } in x ≡ y)
same_words a b c d p q r s g h ap bq cr ds gh = cc

-- The first three words move up, and the fourth is new.
pub words_after_more : (old : Words) (seed n w : ℕ) (new : List ℕ) → (w, new) ≡ plus_plus old.generator → old ≡ words_after seed n →
    (let next : Words = record {
      next = get_or old.next 1 0 ∷ get_or old.next 2 0 ∷ get_or old.next 3 0 ∷ w ∷ [];
      generator = new;
    } in next ≡ words_after seed (n + 1))
words_after_more old seed n w new step e =
    let at : old.generator ≡ state_after seed (n + 4) = ap (λ (x : Words). x.generator) e in
    let ahead : old.next ≡ (words_after seed n).next = ap (λ (x : Words). x.next) e in
    same_words _ _ _ _ _ _ _ _ _ _ (ap (λ xs. get_or xs 1 0) ahead)
    (ap (λ xs. get_or xs 2 0) ahead ∙ ap (word seed) (omega arith))
    (ap (λ xs. get_or xs 3 0) ahead ∙ ap (word seed) (omega arith))
    (word_from_step seed (n + 4) w _ new step at ∙ ap (word seed) (omega arith))
    (state_from_step seed (n + 4) (n + 1 + 4) w _ new step at (omega arith))
