-- Numbers behind one another.
use Rattle.std.proofs.Common.{◌≡◌, ℕ, ◌==◌, false, List, [], ◌∷◌, length, Option, Some, None, refl, ◌∙◌, ap}
use Rattle.std.specs.Prelude.{option_map, option_and_then}
use Rattle.net_script.specs.declared.line.ScriptLine.{ScriptLine}
use Rattle.net_script.specs.declared.line.ScriptLine.TheVariants.{Unread}
use Rattle.net_script.specs.Words.{number_of}
use Rattle.net_script.specs.Arguments.{read_as, numbers_of, numbers, leading, one, two, three, four}

-- Words that the first of these numbers leads are read as the number, and the words behind it.
leads_words : (ws : List (List ℕ)) (a : ℕ) (rest : List (List ℕ)) → leading ws ≡ Some (a, rest)
    → numbers_of ws ≡ option_map (λ ns. a ∷ ns) (numbers_of rest)
leads_words [] a rest is = absurd cc
leads_words (w ∷ ws) a rest is = by_number (number_of w) is
  where
    by_number : (n : Option ℕ) → option_map {U = ℕ × List (List ℕ)} (λ m. (m, ws)) n ≡ Some (a, rest)
        → option_and_then (λ m. option_map (λ ns. m ∷ ns) (numbers_of ws)) n ≡ option_map (λ ns. a ∷ ns) (numbers_of rest)
    by_number None is = absurd cc
    by_number (Some m) is =
        let both : ◌≡◌ {A = ℕ × List (List ℕ)} (m, ws) (a, rest) = cc in
        ap (λ p. option_map (λ ns. p.0 ∷ ns) (numbers_of p.1)) both

module _ (ws : List (List ℕ)) (a : ℕ) (rest : List (List ℕ)) (is : leading ws ≡ Some (a, rest)) where
  pub one_alone : (line : ℕ → ScriptLine) → (length rest == 0) ≡ false → numbers (one line) ws ≡ Unread
  one_alone line more = ap (read_as (one line)) (leads_words ws a rest is) ∙ by_rest rest more
    where
      by_numbers : (w : List ℕ) (ws : List (List ℕ)) (ns : Option (List ℕ)) (n : Option ℕ)
          → read_as (one line) (option_map (λ ns. a ∷ ns) (option_and_then (λ n. option_map (λ ns. n ∷ ns) ns) n)) ≡ Unread
      by_numbers w ws ns None = refl
      by_numbers w ws None (Some n) = refl
      by_numbers w ws (Some ns) (Some n) = refl

      by_rest : (rest : List (List ℕ)) → (length rest == 0) ≡ false → read_as (one line) (option_map (λ ns. a ∷ ns) (numbers_of rest)) ≡ Unread
      by_rest [] more = absurd cc
      by_rest (w ∷ ws) more = by_numbers w ws (numbers_of ws) (number_of w)

  pub two_behind : (line : ℕ → ℕ → ScriptLine) → numbers (two line) ws ≡ numbers (one (line a)) rest
  two_behind line = ap (read_as (two line)) (leads_words ws a rest is) ∙ by_numbers (numbers_of rest)
    where
      by_numbers : (ns : Option (List ℕ)) → read_as (two line) (option_map (λ ns. a ∷ ns) ns) ≡ read_as (one (line a)) ns
      by_numbers None = refl
      by_numbers (Some []) = refl
      by_numbers (Some (b ∷ [])) = refl
      by_numbers (Some (b ∷ c ∷ ns)) = refl

  pub three_behind : (line : ℕ → ℕ → ℕ → ScriptLine) → numbers (three line) ws ≡ numbers (two (line a)) rest
  three_behind line = ap (read_as (three line)) (leads_words ws a rest is) ∙ by_numbers (numbers_of rest)
    where
      by_numbers : (ns : Option (List ℕ)) → read_as (three line) (option_map (λ ns. a ∷ ns) ns) ≡ read_as (two (line a)) ns
      by_numbers None = refl
      by_numbers (Some []) = refl
      by_numbers (Some (b ∷ [])) = refl
      by_numbers (Some (b ∷ c ∷ [])) = refl
      by_numbers (Some (b ∷ c ∷ d ∷ ns)) = refl

  pub four_behind : (line : ℕ → ℕ → ℕ → ℕ → ScriptLine) → numbers (four line) ws ≡ numbers (three (line a)) rest
  four_behind line = ap (read_as (four line)) (leads_words ws a rest is) ∙ by_numbers (numbers_of rest)
    where
      by_numbers : (ns : Option (List ℕ)) → read_as (four line) (option_map (λ ns. a ∷ ns) ns) ≡ read_as (three (line a)) ns
      by_numbers None = refl
      by_numbers (Some []) = refl
      by_numbers (Some (b ∷ [])) = refl
      by_numbers (Some (b ∷ c ∷ [])) = refl
      by_numbers (Some (b ∷ c ∷ d ∷ [])) = refl
      by_numbers (Some (b ∷ c ∷ d ∷ e ∷ ns)) = refl
