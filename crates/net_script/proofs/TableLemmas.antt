-- The rows of tables that stand behind one another, and the words of `land`.
use Rattle.std.proofs.Common.{◌≡◌, ℕ, Bool, true, false, cond, List, [], ◌∷◌, ◌++◌, Option, Some, None, refl, sym, ◌∙◌, ap}
use Rattle.std.specs.Option.{option_or}
use Rattle.std.specs.Prelude.{option_map, option_and_then, bytes_eq}
use Rattle.net_script.specs.declared.line.ScriptLine.{ScriptLine}
use Rattle.net_script.specs.declared.line.ScriptLine.TheVariants.{Asks}
use Rattle.net_script.specs.declared.command.Command.TheVariants.{Saves, Land}
use Rattle.net_script.specs.Words.{number_of}
use Rattle.net_script.specs.Arguments.{read_as, numbers_of, numbers, leading, three, place, sectors_of}
use Rattle.net_script.specs.Table.{Row, read_by_row, or_unread, table, saving_rows, asking_rows, job_rows, cut_rows, land}

-- A word's row is looked for in the first rows, and then in those behind.
pub named_behind : (rows more : List Row) (word : List ℕ) (behind : List (List ℕ))
    → read_by_row (rows ++ more) word behind ≡ option_or (read_by_row rows word behind) (read_by_row more word behind)
named_behind [] more word behind = refl
named_behind (r ∷ rows) more word behind = by_word (bytes_eq word r.word) (named_behind rows more word behind)
  where
    by_word : (is : Bool) → read_by_row (rows ++ more) word behind ≡ option_or (read_by_row rows word behind) (read_by_row more word behind)
        → cond is (Some (r.reads behind)) (read_by_row (rows ++ more) word behind)
        ≡ option_or (cond is (Some (r.reads behind)) (read_by_row rows word behind)) (read_by_row more word behind)
    by_word true rest = refl
    by_word false rest = rest

-- A row that is among the first.
pub among : (rows more : List Row) (word : List ℕ) (behind : List (List ℕ)) (line : ScriptLine)
    → Some line ≡ read_by_row rows word behind → line ≡ or_unread (read_by_row (rows ++ more) word behind)
among rows more word behind line is =
    sym (ap or_unread (named_behind rows more word behind ∙ ap (λ l. option_or l (read_by_row more word behind)) (sym is)))

-- A row that isn't among them is one behind them.
pub not_among : (rows more : List Row) (word : List ℕ) (behind : List (List ℕ)) (found : Option ScriptLine)
    → found ≡ read_by_row rows word behind → ((line : ScriptLine) → found ≡ Some line → ⊥)
    → or_unread (read_by_row more word behind) ≡ or_unread (read_by_row (rows ++ more) word behind)
not_among rows more word behind None is none =
    sym (ap or_unread (named_behind rows more word behind ∙ ap (λ l. option_or l (read_by_row more word behind)) (sym is)))
not_among rows more word behind (Some line) is none = absurd (none line refl)

-- A row of each of the four parts of the table.
module _ (word : List ℕ) (behind : List (List ℕ)) where
  pub saves : (line : ScriptLine) → Some line ≡ read_by_row (saving_rows Saves) word behind → line ≡ or_unread (read_by_row table word behind)
  unfolding table
  saves line is = among (saving_rows Saves) (asking_rows ++ (job_rows ++ cut_rows)) word behind line is

  pub not_saves : (found : Option ScriptLine) → found ≡ read_by_row (saving_rows Saves) word behind → ((line : ScriptLine) → found ≡ Some line → ⊥)
      → or_unread (read_by_row (asking_rows ++ (job_rows ++ cut_rows)) word behind) ≡ or_unread (read_by_row table word behind)
  unfolding table
  not_saves found is none = not_among (saving_rows Saves) (asking_rows ++ (job_rows ++ cut_rows)) word behind found is none

led : (w : List ℕ) (ws : List (List ℕ)) (a : ℕ) (rest : List (List ℕ)) → leading (w ∷ ws) ≡ Some (a, rest)
    → (number_of w ≡ Some a) × (ws ≡ rest)
led w ws a rest is = by_number (number_of w) is
  where
    by_number : (n : Option ℕ) → option_map {U = ℕ × List (List ℕ)} (λ m. (m, ws)) n ≡ Some (a, rest) → (n ≡ Some a) × (ws ≡ rest)
    by_number None is = absurd cc
    by_number (Some m) is =
        let same : ◌≡◌ {A = ℕ × List (List ℕ)} (m, ws) (a, rest) = cc in
        (ap (λ p. Some p.0) same, ap (λ p. p.1) same)

three_numbers : (w v u : List ℕ) (a b c : ℕ) → number_of w ≡ Some a → number_of v ≡ Some b → number_of u ≡ Some c
    → numbers_of (w ∷ v ∷ u ∷ []) ≡ Some (a ∷ b ∷ c ∷ [])
three_numbers w v u a b c first second third =
    ap (option_and_then (λ n. option_map (λ ns. n ∷ ns) (numbers_of (v ∷ u ∷ [])))) first
    ∙ ap (λ m. option_map (λ ns. a ∷ ns) (option_and_then (λ n. option_map (λ ns. n ∷ ns) (numbers_of (u ∷ []))) m)) second
    ∙ ap (λ m. option_map (λ ns. a ∷ ns) (option_map (λ ns. b ∷ ns) (option_and_then (λ n. option_map (λ ns. n ∷ ns) (numbers_of [])) m))) third

-- The words that a number leads are its word, and those behind.
record Leads (ws : List (List ℕ)) (a : ℕ) (rest : List (List ℕ)) : Type 0 where
  word : List ℕ
  words : ws ≡ word ∷ rest
  spells : number_of word ≡ Some a

leads : (ws : List (List ℕ)) (a : ℕ) (rest : List (List ℕ)) → leading ws ≡ Some (a, rest) → Leads ws a rest
leads [] a rest is = absurd cc
leads (w ∷ ws) a rest is =
    let both = led w ws a rest is in
    record { word = w; words = ap (λ r. w ∷ r) both.1; spells = both.0 }

-- Three numbers, and sectors behind them.
pub lands : (ws : List (List ℕ)) (a b c mask : ℕ) (behind more rest : List (List ℕ))
    → leading ws ≡ Some (a, behind) → leading behind ≡ Some (b, more) → leading more ≡ Some (c, rest) → sectors_of rest ≡ Some mask
    → land ws ≡ Asks (Land (place a) (place b) c mask)
lands ws a b c mask behind more rest first second third sectors =
    let x = leads ws a behind first in
    let y = leads behind b more second in
    let z = leads more c rest third in
    ap land (x.words ∙ ap (λ r. x.word ∷ r) (y.words ∙ ap (λ r. y.word ∷ r) z.words))
    ∙ ap (read_as (λ mask. numbers (three (λ s j k. Asks (Land (place s) (place j) k mask))) (x.word ∷ y.word ∷ z.word ∷ []))) sectors
    ∙ ap (read_as (three (λ s j k. Asks (Land (place s) (place j) k mask)))) (three_numbers x.word y.word z.word a b c x.spells y.spells z.spells)
