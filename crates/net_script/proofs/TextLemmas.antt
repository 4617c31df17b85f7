-- The text of the lines below a command, as far as it is read.
use Rattle.std.proofs.Common.{◌≡◌, ◌⊎◌, inl, inr, ℕ, ◌+◌, true, false, cond, not, ◌||◌, List, []}
use Rattle.std.proofs.Common.{◌∷◌, ◌++◌, take, append_assoc, append-nil, sym, ◌∙◌, ap, suc, arith}
use Rattle.std.specs.List.{list_any, flat_map, position_or_len}
use Rattle.net_script.specs.Words.{lines_of}
use Rattle.program_io.specs.Words.{with_line_feed}
use Rattle.net_script.specs.Orders.{closes, text_in}

-- The front of what stands below is read: no line of it closes the text.
pub record Below (below rest : List ℕ) : Type 0 where
  pub front : List ℕ
  pub split : below ≡ front ++ rest
  pub any : list_any closes (lines_of below) ≡ list_any closes (lines_of rest)
  pub text : list_any closes (lines_of rest) ≡ true → text_in (lines_of below) ≡ front ++ text_in (lines_of rest)

-- A line that doesn't close the text is the first of it.
any_behind : (line : List ℕ) (more : List (List ℕ)) → closes line ≡ false → list_any closes (line ∷ more) ≡ list_any closes more
any_behind line more opens = ap (λ t. t || list_any closes more) opens

one_more : {X : Type 0} (x : X) (xs : List X) (n : ℕ) → take (1 + n) (x ∷ xs) ≡ x ∷ take n xs
one_more x xs n = let same : 1 + n ≡ suc n = omega arith in ap (λ k. take k (x ∷ xs)) same

text_behind : (line : List ℕ) (more : List (List ℕ)) → closes line ≡ false → text_in (line ∷ more) ≡ with_line_feed line ++ text_in more
text_behind line more opens =
    ap (λ t. flat_map with_line_feed (take (cond (not t) (1 + position_or_len closes more) 0) (line ∷ more))) opens
    ∙ ap (flat_map with_line_feed) (one_more line more (position_or_len closes more))

pub line_read : (below rest line more : List ℕ) → Below below rest → lines_of rest ≡ line ∷ lines_of more
    → (rest ≡ with_line_feed line ++ more) ⊎ (more ≡ []) → closes line ≡ false → Below below more
line_read below rest line more b lines (inl bytes) opens = record {
  front = b.front ++ with_line_feed line;
  split = b.split ∙ ap (λ l. b.front ++ l) bytes ∙ sym (append_assoc b.front (with_line_feed line) more);
  any = any_more;
  text = λ h. b.text (sym b.any ∙ any_more ∙ h) ∙ ap (λ ls. b.front ++ text_in ls) lines
      ∙ ap (λ l. b.front ++ l) (text_behind line (lines_of more) opens) ∙ sym (append_assoc b.front (with_line_feed line) (text_in (lines_of more)));
}
  where
    any_more : list_any closes (lines_of below) ≡ list_any closes (lines_of more)
    any_more = b.any ∙ ap (list_any closes) lines ∙ any_behind line (lines_of more) opens
line_read below rest line more b lines (inr none) opens = record {
  front = below;
  split = sym (append-nil below) ∙ ap (λ l. below ++ l) (sym none);
  any = b.any ∙ ap (list_any closes) lines ∙ any_behind line (lines_of more) opens;
  text = λ h. absurd (never (sym (ap (λ l. list_any closes (lines_of l)) none) ∙ h));
}
  where
    never : ¬ (false ≡ true)
    never e = cc
