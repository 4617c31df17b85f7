-- What the nodes have in common that are cut.
use Rattle.std.proofs.Common.{◌≡◌, ◌<◌, ◌+◌, ℕ, inl, inr, refl, sym, subst, ◌∙◌, ap, arith, List, [], ◌∷◌, ◌++◌, length, take, drop, take-append-drop, length-drop}
use Rattle.std.proofs.lemmas.List.{take-append-le}
use Rattle.std.proofs.Math.Seq.{take-append-add}
use Rattle.filters.specs.Cuts.{CutsBehind}
use Rattle.filters.specs.Lives.{RecordParts, Lives}
use Rattle.filters.specs.NodeCuts.{CutsAnswer, saved}

-- A life whose answers are cut somewhere is one whose answers are two parts.
pub in_two : {S : Type 0} (Takes : S → RecordParts → S → List ℕ → Type 0) (first : S) (records : List RecordParts) (now : S) (n : ℕ) (answers : List ℕ)
    → Lives Takes first records now answers → Lives Takes first records now (take n answers ++ drop n answers)
in_two Takes first records now n answers h = subst (Lives Takes first records now) (sym (take-append-drop n answers)) h

-- The answer to the second of two records is cut.
pub cut_in_second : {S : Type 0} (Takes : S → RecordParts → S → List ℕ → Type 0) (note : S → List ℕ) (first before after left : S) (one two : RecordParts)
    (told answer : List ℕ) (n : ℕ) → Lives Takes first (one ∷ []) before told → Takes before two after answer
    → CutsAnswer note before after (take n answer) left
    → CutsBehind Takes (CutsAnswer note) first (two ∷ one ∷ []) (take (length told + n) (told ++ answer)) left
cut_in_second Takes note first before after left one two told answer n lived takes within = record {
  whole = one ∷ [];
  later = two ∷ [];
  before = before;
  told = told;
  part = take n answer;
  records_are = refl;
  lived = lived;
  front_is = take-append-add told answer n;
  ends = inr (record {
    next = two;
    others = [];
    after = after;
    rest = drop n answer;
    later_are = refl;
    takes = subst (Takes before two after) (sym (take-append-drop n answer)) takes;
    within = within;
  });
}

-- A cut within the save leaves a node as it was.
pub within_save : {S : Type 0} (note : S → List ℕ) (before after : S) (rest : List ℕ) (n : ℕ) → n < length (saved (note after))
    → CutsAnswer note before after (take n (saved (note after) ++ rest)) before
within_save note before after rest n few =
    let save = saved (note after) in
    let part : save ≡ take n (save ++ rest) ++ drop n save =
    sym (take-append-drop n save) ∙ ap (λ l. l ++ drop n save) (sym (take-append-le n save rest (omega (arith, few)))) in
    let some : 0 < length (drop n save) = omega (arith, few, length-drop n save) in
    inr (refl, (drop n save, part, some))

-- A cut behind the save leaves it as behind the record.
pub behind_save : {S : Type 0} (note : S → List ℕ) (before after : S) (rest : List ℕ) (n m : ℕ) → n ≡ length (saved (note after)) + m
    → CutsAnswer note before after (take n (saved (note after) ++ rest)) after
behind_save note before after rest n m len =
    let save = saved (note after) in
    let part : take n (save ++ rest) ≡ save ++ take m rest = ap (λ k. take k (save ++ rest)) len ∙ take-append-add save rest m in
    inl (refl, inr (take m rest, part))
