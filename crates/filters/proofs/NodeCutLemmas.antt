-- Answers that are cut, in which a save comes first.
use Rattle.std.proofs.Common.{◌≡◌, ◌⊎◌, ℕ, List, [], ◌∷◌, ◌++◌, Option, None, Some, append_assoc, append-nil, refl, sym, ap, ◌∙◌, subst, inl, inr, arith}
use Rattle.std.specs.Prelude.{is_some}
use Rattle.filters.specs.Kept.{note_with}
use Rattle.filters.specs.NodeTells.{save_bytes}
use Rattle.filters.specs.Lives.{RecordParts, Lives}
use Rattle.filters.specs.Cuts.{CutsNext, CutsBehind}
use Rattle.filters.specs.NodeCuts.{saved, CutsAnswer}
use Rattle.filters.proofs.CutLemmas.{cut_behind, parted}

module _ {S : Type 0} (note : S → List ℕ) where
  -- A save, if there is one, comes first, and it isn't empty.
  abbrev pub SaysFirst : S → S → List ℕ → Type 0
  SaysFirst before after answer =
      (note after ≡ note before) ⊎ ((behind : List ℕ) × (answer ≡ saved (note after) ++ behind) × (note after ≡ [] → ⊥))

  -- What is written of something that is due.
  pub due_first : {D : Type 0} (addition : Option D) (bytes rest end answer : List ℕ) (before after : S) → (bytes ≡ [] → ⊥)
      → note after ≡ note_with addition bytes (note before)
      → answer ≡ (save_bytes (is_some addition) bytes ++ rest) ++ end → SaysFirst before after answer
  due_first None bytes rest end answer before after some is said = inl is
  due_first (Some x) bytes rest end answer before after some is said =
      inr (
        rest ++ end,
        said ∙ append_assoc (saved bytes) rest end ∙ ap (λ b. saved b ++ (rest ++ end)) (sym is),
        λ none. some (sym is ∙ none),
      )

  -- So a part of an answer has the save, or is a part of it.
  pub part_of : (before after : S) (part rest : List ℕ) → SaysFirst before after (part ++ rest) → (left : S) × CutsAnswer note before after part left
  part_of before after part rest (inl same) = (after, inl (refl, inl same))
  part_of before after part rest (inr (behind, is, some)) = elim (parted part rest (saved (note after)) behind is) [
    | inl (p, front, more) ↦ by p front
    | inr (p, front, more) ↦ (after, inl (refl, inr (p, front)))
  ]
    where
      by : (p : List ℕ) → saved (note after) ≡ part ++ p → (left : S) × CutsAnswer note before after part left
      by [] front = (after, inl (refl, inr ([], sym (append-nil part) ∙ sym front ∙ sym (append-nil (saved (note after))))))
      by (x ∷ xs) front = (before, inr (refl, (x ∷ xs, front, omega arith)))

  module _ (Takes : S → RecordParts → S → List ℕ → Type 0)
      (first_saves : (before after : S) (r : RecordParts) (answer : List ℕ) → Takes before r after answer → SaysFirst before after answer) where
    -- A front of all answers is that of a front of the records and of one answer.
    pub cut_anywhere : (first now : S) (records : List RecordParts) (front back : List ℕ) → Lives Takes first records now (front ++ back)
        → (left : S) × CutsBehind Takes (CutsAnswer note) first records front left
    cut_anywhere first now records front back lived =
        cut_behind Takes (CutsAnswer note) (λ before after r part rest takes. part_of before after part rest (first_saves before after r (part ++ rest) takes)) first
        records now (front ++ back) front back lived refl

    -- What each record keeps holds at each moment, and of what is left.
    pub left_keeps : (P : S → Type 0) → ((before after : S) (r : RecordParts) (answer : List ℕ) → Takes before r after answer → P before → P after)
        → (first left : S) (records : List RecordParts) (front : List ℕ) → P first → CutsBehind Takes (CutsAnswer note) first records front left → P left
    left_keeps P keeps first left records front h cut = by cut.ends
      where
        lives_keep : (now : S) (rs : List RecordParts) (answers : List ℕ) → Lives Takes first rs now answers → P now
        lives_keep now [] answers (is, none) = subst P (sym is) h
        lives_keep now (r ∷ rs) answers more = keeps more.before now r more.answer more.takes (lives_keep more.before rs more.earlier more.lived)

        at_before : P cut.before
        at_before = lives_keep cut.before cut.whole cut.told cut.lived

        by : ((cut.part ≡ []) × (left ≡ cut.before)) ⊎ CutsNext Takes (CutsAnswer note) cut.before cut.later cut.part left → P left
        by (inl (none, is)) = subst P (sym is) at_before
        by (inr n) = elim n.within [
          | inl (is, save) ↦ subst P (sym is) (keeps cut.before n.after n.next (cut.part ++ n.rest) n.takes at_before)
          | inr (is, save) ↦ subst P (sym is) at_before
        ]
