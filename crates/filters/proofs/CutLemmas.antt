-- Answers that are cut.
use Rattle.std.proofs.Common.{◌≡◌, ◌⊎◌, ℕ, List, [], ◌∷◌, ◌++◌, length, refl, sym, ap, ◌∙◌, subst, inl, inr, arith}
use Rattle.filters.specs.Lives.{RecordParts, Lives}
use Rattle.filters.specs.Cuts.{CutsBehind}

-- Two lists in two parts each: one of the first parts is a front of the other.
pub parted : (a b c d : List ℕ) → a ++ b ≡ c ++ d → ((p : List ℕ) × (c ≡ a ++ p) × (b ≡ p ++ d)) ⊎ ((p : List ℕ) × (a ≡ c ++ p) × (d ≡ p ++ b))
parted [] b c d is = inl (c, refl, is)
parted (x ∷ a) b [] d is = inr (x ∷ a, refl, sym is)
parted (x ∷ a) b (y ∷ c) d is = elim (parted a b c d (tail_is is)) [
  | inl (p, front, rest) ↦ inl (p, ap (λ l. y ∷ l) front ∙ ap (λ z. z ∷ (a ++ p)) (sym (head_is is)), rest)
  | inr (p, front, rest) ↦ inr (p, ap (λ l. x ∷ l) front ∙ ap (λ z. z ∷ (c ++ p)) (head_is is), rest)
]
  where
    tail_of : List ℕ → List ℕ
    tail_of [] = []
    tail_of (z ∷ zs) = zs

    head_of : List ℕ → ℕ
    head_of [] = 0
    head_of (z ∷ zs) = z

    tail_is : {u v : ℕ} {us vs : List ℕ} → u ∷ us ≡ v ∷ vs → us ≡ vs
    tail_is e = ap tail_of e

    head_is : {u v : ℕ} {us vs : List ℕ} → u ∷ us ≡ v ∷ vs → u ≡ v
    head_is e = ap head_of e

module _ {S : Type 0} (Takes : S → RecordParts → S → List ℕ → Type 0) (Within : S → S → List ℕ → S → Type 0)
    (cut_in : (before after : S) (r : RecordParts) (part rest : List ℕ) → Takes before r after (part ++ rest) → (left : S) × Within before after part left) where
  -- One record more came, whose answer isn't cut.
  later_still : (first : S) (r : RecordParts) (rs : List RecordParts) (front : List ℕ) → (left : S) × CutsBehind Takes Within first rs front left
      → (left : S) × CutsBehind Takes Within first (r ∷ rs) front left
  later_still first r rs front (left, cut) = (
    left,
    record {
      whole = cut.whole;
      later = r ∷ cut.later;
      before = cut.before;
      told = cut.told;
      part = cut.part;
      records_are = ap (λ l. r ∷ l) cut.records_are;
      lived = cut.lived;
      front_is = cut.front_is;
      ends = elim cut.ends [
        | inl e ↦ inl e
        | inr n ↦ inr (record {
          next = n.next;
          others = r ∷ n.others;
          after = n.after;
          rest = n.rest;
          later_are = ap (λ l. r ∷ l) n.later_are;
          takes = n.takes;
          within = n.within;
        })
      ];
    },
  )

  -- A front of all answers is that of a front of the records and of one answer.
  pub cut_behind : (first : S) (rs : List RecordParts) (now : S) (answers front back : List ℕ) → Lives Takes first rs now answers
      → answers ≡ front ++ back → (left : S) × CutsBehind Takes Within first rs front left
  cut_behind first [] now answers front back (now_is, none) is = (
    first,
    record {
      whole = [];
      later = [];
      before = first;
      told = [];
      part = [];
      records_are = refl;
      lived = (refl, refl);
      front_is = empty front back (sym is ∙ none);
      ends = inl (refl, refl);
    },
  )
    where
      empty : (xs ys : List ℕ) → xs ++ ys ≡ [] → xs ≡ []
      empty [] ys e = refl
      empty (x ∷ xs) ys e = absurd (omega (arith, ap length e))
  cut_behind first (r ∷ rs) now answers front back more is = elim (parted more.earlier more.answer front back (sym more.all ∙ is)) [
    | inl (p, front_is, rest) ↦
        let takes = subst (Takes more.before r now) rest more.takes in
        let c = cut_in more.before now r p back takes in (
          c.0,
          record {
            whole = rs;
            later = r ∷ [];
            before = more.before;
            told = more.earlier;
            part = p;
            records_are = refl;
            lived = more.lived;
            front_is = front_is;
            ends = inr (record { next = r; others = []; after = now; rest = back; later_are = refl; takes = takes; within = c.1 });
          },
        )
    | inr (p, earlier, rest) ↦ later_still first r rs front (cut_behind first rs more.before more.earlier front p more.lived earlier)
  ]
