-- Histories followed from their oldest event on.
use Rattle.std.proofs.Common.{◌≡◌, refl, sym, ◌∙◌, ap, ◌⊎◌, inl, inr, ℕ, zero, suc, ◌+◌, ◌≤◌, arith, Bool, true, false, ◌&&◌, List, [], ◌∷◌, ◌++◌, length, Some}
use Rattle.std.specs.Prelude.{map, filter, reverse, if◌then◌else◌, nat_le, nat_lt, slice_get}
use Rattle.std.proofs.lemmas.List.{append_assoc, length-reverse, reverse-append, reverse-reverse}
use Rattle.std.proofs.lemmas.List.Elements.{filter-append}
use Rattle.std.proofs.lemmas.Bool.Decides.{nat_tests}
use Rattle.std.proofs.lemmas.Option.{slice_get_within}
use Rattle.messages.specs.declared.node.Node.{Node}
use Rattle.cells.specs.declared.entry.HistoryEntry.{HistoryEntry}
use Rattle.cells.specs.AtHub.{is_left_out}
use Rattle.std.proofs.lemmas.Bool.{le-leb, le-ltb, lt-ltb}
use Rattle.assembly.specs.declared.place.Place.{Place}
use Rattle.assembly.specs.Marks.{Mark, frame_of, mark_of, marks_if, marks_of}
use Rattle.assembly.specs.Orders.{places_between, standing_places}
use Rattle.assembly.specs.Rising.{PlacesRise, MarksRise, HistoriesRise, marks_before}
use Rattle.assembly.proofs.MarkLemmas.{HasNone, none_or_one}
use Rattle.assembly.proofs.PlaceLemmas.{Falls, falls_wider, span, standing_falls}

-- ---- the event at a place, between newer ones and older ones

record Split {X : Type 0} (xs : List X) (at : ℕ) (x : X) : Type 0 where
  front : List X
  back : List X
  all : xs ≡ front ++ x ∷ back
  at_is : length front ≡ at

split : {X : Type 0} (xs : List X) (at : ℕ) (x : X) → slice_get xs at ≡ Some x → Split xs at x
split [] at x h = absurd (omega (arith, slice_get_within [] at x h))
split {X} (y ∷ ys) zero x h = record { front = []; back = ys; all = ap (λ z. z ∷ ys) (same h); at_is = refl }
  where
    same : Some y ≡ Some x → y ≡ x
    same h = cc
split (y ∷ ys) (suc at) x h =
    let s = split ys at x h in
    record { front = y ∷ s.front; back = s.back; all = ap (λ zs. y ∷ zs) s.all; at_is = omega (arith, s.at_is) }

record Among (h : List HistoryEntry) (at : ℕ) (l : HistoryEntry) : Type 0 where
  newer : List HistoryEntry
  older : List HistoryEntry
  all : h ≡ newer ++ l ∷ older
  at_is : length older ≡ at

among : (h : List HistoryEntry) (at : ℕ) (l : HistoryEntry) → slice_get (reverse h) at ≡ Some l → Among h at l
among h at l is =
    let s = split (reverse h) at l is in
    record {
      newer = reverse s.back;
      older = reverse s.front;
      all =
          sym (reverse-reverse h)
          ∙ (ap (λ (xs : List HistoryEntry). reverse xs) s.all
          ∙ (reverse-append s.front (l ∷ s.back)
          ∙ (ap (λ (xs : List HistoryEntry). xs ++ reverse s.front) (reverse-append (l ∷ []) s.back)
          ∙ append_assoc (reverse s.back) (l ∷ []) (reverse s.front))));
      at_is = length-reverse s.front ∙ s.at_is;
    }

longer : (newer older : List HistoryEntry) (l : HistoryEntry) → length older + 1 ≤ length (newer ++ l ∷ older)
longer [] older l = omega arith
longer (e ∷ es) older l = let h = longer es older l in omega (arith, h)

-- ---- places

one_more : (from at : ℕ) (xs : List ℕ) → Falls at xs → span from (at + 1) xs ≡ span from at xs
one_more from at [] h = refl
one_more from at (x ∷ xs) h =
    let low : nat_lt x at ≡ true = lt-ltb x at h.0 in
    let high : nat_lt x (at + 1) ≡ true = lt-ltb x (at + 1) (omega (arith, h.0)) in
    let rest = one_more from at xs (falls_wider x at xs (omega (arith, h.0)) h.1) in
    rw (low, high) (by_test (nat_le from x) rest)
  where
    by_test : (b : Bool) → span from (at + 1) xs ≡ span from at xs
        → (if b && true then x ∷ span from (at + 1) xs else span from (at + 1) xs) ≡ (if b && true then x ∷ span from at xs else span from at xs)
    by_test true e = ap (λ ys. x ∷ ys) e
    by_test false e = e

here : (from : ℕ) (l : HistoryEntry) (older : List HistoryEntry) → from ≤ length older → (b : Bool) →
    span from (length older + 1) (if b then standing_places older else length older ∷ standing_places older)
    ≡ (if b then span from (length older) (if b then standing_places older else length older ∷ standing_places older)
    else length older ∷ span from (length older) (if b then standing_places older else length older ∷ standing_places older))
here from l older low true = one_more from (length older) (standing_places older) (standing_falls older)
here from l older low false =
    let there : nat_le from (length older) ≡ true = le-leb from (length older) low in
    let above : nat_lt (length older) (length older + 1) ≡ true = lt-ltb (length older) (length older + 1) (omega arith) in
    let not_below : nat_lt (length older) (length older) ≡ false = le-ltb (length older) (length older) (omega arith) in
    rw (there, above, not_below) (ap (λ ys. length older ∷ ys) (one_more from (length older) (standing_places older) (standing_falls older)))

skipped : (from at k : ℕ) (xs : List ℕ) (b : Bool) → from ≤ at → at + 1 ≤ k → (out : Bool)
    → span from (at + 1) xs ≡ (if out then span from at xs else at ∷ span from at xs)
    → span from (at + 1) (if b then xs else k ∷ xs) ≡ (if out then span from at (if b then xs else k ∷ xs) else at ∷ span from at (if b then xs else k ∷ xs))
skipped from at k xs true low far out h = h
skipped from at k xs false low far out h =
    let there : nat_le from k ≡ true = le-leb from k (omega (arith, low, far)) in
    let one : nat_lt k (at + 1) ≡ false = le-ltb k (at + 1) far in
    let two : nat_lt k at ≡ false = le-ltb k at (omega (arith, far)) in
    rw (there, one, two) h

rises : (from : ℕ) (newer older : List HistoryEntry) (l : HistoryEntry) → from ≤ length older →
    span from (length older + 1) (standing_places (newer ++ l ∷ older))
    ≡ (if is_left_out l.answer then span from (length older) (standing_places (newer ++ l ∷ older))
    else length older ∷ span from (length older) (standing_places (newer ++ l ∷ older)))
rises from [] older l low = here from l older low (is_left_out l.answer)
rises from (e ∷ es) older l low =
    skipped from (length older) (length (es ++ l ∷ older)) (standing_places (es ++ l ∷ older)) (is_left_out e.answer) low (longer es older l)
    (is_left_out l.answer) (rises from es older l low)

none_between : (at : ℕ) (xs : List ℕ) → span at at xs ≡ []
none_between at [] = refl
none_between at (x ∷ xs) = by_test (none_between at xs) (nat_lt x at) refl
  where
    by_test : span at at xs ≡ [] → (b : Bool) → nat_lt x at ≡ b → span at at (x ∷ xs) ≡ []
    by_test later true e =
        let above : nat_le at x ≡ false = le_false at x e in
        rw above later
      where
        le_false : (a b : ℕ) → nat_lt b a ≡ true → nat_le a b ≡ false
        le_false a b h = grind (arith, nat_tests, h)
    by_test later false e =
        let there : nat_le at x ≡ true = le_of at x e in
        rw (there, e) later
      where
        le_of : (a b : ℕ) → nat_lt b a ≡ false → nat_le a b ≡ true
        le_of a b h = grind (arith, nat_tests, h)

places_rise : (node : Node) (h : List HistoryEntry) → PlacesRise node h
places_rise node h = record {
  none = λ at. ap (map {B = Place} (λ k. record { node = node; at = k })) (none_between at (standing_places h));
  more = λ from at l low is. by_among from at l low (among h at l is);
}
  where
    mapped : (b : Bool) (at : ℕ) (xs ys : List ℕ) → xs ≡ (if b then ys else at ∷ ys)
        → map {B = Place} (λ k. record { node = node; at = k }) xs
        ≡ (if b then map {B = Place} (λ k. record { node = node; at = k }) ys
        else record { node = node; at = at } ∷ map {B = Place} (λ k. record { node = node; at = k }) ys)
    mapped true at xs ys e = ap (map {B = Place} (λ k. record { node = node; at = k })) e
    mapped false at xs ys e = ap (map {B = Place} (λ k. record { node = node; at = k })) e

    by_among : (from at : ℕ) (l : HistoryEntry) → from ≤ at → Among h at l
        → places_between node from (at + 1) h ≡ (if is_left_out l.answer then places_between node from at h
        else record { node = node; at = at } ∷ places_between node from at h)
    by_among from at l low a =
        mapped (is_left_out l.answer) at (span from (at + 1) (standing_places h)) (span from at (standing_places h))
        (rw (a.all, ← a.at_is) (rises from a.newer a.older l (omega (arith, low, a.at_is))))

-- ---- marks

below_marks : ℕ → List Mark → List Mark
below_marks to marks = filter (λ (mark : Mark). nat_lt mark.at to) marks

mark_below : (at to : ℕ) (l : HistoryEntry) (b : Bool) → nat_lt at to ≡ b → below_marks to (mark_of at l) ≡ (if b then mark_of at l else [])
unfolding below_marks
mark_below at to l b h = by_test (is_left_out l.answer)
  where
    nothing : (c : Bool) (marks : List Mark) → marks ≡ [] → below_marks to marks ≡ (if c then marks else [])
    nothing true marks e = ap (below_marks to) e ∙ sym e
    nothing false marks e = ap (below_marks to) e

    single : (c : Bool) → nat_lt at to ≡ c → (marks : List Mark) → marks ≡ (record { at = at; taken = frame_of l.came; sent = l.sent }) ∷ []
        → below_marks to marks ≡ (if c then marks else [])
    single true e marks is = ap (below_marks to) is ∙ (rw e refl ∙ sym is)
    single false e marks is = ap (below_marks to) is ∙ rw e refl

    by_mark : (marks : List Mark) → HasNone (frame_of l.came) l.sent marks ⊎ (marks ≡ (record { at = at; taken = frame_of l.came; sent = l.sent }) ∷ [])
        → below_marks to marks ≡ (if b then marks else [])
    by_mark marks (inl none) = nothing b marks none.no_mark
    by_mark marks (inr one) = single b h marks one

    by_test : (out : Bool) → below_marks to (if out then [] else marks_if at (frame_of l.came) l.sent)
        ≡ (if b then (if out then [] else marks_if at (frame_of l.came) l.sent) else [])
    by_test true = nothing b [] refl
    by_test false = by_mark (marks_if at (frame_of l.came) l.sent) (none_or_one at (frame_of l.came) l.sent)

-- Those of the newest event, and of the others.
below_both : (to : ℕ) (l : HistoryEntry) (ls : List HistoryEntry) (b : Bool) → nat_lt (length ls) to ≡ b
    → below_marks to (marks_of (l ∷ ls)) ≡ (if b then mark_of (length ls) l else []) ++ below_marks to (marks_of ls)
unfolding below_marks
below_both to l ls b h =
    filter-append (λ (mark : Mark). nat_lt mark.at to) (mark_of (length ls) l) (marks_of ls)
    ∙ ap (λ ms. ms ++ below_marks to (marks_of ls)) (mark_below (length ls) to l b h)

marks_all : (h : List HistoryEntry) (to : ℕ) → length h ≤ to → below_marks to (marks_of h) ≡ marks_of h
unfolding below_marks
marks_all [] to h = refl
marks_all (l ∷ ls) to h =
    below_both to l ls true (lt-ltb (length ls) to (omega (arith, h)))
    ∙ ap (λ ms. mark_of (length ls) l ++ ms) (marks_all ls to (omega (arith, h)))

marks_none : (h : List HistoryEntry) → below_marks 0 (marks_of h) ≡ []
unfolding below_marks
marks_none [] = refl
marks_none (l ∷ ls) = below_both 0 l ls false (le-ltb (length ls) 0 (omega arith)) ∙ marks_none ls

marks_more : (newer older : List HistoryEntry) (l : HistoryEntry) → below_marks (length older + 1) (marks_of (newer ++ l ∷ older))
    ≡ mark_of (length older) l ++ below_marks (length older) (marks_of (newer ++ l ∷ older))
marks_more [] older l =
    let k = length older in
    below_both (k + 1) l older true (lt-ltb k (k + 1) (omega arith))
    ∙ ap (λ ms. mark_of k l ++ ms) (marks_all older (k + 1) (omega arith)
    ∙ sym (below_both k l older false (le-ltb k k (omega arith)) ∙ marks_all older k (omega arith)))
marks_more (e ∷ es) older l =
    let k = length older in
    let far = longer es older l in
    below_both (k + 1) e (es ++ l ∷ older) false (le-ltb (length (es ++ l ∷ older)) (k + 1) far)
    ∙ (marks_more es older l
    ∙ ap (λ ms. mark_of k l ++ ms) (sym (below_both k e (es ++ l ∷ older) false (le-ltb (length (es ++ l ∷ older)) k (omega (arith, far))))))

marks_rise : (h : List HistoryEntry) → MarksRise h
unfolding below_marks
marks_rise h = record {
  none = marks_none h;
  more = λ at l is. by_among at l (among h at l is);
  all = marks_all h (length h) (omega arith);
}
  where
    by_among : (at : ℕ) (l : HistoryEntry) → Among h at l → marks_before (at + 1) h ≡ mark_of at l ++ marks_before at h
    by_among at l a = rw (a.all, ← a.at_is) (marks_more a.newer a.older l)

pub histories_rise : HistoriesRise
histories_rise node h = (places_rise node h, marks_rise h)
