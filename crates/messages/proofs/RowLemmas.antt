-- The rows of tags: what looking a tag up, and changing or removing its row, makes of them.
use Rattle.std.proofs.Common.{rules, ◌≡◌, refl, sym, ◌∙◌, ap, subst, not, ℕ, suc, ◌+◌, ◌<◌, arith, Bool, true}
use Rattle.std.proofs.Common.{false, ◌&&◌, ◌==◌, cond, Option, Some, None, List, [], ◌∷◌, ◌++◌, length, get_or}
use Rattle.std.specs.Prelude.{is_some, nat_lt, slice_set}
use Rattle.std.specs.List.{remove, position, position_or_len}
use Rattle.std.proofs.lemmas.Bool.{eqb-true, eq-eqb}
use Rattle.std.proofs.lemmas.Bool.Decides.{nat_tests}
use Rattle.std.proofs.lemmas.List.{length-append}
use denote.Enum.Bare.{sameb, same_true, true_same}
use Rattle.messages.specs.declared.kind.PacketKind.{PacketKind}
use Rattle.messages.specs.contracts.kind.PacketKind.{the_type}
use Rattle.messages.specs.contracts.piece.TagPartialEq.TheImpl.{eq-value}
use Rattle.messages.specs.declared.piece.Tag.{Tag}
use Rattle.messages.specs.declared.piece.PieceParts.{PieceParts}
use Rattle.messages.specs.declared.places.PlaceSet.{PlaceSet}
use Rattle.messages.specs.Kinds.{number_of}
use Rattle.messages.specs.Pieces.{places}
use Rattle.messages.specs.Tags.{is_tag}
use Rattle.messages.specs.Assemblies.{joined_bytes, Row, fill, filled_of, with_piece, completed_body, without_tag}
use Rattle.messages.specs.Assemblies.{has_tag, with_row_replaced, newest, with_row, rows_after_body, rows_after_piece}
use Rattle.messages.proofs.TagLemmas.{same_kind}

-- Tags are equal where they are the same.

same_bool : (s t : Bool) → (s ≡ true → t ≡ true) → (t ≡ true → s ≡ true) → s ≡ t
same_bool true t f g = sym (f refl)
same_bool false true f g = g refl
same_bool false false f g = refl

kinds_same : (a b : PacketKind) → sameb the_type a b ≡ (number_of a == number_of b)
kinds_same a b =
    same_bool (sameb the_type a b) (number_of a == number_of b)
    (λ e. eq-eqb (number_of a) (number_of b) (ap number_of (same_true the_type (search rules) a b e)))
    (λ e. true_same the_type a b (same_kind a b (eqb-true (number_of a) (number_of b) e)))

regrouped : (a b c d e f : Bool) → (a && (b && (c && (d && (e && f))))) ≡ (a && b && c && d && e && f)
regrouped false b c d e f = refl
regrouped true false c d e f = refl
regrouped true true false d e f = refl
regrouped true true true false e f = refl
regrouped true true true true e f = refl

pub eq_is : (a b : Tag) → (eq-value).it a b ≡ is_tag a b
eq_is a b =
    ap (λ (k : Bool). k && ((a.run == b.run) && ((a.number == b.number) && ((a.server == b.server) && ((a.job == b.job) && (a.length == b.length))))))
    (kinds_same a.whole b.whole)
    ∙ regrouped (number_of a.whole == number_of b.whole) (a.run == b.run) (a.number == b.number) (a.server == b.server) (a.job == b.job) (a.length == b.length)

-- Where a tag has its first row.

-- What the row of a tag at a place shows of the rows.
pub record Stands (tag : Tag) (rows : List Row) (i : ℕ) : Type 0 where
  pub inside : i < length rows
  pub has : has_tag tag rows ≡ true
  pub filled : (d : Row) → filled_of tag rows ≡ (get_or rows i d).filled
  pub left : without_tag tag rows ≡ remove rows i
  pub changed : (d : Row) (fs : List PlaceSet) → with_row_replaced tag fs rows ≡ slice_set rows i (record { tag = (get_or rows i d).tag; filled = fs })

abbrev asks : Tag → Row → Bool
asks tag row = is_tag row.tag tag

stands_first : (tag : Tag) (row : Row) (rows : List Row) → is_tag row.tag tag ≡ true → Stands tag (row ∷ rows) 0
stands_first tag row rows e = record {
  inside = omega arith;
  has = rw e refl;
  filled = λ d. rw e refl;
  left = rw e refl;
  changed = λ d fs. rw e refl;
}

stands_later : (tag : Tag) (row : Row) (rows : List Row) (i : ℕ) → is_tag row.tag tag ≡ false → Stands tag rows i → Stands tag (row ∷ rows) (suc i)
stands_later tag row rows i e s = record {
  inside = omega (arith, s.inside);
  has = rw e s.has;
  filled = λ d. rw e (s.filled d);
  left = rw e (ap (λ (rs : List Row). row ∷ rs) s.left);
  changed = λ d fs. rw e (ap (λ (rs : List Row). row ∷ rs) (s.changed d fs));
}

stands_at : (tag : Tag) (row : Row) (rows : List Row) (i : ℕ) (b : Bool) → is_tag row.tag tag ≡ b → cond (not b) (1 + position_or_len (asks tag) rows) 0 ≡ i
    → i < suc (length rows)
    → ((j : ℕ) → position_or_len (asks tag) rows ≡ j → j < length rows → Stands tag rows j) → Stands tag (row ∷ rows) i
stands_at tag row rows i true e h lt f = subst (Stands tag (row ∷ rows)) h (stands_first tag row rows e)
stands_at tag row rows i false e h lt f =
    let n = position_or_len (asks tag) rows in
    let more : 1 + n ≡ i = h in
    let next : suc n ≡ i = omega (arith, more) in
    subst (Stands tag (row ∷ rows)) next (stands_later tag row rows n e (f n refl (omega (arith, next, lt))))

placed : (tag : Tag) (rows : List Row) (i : ℕ) → position_or_len (asks tag) rows ≡ i → i < length rows → Stands tag rows i
placed tag [] i h lt = absurd (omega (arith, lt))
placed tag (row ∷ rows) i h lt = stands_at tag row rows i (is_tag row.tag tag) refl h lt (λ j g l. placed tag rows j g l)

some_place : (b : Bool) (n i : ℕ) → Some i ≡ cond b (Some n) None → (b ≡ true) × (n ≡ i)
some_place true n i e = (refl, cc)
some_place false n i e = absurd cc

pub stands : (tag : Tag) (rows : List Row) (i : ℕ) → Some i ≡ position (λ (row : Row). is_tag row.tag tag) rows → Stands tag rows i
stands tag rows i e =
    let p = some_place (nat_lt (position_or_len (asks tag) rows) (length rows)) (position_or_len (asks tag) rows) i e in
    let lt : position_or_len (asks tag) rows < length rows = grind (arith, nat_tests, p.0) in
    placed tag rows i p.1 (omega (arith, lt, p.1))

-- What the lack of a row shows of the rows.
pub record Lacks (tag : Tag) (rows : List Row) : Type 0 where
  pub absent : has_tag tag rows ≡ false
  pub empty : filled_of tag rows ≡ []
  pub left : without_tag tag rows ≡ rows

lacks_here : (tag : Tag) (row : Row) (rows : List Row) (b : Bool) → is_tag row.tag tag ≡ b
    → nat_lt (cond (not b) (1 + position_or_len (asks tag) rows) 0) (suc (length rows)) ≡ false
    → (nat_lt (position_or_len (asks tag) rows) (length rows) ≡ false → Lacks tag rows) → Lacks tag (row ∷ rows)
lacks_here tag row rows true e h f = absurd (let first : nat_lt 0 (suc (length rows)) ≡ true = grind (arith, nat_tests) in cc)
lacks_here tag row rows false e h f =
    let rest : nat_lt (position_or_len (asks tag) rows) (length rows) ≡ false = grind (arith, nat_tests, h) in
    let l = f rest in
    record { absent = rw e l.absent; empty = rw e l.empty; left = rw e (ap (λ (rs : List Row). row ∷ rs) l.left) }

lacks_all : (tag : Tag) (rows : List Row) → nat_lt (position_or_len (asks tag) rows) (length rows) ≡ false → Lacks tag rows
lacks_all tag [] h = record { absent = refl; empty = refl; left = refl }
lacks_all tag (row ∷ rows) h = lacks_here tag row rows (is_tag row.tag tag) refl h (λ g. lacks_all tag rows g)

no_place : (b : Bool) (n : ℕ) → None ≡ cond b (Some n) None → b ≡ false
no_place true n e = absurd cc
no_place false n e = refl

pub lacking : (place : Option ℕ) → ((i : ℕ) → place ≡ Some i → ⊥) → None ≡ place
lacking None f = refl
lacking (Some i) f = absurd (f i refl)

pub lacks : (tag : Tag) (rows : List Row) → None ≡ position (λ (row : Row). is_tag row.tag tag) rows → Lacks tag rows
lacks tag rows e = lacks_all tag rows (no_place (nat_lt (position_or_len (asks tag) rows) (length rows)) (position_or_len (asks tag) rows) e)

-- What taking a piece leaves where it isn't the last one.

none_of : (o : Option (List ℕ)) → is_some o ≡ false → o ≡ None
none_of None e = refl
none_of (Some x) e = absurd cc

-- A piece that completes nothing, by what was looked up for it.
pub still_waits : (rows : List Row) (q : PieceParts) (fs : List PlaceSet) (t : Tag) (all : Bool) → fs ≡ filled_of t rows → t ≡ q.tag
    → all ≡ is_some (joined_bytes (fill q fs) (places q.tag.length)) → all ≡ false → completed_body rows q ≡ None
still_waits rows q fs t all is tag_is told lacks =
    let filled = is ∙ ap (λ (u : Tag). filled_of u rows) tag_is in
    none_of (completed_body rows q) (ap (λ (gs : List PlaceSet). is_some (joined_bytes (fill q gs) (places q.tag.length))) (sym filled) ∙ sym told ∙ lacks)

taken_waiting : (rows : List Row) (q : PieceParts) → completed_body rows q ≡ None
    → rows_after_piece rows q ≡ with_row (has_tag q.tag rows) q.tag (with_piece rows q) rows
taken_waiting rows q e = ap (λ (o : Option (List ℕ)). rows_after_body o q (with_piece rows q) rows) e

pub taken_more : (q : PieceParts) (rows : List Row) → has_tag q.tag rows ≡ true → completed_body rows q ≡ None
    → with_row_replaced q.tag (fill q (filled_of q.tag rows)) rows ≡ rows_after_piece rows q
taken_more q rows there waits =
    ap (λ (t : Bool). with_row t q.tag (with_piece rows q) rows) (sym there)
    ∙ sym (taken_waiting rows q waits)

pub taken_first : (rows : List Row) (q : PieceParts) → has_tag q.tag rows ≡ false → filled_of q.tag rows ≡ [] → completed_body rows q ≡ None
    → newest (rows ++ record { tag = q.tag; filled = record { at = q.at; bytes = q.bytes } ∷ [] } ∷ []) ≡ rows_after_piece rows q
taken_first rows q absent none waits =
    ap (λ (fs : List PlaceSet). newest (rows ++ record { tag = q.tag; filled = fill q fs } ∷ [])) (sym none)
    ∙ ap (λ (there : Bool). with_row there q.tag (with_piece rows q) rows) (sym absent)
    ∙ sym (taken_waiting rows q waits)

-- Past 128 rows the oldest goes.

pub one_more : (rows : List Row) (row : Row) → length (rows ++ row ∷ []) ≡ length rows + 1
one_more rows row = omega (arith, length-append rows (row ∷ []))
